-- The disk's world wide name (ACS-3, "World wide name"): 64 bits, of which bits 63:60 are the Network Address Authority. It is 3h, "locally assigned", whose other
-- bits may be anything: with NAA 5h, as ACS-3 has it, they begin with the IEEE's number of a manufacturer, and this disk has none (profile).
use Rattle.std.specs.Prelude.{ℕ, ◌+◌, ◌*◌, ◌%◌, ◌^◌, List}
use Rattle.std.specs.List.{fold}
use Rattle.hba_command.specs.declared.identity.Identity.{Identity}

-- one character more of a number in base 257, of which 60 bits are kept
abbrev pub next_number : ℕ → ℕ → ℕ
next_number number character = (257 * number + character) % 2 ^ 60

-- a text behind a number
abbrev pub text_number : ℕ → List ℕ → ℕ
text_number before text = fold next_number before text

-- the serial number and the model number, which together name a disk. Names of disks differ that differ in no more than seven characters next to each other
abbrev pub wide_name : Identity → ℕ
wide_name i = 3 * 2 ^ 60 + text_number (text_number 0 i.serial) i.model
