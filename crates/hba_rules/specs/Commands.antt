-- Which rules a command breaks, as tables over the fields of its header and of its command FIS (AHCI 1.3.1, sections 3.3.13, 4.2, 5.5.1 and
-- 10.4.1; Serial ATA, "Register FIS - Host to Device").
use Rattle.std.specs.Prelude.{ℕ, ◌/◌, ◌%◌, Bool, true, false, not, ◌&&◌, ◌||◌, nat_eq, bit_or, List, Option, None, Some, if◌then◌else◌}
use Rattle.sata_fis.specs.Fields.{H2dFields}
use Rattle.sata_fis.specs.Places.{byte, number}
use Rattle.hba_command.specs.CommandFis.{command_fis}
use Rattle.hba_command.specs.CommandHeader.{header_at}
use Rattle.hba_command.specs.Task.{task_of}
use Rattle.hba_command.specs.declared.header.CommandHeader.{CommandHeader}
use Rattle.hba_command.specs.declared.task.Task.{Task}
use Rattle.hba_command.specs.declared.task.Task.TheVariants.{Control}
use Rattle.hba_memory.specs.Reading.{is_write, moved_by}
use Rattle.hba_rules.specs.declared.rule.Rule.{Rule}
use Rattle.hba_rules.specs.declared.rule.Rule.TheVariants as rule

-- the command has this W, if it moves data
abbrev pub has_direction : Task → Bool → Bool
has_direction t write = if nat_eq (moved_by t) 0 then true else (if is_write t then write else not write)

-- the commands of the NCQ feature set: READ and WRITE FPDMA QUEUED, NCQ NON-DATA, SEND and RECEIVE FPDMA QUEUED (ACS-3)
abbrev pub is_queued : H2dFields → Bool
is_queued f = f.c && (nat_eq f.command 0x60 || nat_eq f.command 0x61 || nat_eq f.command 0x63 || nat_eq f.command 0x64 || nat_eq f.command 0x65)

-- the tag of such a command, bits 7:3 of the count, is another than the slot
abbrev pub has_other_tag : H2dFields → ℕ → Bool
has_other_tag f slot = is_queued f && not (nat_eq (f.count / 8 % 32) slot)

-- the FIS sets SRST
abbrev pub resets : Task → Bool
resets (Control reset) = reset
resets other = false

-- P is bit 7 of dword 0 of a header, bit 11 of that dword is reserved, and PMP is bits 15:12
abbrev pub prefetches : List ℕ → Bool
prefetches header = nat_eq (byte 0 header / 128) 1

abbrev pub has_reserved_bit : List ℕ → Bool
has_reserved_bit header = nat_eq (byte 1 header / 8 % 2) 1

-- dwords 4 to 7 of a header, all bits together: they are reserved
abbrev pub reserved_dwords : List ℕ → ℕ
reserved_dwords header = bit_or (bit_or (bit_or (number 16 4 header) (number 20 4 header)) (number 24 4 header)) (number 28 4 header)

-- PMP of a header, or PM Port of a FIS (bits 3:0 of byte 1)
abbrev pub names_multiplier : (header fis : List ℕ) → Bool
names_multiplier header fis = not (nat_eq (byte 1 header / 16) 0) || not (nat_eq (byte 1 fis % 16) 0)

-- a FIS with B is a BIST Activate FIS, type 58h, whose length is 3 dwords (Serial ATA, "BIST Activate FIS")
abbrev pub has_bist_type : (fis : List ℕ) → Bool
has_bist_type fis = nat_eq (byte 0 fis) 0x58

abbrev pub is_wrong_bist : (header fis : List ℕ) → Bool
is_wrong_bist header fis = (header_at header).bist && not (has_bist_type fis)

abbrev pub is_right_bist : (header fis : List ℕ) → Bool
is_right_bist header fis = (header_at header).bist && has_bist_type fis

-- CFL: the dwords of the FIS
abbrev pub has_length : (header fis : List ℕ) → Bool
has_length header fis = nat_eq (header_at header).fis_dwords (if is_right_bist header fis then 3 else 5)

-- bits 6:4 of byte 1, and bytes 16 to 19, which are Auxiliary of a queued command (Serial ATA 3.1), of a Register FIS - Host to Device
abbrev pub has_reserved_fis : (fis : List ℕ) → (queued : Bool) → Bool
has_reserved_fis fis queued = not (nat_eq (byte 1 fis / 16 % 8) 0) || (not queued && not (nat_eq (number 16 4 fis) 0))

-- the command is PACKET, A0h
abbrev pub is_packet : (fis : List ℕ) → Bool
is_packet fis = nat_eq (byte 0 fis) 0x27 && nat_eq (byte 1 fis / 128) 1 && nat_eq (byte 2 fis) 0xa0

-- R and C of a header are 1 for a FIS that sets SRST, and 0 for every other
abbrev pub has_wrong_flags : CommandHeader → Task → Bool
has_wrong_flags h t = if resets t then not (h.reset && h.clears_busy) else h.reset || h.clears_busy

-- of a queued command and its slot, which PxSACT has or not
abbrev pub queue_rule : Rule → (slot : ℕ) → (active : Bool) → H2dFields → Bool
queue_rule rule.ActiveWithoutQueue slot active f = active && not (is_queued f)
queue_rule rule.QueueWithoutActive slot active f = is_queued f && not active
queue_rule rule.TagNotSlot slot active f = has_other_tag f slot
queue_rule other slot active f = false

-- of the flags of the header, and the reserved bits of the FIS
abbrev pub flag_rule : Rule → (slot : ℕ) → (active : Bool) → (header fis : List ℕ) → H2dFields → Bool
flag_rule rule.WriteFlag slot active header fis f = not (has_direction (task_of f) (header_at header).write)
flag_rule rule.PrefetchWithQueue slot active header fis f = prefetches header && is_queued f
flag_rule rule.ResetFlags slot active header fis f = has_wrong_flags (header_at header) (task_of f)
flag_rule rule.ReservedFis slot active header fis f = has_reserved_fis fis (is_queued f)
flag_rule r slot active header fis f = queue_rule r slot active f

abbrev pub fis_rule : Rule → (slot : ℕ) → (active : Bool) → (header fis : List ℕ) → Option H2dFields → Bool
fis_rule rule.NoCommandFis slot active header fis None = not (is_right_bist header fis)
fis_rule other slot active header fis None = false
fis_rule r slot active header fis (Some f) = flag_rule r slot active header fis f

abbrev pub command_breaks : Rule → (slot : ℕ) → (active : Bool) → (header fis : List ℕ) → Bool
command_breaks rule.FisLength slot active header fis = not (has_length header fis)
command_breaks rule.AtapiFlag slot active header fis = (header_at header).atapi && not (is_packet fis)
command_breaks rule.ReservedHeader slot active header fis = has_reserved_bit header || not (nat_eq (reserved_dwords header) 0)
command_breaks rule.TableUnaligned slot active header fis = not (nat_eq (byte 8 header % 128) 0)
command_breaks rule.PortOfMultiplier slot active header fis = names_multiplier header fis
command_breaks rule.BistFlag slot active header fis = is_wrong_bist header fis
command_breaks r slot active header fis = fis_rule r slot active header fis (command_fis fis)
