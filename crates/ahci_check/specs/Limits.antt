-- The limits that a line's words pass, so that every port of its place refuses the line: the first one, in the order of the
-- port's refusals.
use Rattle.std.specs.Prelude.{ℕ, ◌^◌, ◌==◌, List, [], ◌∷◌, ◌++◌, Option, Some, None, Result, Ok, Err, length, nat_eq, nat_le, nat_lt, if◌then◌else◌}
use Rattle.std.specs.List.{list_any}
use Rattle.std.specs.Option.{option_or, unwrap_or}
use Rattle.ahci_port.specs.Faults.{most_first}
use Rattle.ahci_regs.specs.RegisterTable.{register_at}
use Rattle.ahci_regs.specs.declared.fault.RegFault.{RegFault}
use Rattle.ahci_regs.specs.declared.fault.RegFault.TheVariants as reg
use Rattle.ahci_regs.specs.declared.register.Register.{Register}
use Rattle.ahci_replay.specs.Commands.{window_of}
use Rattle.ahci_script.specs.Words.{after_first}
use Rattle.ahci_script.specs.declared.line.ScriptCommand.{ScriptCommand}
use Rattle.ahci_script.specs.declared.line.ScriptCommand.TheVariants as command
use Rattle.ahci_table.specs.Window.{WindowState}
use Rattle.ahci_table.specs.declared.fault.TableFault.{TableFault}
use Rattle.ahci_table.specs.declared.fault.TableFault.TheVariants as table
use Rattle.ncq_core.specs.DiskState.{most_depth, most_disk_sectors}
use Rattle.ncq_journal.specs.Lawful.{most_sectors}
use Rattle.ahci_check.specs.Windows.{table_fault}
use Rattle.ahci_check.specs.declared.excess.Excess.{Excess}
use Rattle.ahci_check.specs.declared.limit.Limit.{Limit}
use Rattle.ahci_check.specs.declared.limit.Limit.TheVariants as limit
use Rattle.ahci_check.specs.declared.place.Place.{Place}
use Rattle.ahci_check.specs.declared.place.Place.TheVariants.{BeforeDisk, AfterDisk}

-- a limit is passed where this end of a line begins
abbrev pub excess_at : List ℕ → Limit → Option Excess
excess_at end limit = Some (record { left = length end; limit = limit })

-- S D F: 1 to 131,072 sectors, 1 to 32 slots, and a first number of at most 2^63
abbrev pub disk_excess : List ℕ → ℕ → ℕ → Option ℕ → Option Excess
disk_excess words sectors depth first =
    if sectors == 0 then excess_at words limit.EmptyDisk
    else if nat_lt most_disk_sectors sectors then excess_at words (limit.LargeDisk sectors)
    else if depth == 0 then excess_at (after_first words) limit.NoSlots
    else if nat_lt most_depth depth then excess_at (after_first words) (limit.ManySlots depth)
    else if nat_lt most_first (unwrap_or first 0) then excess_at (after_first (after_first words)) (limit.LargeFirst (unwrap_or first 0))
    else None

-- T: below the number of slots
abbrev pub tag_excess : ℕ → List ℕ → ℕ → Option Excess
tag_excess depth words tag = if nat_le depth tag then excess_at words (limit.FarTag tag depth) else None

-- LBA: below the number of sectors
abbrev pub sector_excess : ℕ → List ℕ → ℕ → Option Excess
sector_excess sectors words lba = if nat_le sectors lba then excess_at words (limit.NoSuchSector lba sectors) else None

-- LBA N: 1 to 65,536 sectors, from an LBA below 2^48; the number of sectors comes first
abbrev pub count_excess : List ℕ → ℕ → ℕ → Option Excess
count_excess words lba count =
    if count == 0 then excess_at (after_first words) limit.NoSectors
    else if nat_lt most_sectors count then excess_at (after_first words) (limit.ManySectors count)
    else if nat_le (2 ^ 48) lba then excess_at words (limit.FarSector lba)
    else None

-- T LBA N: the tag comes after both
abbrev pub transfer_excess : ℕ → List ℕ → ℕ → ℕ → ℕ → Option Excess
transfer_excess depth words tag lba count = option_or (count_excess (after_first words) lba count) (tag_excess depth words tag)

-- T T ..: the first tag that isn't below the number of slots
abbrev pub far_tag : ℕ → List ℕ → List ℕ → Option Excess
far_tag depth words [] = None
far_tag depth words (tag ∷ tags) = option_or (tag_excess depth words tag) (far_tag depth (after_first words) tags)

-- and the first one that is among those before it
abbrev pub twice_among : List ℕ → List ℕ → List ℕ → Option Excess
twice_among before words [] = None
twice_among before words (tag ∷ tags) =
    if list_any (λ other. nat_eq other tag) before then excess_at words (limit.TagTwice tag) else twice_among (before ++ tag ∷ []) (after_first words) tags

-- a tag that the device can't have comes before one that the list has twice
abbrev pub tags_excess : ℕ → List ℕ → List ℕ → Option Excess
tags_excess depth words tags = option_or (far_tag depth words tags) (twice_among [] words tags)

-- T EE LBA: the tag comes first
abbrev pub fail_excess : ℕ → ℕ → List ℕ → ℕ → ℕ → Option Excess
fail_excess sectors depth words tag lba = option_or (tag_excess depth words tag) (sector_excess sectors (after_first (after_first words)) lba)

-- H B: the word that a rule of windows speaks of
abbrev pub faulty_word : List ℕ → TableFault → List ℕ
faulty_word words table.BadHeader = words
faulty_word words fault = after_first words

-- H B: a window that the port takes
abbrev pub window_excess : List ℕ → Option TableFault → Option Excess
window_excess words None = None
window_excess words (Some fault) = excess_at (faulty_word words fault) (limit.Window fault)

-- T H B: the tag comes first
abbrev pub raw_excess : ℕ → List ℕ → WindowState → Option Excess
raw_excess depth words w = option_or (tag_excess depth words w.tag) (window_excess (after_first words) (table_fault w))

-- OFF: the place of a register
abbrev pub register_excess : List ℕ → Result Register RegFault → Option Excess
register_excess words (Ok register) = None
register_excess words (Err reg.Unaligned) = excess_at words limit.Unaligned
register_excess words (Err fault) = excess_at words limit.NoSuchRegister

-- the first limit that a line's words pass, after a disk of so many sectors and slots
abbrev pub excess_after_disk : ℕ → ℕ → List ℕ → ScriptCommand → Option Excess
excess_after_disk sectors depth words (command.Write tag lba count fill) = transfer_excess depth words tag lba count
excess_after_disk sectors depth words (command.Read tag lba count) = transfer_excess depth words tag lba count
excess_after_disk sectors depth words (command.Raw tag window) = raw_excess depth words (window_of tag window)
excess_after_disk sectors depth words (command.Accept tag) = tag_excess depth words tag
excess_after_disk sectors depth words (command.Serve tags) = tags_excess depth words tags.items
excess_after_disk sectors depth words (command.Fail tag error lba) = fail_excess sectors depth words tag lba
excess_after_disk sectors depth words (command.Collect tag number) = tag_excess depth words tag
excess_after_disk sectors depth words (command.Reissue tag) = tag_excess depth words tag
excess_after_disk sectors depth words (command.Reg off) = register_excess words (register_at off)
excess_after_disk sectors depth words (command.Show lba) = sector_excess sectors words lba
excess_after_disk sectors depth words c = None

-- and before it
abbrev pub excess_before : List ℕ → ScriptCommand → Option Excess
excess_before words (command.Disk sectors depth first) = disk_excess words sectors depth first
excess_before words c = None

abbrev pub excess_in : Place → List ℕ → ScriptCommand → Option Excess
excess_in BeforeDisk line c = excess_before (after_first line) c
excess_in (AfterDisk sectors depth) line c = excess_after_disk sectors depth (after_first line) c
