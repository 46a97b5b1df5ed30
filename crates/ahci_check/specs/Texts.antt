-- The texts of complaints, without a line feed.
use Rattle.std.specs.Prelude.{ℕ, List, ◌++◌, Option, Some, None, codes}
use Rattle.std.specs.Fmt.{decimal}
use Rattle.ahci_script.specs.Faults.{fault_text}
use Rattle.ahci_table.specs.declared.fault.TableFault.TheVariants as table
use Rattle.ahci_check.specs.declared.complaint.Complaint.{Complaint}
use Rattle.ahci_check.specs.declared.limit.Limit.{Limit}
use Rattle.ahci_check.specs.declared.limit.Limit.TheVariants as limit
use Rattle.ahci_check.specs.declared.rule.Rule.{Rule}
use Rattle.ahci_check.specs.declared.rule.Rule.TheVariants.{Language, Port}

abbrev pub limit_text : Limit → List ℕ
limit_text limit.NoSectors = codes "0 sectors, at least 1"
limit_text (limit.ManySectors count) = decimal count ++ codes " sectors, at most 65536"
limit_text (limit.FarSector lba) = codes "LBA " ++ (decimal lba ++ codes ", at most 281474976710655")
limit_text limit.EmptyDisk = codes "a disk of 0 sectors, at least 1"
limit_text (limit.LargeDisk sectors) = codes "a disk of " ++ (decimal sectors ++ codes " sectors, at most 131072")
limit_text limit.NoSlots = codes "0 slots, at least 1"
limit_text (limit.ManySlots depth) = decimal depth ++ codes " slots, at most 32"
limit_text (limit.LargeFirst first) =
    codes "first number " ++ (decimal first ++ codes ", at most 9223372036854775808")
limit_text (limit.FarTag tag depth) = codes "tag " ++ (decimal tag ++ (codes " of " ++ (decimal depth ++ codes " slots")))
limit_text (limit.TagTwice tag) = codes "tag " ++ (decimal tag ++ codes " twice")
limit_text (limit.NoSuchSector lba sectors) = codes "LBA " ++ (decimal lba ++ (codes " of " ++ (decimal sectors ++ codes " sectors")))
limit_text (limit.Window table.BadHeader) = codes "a bad command header"
limit_text (limit.Window table.BadCommand) = codes "a bad command FIS"
limit_text (limit.Window table.WrongTag) = codes "another tag in the command FIS"
limit_text (limit.Window table.BadList) = codes "a bad PRDT"
limit_text limit.Unaligned = codes "an offset that is no multiple of 4"
limit_text limit.NoSuchRegister = codes "no register at this offset"

abbrev pub rule_text : Rule → List ℕ
rule_text (Language fault) = fault_text fault
rule_text (Port limit) = limit_text limit

-- the line, the column where there is one, and the rule
abbrev pub place_text : ℕ → Option ℕ → List ℕ → List ℕ
place_text line None rule = codes "line " ++ (decimal line ++ (codes ": " ++ rule))
place_text line (Some column) rule =
    codes "line " ++ (decimal line ++ (codes ", column " ++ (decimal column ++ (codes ": " ++ rule))))

abbrev pub complaint_text : Complaint → List ℕ
complaint_text complaint = place_text complaint.line complaint.column (rule_text complaint.rule)
