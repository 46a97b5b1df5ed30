-- A complaint as one JSON object (RFC 8259).
use Rattle.std.specs.Prelude.{ℕ, List, [], ◌∷◌, Option, None, Some, codes}
use Rattle.std.specs.Fmt.{decimal}
use Rattle.ahci_script.specs.declared.fault.Fault.{Fault}
use Rattle.ahci_script.specs.declared.fault.Fault.TheVariants as fault
use Rattle.ahci_table.specs.Refusals.{of_table}
use Rattle.port_refusal.specs.Names.{name_of}
use Rattle.port_refusal.specs.declared.refusal.Refusal.TheVariants as refusal
use Rattle.json.specs.Print.{print}
use Rattle.json.specs.Token.{Token, begin_object, end_object, key, string, number, null}
use Rattle.ahci_check.specs.Texts.{rule_text}
use Rattle.ahci_check.specs.declared.complaint.Complaint.{Complaint}
use Rattle.ahci_check.specs.declared.limit.Limit.{Limit}
use Rattle.ahci_check.specs.declared.limit.Limit.TheVariants as limit
use Rattle.ahci_check.specs.declared.rule.Rule.{Rule}
use Rattle.ahci_check.specs.declared.rule.Rule.TheVariants.{Language, Port}

-- the kind of a rule
abbrev pub kind_name : Rule → List ℕ
kind_name (Language fault) = codes "language"
kind_name (Port limit) = codes "port"

-- the name of a rule of the language
abbrev pub fault_name : Fault → List ℕ
fault_name fault.UnknownCommand = codes "UnknownCommand"
fault_name fault.MissingWord = codes "MissingWord"
fault_name fault.SpareWord = codes "SpareWord"
fault_name fault.SpareSpace = codes "SpareSpace"
fault_name fault.NotDecimal = codes "NotDecimal"
fault_name fault.LongNumber = codes "LongNumber"
fault_name fault.WideNumber = codes "WideNumber"
fault_name (fault.LargeTag tag) = codes "LargeTag"
fault_name (fault.LargeCount count) = codes "LargeCount"
fault_name (fault.LargeWord word) = codes "LargeWord"
fault_name fault.NotHexadecimal = codes "NotHexadecimal"
fault_name fault.NotTwoDigits = codes "NotTwoDigits"
fault_name fault.NotSixtyFourDigits = codes "NotSixtyFourDigits"
fault_name fault.OddDigits = codes "OddDigits"
fault_name fault.LongRegister = codes "LongRegister"
fault_name fault.ManyTags = codes "ManyTags"
fault_name fault.HighByte = codes "HighByte"
fault_name fault.ByteOrderMark = codes "ByteOrderMark"
fault_name fault.CarriageReturn = codes "CarriageReturn"
fault_name fault.Tab = codes "Tab"
fault_name (fault.ControlByte byte) = codes "ControlByte"
fault_name fault.LongLine = codes "LongLine"
fault_name fault.BeforeDisk = codes "BeforeDisk"
fault_name fault.SecondDisk = codes "SecondDisk"

-- and of a limit of the port: a window's is that of the port's refusal
abbrev pub limit_name : Limit → List ℕ
limit_name limit.NoSectors = codes "NoSectors"
limit_name (limit.ManySectors count) = codes "ManySectors"
limit_name (limit.FarSector lba) = codes "FarSector"
limit_name limit.EmptyDisk = codes "EmptyDisk"
limit_name (limit.LargeDisk sectors) = codes "LargeDisk"
limit_name limit.NoSlots = codes "NoSlots"
limit_name (limit.ManySlots depth) = codes "ManySlots"
limit_name (limit.LargeFirst first) = codes "LargeFirst"
limit_name (limit.FarTag tag depth) = codes "FarTag"
limit_name (limit.TagTwice tag) = codes "TagTwice"
limit_name (limit.NoSuchSector lba sectors) = name_of refusal.NoSuchSector
limit_name (limit.Window fault) = name_of (of_table fault)
limit_name limit.Unaligned = name_of refusal.Unaligned
limit_name limit.NoSuchRegister = name_of refusal.NoSuchRegister

abbrev pub rule_name : Rule → List ℕ
rule_name (Language fault) = fault_name fault
rule_name (Port limit) = limit_name limit

-- a column, or null where the whole line is meant
abbrev pub column_token : Option ℕ → Token
column_token None = null
column_token (Some column) = number (decimal column)

-- a complaint as an object: the line, the column, the kind, the rule by its name, and its text
unfoldable pub complaint_object : Complaint → List Token
complaint_object c =
    begin_object ∷ key (codes "line") ∷ number (decimal c.line) ∷ key (codes "column") ∷ column_token c.column ∷ key (codes "kind") ∷ string (kind_name c.rule)
    ∷ key (codes "rule") ∷ string (rule_name c.rule) ∷ key (codes "text") ∷ string (rule_text c.rule) ∷ end_object ∷ []

abbrev pub complaint_json : Complaint → List ℕ
complaint_json complaint = print (complaint_object complaint)
