-- The texts of the rules that a line can break, without a line feed.
use Rattle.std.specs.Prelude.{List, ℕ, ◌++◌, codes}
use Rattle.std.specs.Fmt.{decimal}
use Rattle.ahci_script.specs.declared.fault.Fault.{Fault}
use Rattle.ahci_script.specs.declared.fault.Fault.TheVariants as fault

abbrev pub fault_text : Fault → List ℕ
fault_text fault.UnknownCommand = codes "no such command"
fault_text fault.MissingWord = codes "a word is missing"
fault_text fault.SpareWord = codes "a word too many"
fault_text fault.SpareSpace = codes "a space too many"
fault_text fault.NotDecimal = codes "not a decimal number"
fault_text fault.LongNumber = codes "more than 20 digits"
fault_text fault.WideNumber = codes "a number of 2^64 or more"
fault_text (fault.LargeTag tag) = codes "tag " ++ (decimal tag ++ codes ", at most 31")
fault_text (fault.LargeCount count) = decimal count ++ codes " sectors, at most 131072"
fault_text (fault.LargeWord word) = codes "word " ++ (decimal word ++ codes ", at most 255")
fault_text fault.NotHexadecimal = codes "not hexadecimal digits"
fault_text fault.NotTwoDigits = codes "not two hexadecimal digits"
fault_text fault.NotSixtyFourDigits = codes "not 64 hexadecimal digits"
fault_text fault.OddDigits = codes "an odd number of digits"
fault_text fault.LongRegister = codes "more than 8 digits"
fault_text fault.ManyTags = codes "more than 32 tags"
fault_text fault.HighByte = codes "a byte over 127"
fault_text fault.ByteOrderMark = codes "a byte order mark"
fault_text fault.CarriageReturn = codes "a carriage return"
fault_text fault.Tab = codes "a tab"
fault_text (fault.ControlByte byte) = codes "control byte " ++ decimal byte
fault_text fault.LongLine = codes "more than 4096 bytes"
fault_text fault.BeforeDisk = codes "a command before the disk"
fault_text fault.SecondDisk = codes "a second disk"
