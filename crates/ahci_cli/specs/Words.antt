-- Why the words of a command line could not be read.
use Rattle.std.specs.declared.io.ErrorKind.{ErrorKind}
use Rattle.std.specs.declared.io.ErrorKind.TheVariants as kind
use Rattle.ahci_cli.specs.declared.words_fault.WordsFault.{WordsFault}
use Rattle.ahci_cli.specs.declared.words_fault.WordsFault.TheVariants as fault

-- by the kind of the system's error: there is no memory, or a word is no text
abbrev pub words_fault : ErrorKind → WordsFault
words_fault kind.OutOfMemory = fault.OutOfMemory
words_fault _ = fault.NotText
