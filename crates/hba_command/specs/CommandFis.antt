-- The command FIS in the first 20 bytes of CFIS (AHCI 1.3.1, section 4.2.3; Serial ATA, "Register FIS - Host to Device").
use Rattle.std.specs.Prelude.{ℕ, ◌==◌, List, Option, Some, None, if◌then◌else◌}
use Rattle.sata_fis.specs.Fields.{H2dFields}
use Rattle.sata_fis.specs.Layout.{h2d_at}
use Rattle.sata_fis.specs.Places.{byte}

-- byte 0 is the type, 27h
abbrev pub command_fis : List ℕ → Option H2dFields
command_fis bytes = if byte 0 bytes == 0x27 then Some (h2d_at bytes) else None
