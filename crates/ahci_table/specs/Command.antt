-- The command of a window: the Register FIS - Host to Device in the first 20 bytes of CFIS (AHCI 1.3.1, section 4.2.3),
-- and the data that goes with it.
use Rattle.std.specs.Prelude.{List, ℕ, take, if◌then◌else◌}
use Rattle.sata_fis.specs.Fields.{H2dFields, QueuedFields}
use Rattle.sata_fis.specs.Layout.{h2d_at}
use Rattle.sata_fis.specs.Command.{asked_by}
use Rattle.ncq_journal.specs.Work.{Work, Read, Write}
use Rattle.ahci_table.specs.Window.{WindowState}
use Rattle.ahci_table.specs.Text.{text}

-- the bytes of the command FIS
abbrev pub cfis : WindowState → List ℕ
cfis w = take 20 w.bytes

-- what they say, read as a Register FIS - Host to Device
abbrev pub h2d : WindowState → H2dFields
h2d w = h2d_at (cfis w)

-- the queued command that it asks for
abbrev pub queued_of : WindowState → QueuedFields
queued_of w = asked_by (h2d w)

-- what the command asks of the disk; a write's bytes are the window's text
abbrev pub op : WindowState → Work
op w = if (queued_of w).write then Write (queued_of w).lba (text w) else Read (queued_of w).lba (queued_of w).sectors
