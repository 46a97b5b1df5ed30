-- How IDENTIFY DEVICE names the disk (ACS-3, "IDENTIFY DEVICE": serial number, firmware revision, model number, nominal media rotation rate).
use Rattle.std.specs.Prelude.{codes}
use Rattle.hba_command.specs.declared.identity.Identity.{Identity}

abbrev pub usual_identity : Identity
usual_identity = record {
  serial = codes "00000001            ";
  firmware = codes "1.0     ";
  model = codes "SOFTWARE NCQ DISK                       ";
  rotation = 0;
}
