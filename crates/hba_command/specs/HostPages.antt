-- Some pages of a log of the host's, as a contract sees them: the fields of the code's type.
use Rattle.hba_command.specs.declared.host_pages.HostPages.TheInside.{Inside}

abbrev pub HostPagesFields : Type 0
HostPagesFields = Inside
