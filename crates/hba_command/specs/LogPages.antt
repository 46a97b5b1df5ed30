-- Some pages of a log of several pages, as a contract sees them: the fields of the code's type.
use Rattle.hba_command.specs.declared.log_pages.LogPages.TheInside.{Inside}

abbrev pub LogPagesFields : Type 0
LogPagesFields = Inside
