-- Some sectors of the disk, as a contract sees them: the fields of the code's type.
use Rattle.hba_command.specs.declared.span.Span.TheInside.{Inside}

abbrev pub SpanFields : Type 0
SpanFields = Inside
