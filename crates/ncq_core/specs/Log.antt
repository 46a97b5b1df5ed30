-- Page 0 of log 10h, the NCQ Command Error log, byte by byte (ACS-3, "NCQ Command Error log").
use Rattle.std.specs.Prelude.{ℕ, ◌-◌, ◌%◌, List, [], ◌∷◌, ◌++◌, replicate}
use Rattle.std.specs.Int.{byte_at}
use Rattle.std.specs.List.{sum}
use Rattle.ncq_core.specs.DiskState.{DiskError}

-- bytes 0 to 10: the tag (with bit 7, NQ, 0), a reserved byte, the status, the error, and the LBA's halves
abbrev pub log_head : DiskError → List ℕ
log_head e =
    e.tag ∷ 0 ∷ 0x41 ∷ e.error
    ∷ byte_at 0 e.lba ∷ byte_at 1 e.lba ∷ byte_at 2 e.lba ∷ 0
    ∷ byte_at 3 e.lba ∷ byte_at 4 e.lba ∷ byte_at 5 e.lba ∷ []

-- the bytes before the checksum
abbrev pub log_body : DiskError → List ℕ
log_body e = log_head e ++ replicate 500 0

-- what makes the sum of the bytes and itself 0 modulo 256
abbrev pub checksum : List ℕ → ℕ
checksum bytes = (256 - sum bytes % 256) % 256

-- the 512 bytes
unfoldable pub log_page : DiskError → List ℕ
log_page e = log_body e ++ checksum (log_body e) ∷ []
