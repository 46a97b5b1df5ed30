-- What log 10h says of a command that is not queued and came while queued ones were outstanding (ACS-3, "NCQ Command Error log").
use Rattle.std.specs.Prelude.{ℕ, ◌+◌, ◌*◌, ◌^◌, List, Option, Some, None, replicate}
use Rattle.hba_command.specs.Pages.{not_queued_page}
use Rattle.hba_command.specs.Words.{with_checksum, with_word}

-- bit 7 of byte 0, NQ: the error is that of a command that is not queued. Byte 2 has its status, DRDY and ERR, and byte 3 its error; the LBA is 0 (profile)
abbrev pub collided_page : (error : ℕ) → List ℕ
collided_page error = with_checksum (with_word 1 (0x41 + 2 ^ 8 * error) (with_word 0 0x0080 (replicate 512 0)))

-- the log while no queued command has failed
abbrev pub unfailed_page : Option ℕ → List ℕ
unfailed_page None = not_queued_page
unfailed_page (Some error) = collided_page error
