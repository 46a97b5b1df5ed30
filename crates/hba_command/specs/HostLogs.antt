-- The logs 80h to 9Fh, which are the host's (ACS-3, "Host Specific logs"): each has 16 pages of 512 bytes, which are zeros until the host writes them. A
-- list has the pages that it has written.
use Rattle.std.specs.Prelude.{ℕ, ◌+◌, ◌*◌, ◌==◌, ◌&&◌, Bool, not, List, ◌++◌, Option, None, Some, drop, filter, length, map, replicate, take, if◌then◌else◌}
use Rattle.std.specs.List.{find, flat_map, range_with_len}
use Rattle.hba_command.specs.HostPages.{HostPagesFields}
use Rattle.hba_command.specs.Uncorrectable.{is_among}
use Rattle.hba_command.specs.declared.host_page.HostPage.{HostPage}

-- a page, which is zeros if it was never written
abbrev pub is_page : (log number : ℕ) → HostPage → Bool
is_page log number p = p.log == log && p.number == number

abbrev pub bytes_of : Option HostPage → List ℕ
bytes_of None = replicate 512 0
bytes_of (Some p) = p.bytes

abbrev pub host_page : List HostPage → (log number : ℕ) → List ℕ
host_page written log number = bytes_of (find (is_page log number) written)

-- some pages, joined
abbrev pub host_pages : List HostPage → HostPagesFields → List ℕ
host_pages written pages = flat_map (host_page written pages.log) (range_with_len pages.first pages.count)

-- the pages that are none of these
abbrev pub is_one_of : HostPagesFields → HostPage → Bool
is_one_of pages p = p.log == pages.log && is_among pages.first pages.count p.number

abbrev pub others : HostPagesFields → List HostPage → List HostPage
others pages written = filter (λ p. not (is_one_of pages p)) written

-- these pages, of which each has 512 bytes of the data
abbrev pub page_of : HostPagesFields → (bytes : List ℕ) → (index : ℕ) → HostPage
page_of pages bytes index = record { log = pages.log; number = pages.first + index; bytes = take 512 (drop (512 * index) bytes) }

abbrev pub pages_of : HostPagesFields → (bytes : List ℕ) → (count : ℕ) → List HostPage
pages_of pages bytes count = map (page_of pages bytes) (range_with_len 0 count)

-- they are written with data that have 512 bytes for each
abbrev pub rewritten : HostPagesFields → (bytes : List ℕ) → List HostPage → List HostPage
rewritten pages bytes written = if length bytes == 512 * pages.count then others pages written ++ pages_of pages bytes pages.count else written
