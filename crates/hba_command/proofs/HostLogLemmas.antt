-- One page more of a log of the host's.
use Rattle.std.proofs.Common.{◌≡◌, ◌∙◌, ℕ, ◌+◌, [], ◌∷◌, List, ◌++◌, ap, map, arith}
use Rattle.std.specs.List.{flat_map, range_with_len}
use Rattle.std.proofs.lemmas.Grind.{flat_map-append}
use Rattle.std.proofs.lemmas.List.{append-nil, map-append}
use Rattle.hba_command.specs.HostLogs.{host_page, page_of, pages_of}
use Rattle.hba_command.specs.HostPages.{HostPagesFields}
use Rattle.hba_command.specs.declared.host_page.HostPage.{HostPage}
use Rattle.hba_command.proofs.UncorrectableLemmas.{one_more}

-- one more is written
pub one_page_written : (pages : HostPagesFields) (bytes : List ℕ) (n : ℕ) → pages_of pages bytes (n + 1) ≡ pages_of pages bytes n ++ page_of pages bytes n ∷ []
one_page_written pages bytes n =
    ap (λ l. map (page_of pages bytes) l) (one_more 0 n n (omega arith)) ∙ map-append (page_of pages bytes) (range_with_len 0 n) (n ∷ [])

-- one more is read
pub one_page_read : (written : List HostPage) (log first n : ℕ)
    → flat_map (host_page written log) (range_with_len first (n + 1)) ≡ flat_map (host_page written log) (range_with_len first n) ++ host_page written log (first + n)
one_page_read written log first n =
    ap (λ l. flat_map (host_page written log) l) (one_more first n (first + n) (omega arith))
    ∙ flat_map-append (host_page written log) (range_with_len first n) ((first + n) ∷ [])
    ∙ ap (λ l. flat_map (host_page written log) (range_with_len first n) ++ l) (append-nil (host_page written log (first + n)))
