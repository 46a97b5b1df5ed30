-- One sector more, and a command that fails.
use Rattle.std.proofs.Common.{◌≡◌, ℕ, zero, suc, false, nat_eq, ◌+◌, List, [], ◌++◌, ap, sym, refl, ◌∙◌}
use Rattle.std.proofs.Math.Dec.{eqb-suc-zero}
use Rattle.std.proofs.lemmas.List.{flat_map_more}
use Rattle.std.proofs.lemmas.List.Folds.{flat_map-map}
use Rattle.std.proofs.lemmas.List.FromFn.{map-range_with_len_more}
use Rattle.std.proofs.Common.{map}
use Rattle.std.specs.List.{flat_map, range_with_len}
use Rattle.ncq_journal.specs.Sector.{sector}
use Rattle.ahci_port.specs.PortView.{PortView}
use Rattle.sata_fis.specs.Fields.{D2hFields}
use Rattle.hba_command.specs.declared.entry.PrdEntry.{PrdEntry}
use Rattle.hba_command.specs.declared.protocol.Protocol.{Protocol}
use Rattle.ahci_hba.specs.Failing.{moved_before, read_failed, sectors_of, vacated}
use Rattle.ahci_hba.specs.HbaView.{HbaView}

pub flat_map_one_more : (f : ℕ → List ℕ) (a n : ℕ) → flat_map f (range_with_len a (n + 1)) ≡ flat_map f (range_with_len a n) ++ f (a + n)
flat_map_one_more f a n =
    sym (flat_map-map f (λ x. x) (range_with_len a (n + 1)))
    ∙ ap (λ l. flat_map f l) (map-range_with_len_more (λ x. x) a n (a + n) refl)
    ∙ sym (flat_map_more f [] (map (λ x. x) (range_with_len a n)) (a + n))
    ∙ ap (λ l. l ++ f (a + n)) (flat_map-map f (λ x. x) (range_with_len a n))

pub one_sector_more : (port : PortView) (first n : ℕ) → sectors_of port first (n + 1) ≡ sectors_of port first n ++ sector port.starting port.past (first + n)
one_sector_more port first n = flat_map_one_more (sector port.starting port.past) first n

not_none : (n : ℕ) → (n ≡ 0 → ⊥) → nat_eq n 0 ≡ false
not_none zero h = absurd (h refl)
not_none (suc n) h = eqb-suc-zero n

moves_some : (h : HbaView) (slot : ℕ) (p : Protocol) (list : List PrdEntry) (first n : ℕ) (fis : D2hFields) → (n ≡ 0 → ⊥)
    → read_failed h slot p list first n fis ≡ moved_before (vacated h slot) slot p list (sectors_of h.port first n) n fis
moves_some h slot p list first n fis some = rw (not_none n some) refl

-- some sectors move before the error
pub reads_failed : (h taken new : HbaView) (slot : ℕ) (p : Protocol) (list listed : List PrdEntry) (bytes : List ℕ) (first n : ℕ) (fis : D2hFields) → (n ≡ 0 → ⊥)
    → taken ≡ vacated h slot → listed ≡ list → bytes ≡ sectors_of h.port first n → new ≡ moved_before taken slot p listed bytes n fis
    → new ≡ read_failed h slot p list first n fis
reads_failed h taken new slot p list listed bytes first n fis some was same read made =
    made
    ∙ ap {A = HbaView} {B = HbaView} (λ v. moved_before v slot p listed bytes n fis) was
    ∙ ap (λ l. moved_before (vacated h slot) slot p l bytes n fis) same
    ∙ ap (λ b. moved_before (vacated h slot) slot p list b n fis) read
    ∙ sym (moves_some h slot p list first n fis some)
