-- Nothing refuses a proper command that names no pieces.
use Rattle.std.proofs.Common.{◌≡◌, ℕ, ◌*◌, ◌%◌, ◌<◌, ◌≤◌, Bool, true, false, not, ◌||◌, cond, nat_eq, length, Option, Some, None, ap, refl, arith}
use Rattle.std.specs.Prelude.{◌^◌, nat_lt, nat_le}
use Rattle.std.proofs.lemmas.Bool.{eq-eqb, eqb-true, le-ltb, lt-leb, true≢false}
use Rattle.ahci_table.specs.Defaults.{default_list, list_of}
use Rattle.ahci_table.specs.Refusal.{has_bad_count, list_refusal, refusal}
use Rattle.ahci_table.specs.declared.fault.BuildFault.{BuildFault}
use Rattle.ahci_table.specs.declared.fault.BuildFault.TheVariants.{BadCount, BadLba}
use Rattle.ahci_table.specs.declared.piece_layout.PieceLayout.{PieceLayout}
use Rattle.ahci_table.proofs.DefaultLemmas.{defaults_serve, layout_serves}
use Rattle.ncq_journal.specs.Lawful.{IsProper, IsWhole, most_sectors}
use Rattle.ncq_journal.specs.Work.{Work, Read, Write, lba_of, sectors_of, is_ragged}

not_zero : (n : ℕ) → 1 ≤ n → nat_eq n 0 ≡ false
not_zero n h = by (nat_eq n 0) refl
  where
    by : (b : Bool) → nat_eq n 0 ≡ b → nat_eq n 0 ≡ false
    by false e = e
    by true e = absurd (let is : n ≡ 0 = eqb-true n 0 e in let none : ⊥ = omega arith in none)

no_case : (a b r l : Bool) (rest : Option BuildFault) → a ≡ false → b ≡ false → r ≡ false → l ≡ false → ((a || b || r) ≡ false → rest ≡ None)
    → cond (a || b || r) (Some BadCount) (cond l (Some BadLba) rest) ≡ None
no_case false false false false rest p q s t free = free refl
no_case true b r l rest p q s t free = absurd (true≢false p)
no_case false true r l rest p q s t free = absurd (true≢false q)
no_case false false true l rest p q s t free = absurd (true≢false s)
no_case false false false true rest p q s t free = absurd (true≢false t)

-- whole sectors leave no rest
not_ragged : (work : Work) → IsWhole work → is_ragged work ≡ false
not_ragged (Read lba sectors) whole = refl
not_ragged (Write lba bytes) whole = ap not (eq-eqb (length bytes % 512) 0 (omega (arith, whole)))

pub proper_serves : (layout : PieceLayout) (work : Work) → IsProper work → refusal work (list_of layout (sectors_of work)) ≡ None
proper_serves layout work p =
    no_case (nat_eq (sectors_of work) 0) (nat_lt most_sectors (sectors_of work)) (is_ragged work) (nat_le (2 ^ 48) (lba_of work))
    (list_refusal (list_of layout (sectors_of work)) (512 * sectors_of work)) (not_zero (sectors_of work) p.some) (le-ltb most_sectors (sectors_of work) p.most) (not_ragged work p.whole)
    (lt-leb (2 ^ 48) (lba_of work) p.lba) (layout_serves layout work)

-- over the default pieces count and address alone refuse a command
pub default_serves : (work : Work) → has_bad_count work ≡ false → lba_of work < 2 ^ 48 → refusal work (default_list (sectors_of work)) ≡ None
default_serves work good low =
    by (has_bad_count work) (nat_le (2 ^ 48) (lba_of work)) (list_refusal (default_list (sectors_of work)) (512 * sectors_of work)) good (lt-leb (2 ^ 48) (lba_of work) low) (defaults_serve work good)
  where
    by : (a b : Bool) (rest : Option BuildFault) → a ≡ false → b ≡ false → rest ≡ None → cond a (Some BadCount) (cond b (Some BadLba) rest) ≡ None
    by false false rest p q e = e
    by true b rest p q e = absurd (true≢false p)
    by false true rest p q e = absurd (true≢false q)
