-- The tests of a window decide the rules of `Rattle.ahci_table.specs.Fit`.
use Rattle.std.proofs.Common.{◌≡◌, ℕ, ◌+◌, ◌*◌, ◌%◌, ◌≤◌, Bool, true, false, not, cond, Option, Some, None, length, refl, sym, ap, ◌∙◌}
use Rattle.std.specs.Prelude.{nat_le}
use Rattle.std.specs.Bool.{Decides}
use Rattle.std.proofs.lemmas.Bool.Decides.{Decides-and, Decides-below_and, Decides-eqb, Decides-like}
use Rattle.std.proofs.lemmas.Bool.{le-leb, leb-true}
use Rattle.ahci_table.specs.Command.{cfis, h2d, queued_of}
use Rattle.ahci_table.specs.Fit.{Breaks, HasCommand, HasEntries, HasHeader, HasList, HasTag, IsEntry, IsFit}
use Rattle.ahci_table.specs.Header.{header_of}
use Rattle.ahci_table.specs.Piece.{are_apart, total}
use Rattle.ahci_table.specs.Prdt.{EntryFields, entry_of, pieces, table_end}
use Rattle.ahci_table.specs.Window.{WindowState, base, most_bytes}
use Rattle.ahci_table.specs.declared.fault.TableFault.{TableFault}
use Rattle.ahci_table.specs.declared.fault.TableFault.TheVariants.{BadHeader, BadCommand, WrongTag, BadList}
use Rattle.sata_fis.specs.Command.{is_queued}
use Rattle.sata_fis.specs.Places.{byte}
use Rattle.ahci_check.specs.Windows.{are_entries, has_command, has_header, has_list, has_tag, is_entry, is_same, table_fault}

-- a test that is off
off : (b : Bool) → Decides (not b) (b ≡ false)
off true = (λ e. sym e, λ e. sym e)
off false = (λ e. refl, λ e. refl)

on : (b : Bool) → Decides b (b ≡ true)
on b = (λ e. e, λ e. e)

same : (a b : Bool) → Decides (is_same a b) (a ≡ b)
same true b = (λ e. sym e, λ e. sym e)
same false true = (λ e. e, λ e. e)
same false false = (λ e. refl, λ e. refl)

at_most : (a b : ℕ) → Decides (nat_le a b) (a ≤ b)
at_most a b = (leb-true a b, le-leb a b)

-- 1. the header
abbrev HeaderParts : WindowState → Type 0
HeaderParts w =
    (((header_of w).cfl ≡ 5) × (((header_of w).a ≡ false) × (((header_of w).r ≡ false) × (((header_of w).b ≡ false)
    × (((header_of w).c ≡ false) × ((1 ≤ (header_of w).prdtl) × ((header_of w).prdtl ≤ 32)))))))
    × (((header_of w).ctba ≡ base w.tag) × (((header_of w).ctbau ≡ 0) × ((table_end w ≤ length w.bytes) × (length w.bytes ≤ most_bytes))))

header_decides : (w : WindowState) → Decides (has_header w) (HasHeader w)
header_decides w =
    Decides-like (has_header w)
    (λ (t : HeaderParts w). record { cfl = t.0.0; a = t.0.1.0; r = t.0.1.1.0; b = t.0.1.1.1.0; c = t.0.1.1.1.1.0; some = t.0.1.1.1.1.1.0; most = t.0.1.1.1.1.1.1; ctba = t.1.0; ctbau = t.1.1.0; room = t.1.1.1.0; bounded = t.1.1.1.1 })
    (λ (h : HasHeader w). ((h.cfl, (h.a, (h.r, (h.b, (h.c, (h.some, h.most)))))), (h.ctba, (h.ctbau, (h.room, h.bounded)))))
    (Decides-and _ _
    (Decides-and _ _ (Decides-eqb (header_of w).cfl 5) (Decides-and _ _ (off (header_of w).a) (Decides-and _ _ (off (header_of w).r) (Decides-and _ _ (off (header_of w).b)
    (Decides-and _ _ (off (header_of w).c) (Decides-and _ _ (at_most 1 (header_of w).prdtl) (at_most (header_of w).prdtl 32)))))))
    (Decides-and _ _ (Decides-eqb (header_of w).ctba (base w.tag)) (Decides-and _ _ (Decides-eqb (header_of w).ctbau 0)
    (Decides-and _ _ (at_most (table_end w) (length w.bytes)) (at_most (length w.bytes) most_bytes)))))

-- 2. the command
abbrev CommandParts : WindowState → Type 0
CommandParts w =
    ((byte 0 (cfis w) ≡ 0x27) × (length (cfis w) ≡ 20)) × ((is_queued (h2d w) ≡ true) × ((header_of w).w ≡ (queued_of w).write))

command_decides : (w : WindowState) → Decides (has_command w) (HasCommand w)
command_decides w =
    Decides-like (has_command w) (λ (t : CommandParts w). record { spells = (t.0, refl); asks = t.1.0; direction = t.1.1 }) (λ (h : HasCommand w). (h.spells.0, (h.asks, h.direction)))
    (Decides-and _ _ (Decides-and _ _ (Decides-eqb (byte 0 (cfis w)) 0x27) (Decides-eqb (length (cfis w)) 20))
    (Decides-and _ _ (on (is_queued (h2d w))) (same (header_of w).w (queued_of w).write)))

-- 3. the tag
tag_decides : (w : WindowState) → Decides (has_tag w) (HasTag w)
tag_decides w = Decides-eqb (queued_of w).tag w.tag

-- 4. the list
abbrev EntryParts : (start first last : ℕ) → EntryFields → Type 0
EntryParts start first last e =
    (e.dba % 2 ≡ 0) × ((e.dbau ≡ 0) × ((e.dbc % 2 ≡ 1) × ((start + first ≤ e.dba) × (e.dba + e.dbc + 1 ≤ start + last))))

entry_decides : (start first last : ℕ) (e : EntryFields) → Decides (is_entry start first last e) (IsEntry start first last e)
entry_decides start first last e =
    Decides-like (is_entry start first last e) (λ (t : EntryParts start first last e). record { even = t.0; low = t.1.0; odd = t.1.1.0; after = t.1.1.1.0; within = t.1.1.1.1 })
    (λ (h : IsEntry start first last e). (h.even, (h.low, (h.odd, (h.after, h.within)))))
    (Decides-and _ _ (Decides-eqb (e.dba % 2) 0) (Decides-and _ _ (Decides-eqb e.dbau 0) (Decides-and _ _ (Decides-eqb (e.dbc % 2) 1)
    (Decides-and _ _ (at_most (start + first) e.dba) (at_most (e.dba + e.dbc + 1) (start + last))))))

entries_decide : (w : WindowState) → Decides (are_entries w (header_of w).prdtl) (HasEntries w)
entries_decide w =
    Decides-below_and (λ n. is_entry (base w.tag) (table_end w) (length w.bytes) (entry_of w n)) (λ n. IsEntry (base w.tag) (table_end w) (length w.bytes) (entry_of w n)) (are_entries w)
    (λ n. entry_decides (base w.tag) (table_end w) (length w.bytes) (entry_of w n)) refl (λ _. refl) (header_of w).prdtl

abbrev ListParts : WindowState → Type 0
ListParts w = HasEntries w × ((are_apart (pieces w) ≡ true) × (total (pieces w) ≡ 512 * (queued_of w).sectors))

list_decides : (w : WindowState) → Decides (has_list w) (HasList w)
list_decides w =
    Decides-like (has_list w) (λ (t : ListParts w). record { entries = t.0; apart = t.1.0; whole = t.1.1 }) (λ (h : HasList w). (h.entries, (h.apart, h.whole)))
    (Decides-and _ _ (entries_decide w) (Decides-and _ _ (on (are_apart (pieces w))) (Decides-eqb (total (pieces w)) (512 * (queued_of w).sectors))))

-- ---- the first rule that is broken

-- the first of four tests that fails
abbrev first_of : Bool → Bool → Bool → Bool → Option TableFault
first_of a b c d =
    cond (not a) (Some BadHeader) (cond (not b) (Some BadCommand) (cond (not c) (Some WrongTag) (cond (not d) (Some BadList) None)))

opened : (w : WindowState) → table_fault w ≡ first_of (has_header w) (has_command w) (has_tag w) (has_list w)
unfolding table_fault
opened w = refl

fails : {P : Type 0} (b : Bool) → Decides b P → ¬ P → false ≡ b
fails true d never = absurd (never (d.0 refl))
fails false d never = refl

holds : {P : Type 0} (b : Bool) → Decides b P → P → true ≡ b
holds b d p = sym (d.1 p)

-- a window that the port takes breaks none
pub fit_has_none : (w : WindowState) → IsFit w → table_fault w ≡ None
fit_has_none w h =
    opened w ∙ ap (λ a. first_of a (has_command w) (has_tag w) (has_list w)) (sym (holds _ (header_decides w) h.header))
    ∙ ap (λ b. first_of true b (has_tag w) (has_list w)) (sym (holds _ (command_decides w) h.command))
    ∙ ap (λ c. first_of true true c (has_list w)) (sym (holds _ (tag_decides w) h.tag))
    ∙ ap (λ d. first_of true true true d) (sym (holds _ (list_decides w) h.listed))

-- and the fault of another is its first
pub broken_has_it : (w : WindowState) (fault : TableFault) → Breaks w fault → table_fault w ≡ Some fault
broken_has_it w BadHeader h = opened w ∙ ap (λ a. first_of a (has_command w) (has_tag w) (has_list w)) (sym (fails _ (header_decides w) h))
broken_has_it w BadCommand h =
    opened w ∙ ap (λ a. first_of a (has_command w) (has_tag w) (has_list w)) (sym (holds _ (header_decides w) h.0))
    ∙ ap (λ b. first_of true b (has_tag w) (has_list w)) (sym (fails _ (command_decides w) h.1))
broken_has_it w WrongTag h =
    opened w ∙ ap (λ a. first_of a (has_command w) (has_tag w) (has_list w)) (sym (holds _ (header_decides w) h.0))
    ∙ ap (λ b. first_of true b (has_tag w) (has_list w)) (sym (holds _ (command_decides w) h.1))
    ∙ ap (λ c. first_of true true c (has_list w)) (sym (fails _ (tag_decides w) h.2))
broken_has_it w BadList h =
    opened w ∙ ap (λ a. first_of a (has_command w) (has_tag w) (has_list w)) (sym (holds _ (header_decides w) h.0))
    ∙ ap (λ b. first_of true b (has_tag w) (has_list w)) (sym (holds _ (command_decides w) h.1))
    ∙ ap (λ c. first_of true true c (has_list w)) (sym (holds _ (tag_decides w) h.2))
    ∙ ap (λ d. first_of true true true d) (sym (fails _ (list_decides w) h.3))
