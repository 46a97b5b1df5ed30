-- The registers after each call are those of the journal with its entry.
use Rattle.std.proofs.Common.{◌≡◌, ℕ, ◌^◌, ◌<◌, ◌≤◌, Bool, true, false, not, ◌&&◌, cond, List, [], ◌∷◌, length, ap, sym, refl, ◌∙◌, subst, arith, inl, inr, Ok, Err}
use Rattle.std.proofs.lemmas.Bool.{cases_eq, cases_lt}
use Rattle.ahci_regs.specs.declared.fault.RegFault.TheVariants.{NotStarted, NotReceiving, Running}
use Rattle.ahci_regs.specs.declared.register.Register.TheVariants.{PxCmd, PxSact, PxCi}
use Rattle.ahci_regs.specs.PortState.{PortState, first_state}
use Rattle.ahci_regs.specs.Receiving.{after_bits, is_done}
use Rattle.ahci_regs.specs.RegisterTable.{register_at}
use Rattle.ahci_regs.specs.Writing.{write_at, with_sact, with_ci, with_command, commanded, remaining}
use Rattle.ncq_journal.specs.declared.phase.Phase.TheVariants.{Issued, Accepted, Done}
use Rattle.ncq_journal.specs.declared.plain.Plain.{Plain}
use Rattle.ncq_journal.specs.declared.plain.Plain.TheVariants as plain
use Rattle.ncq_journal.specs.Entry.{Entry, Issue, Accept, Complete, Fail, Recover, Reissue, Collect}
use Rattle.ncq_journal.specs.Phase.{phase, is_busy}
use Rattle.ncq_journal.specs.Tags.{sact, ci, in_sact, in_ci}
use Rattle.ncq_journal.specs.Work.{Work}
use Rattle.word_bits.specs.Places.{bits, has_place, places, no_places, with_place, without_place, union, minus, only_below}
use Rattle.word_bits.proofs.PlacesLemmas.{length-places, length-with_place, length-without_place, length-only_below, has_place-with_other, has_place-without_same}
use Rattle.word_bits.proofs.PlacesLemmas.{has_place-without_other, has_place-no_places, has_place-only_below, has_place-only_below_past, same_sets, places_none}
use Rattle.word_bits.proofs.PlacesLemmas.{union-with_place, minus-with_place, minus-no_places}
use Rattle.word_bits.proofs.BitsLemmas.{bits_pow, bits_zero}
use Rattle.ahci_port.specs.Carrying.{carried}
use Rattle.ahci_port.specs.Registers.{after_write, started, issued, accepted, refused, failed, read_by_pio, recovered, acknowledged, taken}
use Rattle.ahci_port.specs.Tracking.{Tracks}
use Rattle.ahci_port.proofs.SetLemmas.{sact_issue, ci_issue, sact_reissue, ci_reissue, sact_accept, ci_accept, sact_complete, ci_complete, sact_fail, ci_fail}
use Rattle.ahci_port.proofs.SetLemmas.{sact_recover, ci_recover, sact_collect, ci_collect}

-- a write goes to the register at its offset
pub write_sact : (s : PortState) (value : ℕ) → after_write s 0x134 value ≡ taken s (with_sact s value)
unfolding register_at
write_sact s value = ap (λ r. taken s (write_at s value r)) (let e : register_at 0x134 ≡ Ok PxSact = refl in e)

pub write_ci : (s : PortState) (value : ℕ) → after_write s 0x138 value ≡ taken s (with_ci s value)
unfolding register_at
write_ci s value = ap (λ r. taken s (write_at s value r)) (let e : register_at 0x138 ≡ Ok PxCi = refl in e)

pub write_command : (s : PortState) (value : ℕ) → after_write s 0x118 value ≡ taken s (with_command s (has_place (bits value) 0) (has_place (bits value) 4))
unfolding register_at
write_command s value = ap (λ r. taken s (write_at s value r)) (let e : register_at 0x118 ≡ Ok PxCmd = refl in e)

-- the place of a slot that the port has
own_place : (d t : ℕ) → t < d → d ≤ 32 → only_below d (with_place no_places t) ≡ with_place no_places t
own_place d t below few =
    same_sets (only_below d (with_place no_places t)) (with_place no_places t) (length-only_below d (with_place no_places t))
    (λ i h. elim (cases_lt i d) [
      | inl low ↦ has_place-only_below d (with_place no_places t) i low
      | inr high ↦ has_place-only_below_past d (with_place no_places t) i high ∙ sym (has_place-no_places i) ∙ sym (has_place-with_other no_places t i (λ e. absurd (let x = e in omega arith)))
    ])

gained : (d t : ℕ) (s : List Bool) → t < d → d ≤ 32 → length s ≡ 32 → union s (only_below d (bits (2 ^ t))) ≡ with_place s t
gained d t s below few whole =
    ap (λ x. union s (only_below d x)) (bits_pow t (omega arith)) ∙ ap (union s) (own_place d t below few) ∙ union-with_place s t whole (omega arith)

-- a place that is set and cleared again, where it was not set
back_again : (s : List Bool) (t : ℕ) → has_place s t ≡ false → without_place (with_place s t) t ≡ s
back_again s t out =
    same_sets (without_place (with_place s t) t) s (length-without_place (with_place s t) t ∙ length-with_place s t)
    (λ i h. elim (cases_eq i t) [
      | inl same ↦ ap (has_place (without_place (with_place s t) t)) same ∙ has_place-without_same (with_place s t) t ∙ sym (ap (has_place s) same ∙ out)
      | inr apart ↦ has_place-without_other (with_place s t) t i apart ∙ has_place-with_other s t i apart
    ])

sact_after : (s : PortState) (t : ℕ) → s.st ≡ true → after_write s 0x134 (2 ^ t) ≡ record s { sact = union s.sact (only_below s.depth (bits (2 ^ t))) }
sact_after s t st = write_sact s (2 ^ t) ∙ ap (λ b. taken s (cond b (Ok (record s { sact = union s.sact (only_below s.depth (bits (2 ^ t))) })) (Err NotStarted))) st

ci_after : (s : PortState) (t : ℕ) → s.st ≡ true → after_write s 0x138 (2 ^ t) ≡ record s { ci = union s.ci (only_below s.depth (bits (2 ^ t))) }
ci_after s t st = write_ci s (2 ^ t) ∙ ap (λ b. taken s (cond b (Ok (record s { ci = union s.ci (only_below s.depth (bits (2 ^ t))) })) (Err NotStarted))) st

-- what an issue leaves, in one piece
pub issued_is : (s : PortState) (d t : ℕ) → s.st ≡ true → s.depth ≡ d → t < d → d ≤ 32 → length s.sact ≡ 32
    → length s.ci ≡ 32 → issued s t ≡ record s { sact = with_place s.sact t; ci = with_place s.ci t }
issued_is s d t st depth below few sact_whole ci_whole =
    ap (λ x. after_write x 0x138 (2 ^ t)) (sact_after s t st ∙ ap (λ x. record s { sact = x }) (ap (λ n. union s.sact (only_below n (bits (2 ^ t)))) depth ∙ gained d t s.sact below few sact_whole))
    ∙ ci_after (record s { sact = with_place s.sact t }) t st
    ∙ ap (λ x. record s { sact = with_place s.sact t; ci = x }) (ap (λ n. union s.ci (only_below n (bits (2 ^ t)))) depth ∙ gained d t s.ci below few ci_whole)

-- a status 40h ends a command, and one of 41h does not
done_40 : is_done 0x40 ≡ true
unfolding bits places
done_40 = refl

not_done_41 : is_done 0x41 ≡ false
unfolding bits places
not_done_41 = refl

-- the tags of an entry that issues its tag
tracks_issued : (d : ℕ) (past later : List Entry) (s : PortState) (t : ℕ) → Tracks d past s → t < d → d ≤ 32
    → with_place (sact past) t ≡ sact later → with_place (ci past) t ≡ ci later → Tracks d later (issued s t)
tracks_issued d past later s t k below few sact_moves ci_moves =
    let whole = ap length k.sact_is ∙ length-places (λ u. in_sact (phase past u)) in
    let whole_ci = ap length k.ci_is ∙ length-places (λ u. in_ci (phase past u)) in
    subst (Tracks d later) (sym (issued_is s d t k.st k.depth_is below few whole whole_ci))
    (record {
      depth_is = k.depth_is;
      st = k.st;
      fre = k.fre;
      sact_is = ap (λ x. with_place x t) k.sact_is ∙ sact_moves;
      ci_is = ap (λ x. with_place x t) k.ci_is ∙ ci_moves;
    })

pub tracks_issue : (d : ℕ) (past : List Entry) (s : PortState) (t : ℕ) (work : Work) → Tracks d past s → t < d → d ≤ 32 → Tracks d (Issue t work ∷ past) (issued s t)
tracks_issue d past s t work k below few = tracks_issued d past (Issue t work ∷ past) s t k below few (sact_issue past t work (omega arith)) (ci_issue past t work (omega arith))

pub tracks_reissue : (d : ℕ) (past : List Entry) (s : PortState) (t : ℕ) → Tracks d past s → t < d → d ≤ 32 → Tracks d (Reissue t ∷ past) (issued s t)
tracks_reissue d past s t k below few = tracks_issued d past (Reissue t ∷ past) s t k below few (sact_reissue past t (omega arith)) (ci_reissue past t (omega arith))

pub tracks_accept : (d : ℕ) (past : List Entry) (s : PortState) (t : ℕ) → Tracks d past s → t < 32 → phase past t ≡ Issued → Tracks d (Accept t ∷ past) (accepted s t)
tracks_accept d past s t k below waits = record {
  depth_is = k.depth_is;
  st = k.st;
  fre = k.fre;
  sact_is = k.sact_is ∙ sact_accept past t waits;
  ci_is = ap (λ b. cond b (without_place s.ci t) s.ci) done_40 ∙ ap (λ x. without_place x t) k.ci_is ∙ ci_accept past t below;
}

pub tracks_refuse : (d : ℕ) (past : List Entry) (s : PortState) (t error lba : ℕ) → Tracks d past s → is_busy (phase past t) ≡ true → Tracks d (Fail t error lba ∷ past) (refused s t)
tracks_refuse d past s t error lba k busy = record {
  depth_is = k.depth_is;
  st = k.st;
  fre = k.fre;
  sact_is = k.sact_is ∙ sact_fail past t error lba busy;
  ci_is = ap (λ b. cond b (without_place s.ci t) s.ci) not_done_41 ∙ k.ci_is ∙ ci_fail past t error lba busy;
}

pub tracks_complete : (d : ℕ) (past : List Entry) (s : PortState) (t : ℕ) → Tracks d past s → t < 32 → phase past t ≡ Accepted → Tracks d (Complete t ∷ past) (after_bits s 0x40 0 true (2 ^ t))
tracks_complete d past s t k below taken_in = record {
  depth_is = k.depth_is;
  st = k.st;
  fre = k.fre;
  sact_is = ap (minus s.sact) (bits_pow t below) ∙ minus-with_place s.sact t below ∙ ap (λ x. without_place x t) k.sact_is ∙ sact_complete past t below;
  ci_is = k.ci_is ∙ ci_complete past t taken_in;
}

-- a Set Device Bits FIS that names no tag leaves what the journal says of the registers
pub tracks_bits : (d : ℕ) (past : List Entry) (s : PortState) → Tracks d past s → Tracks d past (after_bits s 0x40 0 true 0)
tracks_bits d past s k = record { depth_is = k.depth_is; st = k.st; fre = k.fre; sact_is = ap (minus s.sact) bits_zero ∙ minus-no_places s.sact ∙ k.sact_is; ci_is = k.ci_is }

pub tracks_fail : (d : ℕ) (past : List Entry) (s : PortState) (t error lba : ℕ) → Tracks d past s → is_busy (phase past t) ≡ true → Tracks d (Fail t error lba ∷ past) (failed s error)
tracks_fail d past s t error lba k busy = record {
  depth_is = k.depth_is;
  st = k.st;
  fre = k.fre;
  sact_is = ap (minus s.sact) bits_zero ∙ minus-no_places s.sact ∙ k.sact_is ∙ sact_fail past t error lba busy;
  ci_is = k.ci_is ∙ ci_fail past t error lba busy;
}

pub tracks_collect : (d : ℕ) (past : List Entry) (s : PortState) (t : ℕ) → Tracks d past s → phase past t ≡ Done → Tracks d (Collect t ∷ past) s
tracks_collect d past s t k done = record {
  depth_is = k.depth_is;
  st = k.st;
  fre = k.fre;
  sact_is = k.sact_is ∙ sact_collect past t done;
  ci_is = k.ci_is ∙ ci_collect past t done;
}

-- PxCI bit 0 is set and cleared again: what a command of slot 0 leaves of a port with a free or held slot 0
slot_0 : (d : ℕ) (s : PortState) (commands : List Bool) → s.st ≡ true → s.depth ≡ d → 1 ≤ d → d ≤ 32 → s.ci ≡ commands
    → length commands ≡ 32 → has_place commands 0 ≡ false → without_place (after_write s 0x138 1).ci 0 ≡ commands
slot_0 d s commands st depth some few ci_is whole out =
    ap (λ x. without_place x.ci 0) (ci_after s 0 st
    ∙ ap (λ x. record s { ci = x }) (ap (λ n. union s.ci (only_below n (bits (2 ^ 0)))) depth ∙ gained d 0 s.ci (omega arith) few (ap length ci_is ∙ whole)))
    ∙ ap (λ x. without_place (with_place x 0) 0) ci_is ∙ back_again commands 0 out

-- no other field is changed by the write
kept : {T : Type 0} (field : PortState → T) → ((s : PortState) (commands : List Bool) → field (record s { ci = commands }) ≡ field s)
    → (s : PortState) → field (after_write s 0x138 1) ≡ field s
kept field apart s = ap field (write_ci s 1) ∙ by s.st
  where
    set : List Bool
    set = union s.ci (only_below s.depth (bits 1))

    by : (b : Bool) → field (taken s (cond b (Ok (record s { ci = set })) (Err NotStarted))) ≡ field s
    by true = apart s set
    by false = refl

-- a journal of which the registers are those before a command of slot 0 has them after it
tracks_answered : (d : ℕ) (past : List Entry) (s later : PortState) → Tracks d past s → 1 ≤ d → d ≤ 32 → has_place (ci past) 0 ≡ false
    → later.depth ≡ (after_write s 0x138 1).depth → later.st ≡ (after_write s 0x138 1).st → later.fre ≡ (after_write s 0x138 1).fre
    → later.sact ≡ (after_write s 0x138 1).sact → later.ci ≡ cond (is_done 0x40) (without_place (after_write s 0x138 1).ci 0) (after_write s 0x138 1).ci
    → Tracks d past later
tracks_answered d past s later k some few out depth st fre sact commands = record {
  depth_is = depth ∙ kept (λ x. x.depth) (λ x c. refl) s ∙ k.depth_is;
  st = st ∙ kept (λ x. x.st) (λ x c. refl) s ∙ k.st;
  fre = fre ∙ kept (λ x. x.fre) (λ x c. refl) s ∙ k.fre;
  sact_is = sact ∙ kept (λ x. x.sact) (λ x c. refl) s ∙ k.sact_is;
  ci_is = commands ∙ ap (λ b. cond b (without_place (after_write s 0x138 1).ci 0) (after_write s 0x138 1).ci) done_40
      ∙ slot_0 d s (ci past) k.st k.depth_is some few k.ci_is (length-places (λ u. in_ci (phase past u))) out;
}

pub tracks_pio : (d : ℕ) (past : List Entry) (s : PortState) → Tracks d past s → 1 ≤ d → d ≤ 32 → has_place (ci past) 0 ≡ false → Tracks d past (read_by_pio s)
tracks_pio d past s k some few out = tracks_answered d past s (read_by_pio s) k some few out refl refl refl refl refl

pub tracks_carried : (command : Plain) (d : ℕ) (past : List Entry) (s : PortState) → Tracks d past s → 1 ≤ d → d ≤ 32 → has_place (ci past) 0 ≡ false → Tracks d past (carried command s)
tracks_carried plain.Flush d past s k some few out = tracks_answered d past s (carried plain.Flush s) k some few out refl refl refl refl refl
tracks_carried plain.Identify d past s k some few out = tracks_pio d past s k some few out
tracks_carried plain.ReadLog d past s k some few out = tracks_pio d past s k some few out

-- ST and FRE in the words that stop and start the port
stopping : (has_place (bits 0x10) 0 ≡ false) × (has_place (bits 0x10) 4 ≡ true)
unfolding bits places
stopping = (refl, refl)

starting : (has_place (bits 0x11) 0 ≡ true) × (has_place (bits 0x11) 4 ≡ true)
unfolding bits places
starting = (refl, refl)

-- ST is cleared, and with it all commands
stopped_is : (s : PortState) → s.st ≡ true → after_write s 0x118 0x10 ≡ record s { st = false; fre = true; sact = no_places; ci = no_places }
stopped_is s st =
    write_command s 0x10
    ∙ ap (λ b. taken s (with_command s b (has_place (bits 0x10) 4))) stopping.0 ∙ ap (λ b. taken s (with_command s false b)) stopping.1
    ∙ by s.st ∙ ap (λ b. record s { st = false; fre = true; sact = remaining (b && not false) s.sact; ci = remaining (b && not false) s.ci }) st
  where
    by : (b : Bool) → taken s (cond (b && not true) (Err Running) (cond (not b && false && not (s.fre && true)) (Err NotReceiving) (Ok (commanded s false true)))) ≡ commanded s false true
    by true = refl
    by false = refl

-- ST is set on a port that receives FISes
started_is : (s : PortState) → s.st ≡ false → s.fre ≡ true → after_write s 0x118 0x11 ≡ record s { st = true; fre = true }
started_is s st fre =
    write_command s 0x11
    ∙ ap (λ b. taken s (with_command s b (has_place (bits 0x11) 4))) starting.0 ∙ ap (λ b. taken s (with_command s true b)) starting.1
    ∙ ap (λ b. taken s (cond (b && not true) (Err Running) (cond (not b && true && not (s.fre && true)) (Err NotReceiving) (Ok (commanded s true true))))) st
    ∙ ap (λ b. taken s (cond (not (b && true)) (Err NotReceiving) (Ok (commanded s true true)))) fre
    ∙ ap (λ b. record s { st = true; fre = true; sact = remaining (b && not true) s.sact; ci = remaining (b && not true) s.ci }) st

cleared_is : (s : PortState) → after_write (after_write s 0x130 0xffffffff) 0x110 0xffffffff ≡ record s { is = minus s.is (bits 0xffffffff) }
unfolding register_at
cleared_is s = refl

restarted_is : (s : PortState) → s.st ≡ true
    → after_write (after_write (after_write (after_write s 0x118 0x10) 0x130 0xffffffff) 0x110 0xffffffff) 0x118 0x11 ≡ record s {
      st =
          true;
      fre = true;
      sact = no_places;
      ci = no_places;
      is = minus s.is (bits 0xffffffff);
    }
restarted_is s st =
    ap (λ x. after_write (after_write (after_write x 0x130 0xffffffff) 0x110 0xffffffff) 0x118 0x11) (stopped_is s st)
    ∙ ap (λ x. after_write x 0x118 0x11) (cleared_is (record s { st = false; fre = true; sact = no_places; ci = no_places }))
    ∙ started_is (record s { st = false; fre = true; sact = no_places; ci = no_places; is = minus s.is (bits 0xffffffff) }) refl refl

pub tracks_recover : (d : ℕ) (past : List Entry) (s : PortState) (t : ℕ) → Tracks d past s → 1 ≤ d → d ≤ 32 → Tracks d (Recover t ∷ past) (recovered s)
tracks_recover d past s t k some few =
    subst (λ x. Tracks d (Recover t ∷ past) (read_by_pio x)) (sym (restarted_is s k.st))
    (tracks_pio d (Recover t ∷ past) (record s { st = true; fre = true; sact = no_places; ci = no_places; is = minus s.is (bits 0xffffffff) })
    (record { depth_is = k.depth_is; st = refl; fre = refl; sact_is = sact_recover past t; ci_is = ci_recover past t })
    some few (ap (λ x. has_place x 0) (sym (ci_recover past t)) ∙ has_place-no_places 0))

pub tracks_acknowledge : (d : ℕ) (past : List Entry) (s : PortState) (mask : ℕ) → Tracks d past s → Tracks d past (acknowledged s mask)
unfolding register_at
tracks_acknowledge d past s mask k = record { depth_is = k.depth_is; st = k.st; fre = k.fre; sact_is = k.sact_is; ci_is = k.ci_is }

-- a new port
pub tracks_new : (d : ℕ) → Tracks d [] (started d)
unfolding register_at bits no_places places
tracks_new d =
    subst (λ x. Tracks d [] (after_write x 0x118 0x11)) (sym (receiving (based d) refl))
    (subst (Tracks d []) (sym (started_is (record (based d) { st = false; fre = true }) refl refl))
    (record { depth_is = refl; st = refl; fre = refl; sact_is = sym (places_none (λ u. in_sact (phase [] u)) (λ u low. refl)); ci_is = sym (places_none (λ u. in_ci (phase [] u)) (λ u low. refl)) }))
  where
    based : ℕ → PortState
    based n = after_write (after_write (first_state n) 0x100 0x00010000) 0x108 0x00010400

    receiving : (s : PortState) → s.st ≡ false → after_write s 0x118 0x10 ≡ record s { st = false; fre = true }
    receiving s st = cc
