-- Receipts in the code's list and in the contract's, and the numbers of what was issued.
use Rattle.std.proofs.Common.{◌≡◌, ℕ, ◌<◌, ◌≤◌, Bool, false, ◌||◌, ◌+◌, ◌-◌, ◌++◌, List, [], ◌∷◌, set, replicate, get_or-set_same, get_or-set_other, length-set, is_some}
use Rattle.std.proofs.Common.{IsSomeAnd, length, map, take, get_or, nat_eq, below_more, ap, sym, refl, subst, ◌∙◌, Option, None, Some, IsSome, arith, inl, inr}
use Rattle.std.specs.List.{slice_get}
use Rattle.std.specs.Prelude.{◌↔◌, IsTrue, Result, Ok, Err, IfErr, IsErrAnd}
use Rattle.std.proofs.lemmas.List.{length-map}
use Rattle.std.specs.Option.{option_and_then, option_map}
use Rattle.std.proofs.lemmas.Bool.{cases_lt, cases_eq, eq-eqb, ne_eqb, or_left, or_right}
use Rattle.word_bits.proofs.PlacesLemmas.{or_false}
use Rattle.std.proofs.lemmas.List.Folds.{list_any-append}
use Rattle.std.proofs.lemmas.List.{get_or-replicate, length-replicate, take_more}
use Rattle.ncq_journal.specs.Answer.{Answer, answer}
use Rattle.ncq_journal.specs.Claims.{AreJudged, Holds}
use Rattle.std.proofs.lemmas.Option.{same_Some, slice_get-map, slice_get_read, slice_get_within, get_or_from_slice_get}
use Rattle.ncq_journal.specs.declared.op.Op.{Op}
use Rattle.ncq_journal.specs.Work.{Work, work_of}
use Rattle.ncq_journal.specs.Numbering.{answer_numbered, number_of}
use Rattle.ncq_journal.proofs.NumberLemmas.{none_below_first, none_from_end, place_from}
use Rattle.ahci_port.specs.PortView.{PortView}
use Rattle.ahci_driver.specs.declared.receipt.Receipt.{Receipt}
use Rattle.ahci_driver.specs.Received.{Received, received_of, is_named}
use Rattle.ahci_driver.specs.Settled.{AllRight, AreClaimed, AreFit, Fits, IsFit, IsOfJob, IsRight, IsUnsettled, answered_as, claim_of, issued_as, work_in}
use Rattle.ahci_driver.specs.declared.fault.SettleFault.{SettleFault}
use Rattle.ahci_driver.specs.declared.fault.SettleFault.TheVariants.{OutOfMemory}

-- what was issued has a number from the journal's first to its end
pub issued_from : (port : PortView) (n : ℕ) → IsSome (issued_as port n) → port.first ≤ n
issued_from port n h =
    elim (cases_lt n port.first) [
      | inl low ↦ absurd (let none : IsSome (work_in None) = subst (λ e. IsSome (work_in e)) (none_below_first port.first n port.past low) h in cc)
      | inr high ↦ high
    ]

pub issued_within : (port : PortView) (n : ℕ) → IsSome (issued_as port n) → n < number_of port.first (length port.past)
issued_within port n h =
    elim (cases_lt n (number_of port.first (length port.past))) [
      | inl low ↦ low
      | inr high ↦ absurd (let none : IsSome (work_in None) = subst (λ e. IsSome (work_in e)) (none_from_end port.first n port.past high) h in cc)
    ]

-- what the code finds at an index
pub mapped : {X Y : Type 0} (f : X → Y) (xs : List X) (i : ℕ) (x : X) → i < length xs → x ≡ get_or xs i x → slice_get (map f xs) i ≡ Some (f x)
mapped f xs i x low e = slice_get-map f xs i ∙ ap (option_map f) (slice_get_read xs (length xs) i x refl low e)

-- as many receipts as jobs
pub counted : {A B : _} (receipts : List (Receipt A)) (jobs : List (Op B)) → length receipts ≡ length jobs → length (map received_of receipts) ≡ length (map work_of jobs)
counted receipts jobs e = length-map receipts received_of ∙ e ∙ sym (length-map jobs work_of)

pub counted_back : {A B : _} (receipts : List (Receipt A)) (jobs : List (Op B)) → length (map received_of receipts) ≡ length (map work_of jobs) → length receipts ≡ length jobs
counted_back receipts jobs e = sym (length-map receipts received_of) ∙ e ∙ length-map jobs work_of

-- memory was wanted once the receipts were counted
pub lacking : {T : Type 0} (port : PortView) (jobs : List Work) (receipts : List Received) (workers : ℕ) (x : Result T SettleFault) → IsErrAnd x (λ fault. fault ≡ OutOfMemory)
    → length receipts ≡ length jobs → IfErr x (IsUnsettled port jobs receipts workers)
lacking port jobs receipts workers (Ok done) is e = tt
lacking port jobs receipts workers (Err fault) is e = subst (IsUnsettled port jobs receipts workers) (sym is) e

-- the receipts of all jobs
pub all_right : {B : _} (port : PortView) (jobs : List (Op B)) (receipts : List Received) (workers n : ℕ) → length jobs ≤ n
    → AllRight port (map work_of jobs) receipts workers n → AllRight port (map work_of jobs) receipts workers (length (map work_of jobs))
all_right port jobs receipts workers n h each i low = each i (let l = length-map jobs work_of in omega arith)

-- before the first receipt nothing is claimed
pub claimed_none : (receipts : List Received) (first n : ℕ) → AreClaimed receipts first n 0 (replicate n None)
claimed_none receipts first n = record {
  count = length-replicate n None;
  named = λ k low. ap is_some (get_or-replicate n k None None low);
  each = λ j low. absurd (let none : ⊥ = omega arith in none);
}

-- before the first receipt all fit
pub none_fit : (port : PortView) (jobs : List Work) (receipts : List Received) (workers n : ℕ) (claims : List (Option Answer)) → n ≡ length port.past
    → claims ≡ replicate n None → AreFit port jobs receipts workers 0 claims
none_fit port jobs receipts workers n claims same none = record {
  within = omega arith;
  fit = λ i low. absurd (let none : ⊥ = omega arith in none);
  claimed = subst (AreClaimed receipts port.first (length port.past) 0) (sym (none ∙ ap (λ k. replicate k None) same)) (claimed_none receipts port.first (length port.past));
}

-- whether a request was claimed, as the code reads it at the place of its number
pub read_claim : (receipts : List Received) (first n i number start : ℕ) (claims : List (Option Answer)) (x : Option Answer) → AreClaimed receipts first n i claims
    → first ≤ number → number < number_of first n → start ≡ first → x ≡ get_or claims (number - start) x → is_named (take i receipts) number ≡ is_some x
read_claim receipts first n i number start claims x h low high same e =
    let inside : number - start < n = omega arith in
    let place : number ≡ number_of first (number - start) = omega arith in
    ap (is_named (take i receipts)) place ∙ sym (h.named (number - start) inside)
    ∙ ap is_some (get_or_from_slice_get claims (number - start) x None (slice_get_read claims n (number - start) x (sym h.count) inside e))

-- one receipt more, of whose request nothing was claimed
pub claimed_more : (receipts : List Received) (first n i place : ℕ) (claims : List (Option Answer)) (r : Received) → slice_get receipts i ≡ Some r
    → r.number ≡ number_of first place → place < n → is_named (take i receipts) r.number ≡ false → AreClaimed receipts first n i claims
    → AreClaimed receipts first n (i + 1) (set claims place (Some (claim_of first r)))
claimed_more receipts first n i place claims r here is low fresh h = record { count = length-set claims place claim ∙ h.count; named = named; each = each }
  where
    claim : Option Answer
    claim = Some (claim_of first r)

    free : is_some (get_or claims place None) ≡ false
    free = h.named place low ∙ ap (is_named (take i receipts)) (sym is) ∙ fresh

    more : (k : ℕ) → is_named (take (i + 1) receipts) k ≡ (is_named (take i receipts) k || (nat_eq r.number k || false))
    more k =
        ap (λ rs. is_named rs k) (take_more receipts i r (slice_get_within receipts i r here) ∙ ap (λ x. take i receipts ++ x ∷ []) (get_or_from_slice_get receipts i r r here))
        ∙ list_any-append (λ x. nat_eq x.number k) (take i receipts) (r ∷ [])

    named : (k : ℕ) → k < n → is_some (get_or (set claims place claim) k None) ≡ is_named (take (i + 1) receipts) (number_of first k)
    named k inside =
        let number = number_of first k in
        elim (cases_eq k place) [
          | inl same ↦
              ap (λ x. is_some (get_or (set claims place claim) x None)) same
              ∙ ap is_some (get_or-set_same claims place claim None (let c = h.count in omega arith))
              ∙ sym (more number ∙ or_right (is_named (take i receipts) number) (nat_eq r.number number || false) (or_left (nat_eq r.number number) false (eq-eqb r.number number (omega arith))))
          | inr other ↦
              ap is_some (get_or-set_other claims place k claim None other) ∙ h.named k inside
              ∙ sym (more number ∙ ap (λ b. is_named (take i receipts) number || (b || false)) (ne_eqb r.number number (λ e. other (omega arith))) ∙ or_false (is_named (take i receipts) number))
        ]

    kept : (o : Option Received) → IsSomeAnd o (λ q. get_or claims (q.number - first) None ≡ Some (claim_of first q))
        → IsSomeAnd o (λ q. get_or (set claims place claim) (q.number - first) None ≡ Some (claim_of first q))
    kept None x = absurd x
    kept (Some q) x =
        elim (cases_eq (q.number - first) place) [
          | inl same ↦ absurd (let both : is_some (Some (claim_of first q)) ≡ false = ap is_some (sym x ∙ ap (λ k. get_or claims k None) same) ∙ free in cc)
          | inr other ↦ get_or-set_other claims place (q.number - first) claim None other ∙ x
        ]

    each : (j : ℕ) → j < i + 1 → IsSomeAnd (slice_get receipts j) (λ q. get_or (set claims place claim) (q.number - first) None ≡ Some (claim_of first q))
    each j inside =
        elim (cases_eq j i) [
          | inl same ↦
              subst (λ o. IsSomeAnd o (λ q. get_or (set claims place claim) (q.number - first) None ≡ Some (claim_of first q)))
              (sym (ap (slice_get receipts) same ∙ here))
              (ap (λ k. get_or (set claims place claim) k None) (omega arith) ∙ get_or-set_same claims place claim None (let c = h.count in omega arith))
          | inr other ↦ kept (slice_get receipts j) (h.each j (omega arith))
        ]

-- the answer of a number from the first on
answered_at : (port : PortView) (n : ℕ) → port.first ≤ n → answered_as port n ≡ option_map (answer_numbered port.first) (answer port.starting port.past (n - port.first))
answered_at port n low =
    ap (λ p. option_map (answer_numbered port.first) (option_and_then (answer port.starting port.past) p)) (place_from port.first n (n - port.first) (omega arith))

-- the answer is the receipt's exactly where it is what the receipt claims
answer_claimed : (first : ℕ) (r : Received) (a : Option Answer) → first ≤ r.answer.entry
    → (a ≡ Some (claim_of first r)) ↔ (option_map (answer_numbered first) a ≡ Some r.answer)
answer_claimed first r None low = (λ e. absurd (cc), λ e. absurd (cc))
answer_claimed first r (Some x) low = (
  λ e. ap (option_map (answer_numbered first)) e ∙ ap (λ n. Some (record { entry = n; outcome = r.answer.outcome; bytes = r.answer.bytes })) (omega arith),
  λ e. ap (λ n. Some (record { entry = n; outcome = x.outcome; bytes = x.bytes })) (omega arith)
      ∙ ap (λ y. Some (record { entry = y.entry - first; outcome = y.outcome; bytes = y.bytes })) (same_Some (answer_numbered first x) r.answer e),
)

-- an answer's entry is one of the journal's numbers
answer_from : (first : ℕ) (a : Option Answer) (answer : Answer) → option_map (answer_numbered first) a ≡ Some answer → first ≤ answer.entry
answer_from first None answer e = absurd (cc)
answer_from first (Some x) answer e = let at : first + x.entry ≡ answer.entry = ap (λ y. y.entry) (same_Some (answer_numbered first x) answer e) in omega arith

-- a receipt that is its job's may be it
may_be : (port : PortView) (receipts : List Received) (workers i : ℕ) (work : Work) (r : Received) → IsOfJob port receipts workers i work r → IsFit port receipts workers i work r
may_be port receipts workers i work r j = record {
  issued = j.issued;
  fresh = j.fresh;
  in_turn = j.in_turn;
  from = answer_from port.first (answer port.starting port.past (r.number - port.first)) r.answer
      (sym (answered_at port r.number (issued_from port r.number (ap is_some j.issued))) ∙ j.answered);
}

pub right_fits : (port : PortView) (jobs : List Work) (receipts : List Received) (workers i : ℕ) → IsRight port jobs receipts workers i → Fits port jobs receipts workers i
right_fits port jobs receipts workers i h = by (slice_get jobs i) (slice_get receipts i) h
  where
    by : (w : Option Work) (o : Option Received) → IsSomeAnd w (λ work. IsSomeAnd o (IsOfJob port receipts workers i work)) → IsSomeAnd w (λ work. IsSomeAnd o (IsFit port receipts workers i work))
    by None o x = absurd x
    by (Some work) None x = absurd x
    by (Some work) (Some r) x = may_be port receipts workers i work r x

-- a receipt that may be its job's is it exactly where what it claims holds
by_claim : (port : PortView) (receipts : List Received) (workers i : ℕ) (work : Work) (r : Received) (claims : List (Option Answer)) (holding : List Bool)
    → AreJudged port.starting port.past claims holding → IsFit port receipts workers i work r → get_or claims (r.number - port.first) None ≡ Some (claim_of port.first r)
    → IsTrue (get_or holding (r.number - port.first) false) ↔ IsOfJob port receipts workers i work r
by_claim port receipts workers i work r claims holding judged f claim = (
  λ t. record { issued = f.issued; fresh = f.fresh; in_turn = f.in_turn; answered = at ∙ same.0 (held.0 t) },
  λ j. held.1 (same.1 (sym at ∙ j.answered)),
)
  where
    from : port.first ≤ r.number
    from = issued_from port r.number (ap is_some f.issued)

    at : answered_as port r.number ≡ option_map (answer_numbered port.first) (answer port.starting port.past (r.number - port.first))
    at = answered_at port r.number from

    same : (answer port.starting port.past (r.number - port.first) ≡ Some (claim_of port.first r))
        ↔ (option_map (answer_numbered port.first) (answer port.starting port.past (r.number - port.first)) ≡ Some r.answer)
    same = answer_claimed port.first r (answer port.starting port.past (r.number - port.first)) f.from

    held : IsTrue (get_or holding (r.number - port.first) false) ↔ (answer port.starting port.past (r.number - port.first) ≡ Some (claim_of port.first r))
    held = subst (λ c. IsTrue (get_or holding (r.number - port.first) false) ↔ Holds c (answer port.starting port.past (r.number - port.first))) claim
        (judged.each (r.number - port.first) (let within = issued_within port r.number (ap is_some f.issued) in let low = from in omega arith))

pub right_by_claim : (port : PortView) (jobs : List Work) (receipts : List Received) (workers i : ℕ) (r : Received) (claims : List (Option Answer)) (holding : List Bool)
    → AreJudged port.starting port.past claims holding → Fits port jobs receipts workers i → slice_get receipts i ≡ Some r
    → IsSomeAnd (slice_get receipts i) (λ q. get_or claims (q.number - port.first) None ≡ Some (claim_of port.first q))
    → IsTrue (get_or holding (r.number - port.first) false) ↔ IsRight port jobs receipts workers i
right_by_claim port jobs receipts workers i r claims holding judged f here claim = by (slice_get jobs i) f
  where
    by : (w : Option Work) → IsSomeAnd w (λ work. IsSomeAnd (slice_get receipts i) (IsFit port receipts workers i work))
        → IsTrue (get_or holding (r.number - port.first) false) ↔ IsSomeAnd w (λ work. IsSomeAnd (slice_get receipts i) (IsOfJob port receipts workers i work))
    by None x = absurd x
    by (Some work) x =
        subst (λ o. IsTrue (get_or holding (r.number - port.first) false) ↔ IsSomeAnd o (IsOfJob port receipts workers i work)) (sym here)
        (by_claim port receipts workers i work r claims holding judged (subst (λ o. IsSomeAnd o (IsFit port receipts workers i work)) here x)
        (subst (λ o. IsSomeAnd o (λ q. get_or claims (q.number - port.first) None ≡ Some (claim_of port.first q))) here claim))

-- a receipt that may be its job's has a number of the journal, and its entry has one
pub record IsWithin (port : PortView) (receipts : List Received) (i : ℕ) (r : Received) : Type 0 where
  pub low : port.first ≤ r.number
  pub high : r.number < number_of port.first (length port.past)
  pub fresh : is_named (take i receipts) r.number ≡ false
  pub entry : port.first ≤ r.answer.entry

pub fit_within : (port : PortView) (jobs : List Work) (receipts : List Received) (workers i : ℕ) (r : Received)
    → Fits port jobs receipts workers i → slice_get receipts i ≡ Some r → IsWithin port receipts i r
fit_within port jobs receipts workers i r h here = by (slice_get jobs i) h
  where
    by : (o : Option Work) → IsSomeAnd o (λ work. IsSomeAnd (slice_get receipts i) (IsFit port receipts workers i work)) → IsWithin port receipts i r
    by None x = absurd x
    by (Some work) x =
        let f : IsFit port receipts workers i work r = subst (λ o. IsSomeAnd o (IsFit port receipts workers i work)) here x in
        record {
          low = issued_from port r.number (ap is_some f.issued);
          high = issued_within port r.number (ap is_some f.issued);
          fresh = f.fresh;
          entry = f.from;
        }

-- of no more jobs than there are
pub fit_count : {B : _} (jobs : List (Op B)) (n : ℕ) → n ≤ length (map work_of jobs) → n ≤ length jobs
fit_count jobs n h = let l = length-map jobs work_of in omega arith

-- a receipt below the first that doesn't fit is right exactly where the journal bears it out
pub held_right : (port : PortView) (jobs : List Work) (receipts : List Received) (workers n i first : ℕ) (r : Received) (claims : List (Option Answer)) (holding : List Bool) (b : Bool)
    → AreFit port jobs receipts workers n claims → AreJudged port.starting port.past claims holding → i < n → slice_get receipts i ≡ Some r → first ≡ port.first
    → b ≡ get_or holding (r.number - first) false → IsTrue b ↔ IsRight port jobs receipts workers i
held_right port jobs receipts workers n i first r claims holding b fit judged low here is e =
    subst (λ x. IsTrue x ↔ IsRight port jobs receipts workers i) (sym (e ∙ ap (λ k. get_or holding (r.number - k) false) is))
    (right_by_claim port jobs receipts workers i r claims holding judged (fit.fit i low) here (fit.claimed.each i low))

-- where all receipts are right, all fit, so all claims are noted
pub all_claimed : {A B : _} (port : PortView) (jobs : List (Op B)) (receipts : List (Receipt A)) (workers n : ℕ) (claims : List (Option Answer)) → length receipts ≡ length jobs
    → AreFit port (map work_of jobs) (map received_of receipts) workers n claims → (n < length jobs → ¬ (Fits port (map work_of jobs) (map received_of receipts) workers n))
    → AllRight port (map work_of jobs) (map received_of receipts) workers (length (map work_of jobs))
    → AreClaimed (map received_of receipts) port.first (length port.past) (length receipts) claims
all_claimed port jobs receipts workers n claims same fit end right = elim (cases_lt n (length jobs)) [
  | inl less ↦
      absurd (end less (right_fits port (map work_of jobs) (map received_of receipts) workers n (right n (let l = length-map jobs work_of in omega arith))))
  | inr all ↦
      subst (λ k. AreClaimed (map received_of receipts) port.first (length port.past) k claims)
      (let within = fit_count jobs n fit.within in let whole : n ≡ length receipts = omega arith in whole) fit.claimed
]

-- one receipt more that fits
pub fit_more : (port : PortView) (jobs : List Work) (receipts : List Received) (workers i first : ℕ) (r : Received) (claims : List (Option Answer)) → i < length jobs
    → slice_get receipts i ≡ Some r → first ≡ port.first → Fits port jobs receipts workers i → AreFit port jobs receipts workers i claims
    → AreFit port jobs receipts workers (i + 1) (set claims (r.number - first) (Some (claim_of first r)))
fit_more port jobs receipts workers i first r claims low here is f h =
    let within = fit_within port jobs receipts workers i r f here in
    let least = within.low in
    let most = within.high in
    subst (λ k. AreFit port jobs receipts workers (i + 1) (set claims (r.number - k) (Some (claim_of k r)))) (sym is)
    (record {
      within = omega arith;
      fit = below_more _ _ h.fit f;
      claimed = claimed_more receipts port.first (length port.past) i (r.number - port.first) claims r here (omega arith) (omega arith) within.fresh h.claimed;
    })
