-- What holds of the slots once one has changed.
use Rattle.std.proofs.Common.{◌≡◌, ℕ, ◌+◌, ◌*◌, ◌/◌, ◌%◌, Bool, true, false, List, [], ◌∷◌, ◌++◌, length, Option, None, Some, ap, sym, ◌∙◌, arith, inl, inr, ◌⊎◌, cond, eqb, refl, subst}
use Rattle.std.proofs.lemmas.Bool.{cases_eq, cond-true, cond-false, eq-eqb, ne_eqb, eqb-true, or_cases, or_left, or_right, true≢false, false_from_ne_true}
use Rattle.std.proofs.lemmas.List.{length-replicate}
use Rattle.std.specs.Option.{is_some}
use Rattle.ncq_journal.specs.Image.{sector_at}
use Rattle.sector_store.specs.Layers.{Layers, page_or, page_now, page_bytes, kept_layers, dropped_layers, zero_page, IsSlotWritten}
use Rattle.sector_store.specs.Slots.{layers_of, HasGrown, IsEmpty, IsExchanged}
use Rattle.sector_store.proofs.ShownLemmas.{whole_now}
use Rattle.sector_store.specs.Shown.{sector_over, sector_now, sector_kept, is_held, is_touched, is_written, among, HasWholePages, AreTouched, ChangesAt, IsWrittenAt, ShowSame, IsPageOf}

pub length-zero_page : length zero_page ≡ 4096
unfolding zero_page
length-zero_page = length-replicate {A = ℕ} 4096 0

-- what one slot's change leaves as it is stays so at every number
pub changes-same : {X : Type 0} (F : Layers → X) (number : ℕ) (old new : ℕ → Option Layers) → ChangesAt number old new → F (layers_of (new number)) ≡ F (layers_of (old number))
    → (q : ℕ) → F (layers_of (new q)) ≡ F (layers_of (old q))
changes-same F number old new changes here q =
    elim (cases_eq q number) [
      | inl same ↦ ap (λ i. F (layers_of (new i))) same ∙ here ∙ sym (ap (λ i. F (layers_of (old i))) same)
      | inr other ↦ ap (λ o. F (layers_of o)) (changes.others q other)
    ]

-- a fact of every slot
pub changes-all : (P : Layers → Type 0) (number : ℕ) (old new : ℕ → Option Layers) → ChangesAt number old new → P (layers_of (new number)) → ((q : ℕ) → P (layers_of (old q)))
    → (q : ℕ) → P (layers_of (new q))
changes-all P number old new changes here all q =
    elim (cases_eq q number) [
      | inl same ↦ subst (λ i. P (layers_of (new i))) (sym same) here
      | inr other ↦ subst (λ o. P (layers_of o)) (sym (changes.others q other)) (all q)
    ]

-- a slot that was made still is
changes-made : (number : ℕ) (old new : ℕ → Option Layers) → ChangesAt number old new → (q : ℕ) → is_some (old q) ≡ true → is_some (new q) ≡ true
changes-made number old new changes q was =
    elim (cases_eq q number) [
      | inl same ↦ ap (λ i. is_some (new i)) same ∙ changes.made
      | inr other ↦ ap is_some (changes.others q other) ∙ was
    ]

-- what a slot has that was put there
pub exchanged_here : (number : ℕ) (layers : Layers) (old new : ℕ → Option Layers) → IsExchanged number layers old new → new number ≡ Some layers
exchanged_here number layers old new each = each number ∙ cond-true (eqb number number) (Some layers) (old number) (eq-eqb number number refl)

-- a slot was taken out and put back
pub exchanged_twice : (number : ℕ) (x y : Layers) (a b c : ℕ → Option Layers) → IsExchanged number x a b → IsExchanged number y b c → ChangesAt number a c
exchanged_twice number x y a b c first then = record {
  others = λ q other.
      then q ∙ cond-false (eqb q number) (Some y) (b q) (ne_eqb q number other) ∙ first q ∙ cond-false (eqb q number) (Some x) (a q) (ne_eqb q number other);
  made = ap is_some (exchanged_here number y b c then);
}

among_left : (xs : List ℕ) (y q : ℕ) → among xs q ≡ true → among (xs ++ y ∷ []) q ≡ true
among_left [] y q is = absurd (true≢false (sym is))
among_left (x ∷ xs) y q is =
    elim (or_cases (eqb x q) (among xs q) is) [
      | inl first ↦ or_left (eqb x q) (among (xs ++ y ∷ []) q) first
      | inr rest ↦ or_right (eqb x q) (among (xs ++ y ∷ []) q) (among_left xs y q rest)
    ]

among_last : (xs : List ℕ) (y q : ℕ) → y ≡ q → among (xs ++ y ∷ []) q ≡ true
among_last [] y q same = or_left (eqb y q) false (eq-eqb y q same)
among_last (x ∷ xs) y q same = or_right (eqb x q) (among (xs ++ y ∷ []) q) (among_last xs y q same)

among_cases : (xs : List ℕ) (y q : ℕ) → among (xs ++ y ∷ []) q ≡ true → (among xs q ≡ true) ⊎ (y ≡ q)
among_cases [] y q is =
    elim (or_cases (eqb y q) false is) [
      | inl here ↦ inr (eqb-true y q here)
      | inr none ↦ absurd (true≢false (sym none))
    ]
among_cases (x ∷ xs) y q is =
    elim (or_cases (eqb x q) (among (xs ++ y ∷ []) q) is) [
      | inl first ↦ inl (or_left (eqb x q) (among xs q) first)
      | inr rest ↦ elim (among_cases xs y q rest) [
        | inl before ↦ inl (or_right (eqb x q) (among xs q) before)
        | inr last ↦ inr last
      ]
    ]

-- a number is taken from the list, and its page from the upper layer
pub touched_less : (number : ℕ) (rest touched : List ℕ) (old new : ℕ → Option Layers) (lower : Option (List ℕ)) → touched ≡ rest ++ number ∷ [] → ChangesAt number old new
    → layers_of (new number) ≡ record { upper = None; lower = lower; held = false; touched = false } → AreTouched old touched → AreTouched new rest
touched_less number rest touched old new lower items changes is all = record {
  made = λ q there. changes-made number old new changes q (before.made q (among_left rest number q there));
  written = still (λ (l : Layers). is_some l.upper) (ap (λ (l : Layers). is_some l.upper) is) before.written;
  listed = still (λ (l : Layers). l.touched) (ap (λ (l : Layers). l.touched) is) before.listed;
}
  where
    before : AreTouched old (rest ++ number ∷ [])
    before = subst (AreTouched old) items all

    still : (F : Layers → Bool) → F (layers_of (new number)) ≡ false → ((q : ℕ) → F (layers_of (old q)) ≡ true → among (rest ++ number ∷ []) q ≡ true)
        → (q : ℕ) → F (layers_of (new q)) ≡ true → among rest q ≡ true
    still F gone all q is =
        elim (cases_eq q number) [
          | inl same ↦ absurd (true≢false (sym is ∙ ap (λ i. F (layers_of (new i))) same ∙ gone))
          | inr other ↦ elim (among_cases rest number q (all q (ap (λ o. F (layers_of o)) (sym (changes.others q other)) ∙ is))) [
            | inl left ↦ left
            | inr last ↦ absurd (other (sym last))
          ]
        ]

-- a number comes to the list, whose slot is made
pub touched_more : (number : ℕ) (touched : List ℕ) (old new : ℕ → Option Layers) → ChangesAt number old new → AreTouched old touched → AreTouched new (touched ++ number ∷ [])
touched_more number touched old new changes are = record {
  made = λ q is. elim (among_cases touched number q is) [
    | inl before ↦ changes-made number old new changes q (are.made q before)
    | inr last ↦ ap (λ i. is_some (new i)) (sym last) ∙ changes.made
  ];
  written = more (λ (l : Layers). is_some l.upper) are.written;
  listed = more (λ (l : Layers). l.touched) are.listed;
}
  where
    more : (F : Layers → Bool) → ((q : ℕ) → F (layers_of (old q)) ≡ true → among touched q ≡ true) → (q : ℕ) → F (layers_of (new q)) ≡ true
        → among (touched ++ number ∷ []) q ≡ true
    more F all q is =
        elim (cases_eq q number) [
          | inl same ↦ among_last touched number q (sym same)
          | inr other ↦ among_left touched number q (all q (ap (λ o. F (layers_of o)) (sym (changes.others q other)) ∙ is))
        ]

-- a slot has changed whose number is in the list
pub touched_changed : (number : ℕ) (touched : List ℕ) (old new : ℕ → Option Layers) → ChangesAt number old new → among touched number ≡ true → AreTouched old touched → AreTouched new touched
touched_changed number touched old new changes there are = record {
  made = λ q is. changes-made number old new changes q (are.made q is);
  written = still (λ (l : Layers). is_some l.upper) are.written;
  listed = still (λ (l : Layers). l.touched) are.listed;
}
  where
    still : (F : Layers → Bool) → ((q : ℕ) → F (layers_of (old q)) ≡ true → among touched q ≡ true) → (q : ℕ) → F (layers_of (new q)) ≡ true → among touched q ≡ true
    still F all q is =
        elim (cases_eq q number) [
          | inl same ↦ ap (among touched) same ∙ there
          | inr other ↦ all q (ap (λ o. F (layers_of o)) (sym (changes.others q other)) ∙ is)
        ]

pub touched_grown : (touched : List ℕ) (old new : ℕ → Option Layers) → HasGrown old new → AreTouched old touched → AreTouched new touched
touched_grown touched old new grown are = record {
  made = λ q is. grown.made q (are.made q is);
  written = λ q is. are.written q (ap (λ (l : Layers). is_some l.upper) (sym (grown.layers q)) ∙ is);
  listed = λ q is. are.listed q (ap (λ (l : Layers). l.touched) (sym (grown.layers q)) ∙ is);
}

-- every page is whole after one slot's change that leaves its pages whole
pub whole_changed : (number : ℕ) (old new : ℕ → Option Layers) → ChangesAt number old new → ((p : List ℕ) → (layers_of (new number)).upper ≡ Some p → length p ≡ 4096)
    → ((p : List ℕ) → (layers_of (new number)).lower ≡ Some p → length p ≡ 4096) → HasWholePages old → HasWholePages new
whole_changed number old new changes up low whole = record {
  upper = changes-all (λ (l : Layers). (p : List ℕ) → l.upper ≡ Some p → length p ≡ 4096) number old new changes up whole.upper;
  lower = changes-all (λ (l : Layers). (p : List ℕ) → l.lower ≡ Some p → length p ≡ 4096) number old new changes low whole.lower;
}

pub whole_grown : (old new : ℕ → Option Layers) → HasGrown old new → HasWholePages old → HasWholePages new
whole_grown old new grown whole = record {
  upper = λ q p is. whole.upper q p (ap (λ (l : Layers). l.upper) (sym (grown.layers q)) ∙ is);
  lower = λ q p is. whole.lower q p (ap (λ (l : Layers). l.lower) (sym (grown.layers q)) ∙ is);
}

-- a page that was kept shows the same
pub now_kept : (below : ℕ → List ℕ) (number : ℕ) (old new : ℕ → Option Layers) → ChangesAt number old new → layers_of (new number) ≡ kept_layers (layers_of (old number))
    → (s : ℕ) → sector_now below new s ≡ sector_now below old s
now_kept below number old new changes is s =
    ap (λ o. sector_over o (below s) s) (changes-same page_now number old new changes (ap page_now is) (s / 8))

-- a page that was dropped leaves what was kept
pub kept_dropped : (below : ℕ → List ℕ) (number : ℕ) (old new : ℕ → Option Layers) → ChangesAt number old new → (layers_of (new number)).lower ≡ (layers_of (old number)).lower
    → (s : ℕ) → sector_kept below new s ≡ sector_kept below old s
kept_dropped below number old new changes is s =
    ap (λ o. sector_over o (below s) s) (changes-same (λ (l : Layers). l.lower) number old new changes is (s / 8))

none_is : (u : Option (List ℕ)) → is_some u ≡ false → u ≡ None
none_is None h = refl
none_is (Some p) h = absurd (true≢false h)

-- a sector whose page isn't in the list is the one that was kept
pub untouched_same : (below : ℕ → List ℕ) (slots : ℕ → Option Layers) (touched : List ℕ) → AreTouched slots touched → (s : ℕ) → among touched (s / 8) ≡ false
    → sector_now below slots s ≡ sector_kept below slots s
untouched_same below slots touched are s apart =
    let free : is_written slots (s / 8) ≡ false = false_from_ne_true (is_written slots (s / 8)) (λ is. true≢false (sym (are.written (s / 8) is) ∙ apart)) in
    ap (λ u. sector_over (page_or u (layers_of (slots (s / 8))).lower) (below s) s) (none_is (layers_of (slots (s / 8))).upper free)

some_bytes : (u : Option (List ℕ)) → is_some u ≡ true → u ≡ Some (page_bytes u)
some_bytes None h = absurd (true≢false (sym h))
some_bytes (Some p) h = refl

-- one sector was written
pub written_at : (lba : ℕ) (sector : List ℕ) (old new : ℕ → Option Layers) → ChangesAt (lba / 8) old new
    → IsSlotWritten (lba % 8) sector (layers_of (old (lba / 8))) (layers_of (new (lba / 8))) → IsWrittenAt lba sector old new
written_at lba sector old new changes slot = record {
  now = λ below s. elim (cases_eq (s / 8) (lba / 8)) [
    | inl same ↦ here below s same
    | inr other ↦
        ap (λ o. sector_over (page_now (layers_of o)) (below s) s) (changes.others (s / 8) other)
        ∙ sym (cond-false (eqb s lba) sector (sector_now below old s) (ne_eqb s lba (λ e. other (ap (λ x. x / 8) e))))
  ];
  kept = λ below. kept_dropped below (lba / 8) old new changes slot.lower;
  stay = λ q is. elim (cases_eq q (lba / 8)) [
    | inl same ↦ ap (λ i. is_held new i) same ∙ slot.held
    | inr other ↦ ap (λ o. (layers_of o).held) (changes.others q other) ∙ is
  ];
}
  where
    shows : (slots : ℕ → Option Layers) → is_written slots (lba / 8) ≡ true → (below : ℕ → List ℕ) (s : ℕ) → s / 8 ≡ lba / 8
        → sector_now below slots s ≡ sector_at (page_bytes (layers_of (slots (lba / 8))).upper) (s % 8)
    shows slots is below s same =
        ap (λ i. sector_over (page_now (layers_of (slots i))) (below s) s) same
        ∙ ap (λ u. sector_over (page_or u (layers_of (slots (lba / 8))).lower) (below s) s) (some_bytes (layers_of (slots (lba / 8))).upper is)

    places : (page : List ℕ) (s : ℕ) → s / 8 ≡ lba / 8 → cond (eqb (s % 8) (lba % 8)) sector page ≡ cond (eqb s lba) sector page
    places page s same =
        elim (cases_eq (s % 8) (lba % 8)) [
          | inl place ↦
              let both : s ≡ lba = omega arith in
              cond-true (eqb (s % 8) (lba % 8)) sector page (eq-eqb (s % 8) (lba % 8) place) ∙ sym (cond-true (eqb s lba) sector page (eq-eqb s lba both))
          | inr differ ↦
              cond-false (eqb (s % 8) (lba % 8)) sector page (ne_eqb (s % 8) (lba % 8) differ)
              ∙ sym (cond-false (eqb s lba) sector page (ne_eqb s lba (λ e. differ (ap (λ x. x % 8) e))))
        ]

    here : (below : ℕ → List ℕ) (s : ℕ) → s / 8 ≡ lba / 8 → sector_now below new s ≡ cond (eqb s lba) sector (sector_now below old s)
    here below s same =
        let page = sector_at (page_bytes (layers_of (old (lba / 8))).upper) (s % 8) in
        shows new slot.some below s same
        ∙ slot.page (s % 8)
        ∙ places page s same
        ∙ ap (cond (eqb s lba) sector) (sym (shows old slot.was below s same))

pub shows_grown : (below : ℕ → List ℕ) (old new : ℕ → Option Layers) → HasGrown old new → ShowSame below old new
shows_grown below old new grown = record {
  now = λ s. ap (λ (l : Layers). sector_over (page_now l) (below s) s) (grown.layers (s / 8));
  kept = λ s. ap (λ (l : Layers). sector_over l.lower (below s) s) (grown.layers (s / 8));
  stay = λ q is. ap (λ (l : Layers). l.held) (grown.layers q) ∙ is;
  listed = λ q is. ap (λ (l : Layers). l.touched) (grown.layers q) ∙ is;
}

pub shows_on : (below : ℕ → List ℕ) (a b c : ℕ → Option Layers) → ShowSame below a b → ShowSame below b c → ShowSame below a c
shows_on below a b c first then = record {
  now = λ s. then.now s ∙ first.now s;
  kept = λ s. then.kept s ∙ first.kept s;
  stay = λ q is. then.stay q (first.stay q is);
  listed = λ q is. then.listed q (first.listed q is);
}

-- a slot says that its number is in the list
pub shows_touched : (below : ℕ → List ℕ) (number : ℕ) (old new : ℕ → Option Layers) → ChangesAt number old new → layers_of (new number) ≡ record (layers_of (old number)) { touched = true }
    → ShowSame below old new
shows_touched below number old new changes is = record {
  now = λ s. ap (λ o. sector_over o (below s) s) (changes-same page_now number old new changes (ap page_now is) (s / 8));
  kept = kept_dropped below number old new changes (ap (λ (l : Layers). l.lower) is);
  stay = λ q was. changes-same (λ (l : Layers). l.held) number old new changes (ap (λ (l : Layers). l.held) is) q ∙ was;
  listed = λ q was. elim (cases_eq q number) [
    | inl same ↦ ap (λ i. is_touched new i) same ∙ ap (λ (l : Layers). l.touched) is
    | inr other ↦ ap (λ o. (layers_of o).touched) (changes.others q other) ∙ was
  ];
}

-- the list is the same once a page is zeros
pub touched_zeroed : (number : ℕ) (old new : ℕ → Option Layers) → ChangesAt number old new → is_touched old number ≡ true
    → layers_of (new number) ≡ record (layers_of (old number)) { upper = Some zero_page; held = false; touched = true } → (q : ℕ) → is_touched new q ≡ is_touched old q
touched_zeroed number old new changes was is = changes-same (λ (l : Layers). l.touched) number old new changes (ap (λ (l : Layers). l.touched) is ∙ sym was)

-- a page was put over one that shows the same
pub shows_put : (below : ℕ → List ℕ) (number : ℕ) (page : List ℕ) (old new : ℕ → Option Layers) → ChangesAt number old new
    → layers_of (new number) ≡ record (layers_of (old number)) { upper = Some page; held = true; touched = true } → IsPageOf (sector_now below old) number page → ShowSame below old new
shows_put below number page old new changes is eight = record {
  now = λ s. elim (cases_eq (s / 8) number) [
    | inl same ↦ here s same
    | inr other ↦ ap (λ o. sector_over (page_now (layers_of o)) (below s) s) (changes.others (s / 8) other)
  ];
  kept = kept_dropped below number old new changes (ap (λ (l : Layers). l.lower) is);
  stay = λ q was. elim (cases_eq q number) [
    | inl same ↦ ap (λ i. is_held new i) same ∙ ap (λ (l : Layers). l.held) is
    | inr other ↦ ap (λ o. (layers_of o).held) (changes.others q other) ∙ was
  ];
  listed = λ q was. elim (cases_eq q number) [
    | inl same ↦ ap (λ i. is_touched new i) same ∙ ap (λ (l : Layers). l.touched) is
    | inr other ↦ ap (λ o. (layers_of o).touched) (changes.others q other) ∙ was
  ];
}
  where
    here : (s : ℕ) → s / 8 ≡ number → sector_now below new s ≡ sector_now below old s
    here s same =
        let number_of : 8 * number + s % 8 ≡ s = omega arith in
        ap (λ i. sector_over (page_now (layers_of (new i))) (below s) s) same
        ∙ ap (λ (l : Layers). sector_over (page_now l) (below s) s) is
        ∙ eight (s % 8) (omega arith)
        ∙ ap (sector_now below old) number_of

pub now_empty : (below : ℕ → List ℕ) (slots : ℕ → Option Layers) → IsEmpty slots → (s : ℕ) → sector_now below slots s ≡ below s
now_empty below slots empty s = ap (λ (l : Layers). sector_over (page_now l) (below s) s) (empty (s / 8))

pub kept_empty : (below : ℕ → List ℕ) (slots : ℕ → Option Layers) → IsEmpty slots → (s : ℕ) → sector_kept below slots s ≡ below s
kept_empty below slots empty s = ap (λ (l : Layers). sector_over l.lower (below s) s) (empty (s / 8))

-- every page is whole once one was put
pub whole_put : (number : ℕ) (page : List ℕ) (old new : ℕ → Option Layers) → ChangesAt number old new → layers_of (new number) ≡ record (layers_of (old number)) { upper = Some page; held = true; touched = true }
    → length page ≡ 4096 → HasWholePages old → HasWholePages new
whole_put number page old new changes is len whole =
    whole_changed number old new changes (λ p there. up p there) (λ p there. whole.lower number p (ap (λ (l : Layers). l.lower) (sym is) ∙ there)) whole
  where
    up : (p : List ℕ) → (layers_of (new number)).upper ≡ Some p → length p ≡ 4096
    up p there = sym (ap (λ u. length (page_bytes u)) (ap (λ (l : Layers). l.upper) (sym is) ∙ there)) ∙ len

-- every page is whole once one is zeros
pub whole_zeroed : (number : ℕ) (old new : ℕ → Option Layers) → ChangesAt number old new → layers_of (new number) ≡ record (layers_of (old number)) { upper = Some zero_page; held = false; touched = true }
    → HasWholePages old → HasWholePages new
whole_zeroed number old new changes is whole =
    whole_changed number old new changes (λ p there. up p there) (λ p there. whole.lower number p (ap (λ (l : Layers). l.lower) (sym is) ∙ there)) whole
  where
    up : (p : List ℕ) → (layers_of (new number)).upper ≡ Some p → length p ≡ 4096
    up p there = sym (ap (λ u. length (page_bytes u)) (ap (λ (l : Layers). l.upper) (sym is) ∙ there)) ∙ length-zero_page

-- every page is whole once its slot says that its number is in the list
pub whole_touched : (number : ℕ) (old new : ℕ → Option Layers) → ChangesAt number old new → layers_of (new number) ≡ record (layers_of (old number)) { touched = true }
    → HasWholePages old → HasWholePages new
whole_touched number old new changes is whole =
    whole_changed number old new changes (λ p there. whole.upper number p (ap (λ (l : Layers). l.upper) (sym is) ∙ there))
    (λ p there. whole.lower number p (ap (λ (l : Layers). l.lower) (sym is) ∙ there)) whole

-- every page is whole once one was kept, or dropped
pub whole_kept : (number : ℕ) (old new : ℕ → Option Layers) → ChangesAt number old new → layers_of (new number) ≡ kept_layers (layers_of (old number)) → HasWholePages old → HasWholePages new
whole_kept number old new changes is whole =
    whole_changed number old new changes (λ p there. absurd (no_page p (ap (λ (l : Layers). l.upper) (sym is) ∙ there)))
    (λ p there. whole_now old whole number p (ap (λ (l : Layers). l.lower) (sym is) ∙ there)) whole
  where
    no_page : (p : List ℕ) → None ≡ Some p → ⊥
    no_page p there = cc

pub whole_dropped : (number : ℕ) (old new : ℕ → Option Layers) → ChangesAt number old new → layers_of (new number) ≡ dropped_layers (layers_of (old number)) → HasWholePages old → HasWholePages new
whole_dropped number old new changes is whole =
    whole_changed number old new changes (λ p there. absurd (no_page p (ap (λ (l : Layers). l.upper) (sym is) ∙ there)))
    (λ p there. whole.lower number p (ap (λ (l : Layers). l.lower) (sym is) ∙ there)) whole
  where
    no_page : (p : List ℕ) → None ≡ Some p → ⊥
    no_page p there = cc

-- the last number of the list has a slot
pub last_made : (number : ℕ) (rest touched : List ℕ) (slots : ℕ → Option Layers) → touched ≡ rest ++ number ∷ [] → AreTouched slots touched → is_some (slots number) ≡ true
last_made number rest touched slots is are = are.made number (ap (λ xs. among xs number) is ∙ among_last rest number number refl)
