-- Lemmas on the tags that an order names one after the other.
use Rattle.std.proofs.Common.{◌≡◌, ◌≢◌, ℕ, zero, suc, ◌+◌, ◌<◌, ◌≤◌, min, Bool, true, false, not, List, [], ◌∷◌, ◌++◌, length, get_or, sym, ◌∙◌, refl, ap, subst, ⊎_elim, append_assoc, arith}
use Rattle.std.specs.List.{All, AllPairs, position_or_len}
use Rattle.std.proofs.lemmas.List.Sums.{prefix_len_is}
use Rattle.std.proofs.lemmas.Bool.{both_ways, cases_eq}
use Rattle.std.proofs.lemmas.List.Elements.{All-nil, All-cons, All-weaker}
use Rattle.word_bits.specs.Places.{bits, has_place, no_places, without_place}
use Rattle.word_bits.proofs.PlacesLemmas.{has_place-no_places, has_place-without_same, has_place-without_other}
use Rattle.word_bits.proofs.BitsLemmas.{length-bits}
use Rattle.device_choice.specs.Orders.{count_in, Names}
use Rattle.device_choice.specs.Turns.{AreNamed}
use Rattle.device_choice.specs.declared.order.Order.{Order}
use Rattle.device_choice.proofs.OrdersLemmas.{count_in-bits, count_in_none, names-here, names_one}

-- what is named of the tags that are left follows the tags that were named of all
pub record GoesOn (order : Order) (draws : List ℕ) (most at : ℕ) (s left : List Bool) (tags : List ℕ) : Type 0 where
  pub goes_on : (more : List ℕ) → AreNamed order draws most at left more → AreNamed order draws most 0 s (tags ++ more)

pub begins : (order : Order) (draws : List ℕ) (most : ℕ) (s : List Bool) (tags : List ℕ) → tags ≡ [] → GoesOn order draws most 0 s s tags
begins order draws most s tags none = record {
  goes_on = λ more m. let P : List ℕ → Type 0 = λ l. AreNamed order draws most 0 s (l ++ more) in subst P (sym none) m;
}

-- one tag more
pub goes_further : (order : Order) (draws : List ℕ) (most at : ℕ) (s left : List Bool) (tags : List ℕ) (tag : ℕ) (next : List Bool) (longer : List ℕ) → GoesOn order draws most at s left tags → at < most → Names order (get_or draws at 0) left tag → next ≡ without_place left tag → longer ≡ tags ++ tag ∷ [] → GoesOn order draws most (at + 1) s next longer
goes_further order draws most at s left tags tag next longer g room named less more_tags = record {
  goes_on = λ more m.
      let P : List Bool → Type 0 = λ l. AreNamed order draws most (at + 1) l more in
      let Q : List ℕ → Type 0 = λ l. AreNamed order draws most 0 s l in
      subst Q (sym (ap (λ l. l ++ more) more_tags ∙ append_assoc tags (tag ∷ []) more)) (g.goes_on (tag ∷ more) (room, named, subst P less m));
}

-- none is left, or there are as many as there may be
pub ends : (order : Order) (draws : List ℕ) (most at : ℕ) (s left : List Bool) (tags : List ℕ) → GoesOn order draws most at s left tags → (at < most → left ≡ no_places) → AreNamed order draws most 0 s tags
ends order draws most at s left tags g none =
    let Q : List ℕ → Type 0 = λ l. AreNamed order draws most 0 s l in
    subst Q (nothing_more tags) (g.goes_on [] none)
  where
    nothing_more : (l : List ℕ) → l ++ [] ≡ l
    nothing_more [] = refl
    nothing_more (x ∷ l) = ap (λ r. x ∷ r) (nothing_more l)

-- after 32 tags none is left
pub all_are_named : (w left at most : ℕ) → at ≡ min most 32 → count_in (bits left) + at ≡ count_in (bits w) → at < most → bits left ≡ no_places
all_are_named w left at most last count room = count_in_none (bits left) (length-bits left) (omega (arith, count_in-bits w))

-- ---- what holds of all named tags

-- a tag that is left was there before
pub still_there : (s : List Bool) (tag t : ℕ) → has_place (without_place s tag) t ≡ true → has_place s t ≡ true
still_there s tag t here =
    ⊎_elim (λ e. let P : ℕ → Type 0 = λ i. has_place (without_place s tag) i ≡ true in absurd (both_ways _ (has_place-without_same s tag) (subst P e here)))
    (λ n. sym (has_place-without_other s tag t n) ∙ here) (cases_eq t tag)

pub named-here : (order : Order) (draws : List ℕ) (most at : ℕ) (s : List Bool) (tags : List ℕ) → AreNamed order draws most at s tags → All (λ t. has_place s t ≡ true) tags
named-here order draws most at s [] n = All-nil (λ t. has_place s t ≡ true)
named-here order draws most at s (tag ∷ tags) n =
    All-cons (λ t. has_place s t ≡ true) tag tags (names-here order (get_or draws at 0) s tag n.1)
    (All-weaker (λ t. has_place (without_place s tag) t ≡ true) (λ t. has_place s t ≡ true) (λ t h. still_there s tag t h) tags
    (named-here order draws most (at + 1) (without_place s tag) tags n.2))

pub named_once : (order : Order) (draws : List ℕ) (most at : ℕ) (s : List Bool) (tags : List ℕ) → AreNamed order draws most at s tags → AllPairs (λ a b. a ≢ b) tags
named_once order draws most at s [] n i j d lt inside = absurd (omega arith)
named_once order draws most at s (tag ∷ tags) n i zero d lt inside = absurd (omega arith)
named_once order draws most at s (tag ∷ tags) n zero (suc j) d lt inside =
    let later : has_place (without_place s tag) (get_or tags j d) ≡ true = named-here order draws most (at + 1) (without_place s tag) tags n.2 j d (omega arith) in
    λ e. let P : ℕ → Type 0 = λ t. has_place (without_place s tag) t ≡ true in both_ways _ (has_place-without_same s tag) (subst P (sym e) later)
named_once order draws most at s (tag ∷ tags) n (suc i) (suc j) d lt inside =
    named_once order draws most (at + 1) (without_place s tag) tags n.2 i j d (omega arith) (omega arith)

pub named-few : (order : Order) (draws : List ℕ) (most at : ℕ) (s : List Bool) (tags : List ℕ) → AreNamed order draws most at s tags → at ≤ most → length tags + at ≤ most
named-few order draws most at s [] n le = omega arith
named-few order draws most at s (tag ∷ tags) n le =
    let rest = named-few order draws most (at + 1) (without_place s tag) tags n.2 (omega arith) in omega (arith, rest)

pub named_some : (order : Order) (draws : List ℕ) (most : ℕ) (s : List Bool) (tags : List ℕ) → AreNamed order draws most 0 s tags → s ≢ no_places → 0 < most → 0 < length tags
named_some order draws most s [] n some room = absurd (some (n room))
named_some order draws most s (tag ∷ tags) n some room = omega arith

-- nothing is named of the empty set
none_named : (order : Order) (draw : ℕ) (s : List Bool) (tag : ℕ) → s ≡ no_places → Names order draw s tag → ⊥
none_named order draw s tag none n = both_ways _ (ap (λ x. has_place x tag) none ∙ has_place-no_places tag) (names-here order draw s tag n)

pub named_one : (order : Order) (draws : List ℕ) (most at : ℕ) (s : List Bool) (xs ys : List ℕ) → AreNamed order draws most at s xs → AreNamed order draws most at s ys → xs ≡ ys
named_one order draws most at s [] [] m n = refl
named_one order draws most at s [] (y ∷ ys) m n = absurd (none_named order (get_or draws at 0) s y (m n.0) n.1)
named_one order draws most at s (x ∷ xs) [] m n = absurd (none_named order (get_or draws at 0) s x (n m.0) m.1)
named_one order draws most at s (x ∷ xs) (y ∷ ys) m n =
    let e : x ≡ y = names_one order (get_or draws at 0) s x y m.1 n.1 in
    let P : ℕ → Type 0 = λ t. AreNamed order draws most (at + 1) (without_place s t) ys in
    let rest = named_one order draws most (at + 1) (without_place s x) xs ys m.2 (subst P (sym e) n.2) in
    ap (λ t. t ∷ xs) e ∙ ap (λ l. y ∷ l) rest

-- ---- the loop that looks for a tag that is to fail

pub first_failing : (failing : List Bool) (tags : List ℕ) (n : ℕ) → n ≤ length tags → ((k : ℕ) → k < n → has_place failing (get_or tags k 0) ≡ false) → (n < length tags → has_place failing (get_or tags n 0) ≡ true) → n ≡ position_or_len (has_place failing) tags
first_failing failing tags n le before here =
    sym (prefix_len_is (λ t. not (has_place failing t)) tags n 0 le (λ k h. ap not (before k h)) (λ h. ap not (here h)))
