-- The laws of specs/Laws.antt.
use Rattle.std.proofs.Common.{◌≡◌, ◌≢◌, ℕ, ◌<◌, max, Bool, true, not, List, [], ◌∷◌, length, take, get_or, sym, ◌∙◌, ap, subst, ⊎_elim, arith}
use Rattle.std.specs.List.{All, AllPairs, Contains, position_or_len}
use Rattle.std.proofs.lemmas.Bool.{both_ways, not-true, cases_lt}
use Rattle.std.proofs.lemmas.List.{get_or-take, length-take}
use Rattle.std.proofs.lemmas.List.Elements.{All-take}
use Rattle.std.proofs.lemmas.List.Sums.{prefix_len_passes}
use Rattle.word_bits.specs.Places.{has_place}
use Rattle.device_choice.specs.Turns.{up_to_failing}
use Rattle.device_choice.specs.Laws.{NamesOne, IsOneTurn, AreOfTheSet, AreDistinct, AreFew, AreSome, FailsAlone}
use Rattle.device_choice.proofs.OrdersLemmas.{names_one}
use Rattle.device_choice.proofs.TurnsLemmas.{named-here, named_once, named-few, named_some, named_one}

pub names_one_tag : NamesOne
names_one_tag = names_one

pub is_one_turn : IsOneTurn
is_one_turn order draws most failing s xs ys m n =
    m.cut ∙ ap (up_to_failing failing) (named_one order draws most 0 s m.named n.named m.are_named n.are_named) ∙ sym n.cut

pub are_of_the_set : AreOfTheSet
are_of_the_set order draws most failing s tags t =
    let P : List ℕ → Type 0 = λ l. All (λ tag. has_place s tag ≡ true) l in
    subst P (sym t.cut) (All-take (λ tag. has_place s tag ≡ true) (max 1 (position_or_len (has_place failing) t.named)) t.named (named-here order draws most 0 s t.named t.are_named))

-- the first tags of a list without a tag twice
first_once : (n : ℕ) (tags : List ℕ) → AllPairs (λ a b. a ≢ b) tags → AllPairs (λ a b. a ≢ b) (take n tags)
first_once n tags once i j d lt inside =
    let l = length-take n tags in
    let a = get_or-take n tags i d (omega arith) in
    let b = get_or-take n tags j d (omega arith) in
    λ e. once i j d lt (omega arith) (sym a ∙ e ∙ b)

pub are_distinct : AreDistinct
are_distinct order draws most failing s tags t =
    let P : List ℕ → Type 0 = λ l. AllPairs (λ a b. a ≢ b) l in
    subst P (sym t.cut) (first_once (max 1 (position_or_len (has_place failing) t.named)) t.named (named_once order draws most 0 s t.named t.are_named))

pub are_few : AreFew
are_few order draws most failing s tags t =
    omega (arith, ap length t.cut, length-take (max 1 (position_or_len (has_place failing) t.named)) t.named, named-few order draws most 0 s t.named t.are_named (omega arith))

pub are_some : AreSome
are_some order draws most failing s tags t some room =
    omega (arith, ap length t.cut, length-take (max 1 (position_or_len (has_place failing) t.named)) t.named, named_some order draws most s t.named t.are_named some room)

-- the first of some tags alone
first_alone : (k : ℕ) (tags : List ℕ) (tag : ℕ) → k ≡ 0 → 0 < length tags → get_or tags 0 tag ≡ tag → take (max 1 k) tags ≡ tag ∷ []
first_alone k [] tag none some first = absurd (omega arith)
first_alone k (x ∷ tags) tag none some first = ap (λ n. take (max 1 n) (x ∷ tags)) none ∙ ap (λ y. y ∷ []) first

-- a tag that is to fail, at a place of a list that is cut so
alone : (failing : List Bool) (tags : List ℕ) (tag i : ℕ) → i < length (up_to_failing failing tags) → get_or (up_to_failing failing tags) i tag ≡ tag → has_place failing tag ≡ true → up_to_failing failing tags ≡ tag ∷ []
alone failing tags tag i inside at_i fails =
    let k = position_or_len (has_place failing) tags in
    let l = length-take (max 1 k) tags in
    let same : get_or tags i tag ≡ tag = sym (get_or-take (max 1 k) tags i tag (omega arith)) ∙ at_i in
    ⊎_elim (λ h. absurd (both_ways _ (not-true _ (prefix_len_passes (λ x. not (has_place failing x)) tags i tag h)) (ap (has_place failing) same ∙ fails)))
    (λ h. let first : i ≡ 0 = omega arith in
    first_alone k tags tag (omega arith) (omega arith) (ap (λ n. get_or tags n tag) (sym first) ∙ same)) (cases_lt i k)

pub fails_alone : FailsAlone
fails_alone order draws most failing s tags tag t inside fails =
    let P : List ℕ → Type 0 = λ l. Contains l tag in
    let c = subst P t.cut inside in
    t.cut ∙ alone failing t.named tag c.0 c.1 c.2 fails
