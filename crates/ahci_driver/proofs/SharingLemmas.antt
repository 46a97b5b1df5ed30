-- How many turns a worker has, and the receipts of all workers in the order of the jobs.
use Rattle.std.proofs.Common.{◌≡◌, ◌≢◌, ℕ, ◌+◌, ◌-◌, ◌*◌, ◌/◌, ◌%◌, ◌^◌, ◌<◌, ◌≤◌, min, List, [], ◌∷◌, ◌++◌, length, map, get_or, drop, set, suc, zero, refl, ap, sym, subst, ◌∙◌, Option, None, Some, inl, inr, arith, zero-add}
use Rattle.std.specs.List.{cons_option, filter_map, range_with_len, slice_get}
use Rattle.std.specs.Option.{option_and_then, option_to_list}
use Rattle.std.specs.Int.{div_ceil}
use Rattle.std.proofs.Math.Nat.{mul-le-mul_left}
use Rattle.std.proofs.lemmas.Bool.{cases_lt, cases_eq}
use Rattle.std.proofs.lemmas.Grind.{div_ceil_times}
use Rattle.std.proofs.lemmas.List.{get_or-map, map-id, map-set, length-map, length-set, get_or-set_same, get_or-set_other, drop-drop}
use Rattle.std.proofs.lemmas.List.Elements.{filter_map-append}
use Rattle.std.proofs.lemmas.List.FromFn.{get_or-range_with_len, length-range_with_len, map-range_with_len_more}
use Rattle.std.proofs.lemmas.Nat.{div-add-mod'}
use Rattle.std.specs.Prelude.{IsSome}
use Rattle.std.proofs.lemmas.Option.{same_Some, slice_get-get_or}
use Rattle.ahci_driver.specs.Sharing.{OfEach, in_turn, of_job, turns}

-- a quotient that is rounded up, by what it is between
pub ceil_is : (x w k : ℕ) → 0 < w → x ≤ k * w → k * w < x + w → div_ceil x w ≡ k
ceil_is x w k some low high = by (div_ceil x w) bounds.0 bounds.1
  where
    bounds : (x ≤ div_ceil x w * w) × (div_ceil x w * w < x + w)
    bounds = div_ceil_times x w some

    by : (c : ℕ) → x ≤ c * w → c * w < x + w → c ≡ k
    by c below above =
        elim (cases_lt c k) [
          | inl less ↦ absurd (let more : w * suc c ≤ w * k = mul-le-mul_left w (omega arith) in omega arith)
          | inr not_less ↦ elim (cases_lt k c) [
            | inl less ↦ absurd (let more : w * suc k ≤ w * c = mul-le-mul_left w (omega arith) in omega arith)
            | inr same ↦ omega arith
          ]
        ]

-- a worker whose next job is past the end has no turn
pub turns_past : (n w j : ℕ) → 1 ≤ w → n ≤ j → turns n w j ≡ 0
turns_past n w j some past = ceil_is (n - j) w 0 (omega arith) (omega arith) (omega arith)

one_more_turn : (n w j next k : ℕ) → 1 ≤ w → j + w ≡ next → next < n → n - next ≤ k * w → k * w < n - next + w → turns n w j ≡ k + 1
one_more_turn n w j next k some is more low high = ceil_is (n - j) w (k + 1) (omega arith) (omega arith) (omega arith)

last_turn : (n w j : ℕ) → 1 ≤ w → j < n → n ≤ j + w → turns n w j ≡ 1
last_turn n w j some low last = ceil_is (n - j) w 1 (omega arith) (omega arith) (omega arith)

-- one turn; past the end no number is too large
pub turns_more : (n w j next : ℕ) → 1 ≤ w → j < n → n < 2 ^ 64 → next ≡ min (j + w) (2 ^ 64 - 1) → turns n w j ≡ turns n w next + 1
turns_more n w j next some low few is =
    elim (cases_lt next n) [
      | inl more ↦
          let b : (n - next ≤ turns n w next * w) × (turns n w next * w < n - next + w) = div_ceil_times (n - next) w some in
          one_more_turn n w j next (turns n w next) some (saturated next is more) more b.0 b.1
      | inr past ↦ last_turn n w j some low (reached next is past) ∙ sym (ap (λ k. k + 1) (turns_past n w next some past))
    ]
  where
    saturated : (m : ℕ) → m ≡ min (j + w) (2 ^ 64 - 1) → m < n → j + w ≡ m
    saturated m e more = omega arith

    reached : (m : ℕ) → m ≡ min (j + w) (2 ^ 64 - 1) → n ≤ m → n ≤ j + w
    reached m e past = omega arith

-- how many of the jobs below j are those of worker i
turns_first : (j w i : ℕ) → i < w → i < j % w → turns j w i ≡ j / w + 1
turns_first j w i low first =
    let e = div-add-mod' j w in
    ceil_is (j - i) w (j / w + 1) (omega arith) (omega arith) (omega arith)

turns_later : (j w i : ℕ) → i < w → j % w ≤ i → turns j w i ≡ j / w
turns_later j w i low later =
    let e = div-add-mod' j w in
    ceil_is (j - i) w (j / w) (omega arith) (omega arith) (omega arith)

-- the worker of job j has had as many turns before it as `w` goes into j
pub turns_here : (j w : ℕ) → 1 ≤ w → turns j w (j % w) ≡ j / w
turns_here j w some = turns_later j w (j % w) (omega arith) (omega arith)

-- job j is one more turn of its worker
pub turns_one_more : (j w : ℕ) → 1 ≤ w → turns (j + 1) w (j % w) ≡ turns j w (j % w) + 1
turns_one_more j w some =
    let e = div-add-mod' j w in
    let here = turns_here j w some in
    ceil_is (j + 1 - j % w) w (j / w + 1) (omega arith) (omega arith) (omega arith) ∙ omega arith

-- and none of another
pub turns_same : (j w i : ℕ) → i < w → i ≢ j % w → turns (j + 1) w i ≡ turns j w i
turns_same j w i low other =
    let e = div-add-mod' j w in
    elim (cases_lt i (j % w)) [
      | inl first ↦ ceil_is (j + 1 - i) w (j / w + 1) (omega arith) (omega arith) (omega arith) ∙ sym (turns_first j w i low first)
      | inr later ↦ ceil_is (j + 1 - i) w (j / w) (omega arith) (omega arith) (omega arith) ∙ sym (turns_later j w i low (omega arith))
    ]

enough_turns : (n w j k : ℕ) → 1 ≤ w → j < n → n - j % w ≤ k * w → j / w < k
enough_turns n w j k some low enough =
    let e = div-add-mod' j w in
    elim (cases_lt (j / w) k) [
      | inl less ↦ less
      | inr not_less ↦ absurd (let more : w * k ≤ w * (j / w) = mul-le-mul_left w not_less in omega arith)
    ]

-- a worker with all its turns has had that of each job
pub turn_of_job : (n w j : ℕ) → 1 ≤ w → j < n → j / w < turns n w (j % w)
turn_of_job n w j some low =
    let b : (n - j % w ≤ turns n w (j % w) * w) × (turns n w (j % w) * w < n - j % w + w) = div_ceil_times (n - j % w) w some in
    enough_turns n w j (turns n w (j % w)) some low b.0

range_more : (n : ℕ) → range_with_len 0 (n + 1) ≡ range_with_len 0 n ++ n ∷ []
range_more n = sym (map-id (range_with_len 0 (n + 1))) ∙ map-range_with_len_more (λ (x : ℕ). x) 0 n n (omega arith) ∙ ap (λ (l : List ℕ). l ++ n ∷ []) (map-id (range_with_len 0 n))

-- one job more
pub in_turn_more : {T : Type 0} (piles : List (List T)) (w j : ℕ) → in_turn piles w (j + 1) ≡ in_turn piles w j ++ option_to_list (of_job piles w j)
in_turn_more piles w j =
    ap (filter_map (of_job piles w)) (range_more j) ∙ filter_map-append (of_job piles w) (range_with_len 0 j) (j ∷ [])
    ∙ ap (λ l. in_turn piles w j ++ l) (alone (of_job piles w j))
  where
    alone : {X : Type 0} (o : Option X) → cons_option o [] ≡ option_to_list o
    alone None = refl
    alone (Some x) = refl

-- what a worker has next
pub next_at : {T : Type 0} (xs : List T) (k : ℕ) → slice_get (drop k xs) 0 ≡ slice_get xs k
next_at xs zero = at_first xs
  where
    at_first : {T : Type 0} (ys : List T) → slice_get (drop 0 ys) 0 ≡ slice_get ys 0
    at_first [] = refl
    at_first (y ∷ ys) = refl
next_at [] (suc k) = refl
next_at (x ∷ xs) (suc k) = next_at xs k

pub of_job_is : {T : Type 0} (piles : List (List T)) (w j : ℕ) → 1 ≤ w → length piles ≡ w → of_job piles w j ≡ slice_get (get_or piles (j % w) []) (j / w)
of_job_is piles w j some count =
    ap (λ o. option_and_then (λ pile. slice_get pile (j / w)) o) (slice_get-get_or piles (j % w) [] (omega arith))

-- what is left of the workers' piles before job j
pub record AreLeft {T : Type 0} (piles left : List (List T)) (w j : ℕ) : Type 0 where
  pub count : length left ≡ w
  pub each : (i : ℕ) → i < w → get_or left i [] ≡ drop (turns j w i) (get_or piles i [])

-- at first, all
pub all_left : {T : Type 0} (piles left : List (List T)) (w : ℕ) → 1 ≤ w → length piles ≡ w → left ≡ piles → AreLeft piles left w 0
all_left piles left w some count e = record {
  count = ap length e ∙ count;
  each = λ i low. ap (λ l. get_or l i []) e ∙ ap (λ k. drop k (get_or piles i [])) (sym (turns_past 0 w i some (omega arith)));
}

-- job j has the next of its worker's pile
pub next_is_of_job : {T : Type 0} (piles left : List (List T)) (w j : ℕ) → 1 ≤ w → length piles ≡ w → AreLeft piles left w j
    → slice_get (get_or left (j % w) []) 0 ≡ of_job piles w j
next_is_of_job piles left w j some count l =
    ap (λ pile. slice_get pile 0) (l.each (j % w) (omega arith)) ∙ next_at (get_or piles (j % w) []) (turns j w (j % w))
    ∙ ap (λ k. slice_get (get_or piles (j % w) []) k) (turns_here j w some) ∙ sym (of_job_is piles w j some count)

-- and the others' piles stay
pub left_more : {T : Type 0} (piles left : List (List T)) (w j : ℕ) → 1 ≤ w → AreLeft piles left w j
    → AreLeft piles (set left (j % w) (drop 1 (get_or left (j % w) []))) w (j + 1)
left_more piles left w j some l = record {
  count = length-set left (j % w) (drop 1 (get_or left (j % w) [])) ∙ l.count;
  each = λ i low. elim (cases_eq i (j % w)) [
    | inl same ↦ subst (λ k. get_or (set left (j % w) (drop 1 (get_or left (j % w) []))) k [] ≡ drop (turns (j + 1) w k) (get_or piles k [])) (sym same) here
    | inr other ↦ get_or-set_other left (j % w) i (drop 1 (get_or left (j % w) [])) [] other ∙ l.each i low ∙ ap (λ k. drop k (get_or piles i [])) (sym (turns_same j w i low other))
  ];
}
  where
    here : get_or (set left (j % w) (drop 1 (get_or left (j % w) []))) (j % w) [] ≡ drop (turns (j + 1) w (j % w)) (get_or piles (j % w) [])
    here =
        get_or-set_same left (j % w) (drop 1 (get_or left (j % w) [])) [] (let n = l.count in omega arith) ∙ ap (drop 1) (l.each (j % w) (omega arith))
        ∙ drop-drop 1 (turns j w (j % w)) (get_or piles (j % w) []) ∙ ap (λ k. drop k (get_or piles (j % w) [])) (sym (turns_one_more j w some))

-- the job that a worker is at, by how many it has done; past the end no number is too large
pub job_first : (first w n : ℕ) → n ≡ 0 → first < 2 ^ 64 → first ≡ min (first + n * w) (2 ^ 64 - 1)
job_first first w n none few = subst (λ k. first ≡ min (first + k * w) (2 ^ 64 - 1)) (sym none) (omega arith)

pub job_next : (first w n m job next : ℕ) → m ≡ n + 1 → job ≡ min (first + n * w) (2 ^ 64 - 1) → next ≡ min (job + w) (2 ^ 64 - 1)
    → next ≡ min (first + m * w) (2 ^ 64 - 1)
job_next first w n m job next more is then = subst (λ k. next ≡ min (first + k * w) (2 ^ 64 - 1)) (sym more) (omega arith)

-- what holds of a worker's jobs so far holds with one more
pub of_each_more : (P : ℕ → Type 0) (first w n m job jobs : ℕ) → m ≡ n + 1 → job ≡ min (first + n * w) (2 ^ 64 - 1) → job < jobs → jobs < 2 ^ 64
    → ((k : ℕ) → k < n → first + k * w < jobs → P (first + k * w)) → P job → (k : ℕ) → k < m → first + k * w < jobs → P (first + k * w)
of_each_more P first w n m job jobs more is low few before here k below within =
    elim (cases_lt k n) [
      | inl less ↦ before k less within
      | inr last ↦
          let e : n ≡ k = omega arith in
          let at : job ≡ first + n * w = omega arith in
          subst P (at ∙ ap (λ i. first + i * w) e) here
    ]

-- and at the end with all
pub of_each_all : (P : ℕ → Type 0) (first w n job jobs : ℕ) → job ≡ min (first + n * w) (2 ^ 64 - 1) → jobs ≤ job
    → ((k : ℕ) → k < n → first + k * w < jobs → P (first + k * w)) → OfEach jobs w first P
of_each_all P first w n job jobs is past before k within =
    elim (cases_lt k n) [
      | inl less ↦ before k less within
      | inr beyond ↦ absurd (let more : w * n ≤ w * k = mul-le-mul_left w beyond in omega arith)
    ]

-- a receipt more
pub turns_step : (done left less all more : ℕ) → more ≡ done + 1 → left ≡ less + 1 → done + left ≡ all → more + less ≡ all
turns_step done left less all more e f h = omega arith

-- what the turn of job j takes from its worker's pile, by what is seen of each
pub next_job : {X T : Type 0} (seen : X → List T) (piles : List (List T)) (xs : List X) (w j : ℕ) (x y : X) (next : Option T) → 1 ≤ w → length piles ≡ w
    → AreLeft piles (map seen xs) w j → x ≡ get_or xs (j % w) x → next ≡ slice_get (seen x) 0 → seen y ≡ drop 1 (seen x)
    → (next ≡ of_job piles w j) × AreLeft piles (map seen (set xs (j % w) y)) w (j + 1)
next_job seen piles xs w j x y next some count l read first rest = (
  first ∙ ap (λ pile. slice_get pile 0) (sym here) ∙ next_is_of_job piles (map seen xs) w j some count l,
  subst (λ left. AreLeft piles left w (j + 1)) (sym (map-set seen xs (j % w) y ∙ ap (set (map seen xs) (j % w)) (rest ∙ ap (drop 1) (sym here))))
      (left_more piles (map seen xs) w j some l),
)
  where
    here : get_or (map seen xs) (j % w) [] ≡ seen x
    here = get_or-map seen xs (j % w) x [] (let n = l.count in let m = length-map xs seen in omega arith) ∙ ap seen (sym read)

-- a list to which nothing is added where an element has nothing
cons_length : {T : Type 0} (o : Option T) (xs : List T) (n : ℕ) → length xs ≤ n → length (cons_option o xs) ≤ suc n
cons_length None xs n h = omega arith
cons_length (Some x) xs n h = let b : suc (length xs) ≤ suc n = omega arith in b

shorter : {X T : Type 0} (f : X → Option T) (xs : List X) → length (filter_map f xs) ≤ length xs
shorter f [] = omega arith
shorter f (x ∷ xs) = cons_length (f x) (filter_map f xs) (length xs) (shorter f xs)

has_head : {T : Type 0} (o : Option T) (xs : List T) (n : ℕ) → suc n ≤ length (cons_option o xs) → length xs ≤ n → IsSome o × (n ≤ length xs)
has_head None xs n h s = absurd (let b : suc n ≤ length xs = h in omega arith)
has_head (Some x) xs n h s = (refl, let b : suc n ≤ suc (length xs) = h in omega arith)

-- where as many are left as there were, each has something
full : {X T : Type 0} (f : X → Option T) (xs : List X) → length xs ≤ length (filter_map f xs) → (i : ℕ) (x : X) → slice_get xs i ≡ Some x → IsSome (f x)
full f [] h i x e = absurd (cc)
full f (y ∷ ys) h zero x e = subst (λ z. IsSome (f z)) (same_Some y x e) (has_head (f y) (filter_map f ys) (length ys) h (shorter f ys)).0
full f (y ∷ ys) h (suc i) x e = full f ys (has_head (f y) (filter_map f ys) (length ys) h (shorter f ys)).1 i x e

-- as many receipts as jobs: one for each
pub whole_turn : {T : Type 0} (piles : List (List T)) (w n : ℕ) → length (in_turn piles w n) ≡ n → (j : ℕ) → j < n → IsSome (of_job piles w j)
whole_turn piles w n count j low =
    let len = length-range_with_len 0 n in
    full (of_job piles w) (range_with_len 0 n) (omega arith) j j
    (slice_get-get_or (range_with_len 0 n) j 0 (omega arith) ∙ ap Some (get_or-range_with_len 0 n j 0 low ∙ zero-add j))
