-- Lemmas about lines in unread bytes.
use Rattle.std.proofs.Common.{◌≡◌, ℕ, ◌+◌, ◌<◌, ◌==◌, Bool, true, false, List, [], ◌∷◌, ◌++◌, Option, Some, None, Result, Ok, Err, IfErr, IsErrAnd, OnOk, cond, nat_le}
use Rattle.std.proofs.Common.{nat_lt, length, take, drop, get_or, refl, sym, ap, ◌∙◌, subst, append_assoc, add-one, drop-cons, length-append, length-take-le}
use Rattle.std.proofs.Common.{take-append-drop, arith}
use Rattle.std.specs.List.{position_or_len}
use Rattle.std.proofs.lemmas.Bool.{eqb-true, lt-ltb}
use Rattle.std.proofs.lemmas.List.{get_or-take}
use Rattle.std.proofs.lemmas.List.Folds.{position_or_len_push}
use Rattle.std.proofs.lemmas.List.Quantifiers.{position-Some}
use Rattle.std.proofs.lemmas.List.Sums.{position_or_len_is}
use Rattle.std.proofs.Math.Seq.{take-append_seam}
use Rattle.streams.specs.Unread.{found_at, found_of, line_end, too_long, unfinished, whole, with_feeds}

abbrev pub Bytes : Type 0
Bytes = List ℕ

pub with_feeds-append : (ls ms : List Bytes) → with_feeds (ls ++ ms) ≡ with_feeds ls ++ with_feeds ms
with_feeds-append [] ms = refl
with_feeds-append (l ∷ ls) ms =
    rw (with_feeds-append ls ms) (sym (append_assoc l (10 ∷ with_feeds ls) (with_feeds ms)))

-- text up to its first line feed, that line feed, and the text after it
pub cut_at_feed : (u : Bytes) (e : ℕ) → line_end u ≡ Some e → u ≡ take e u ++ 10 ∷ drop (e + 1) u
cut_at_feed u e found =
    let at = position-Some (λ b. b == 10) u e 0 found in
    let feed : get_or u e 0 ≡ 10 = eqb-true (get_or u e 0) 10 at.1 in
    let within : e < length u = at.0 in
    sym (take-append-drop e u) ∙ ap (λ l. take e u ++ l) (rw (add-one, ← feed) (drop-cons u e 0 within))

-- what holds of the one error holds of the result's error
pub if_err_from : {T E : Type 0} (r : Result T E) (f : E) (P : E → Type 0) → IsErrAnd r (λ e. e ≡ f) → P f → IfErr r P
if_err_from (Ok x) f P is p = absurd is
if_err_from (Err e) f P is p = subst P (sym is) p

no_whole : (b : Bool) (l : Bytes) → whole l ≡ cond b unfinished too_long → ⊥
no_whole true l is = cc
no_whole false l is = cc

that_line : (b : Bool) (l t : Bytes) → whole l ≡ cond b (whole t) too_long → l ≡ t
that_line true l t is = cc
that_line false l t is = cc

is_short : (b : Bool) (l t : Bytes) → whole l ≡ cond b (whole t) too_long → b ≡ true
is_short true l t is = refl
is_short false l t is = cc

found_from : (o : Option ℕ) (u l : Bytes) → whole l ≡ found_at o u → (e : ℕ) × (o ≡ Some e) × (l ≡ take e u) × (nat_le e 4096 ≡ true)
found_from None u l is = absurd (no_whole (nat_le (length u) 4096) l is)
found_from (Some e) u l is = (e, refl, that_line (nat_le e 4096) l (take e u) is, is_short (nat_le e 4096) l (take e u) is)

-- no line feed comes before the first
before_feed : (u : Bytes) (e : ℕ) → line_end u ≡ Some e → position_or_len (λ b. b == 10) (take e u) ≡ e
before_feed u e found =
    let at = position-Some (λ b. b == 10) u e 0 found in
    let len : length (take e u) ≡ e = length-take-le e u (omega (arith, at.0)) in
    position_or_len_is (λ b. b == 10) (take e u) e 0 (omega arith) (λ k below. ap (λ b. b == 10) (get_or-take e u k 0 below) ∙ at.2 k below) (λ past. absurd (omega arith))

same_end : (b : Bool) (n : ℕ) → cond b (n + 0) n ≡ n
same_end true n = omega arith
same_end false n = refl

-- a place within a length, as `position` answers it
placed_at : (at len n : ℕ) → at ≡ n → n < len → cond (nat_lt at len) (Some at) None ≡ Some n
placed_at at len n is within =
    ap (λ b. cond b (Some at) None) (lt-ltb at len (omega arith)) ∙ ap Some is

-- with its line feed a line ends where it ended
feed_after : (t : Bytes) → position_or_len (λ b. b == 10) t ≡ length t → line_end (t ++ 10 ∷ []) ≡ Some (length t)
feed_after t none =
    let at : position_or_len (λ b. b == 10) (t ++ 10 ∷ []) ≡ length t = position_or_len_push (λ b. b == 10) t 10 ∙ ap (λ n. cond (n == length t) (length t + 0) n) none ∙ same_end
    (length t == length t) (length t) in
    placed_at (position_or_len (λ b. b == 10) (t ++ 10 ∷ [])) (length (t ++ 10 ∷ [])) (length t) at (omega (arith, length-append t (10 ∷ [])))

-- so it is found whole
fed_line : (t : Bytes) → position_or_len (λ b. b == 10) t ≡ length t → nat_le (length t) 4096 ≡ true → found_of (t ++ 10 ∷ []) ≡ whole t
fed_line t none short =
    ap (λ o. found_at o (t ++ 10 ∷ [])) (feed_after t none) ∙ ap (λ b. cond b (whole (take (length t) (t ++ 10 ∷ []))) too_long) short ∙ ap whole (take-append_seam t (10 ∷ []))

-- where a whole line was found, it ends at the first line feed
pub found_line : (u l : Bytes) → whole l ≡ found_of u → (e : ℕ) × (line_end u ≡ Some e) × (l ≡ take e u) × (length l ≡ e) × (found_of (take e u ++ 10 ∷ []) ≡ whole (take e u))
found_line u l is =
    let (e, found, same, short) = found_from (line_end u) u l is in
    let at = position-Some (λ b. b == 10) u e 0 found in
    let len : length (take e u) ≡ e = length-take-le e u (omega (arith, at.0)) in
    (e, found, same, ap length same ∙ len, fed_line (take e u) (before_feed u e found ∙ sym len) (rw len short))

-- what follows where the result is Ok
pub on_ok_from : {T E : Type 0} (r : Result T E) (P Q : Type 0) → OnOk r P → (P → Q) → OnOk r Q
on_ok_from (Ok x) P Q p f = f p
on_ok_from (Err e) P Q p f = p

-- what follows of the error, where there is one
pub if_err_map : {T E : Type 0} (r : Result T E) (P Q : E → Type 0) → IfErr r P → ((e : E) → P e → Q e) → IfErr r Q
if_err_map (Ok x) P Q p f = p
if_err_map (Err e) P Q p f = f e p
