-- Lemmas about how an input is read.
use Rattle.std.proofs.Common.{◌≡◌, ℕ, ◌+◌, Bool, true, false, List, [], ◌∷◌, ◌++◌, Option, MatchBool, length, take, drop, refl, sym, ap, ◌∙◌, subst, inl, inr, append_assoc, append-nil, length-append, arith}
use Rattle.std.proofs.KnownBytes.{Consumes-nil, Consumes-trans}
use Rattle.std.specs.Io.KnownBytes.{Consumes, IsAtEnd}
use Rattle.streams.proofs.FoundLemmas.{Bytes, cut_at_feed, found_line, with_feeds-append}
use Rattle.streams.specs.Reading.{Comes, MayEnd, ReadsAll, Step, StopsReading, Taken, TakenFirst, last_by, last_of, more_input, nothing, one_more}
use Rattle.streams.specs.Standing.{Ends, Halts, HasRead, Stand}
use Rattle.streams.specs.Unread.{Begins, Grows, MayFail, Unread, found_of, too_long, unfinished, whole, with_feeds}
use Rattle.streams.specs.declared.stopped.Stopped.{Stopped}
use Rattle.streams.specs.declared.stopped.Stopped.TheVariants as stopped

abbrev pub Known : Type 0
Known = Option (List ℕ)

abbrev pub Refusal : Type 0 → Type 0 → Type 1
Refusal S F = S → ℕ → Begins → F → S → Type 0

-- a place, part by part
abbrev pub parts : {S : Type 0} → Known → Bytes → ℕ → ℕ → S → Stand S
parts r u came line state = record { remaining = r; unread = u; came = came; line = line; state = state }

-- lines, and those that come after them
Taken-append : {S : Type 0} {Takes : Step S} (a b c : S) (n : ℕ) (ls ms : List Bytes) → Taken Takes a n ls b → Taken Takes b (n + length ls) ms c
    → Taken Takes a n (ls ++ ms) c
Taken-append {S} {Takes} _ b c _ _ ms (nothing s n) later = subst (λ k. Taken Takes b k ms c) (omega arith) later
Taken-append {S} {Takes} _ b c _ _ ms (one_more s n first t more u own takes others) later =
    one_more s n first t (more ++ ms) c own takes (Taken-append t b c (n + 1) more ms others (subst (λ k. Taken Takes b k ms c) (omega arith) later))
Taken-append _ b c _ ls ms (more_input s n t more u takes others) later = more_input s n t (more ++ ms) c takes (Taken-append t b c n more ms others later)

-- two parts of a reading, one after the other
pub HasRead-trans : {S : Type 0} {Takes : Step S} (a b c : Stand S) → HasRead Takes a b → HasRead Takes b c → HasRead Takes a c
HasRead-trans {S} {Takes} a b c p q = record {
  lines = p.lines ++ q.lines;
  came = p.came ++ q.came;
  taken = Taken-append a.state b.state c.state (a.line + 1) p.lines q.lines p.taken
      (subst (λ k. Taken Takes b.state k q.lines c.state) (omega (arith, p.counted)) q.taken);
  consumed = Consumes-trans a.remaining b.remaining c.remaining p.came q.came p.consumed q.consumed;
  read = sym (append_assoc a.unread p.came q.came) ∙ ap (λ l. l ++ q.came) p.read ∙ append_assoc (with_feeds p.lines) b.unread q.came ∙ ap (λ l. with_feeds p.lines ++ l) q.read ∙ sym
      (append_assoc (with_feeds p.lines) (with_feeds q.lines) c.unread) ∙ ap (λ l. l ++ c.unread) (sym (with_feeds-append p.lines q.lines));
  counted = rw (length-append p.lines q.lines) (omega (arith, p.counted, q.counted));
  all_came = rw (length-append p.came q.came) (omega (arith, p.all_came, q.all_came));
}

pub HasRead-refl : {S : Type 0} {Takes : Step S} (a : Stand S) → HasRead Takes a a
HasRead-refl a = record {
  lines = [];
  came = [];
  taken = nothing a.state (a.line + 1);
  consumed = Consumes-nil a.remaining;
  read = append-nil a.unread;
  counted = omega arith;
  all_came = omega arith;
}

-- a line was taken
pub HasRead-line : {S : Type 0} {Takes : Step S} (r : Known) (u l u' : Bytes) (n n' line : ℕ) (a b : S) → whole l ≡ found_of u → Takes a (line + 1) (whole l) b
    → u' ≡ drop (length l + 1) u → n' ≡ n → HasRead Takes (parts r u n line a) (parts r u' n' (line + 1) b)
HasRead-line {S} {Takes} r u l u' n n' line a b is takes left same =
    let (e, found, at, len, own) = found_line u l is in
    record {
      lines = take e u ∷ [];
      came = [];
      taken = one_more a (line + 1) (take e u) b [] b own (subst (λ t. Takes a (line + 1) (whole t) b) at takes) (nothing b (line + 1 + 1));
      consumed = Consumes-nil r;
      read = append-nil u ∙ cut_at_feed u e found ∙ sym (append_assoc (take e u) (10 ∷ []) (drop (e + 1) u))
          ∙ ap (λ t. with_feeds (take e u ∷ []) ++ t) (sym (left ∙ ap (λ k. drop (k + 1) u) len));
      counted = refl;
      all_came = omega (arith, same);
    }

-- more input was asked for: bytes came, or the reader is at its end
pub HasRead-more : {S : Type 0} {Takes : Step S} (more : Bool) (old new : Unread) (r s : Known) (line : ℕ) (a b : S) → Takes a (line + 1) unfinished b
    → MatchBool more (Grows old new r s) ((new ≡ old) × IsAtEnd s × Consumes r s [])
    → HasRead Takes (parts r old.bytes old.came line a) (parts s new.bytes new.came line b)
HasRead-more true old new r s line a b takes grows = record {
  lines = [];
  came = grows.came;
  taken = more_input a (line + 1) b [] b takes (nothing b (line + 1));
  consumed = grows.consumed;
  read = sym grows.bytes;
  counted = omega arith;
  all_came = grows.count;
}
HasRead-more false old new r s line a b takes ended = record {
  lines = [];
  came = [];
  taken = more_input a (line + 1) b [] b takes (nothing b (line + 1));
  consumed = ended.2;
  read = append-nil old.bytes ∙ sym (ap (λ (i : Unread). i.bytes) ended.0);
  counted = omega arith;
  all_came = ap (λ (i : Unread). i.came) ended.0 ∙ omega arith;
}

-- more input was asked for, and none came
pub HasRead-asked : {S : Type 0} {Takes : Step S} (p : Stand S) (b : S) → Takes p.state (p.line + 1) unfinished b → HasRead Takes p (record p { state = b })
HasRead-asked p b takes = record {
  lines = [];
  came = [];
  taken = more_input p.state (p.line + 1) b [] b takes (nothing b (p.line + 1));
  consumed = Consumes-nil p.remaining;
  read = append-nil p.unread;
  counted = omega arith;
  all_came = omega arith;
}

-- what was found comes
comes_found : (found : Begins) (r : Known) (u : Bytes) → found ≡ found_of u → Comes r u found
comes_found (whole line) r u is = inl (sym is)
comes_found too_long r u is = sym is
comes_found unfinished r u is = sym is

-- what was found is refused
pub halts_at : {S F : Type 0} (Takes : Step S) (Refuses : Refusal S F) (found : Begins) (fault : F) (p : Stand S) (b : S) → found ≡ found_of p.unread
    → Refuses p.state (p.line + 1) found fault b → Halts Takes Refuses p (record p { state = b }) (stopped.Taker fault)
halts_at Takes Refuses found fault p b is refused = (p.state, HasRead-refl p, (found, comes_found found p.remaining p.unread is, refused))

-- a read failed
pub halts_reading : {S F : Type 0} (Takes : Step S) (Refuses : Refusal S F) (old new : Unread) (r s : Known) (line : ℕ) (a b : S) → Takes a (line + 1) unfinished b
    → found_of old.bytes ≡ unfinished → MayFail old.came r s → new ≡ old
    → Halts Takes Refuses (parts r old.bytes old.came line a) (parts s new.bytes new.came line b) stopped.Read
halts_reading Takes Refuses old new r s line a b takes is failed same =
    subst (λ (i : Unread). Halts Takes Refuses (parts r old.bytes old.came line a) (parts s i.bytes i.came line b) stopped.Read) (sym same)
    (r, HasRead-asked (parts r old.bytes old.came line a) b takes, is, failed)

-- a fault after a part that went well
pub halts_after : {S F : Type 0} (Takes : Step S) (Refuses : Refusal S F) (f : Stopped F) (a b c : Stand S) → HasRead Takes a b → Halts Takes Refuses b c f
    → Halts Takes Refuses a c f
halts_after Takes Refuses stopped.Read a b c p s = (s.0, HasRead-trans a b (record c { remaining = s.0 }) p s.1, s.2, s.3)
halts_after Takes Refuses (stopped.Taker f) a b c p s = (s.0, HasRead-trans a b (record c { state = s.0 }) p s.1, s.2)
halts_after Takes Refuses stopped.OutOfMemory a b c p s = absurd s

-- the last is taken
pub ends_last : {S : Type 0} {Takes : Step S} (last : Begins) (a : Stand S) (p : Stand S) (b : S) → HasRead Takes a p → MayEnd p.remaining p.unread
    → last ≡ last_of p.unread → Takes p.state (p.line + 1) last b → Ends Takes a (record p { state = b })
ends_last {S} {Takes} last a p b so_far ended is taken =
    record { before = p.state; reads = so_far; ended = ended; taken = subst (λ f. Takes p.state (p.line + 1) f b) is taken }

comes_last : (r : Known) (u : Bytes) → MayEnd r u → Comes r u (last_of u)
comes_last r u (inl long) = subst (λ f. Comes r u (last_by f u)) (sym long) long
comes_last r u (inr ended) = subst (λ f. Comes r u (last_by f u)) (sym ended.1) (inr (ended.0, ended.1, refl))

-- the last is refused
pub halts_last : {S F : Type 0} (Takes : Step S) (Refuses : Refusal S F) (last : Begins) (fault : F) (a : Stand S) (p : Stand S) (b : S) → HasRead Takes a p
    → MayEnd p.remaining p.unread → last ≡ last_of p.unread → Refuses p.state (p.line + 1) last fault b → Halts Takes Refuses a (record p { state = b }) (stopped.Taker fault)
halts_last Takes Refuses last fault a p b so_far ended is refused =
    (p.state, so_far, (last, subst (Comes p.remaining p.unread) (sym is) (comes_last p.remaining p.unread ended), refused))

-- where a reading begins: nothing unread, and nothing taken
abbrev pub start : {S : Type 0} → Known → S → Stand S
start r state = parts r [] 0 0 state

pub from_start : {S : Type 0} (P : Stand S → Type 0) (r : Known) (u : Bytes) (n line : ℕ) (a : S) → (u ≡ []) × (n ≡ 0) × (line ≡ 0) → P (parts r u n line a) → P (start r a)
from_start P r u n line a new h =
    subst (λ l. P (parts r [] 0 l a)) new.2 (subst (λ k. P (parts r [] k line a)) new.1 (subst (λ x. P (parts r x n line a)) new.0 h))

-- the lines at the front of an input
first : {S : Type 0} {Takes : Step S} (P : List Bytes → Known → Bytes → S → Type 0) (r : Known) (a : S) (to : Stand S) (h : HasRead Takes (start r a) to)
    → P h.lines to.remaining to.unread to.state → TakenFirst Takes r a P
first P r a to h holds = record {
  lines = h.lines;
  rest = to.unread;
  remaining = to.remaining;
  to = to.state;
  taken = h.taken;
  consumed = subst (Consumes r to.remaining) h.read h.consumed;
  holds = holds;
}

-- lines at the front of an input, of which something more is known
pub first_map : {S : Type 0} {Takes : Step S} (P Q : List Bytes → Known → Bytes → S → Type 0) (r : Known) (a : S)
    → ((lines : List Bytes) (remaining : Known) (rest : Bytes) (to : S) → P lines remaining rest to → Q lines remaining rest to) → TakenFirst Takes r a P → TakenFirst Takes r a Q
first_map P Q r a g h = record {
  lines = h.lines;
  rest = h.rest;
  remaining = h.remaining;
  to = h.to;
  taken = h.taken;
  consumed = h.consumed;
  holds = g h.lines h.remaining h.rest h.to h.holds;
}

-- none was taken
pub first_none : {S : Type 0} {Takes : Step S} (Q : List Bytes → Known → Bytes → S → Type 0) (r : Known) (a : S) → Q [] r [] a → TakenFirst Takes r a Q
first_none Q r a holds =
    record { lines = []; rest = []; remaining = r; to = a; taken = nothing a 1; consumed = Consumes-nil r; holds = holds }

-- all lines were taken
pub reads_all : {S : Type 0} {Takes : Step S} (r : Known) (a : S) (to : Stand S) → Ends Takes (start r a) to → ReadsAll Takes r to.remaining a to.state
reads_all {S} {Takes} r a to e =
    first _ r a (record to { state = e.before }) e.reads
    (refl, e.ended, subst (λ k. Takes e.before (k + 1) (last_of to.unread) to.state) (e.reads.counted ∙ omega arith) e.taken)

-- a fault has ended the reading
pub stops_reading : {S F : Type 0} (Takes : Step S) (Refuses : Refusal S F) (f : Stopped F) (r : Known) (a : S) (to : Stand S) → Halts Takes Refuses (start r a) to f
    → StopsReading Takes Refuses r to.remaining a to.state f
stops_reading Takes Refuses stopped.Read r a to s =
    first _ r a (record to { remaining = s.0 }) s.1 (s.2, subst (λ k. MayFail k s.0 to.remaining) (s.1.all_came ∙ (omega arith) ∙ ap length s.1.read) s.3, refl)
stops_reading Takes Refuses (stopped.Taker f) r a to s =
    first _ r a (record to { state = s.0 }) s.1
    (refl, (s.2.0, s.2.1, subst (λ k. Refuses s.0 (k + 1) s.2.0 f to.state) (s.1.counted ∙ omega arith) s.2.2))
stops_reading Takes Refuses stopped.OutOfMemory r a to s = absurd s
