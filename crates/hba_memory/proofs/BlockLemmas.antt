-- A list behind so many bytes of it.
use Rattle.std.proofs.Common.{◌≡◌, ℕ, ◌+◌, ◌-◌, ◌<◌, ◌≤◌, min, List, ◌∷◌, length, take, drop, set, get_or, ap, sym, refl, ◌∙◌, arith}
use Rattle.std.proofs.lemmas.Bool.{le-ltb, lt-ltb}
use Rattle.std.proofs.lemmas.List.{drop_all, drop-drop, drop_min, drop_more, drop-set, take_min, length-drop}
use Rattle.hba_command.specs.declared.entry.PrdEntry.{PrdEntry}
use Rattle.hba_memory.specs.Blocks.{BlocksView, list_after, no_entry, shortened}

pub past_entry : (e : PrdEntry) (rest : List PrdEntry) (n : ℕ) → e.length ≤ n → list_after (e ∷ rest) n ≡ list_after rest (n - e.length)
past_entry e rest n h = rw (le-ltb n e.length h) refl

pub within_entry : (e : PrdEntry) (rest : List PrdEntry) (n : ℕ) → n < e.length → list_after (e ∷ rest) n ≡ shortened e n ∷ rest
within_entry e rest n h = rw (lt-ltb n e.length h) refl

-- an entry more is behind
pub one_behind : (list : List PrdEntry) (i n : ℕ) → i < length list → (get_or list i no_entry).length ≤ n
    → list_after (drop i list) n ≡ list_after (drop (i + 1) list) (n - (get_or list i no_entry).length)
one_behind list i n h le =
    ap (λ l. list_after l n) (drop_more list i no_entry h) ∙ past_entry (get_or list i no_entry) (drop (i + 1) list) n le

-- the entry in which the list goes on is split
pub split_at : (list : List PrdEntry) (i n : ℕ) → i < length list → n < (get_or list i no_entry).length
    → drop i (set list i (shortened (get_or list i no_entry) n)) ≡ list_after (drop i list) n
split_at list i n h lt =
    drop-set list i (shortened (get_or list i no_entry) n) h
    ∙ sym (ap (λ l. list_after l n) (drop_more list i no_entry h) ∙ within_entry (get_or list i no_entry) (drop (i + 1) list) n lt)

-- behind the last entry is nothing
pub none_behind : (list : List PrdEntry) (i n : ℕ) → length list ≤ i → drop i list ≡ list_after (drop i list) n
none_behind list i n h = drop_all i list h ∙ sym (ap (λ l. list_after l n) (drop_all i list h))

-- the first so many of the rest of a list
pub first_of : {X : Type 0} (list : List X) (i k n : ℕ) → k ≡ min n (length list - i) → take ((i + k) - i) (drop i list) ≡ take n (drop i list)
first_of list i k n e =
    let len : length (drop i list) ≡ length list - i = length-drop i list in
    let same : (i + k) - i ≡ min n (length (drop i list)) = omega arith in
    ap (λ k. take k (drop i list)) same ∙ take_min n (drop i list)

-- the bytes and the list behind a block
pub behind_block : (list list' : List PrdEntry) (bytes : List ℕ) (done k n : ℕ) → list' ≡ list_after list n → k ≡ min n (length bytes - done)
    → ◌≡◌ {A = BlocksView} (record { list = list'; bytes = drop (done + k) bytes }) (record { list = list_after list n; bytes = drop n (drop done bytes) })
behind_block list list' bytes done k n e m =
    let len : length (drop done bytes) ≡ length bytes - done = length-drop done bytes in
    let same : k ≡ min n (length (drop done bytes)) = omega arith in
    ap {A = List PrdEntry} {B = BlocksView} (λ l. record { list = l; bytes = drop (done + k) bytes }) e
    ∙ ap {A = List ℕ} {B = BlocksView} (λ b. record { list = list_after list n; bytes = b })
    (sym (drop-drop k done bytes) ∙ ap (λ x. drop x (drop done bytes)) same ∙ drop_min n (drop done bytes))
