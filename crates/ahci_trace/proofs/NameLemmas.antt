-- The names of a register's bits, one after the other.
use Rattle.std.proofs.Common.{◌≡◌, ℕ, ◌+◌, ◌<◌, Bool, ◌||◌, List, ◌++◌, length, drop, map, get_or, ap, sym, ◌∙◌, append_assoc}
use Rattle.std.specs.List.{flat_map}
use Rattle.std.proofs.lemmas.List.{drop_more}
use Rattle.std.proofs.lemmas.List.Folds.{flat_map-map}
use Rattle.json.specs.Token.{Token}
use Rattle.word_bits.specs.Places.{has_place}
use Rattle.ahci_trace.specs.Names.{Named, name_text, named, names_text}
use Rattle.ahci_trace.specs.declared.names.NamedBit.{NamedBit}

-- where the text so far and the names that are left are the whole, they are so after the next name
pub more_names : (text new whole : List ℕ) (set : List Bool) (any any' : Bool) (bits : List NamedBit) (i : ℕ) (d : NamedBit) → i < length bits
    → text ++ names_text any set (map named (drop i bits)) ≡ whole
    → new ≡ text ++ name_text any set (get_or bits i d).0 (get_or bits i d).1.now → any' ≡ (any || has_place set (get_or bits i d).0)
    → new ++ names_text any' set (map named (drop (i + 1) bits)) ≡ whole
more_names text new whole set any any' bits i d low so_far grown more =
    let b = get_or bits i d in
    let rest = map named (drop (i + 1) bits) in
    ap (λ a. new ++ names_text a set rest) more ∙ ap (λ t. t ++ names_text (any || has_place set b.0) set rest) grown
    ∙ append_assoc text (name_text any set b.0 b.1.now) (names_text (any || has_place set b.0) set rest)
    ∙ ap (λ l. text ++ names_text any set (map named l)) (sym (drop_more bits i d low)) ∙ so_far

-- each of some bits as it is in the table
pub each_bit : (f : Named → List Token) (bits : List NamedBit) (table : List Named) → map named bits ≡ table
    → flat_map (λ b. f (named b)) bits ≡ flat_map f table
each_bit f bits table is = sym (flat_map-map f named bits) ∙ ap (flat_map f) is
