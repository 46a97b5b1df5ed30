-- What a seat knows: the depth of its board, its tags as 32 truth values, and the log of what its own steps found, the
-- newest first. Only contracts see it.
use Rattle.std.specs.Prelude.{ℕ, zero, suc, Bool, false, if◌then◌else◌, List, [], ◌∷◌}
use Rattle.word_bits.specs.Places.{no_places, with_place, without_place, union}
use Rattle.tag_board.specs.declared.finding.Finding.{Finding}
use Rattle.tag_board.specs.declared.finding.Finding.TheVariants.{Seen, Tried, Gave}
use Rattle.tag_board.specs.declared.view.View.{View}

-- no tags, and an empty log
abbrev pub blank : ℕ → View
blank depth = record { depth = depth; tags = no_places; log = [] }

-- what a seat leaves behind that was joined into another: no tags, of no depth
abbrev pub spent : View
spent = blank 0

-- the first with the tags of both; its log stays
abbrev pub joined : View → View → View
joined v w = record { depth = v.depth; tags = union v.tags w.tags; log = v.log }

-- after a load that found the word
abbrev pub after_seen : View → ℕ → View
after_seen v word = record { depth = v.depth; tags = v.tags; log = Seen word ∷ v.log }

-- after a tag was tried, which is gained where the word had it
abbrev pub after_tried : View → ℕ → Bool → View
after_tried v tag had =
    record { depth = v.depth; tags = (if had then with_place v.tags tag else v.tags); log = Tried tag had ∷ v.log }

-- after a tag was given back
abbrev pub after_gave : View → ℕ → View
after_gave v tag = record { depth = v.depth; tags = without_place v.tags tag; log = Gave tag ∷ v.log }

-- a log after each tag below a number was tried in order and found taken
unfoldable pub missed : ℕ → List Finding → List Finding
missed zero log = log
missed (suc tag) log = Tried tag false ∷ missed tag log
