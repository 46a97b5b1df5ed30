-- The steps of the three choosers, over the sets of tags that wait for the device and that are outstanding in it.
use Rattle.std.specs.Prelude.{◌≡◌, ◌≢◌, ℕ, Bool, List, [], ◌∷◌}
use Rattle.std.specs.List.{filter, range_with_len}
use Rattle.word_bits.specs.Places.{bits, has_place, no_places, IsLowest, IsHighest}
use Rattle.ahci_port.specs.declared.step.DeviceStep.{DeviceStep}
use Rattle.ahci_port.specs.declared.step.DeviceStep.TheVariants.{Accept, Serve, Fail}

-- a list of one tag, of which P holds
abbrev pub IsOne : (ℕ → Type 0) → List ℕ → Type 0
IsOne P [] = ⊥
IsOne P (tag ∷ []) = P tag
IsOne P (tag ∷ other ∷ tags) = ⊥

-- the lowest tag is served that the device has, or, where it has none, the lowest is accepted that waits; tag 0, where none does
abbrev pub IsLowestStep : ℕ → ℕ → DeviceStep → Type 0
IsLowestStep issued accepted (Serve tags) = IsOne (IsLowest (bits accepted)) tags.items
IsLowestStep issued accepted (Accept tag) = (bits accepted ≡ no_places) × (bits issued ≢ no_places → IsLowest (bits issued) tag) × (bits issued ≡ no_places → tag ≡ 0)
IsLowestStep issued accepted (Fail tag error at) = ⊥

-- the same of the highest tags
abbrev pub IsHighestStep : ℕ → ℕ → DeviceStep → Type 0
IsHighestStep issued accepted (Serve tags) = IsOne (IsHighest (bits accepted)) tags.items
IsHighestStep issued accepted (Accept tag) = (bits accepted ≡ no_places) × (bits issued ≢ no_places → IsHighest (bits issued) tag) × (bits issued ≡ no_places → tag ≡ 0)
IsHighestStep issued accepted (Fail tag error at) = ⊥

-- the tags of a set, rising
abbrev pub tags_in : List Bool → List ℕ
tags_in set = filter (has_place set) (range_with_len 0 32)

-- the lowest tag is accepted that waits, or, where none does, all tags are served that the device has, rising
abbrev pub IsStepOfAll : ℕ → ℕ → DeviceStep → Type 0
IsStepOfAll issued accepted (Serve tags) = (bits issued ≡ no_places) × (tags.items ≡ tags_in (bits accepted))
IsStepOfAll issued accepted (Accept tag) = IsLowest (bits issued) tag
IsStepOfAll issued accepted (Fail tag error at) = ⊥
