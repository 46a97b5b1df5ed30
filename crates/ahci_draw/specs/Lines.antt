-- The lines of a listing, and what is in a line.
use Rattle.std.specs.Prelude.{ℕ, ◌==◌, ◌&&◌, Bool, false, List, map, filter, nat_le, take, drop, Option, None, Some, position, Result, Ok, Err}
use Rattle.std.specs.Borrow.{Bor}
use Rattle.std.specs.List.{slice_split}
use Rattle.ahci_script.specs.Number.{decimal_of}
use Rattle.ahci_script.specs.declared.fault.Fault.{Fault}

-- what references point to
abbrev pub texts : List (Bor (List ℕ)) → List (List ℕ)
texts lines = map (λ line. line.now) lines

-- the places in a line after the letters of the 32 tags
abbrev pub device_place : ℕ
device_place = 32

abbrev pub sign_place : ℕ
sign_place = 33

abbrev pub lane_place : ℕ
lane_place = 34

-- the entry in words, after its number
abbrev pub title_of : List ℕ → List ℕ
title_of line = drop 35 line

abbrev pub front_to : List ℕ → Option ℕ → List ℕ
front_to title None = title
front_to title (Some end) = take end title

-- the entry's number, which is before the first colon
abbrev pub label_of : List ℕ → List ℕ
label_of title = front_to title (position (λ byte. byte == 58) title)

-- a number from one to another, both of them too
abbrev pub is_within : (from to : ℕ) → Result ℕ Fault → Bool
is_within from to (Ok number) = nat_le from number && nat_le number to
is_within from to (Err fault) = false

-- a line is that of an entry whose number is one of these
abbrev pub is_asked : (from to : ℕ) → List ℕ → Bool
is_asked from to line = is_within from to (decimal_of (label_of (title_of line)))

-- the lines between line feeds of the entries with these numbers
abbrev pub lines_from : (from to : ℕ) → List ℕ → List (List ℕ)
lines_from from to listing = filter (is_asked from to) (slice_split (λ byte. byte == 10) listing)
