-- A picture of plain lines opens and closes its own elements alone.
use Rattle.std.proofs.Common.{◌≡◌, ℕ, suc, zero, ◌+◌, ◌*◌, ◌%◌, ◌/◌, ◌-◌, ◌==◌, ◌≤◌, Bool, true, false, ◌||◌, List, [], ◌∷◌, ◌++◌, sym, ◌∙◌, refl, arith, cond, codes, length, get_or, take, drop, filter, nat_le, Option, None, Some, position}
use Rattle.std.specs.Fmt.{decimal}
use Rattle.std.specs.List.{flat_map, list_all, onto_first, range_with_len, slice_split}
use Rattle.std.proofs.lemmas.Bool.{and_from, and_parts, eqb-true}
use Rattle.ahci_draw.specs.Grid.{across, down, grid_text}
use Rattle.ahci_draw.specs.Lanes.{cells_in, device_text, lane_at, lane_text, lanes_text, name_shape}
use Rattle.ahci_draw.specs.Lines.{device_place, front_to, is_asked, label_of, lane_place, lines_from, sign_place, title_of}
use Rattle.ahci_draw.specs.Markup.{Text, at, is_plain}
use Rattle.ahci_draw.specs.Row.{row_at, row_left, row_of, row_text, row_top, rows_in, rows_text}
use Rattle.ahci_draw.specs.Signs.{column_head, column_sign, head_at, heads_text, label_at, label_shape, rule_at, rule_shape, sign_at, sign_shape, signs_text}
use Rattle.ahci_draw.specs.Strip.{bar_shape, begins, colour_of, count_foot, left_of, level_shape, middle_of, run_at, run_length, run_text, runs_text}
use Rattle.ahci_draw.specs.declared.strip.Strip.{Strip}
use Rattle.ahci_draw.specs.declared.strip.Strip.TheVariants.{Lane, Device}
use Rattle.ahci_draw.specs.Text.{letter, numbered}
use Rattle.ahci_draw.proofs.MarkupLemmas.{Closes, closes_all, closes_both, closes_if, closes_none, number_in_text, number_in_value, past, plain_append, plain_decimal, plain_in_text, plain_in_value}

abbrev pub Plain : List ℕ → Type 0
Plain text = list_all is_plain text ≡ true

-- ---- lists all of whose elements pass a test

pub if_all : {X : Type 0} (p : X → Bool) (b : Bool) (xs ys : List X) → list_all p xs ≡ true → list_all p ys ≡ true → list_all p (cond b xs ys) ≡ true
if_all p true xs ys h k = h
if_all p false xs ys h k = k

all_take : {X : Type 0} (p : X → Bool) (n : ℕ) (xs : List X) → list_all p xs ≡ true → list_all p (take n xs) ≡ true
all_take p zero xs h = refl
all_take p (suc n) [] h = refl
all_take p (suc n) (x ∷ xs) h = and_from _ _ (and_parts _ _ h).0 (all_take p n xs (and_parts _ _ h).1)

pub all_drop : {X : Type 0} (p : X → Bool) (n : ℕ) (xs : List X) → list_all p xs ≡ true → list_all p (drop n xs) ≡ true
all_drop p zero xs h = h
all_drop p (suc n) [] h = refl
all_drop p (suc n) (x ∷ xs) h = all_drop p n xs (and_parts _ _ h).1

all_filter : {X : Type 0} (p q : X → Bool) (xs : List X) → list_all p xs ≡ true → list_all p (filter q xs) ≡ true
all_filter p q [] h = refl
all_filter p q (x ∷ xs) h = if_all p (q x) (x ∷ filter q xs) (filter q xs) (and_from _ _ (and_parts _ _ h).0 (all_filter p q xs (and_parts _ _ h).1)) (all_filter p q xs (and_parts _ _ h).1)

pub all_at : {X : Type 0} (p : X → Bool) (d : X) → p d ≡ true → (xs : List X) (i : ℕ) → list_all p xs ≡ true → p (get_or xs i d) ≡ true
all_at p d other [] i h = other
all_at p d other (x ∷ xs) zero h = (and_parts _ _ h).0
all_at p d other (x ∷ xs) (suc i) h = all_at p d other xs i (and_parts _ _ h).1

-- a byte before one that isn't 0 is in the line
plain_before : (xs : List ℕ) (i j : ℕ) → Plain xs → i ≤ j → (get_or xs j 0 ≡ 0 → ⊥) → is_plain (get_or xs i 0) ≡ true
plain_before [] i j h low other = absurd (other refl)
plain_before (x ∷ xs) zero j h low other = (and_parts _ _ h).0
plain_before (x ∷ xs) (suc i) zero h low other = absurd (omega (arith, low))
plain_before (x ∷ xs) (suc i) (suc j) h low other = plain_before xs i j (and_parts _ _ h).1 (omega (arith, low)) other

pub closes_when : (b : Bool) (a : List ℕ) → (b ≡ true → Closes a) → Closes (cond b a [])
closes_when true a p = p refl
closes_when false a p = closes_none

-- ---- strips

plain_colour : (cell : ℕ) → Plain (colour_of cell)
plain_colour cell =
    if_all is_plain (cell == 105) _ _ refl (if_all is_plain (cell == 73) _ _ refl (if_all is_plain (cell == 97) _ _ refl (if_all is_plain (cell == 65) _ _ refl
    (if_all is_plain (cell == 102) _ _ refl (if_all is_plain (cell == 70) _ _ refl (if_all is_plain (cell == 104) _ _ refl (if_all is_plain (cell == 72) _ _ refl
    (if_all is_plain (cell == 100) (codes "bea") (codes "5b6") refl refl))))))))

closes_bar : (lane start count : ℕ) (colour : List ℕ) → Plain colour → Closes (bar_shape lane colour start count)
unfolding bar_shape numbered
closes_bar lane start count colour plain = record {
  whole = λ opened.
      plain_in_value colour (codes "' d='M" ++ (decimal (left_of start) ++ (codes " " ++ (decimal (16 * lane + 32) ++ (codes "h" ++ (decimal (12 * count) ++ codes "'/>"))))))
      (codes "htap") opened plain
      ∙ number_in_value (left_of start) (codes " " ++ (decimal (16 * lane + 32) ++ (codes "h" ++ (decimal (12 * count) ++ codes "'/>")))) (codes "htap") opened
      ∙ number_in_value (16 * lane + 32) (codes "h" ++ (decimal (12 * count) ++ codes "'/>")) (codes "htap") opened
      ∙ number_in_value (12 * count) (codes "'/>") (codes "htap") opened;
}

closes_level : (lanes tags start count : ℕ) → Closes (level_shape lanes tags start count)
unfolding level_shape numbered
closes_level lanes tags start count = record {
  whole = λ opened.
      number_in_value (left_of start) _ _ _ ∙ number_in_value (19 * lanes + 30) _ _ _ ∙ number_in_value (3 * tags) _ _ _ ∙ number_in_value (12 * count) _ _ _
      ∙ number_in_value (3 * tags) _ _ _ ∙ number_in_value (middle_of start) _ _ _ ∙ number_in_value (19 * lanes + count_foot tags start) _ _ _ ∙ number_in_text tags _ _;
}

closes_run : (strip : Strip) (cell start count : ℕ) → Closes (run_text strip cell start count)
closes_run (Lane lane) cell start count = closes_if (cell == 46) [] (bar_shape lane (colour_of cell) start count) closes_none (closes_bar lane start count (colour_of cell) (plain_colour cell))
closes_run (Device lanes) cell start count = closes_if (nat_le cell 65) [] (level_shape lanes (cell - 65) start count) closes_none (closes_level lanes (cell - 65) start count)

closes_runs : (strip : Strip) (cells : List ℕ) → Closes (runs_text strip cells)
unfolding runs_text
closes_runs strip cells =
    closes_all (run_at strip cells) (range_with_len 0 (length cells))
    (λ place. closes_if (begins cells place) (run_text strip (get_or cells place 0) place (run_length cells place)) []
    (closes_run strip (get_or cells place 0) place (run_length cells place)) closes_none)

-- ---- signs

closes_sign : (column foot : ℕ) (title : List ℕ) (sign : ℕ) → Plain title → is_plain sign ≡ true → Closes (sign_shape column foot title sign)
unfolding sign_shape numbered
closes_sign column foot title sign plain shown = record {
  whole = λ opened.
      number_in_value (middle_of column) (codes "' y='" ++ (decimal foot ++ (codes "'><title>" ++ (title ++ (codes "</title>" ++ ((sign ∷ []) ++ codes "</text>")))))) (codes "txet") opened
      ∙ number_in_value foot (codes "'><title>" ++ (title ++ (codes "</title>" ++ ((sign ∷ []) ++ codes "</text>")))) (codes "txet") opened
      ∙ plain_in_text title (codes "</title>" ++ ((sign ∷ []) ++ codes "</text>")) (codes "eltit" ∷ codes "txet" ∷ opened) plain
      ∙ plain_in_text (sign ∷ []) (codes "</text>") (codes "txet" ∷ opened) (and_from (is_plain sign) true shown refl);
}

closes_sign_at : (lane foot column : ℕ) (line : List ℕ) → (lane ≡ 0 → ⊥) → Plain line → Closes (sign_at lane foot column line)
closes_sign_at lane foot column line some plain =
    closes_when (get_or line lane_place 0 == lane) (sign_shape column foot (title_of line) (get_or line sign_place 0))
    (λ is. closes_sign column foot (title_of line) (get_or line sign_place 0) (all_drop is_plain 35 line plain)
    (plain_before line sign_place lane_place plain (omega arith) (λ none. some (sym (eqb-true (get_or line lane_place 0) lane is) ∙ none))))

closes_signs : (lane foot : ℕ) (lines : List (List ℕ)) → (lane ≡ 0 → ⊥) → list_all (list_all is_plain) lines ≡ true → Closes (signs_text lane foot lines)
unfolding signs_text
closes_signs lane foot lines some plain =
    closes_all (column_sign lane foot lines) (range_with_len 0 (length lines))
    (λ column. closes_sign_at lane foot column (get_or lines column []) some (all_at (list_all is_plain) [] refl lines column plain))

pub closes_label : (column : ℕ) (label : List ℕ) → Plain label → Closes (label_shape column label)
unfolding label_shape numbered
closes_label column label plain = record {
  whole = λ opened.
      number_in_value (middle_of column) (codes "' y='10'>" ++ (label ++ codes "</text>")) (codes "txet") opened
      ∙ plain_in_text label (codes "</text>") (codes "txet" ∷ opened) plain;
}

pub plain_front : (title : List ℕ) (end : Option ℕ) → Plain title → Plain (front_to title end)
plain_front title None plain = plain
plain_front title (Some end) plain = all_take is_plain end title plain

closes_rule : (lanes column : ℕ) (colour : List ℕ) → Plain colour → Closes (rule_shape lanes column colour)
unfolding rule_shape numbered
closes_rule lanes column colour plain = record {
  whole = λ opened.
      plain_in_value colour (codes "' d='M" ++ (decimal (middle_of column) ++ (codes " 24v" ++ (decimal (16 * lanes) ++ codes "'/>")))) (codes "htap") opened plain
      ∙ number_in_value (middle_of column) (codes " 24v" ++ (decimal (16 * lanes) ++ codes "'/>")) (codes "htap") opened
      ∙ number_in_value (16 * lanes) (codes "'/>") (codes "htap") opened;
}

closes_head : (lanes column : ℕ) (line : List ℕ) → Plain line → Closes (head_at lanes column line)
unfolding head_at
closes_head lanes column line plain =
    closes_both (rule_at lanes column (get_or line sign_place 0)) (label_at column line ++ sign_at 46 20 column line)
    (closes_if (get_or line sign_place 0 == 88) (rule_shape lanes column (codes "e55")) (cond (get_or line sign_place 0 == 86) (rule_shape lanes column (codes "96d")) [])
    (closes_rule lanes column (codes "e55") refl)
    (closes_if (get_or line sign_place 0 == 86) (rule_shape lanes column (codes "96d")) [] (closes_rule lanes column (codes "96d") refl) closes_none))
    (closes_both (label_at column line) (sign_at 46 20 column line)
    (closes_if (column % 10 == 0) (label_shape column (label_of (title_of line))) []
    (closes_label column (label_of (title_of line)) (plain_front (title_of line) (position (λ b. b == 58) (title_of line)) (all_drop is_plain 35 line plain))) closes_none)
    (closes_sign_at 46 20 column line (λ h. absurd (cc)) plain))

closes_heads : (lanes : ℕ) (lines : List (List ℕ)) → list_all (list_all is_plain) lines ≡ true → Closes (heads_text lanes lines)
unfolding heads_text
closes_heads lanes lines plain =
    closes_all (column_head lanes lines) (range_with_len 0 (length lines))
    (λ column. closes_head lanes column (get_or lines column []) (all_at (list_all is_plain) [] refl lines column plain))

-- ---- lanes

closes_name : (lane tag : ℕ) → Closes (name_shape lane tag)
unfolding name_shape numbered
closes_name lane tag = record {
  whole = λ opened.
      number_in_value (16 * lane + 35) (codes "'>tag " ++ (decimal tag ++ codes "</text>")) (codes "txet") opened
      ∙ number_in_text tag (codes "</text>") (codes "txet" ∷ opened);
}

closes_lane : (lines : List (List ℕ)) (lane tag : ℕ) → list_all (list_all is_plain) lines ≡ true → Closes (lane_text lines lane tag)
unfolding lane_text
closes_lane lines lane tag plain =
    closes_both (name_shape lane tag) (runs_text (Lane lane) (cells_in lines tag) ++ signs_text (letter tag) (16 * lane + 35) lines) (closes_name lane tag)
    (closes_both (runs_text (Lane lane) (cells_in lines tag)) (signs_text (letter tag) (16 * lane + 35) lines) (closes_runs (Lane lane) (cells_in lines tag))
    (closes_signs (letter tag) (16 * lane + 35) lines (λ h. omega (arith, h)) plain))

closes_lanes : (tags : List ℕ) (lines : List (List ℕ)) → list_all (list_all is_plain) lines ≡ true → Closes (lanes_text tags lines)
unfolding lanes_text
closes_lanes tags lines plain = closes_all (lane_at tags lines) (range_with_len 0 (length tags)) (λ lane. closes_lane lines lane (get_or tags lane 0) plain)

closes_device : (lanes : ℕ) (lines : List (List ℕ)) → Closes (device_text lanes lines)
unfolding device_text numbered
closes_device lanes lines =
    let runs = closes_runs (Device lanes) (cells_in lines device_place) in record {
      whole = λ opened.
          number_in_value (19 * lanes + 30) (codes "'>in device</text>" ++ ((runs_text (Device lanes) (cells_in lines device_place)) ++ codes "</g>")) (codes "txet") (codes "g" ∷ opened)
          ∙ past (runs_text (Device lanes) (cells_in lines device_place)) (codes "</g>") (at Text (codes "g" ∷ opened)) (runs.whole (codes "g" ∷ opened));
    }

all_flat_map : (f : ℕ → List ℕ) (xs : List ℕ) → ((x : ℕ) → Plain (f x)) → Plain (flat_map f xs)
all_flat_map f [] each = refl
all_flat_map f (x ∷ xs) each = plain_append (f x) (flat_map f xs) (each x) (all_flat_map f xs each)

pub plain_numbered : (word : List ℕ) (n : ℕ) → Plain word → Plain (numbered word n)
unfolding numbered
plain_numbered word n plain = plain_append word (decimal n) plain (plain_decimal n)

plain_across : (columns lane : ℕ) → Plain (across columns lane)
unfolding across
plain_across columns lane =
    plain_append (numbered (codes "M72 ") (16 * lane + 24)) (numbered (codes "h") (12 * columns)) (plain_numbered (codes "M72 ") (16 * lane + 24) refl)
    (plain_numbered (codes "h") (12 * columns) refl)

plain_down : (lanes ten : ℕ) → Plain (down lanes ten)
unfolding down
plain_down lanes ten =
    plain_append (numbered (codes "M") (120 * ten + 72)) (numbered (codes " 24v") (16 * lanes)) (plain_numbered (codes "M") (120 * ten + 72) refl)
    (plain_numbered (codes " 24v") (16 * lanes) refl)

pub closes_grid : (lanes columns : ℕ) → Closes (grid_text lanes columns)
unfolding grid_text
closes_grid lanes columns = record {
  whole = λ opened.
      plain_in_value (flat_map (across columns) (range_with_len 0 (lanes + 1))) ((flat_map (down lanes) (range_with_len 0 (columns / 10 + 1))) ++ codes "'/>") (codes "htap") opened
      (all_flat_map (across columns) (range_with_len 0 (lanes + 1)) (plain_across columns))
      ∙ plain_in_value (flat_map (down lanes) (range_with_len 0 (columns / 10 + 1))) (codes "'/>") (codes "htap") opened
      (all_flat_map (down lanes) (range_with_len 0 (columns / 10 + 1)) (plain_down lanes));
}

-- ---- rows

closes_row : (tags : List ℕ) (lines : List (List ℕ)) (row : ℕ) → list_all (list_all is_plain) lines ≡ true → Closes (row_text tags lines row)
unfolding row_text numbered
closes_row tags lines row plain =
    let g = closes_grid (length tags) (length lines) in
    let h = closes_heads (length tags) lines plain in
    let l = closes_lanes tags lines plain in
    let d = closes_device (length tags) lines in record {
      whole = λ opened.
          number_in_value (row_left row) _ (codes "g") opened
          ∙ number_in_value (row_top (length tags) row) (codes ")'>" ++
          ((grid_text (length tags) (length lines)) ++ ((heads_text (length tags) lines) ++ ((lanes_text tags lines) ++ ((device_text (length tags) lines) ++ codes "</g>"))))) (codes "g") opened
          ∙ past (grid_text (length tags) (length lines)) ((heads_text (length tags) lines) ++ ((lanes_text tags lines) ++ ((device_text (length tags) lines) ++ codes "</g>")))
          (at Text (codes "g" ∷ opened)) (g.whole (codes "g" ∷ opened))
          ∙ past (heads_text (length tags) lines) ((lanes_text tags lines) ++ ((device_text (length tags) lines) ++ codes "</g>")) (at Text (codes "g" ∷ opened)) (h.whole (codes "g" ∷ opened))
          ∙ past (lanes_text tags lines) ((device_text (length tags) lines) ++ codes "</g>") (at Text (codes "g" ∷ opened)) (l.whole (codes "g" ∷ opened))
          ∙ past (device_text (length tags) lines) (codes "</g>") (at Text (codes "g" ∷ opened)) (d.whole (codes "g" ∷ opened));
    }

pub closes_rows : (tags : List ℕ) (lines : List (List ℕ)) → list_all (list_all is_plain) lines ≡ true → Closes (rows_text tags lines)
unfolding rows_text
closes_rows tags lines plain =
    closes_all (row_at tags lines) (range_with_len 0 (rows_in (length lines)))
    (λ row. closes_row tags (row_of lines row) row (all_take (list_all is_plain) 100 (drop (100 * row) lines) (all_drop (list_all is_plain) (100 * row) lines plain)))

-- ---- the lines of a listing

onto_plain : (x : ℕ) (parts : List (List ℕ)) → is_plain x ≡ true → list_all (list_all is_plain) parts ≡ true → list_all (list_all is_plain) (onto_first x parts) ≡ true
onto_plain x [] p h = and_from _ _ (and_from _ _ p refl) refl
onto_plain x (part ∷ parts) p h = and_from _ _ (and_from _ _ p (and_parts _ _ h).0) (and_parts _ _ h).1

either_plain : (p b : Bool) → (p || b) ≡ true → b ≡ false → p ≡ true
either_plain true b h other = refl
either_plain false b h other = absurd (cc)

split_case : (b : Bool) (x : ℕ) (parts : List (List ℕ)) → (b ≡ false → is_plain x ≡ true) → list_all (list_all is_plain) parts ≡ true
    → list_all (list_all is_plain) (cond b ([] ∷ parts) (onto_first x parts)) ≡ true
split_case true x parts plain h = and_from _ _ refl h
split_case false x parts plain h = onto_plain x parts (plain refl) h

-- a byte of a listing: its lines are plain
abbrev pub is_listing_byte : ℕ → Bool
is_listing_byte byte = is_plain byte || (byte == 10)

split_plain : (listing : List ℕ) → list_all is_listing_byte listing ≡ true → list_all (list_all is_plain) (slice_split (λ b. b == 10) listing) ≡ true
split_plain [] h = refl
split_plain (x ∷ listing) h =
    split_case (x == 10) x (slice_split (λ b. b == 10) listing) (either_plain (is_plain x) (x == 10) (and_parts _ _ h).0) (split_plain listing (and_parts _ _ h).1)

pub plain_lines : (from to : ℕ) (listing : List ℕ) → list_all is_listing_byte listing ≡ true → list_all (list_all is_plain) (lines_from from to listing) ≡ true
plain_lines from to listing h = all_filter (list_all is_plain) (is_asked from to) (slice_split (λ b. b == 10) listing) (split_plain listing h)
