-- An overview opens and closes its own elements alone, and so does a picture.
use Rattle.std.proofs.Common.{◌≡◌, ℕ, ◌+◌, ◌-◌, ◌*◌, ◌/◌, ◌%◌, ◌==◌, true, List, [], ◌∷◌, ◌++◌, ap, ◌∙◌, refl, codes, length, nat_le, Option, None, Some, position}
use Rattle.std.specs.List.{list_all, range_with_len}
use Rattle.ahci_draw.specs.Grid.{grid_text}
use Rattle.ahci_draw.specs.Heading.{heading_shape, heading_text, height_of, width_of}
use Rattle.ahci_draw.specs.Lanes.{cells_in, tags_in}
use Rattle.ahci_draw.specs.Lines.{label_of, sign_place, title_of}
use Rattle.ahci_draw.specs.Markup.{IsClosed, Text, at, is_plain, reads}
use Rattle.ahci_draw.specs.Overview.{body_text, counts_shape, counts_text, failure_label, line_at, long_text, mark_at, mark_colour, mark_from, mark_head, mark_shape, mark_top, marks_text, more_text, names_text, overview_of, overview_text, row_name, row_names, strip_text, tenth_at, tenths_text}
use Rattle.ahci_draw.specs.Picture.{picture_of, picture_with}
use Rattle.ahci_draw.specs.Places.{count_of, edge, first_of, part_of}
use Rattle.ahci_draw.specs.Row.{row_left, row_top, rows_in, rows_text}
use Rattle.ahci_draw.specs.Signs.{label_shape}
use Rattle.ahci_draw.specs.Text.{numbered}
use Rattle.ahci_draw.proofs.ClosedLemmas.{Plain, all_at, all_drop, closes_grid, closes_label, closes_rows, if_all, plain_front, plain_numbered}
use Rattle.ahci_draw.proofs.MarkupLemmas.{Closes, closes_all, closes_both, closes_if, closes_none, number_in_text, number_in_value, past, plain_append, plain_in_text, plain_in_value, reads-append}

-- the words of an entry, and its number
plain_title : (lines : List (List ℕ)) (index : ℕ) → list_all (list_all is_plain) lines ≡ true → Plain (title_of (line_at lines index))
plain_title lines index plain = all_drop is_plain 35 (line_at lines index) (all_at (list_all is_plain) [] refl lines index plain)

plain_label : (lines : List (List ℕ)) (index : ℕ) → list_all (list_all is_plain) lines ≡ true → Plain (label_of (title_of (line_at lines index)))
plain_label lines index plain =
    plain_front (title_of (line_at lines index)) (position (λ b. b == 58) (title_of (line_at lines index))) (plain_title lines index plain)

-- ---- marks

plain_more : (more : ℕ) → Plain (more_text more)
plain_more more =
    if_all is_plain (more == 0) [] (numbered (codes " and ") more ++ codes " more") refl
    (plain_append (numbered (codes " and ") more) (codes " more") (plain_numbered (codes " and ") more refl) refl)

plain_colour : (sign : ℕ) → Plain (mark_colour sign)
plain_colour sign = if_all is_plain (sign == 88) (codes "e55") (codes "96d") refl refl

opens_mark : (colour : List ℕ) (place top index : ℕ) (opened : List (List ℕ)) → Plain colour
    → reads (mark_head colour place top index) (at Text opened) ≡ at Text (codes "eltit" ∷ codes "htap" ∷ opened)
unfolding mark_head numbered
opens_mark colour place top index opened plain =
    plain_in_value colour _ (codes "htap") opened plain ∙ number_in_value (place + 72) _ (codes "htap") opened
    ∙ number_in_value top _ (codes "htap") opened ∙ number_in_text (index / 100 + 1) (codes ", ") (codes "eltit" ∷ codes "htap" ∷ opened)

closes_mark : (sign place index : ℕ) (title : List ℕ) (more : ℕ) → Plain title → Closes (mark_shape sign place index title more)
unfolding mark_shape
closes_mark sign place index title more plain = record {
  whole = λ opened.
      reads-append (mark_head (mark_colour sign) place (mark_top sign) index) (title ++ (more_text more ++ codes "</title></path>")) (at Text opened)
      ∙ ap (reads (title ++ (more_text more ++ codes "</title></path>"))) (opens_mark (mark_colour sign) place (mark_top sign) index opened (plain_colour sign))
      ∙ plain_in_text title (more_text more ++ codes "</title></path>") (codes "eltit" ∷ codes "htap" ∷ opened) plain
      ∙ plain_in_text (more_text more) (codes "</title></path>") (codes "eltit" ∷ codes "htap" ∷ opened) (plain_more more);
}

closes_from : (sign place : ℕ) (signs : List ℕ) (lines : List (List ℕ)) (first : Option ℕ) → list_all (list_all is_plain) lines ≡ true
    → Closes (mark_from sign place signs lines first)
closes_from sign place signs lines None plain = closes_none
closes_from sign place signs lines (Some first) plain =
    closes_mark sign place (edge (length signs) place + first) (title_of (line_at lines (edge (length signs) place + first))) (count_of sign (part_of signs place) - 1)
    (plain_title lines (edge (length signs) place + first) plain)

closes_marks : (sign : ℕ) (signs : List ℕ) (lines : List (List ℕ)) → list_all (list_all is_plain) lines ≡ true → Closes (marks_text sign signs lines)
unfolding marks_text
closes_marks sign signs lines plain =
    closes_all (mark_at sign signs lines) (range_with_len 0 1200) (λ place. closes_from sign place signs lines (first_of sign (part_of signs place)) plain)

-- ---- the overview

closes_tenths : (lines : List (List ℕ)) → list_all (list_all is_plain) lines ≡ true → Closes (tenths_text lines)
unfolding tenths_text
closes_tenths lines plain =
    closes_all (tenth_at lines) (range_with_len 0 10)
    (λ ten. closes_if (10 * ten % 10 == 0) (label_shape (10 * ten) (label_of (title_of (line_at lines (edge (length lines) (120 * ten)))))) []
    (closes_label (10 * ten) (label_of (title_of (line_at lines (edge (length lines) (120 * ten))))) (plain_label lines (edge (length lines) (120 * ten)) plain)) closes_none)

plain_failure : (lines : List (List ℕ)) (first : Option ℕ) → list_all (list_all is_plain) lines ≡ true → Plain (failure_label lines first)
plain_failure lines None plain = refl
plain_failure lines (Some index) plain = plain_label lines index plain

closes_counts : (entries rows failures recoveries : ℕ) (first : List ℕ) → Plain first → Closes (counts_shape entries rows failures recoveries first)
unfolding counts_shape numbered
closes_counts entries rows failures recoveries first plain = record {
  whole = λ opened.
      number_in_text entries _ (codes "txet" ∷ opened) ∙ number_in_text rows _ (codes "txet" ∷ opened)
      ∙ number_in_text failures _ (codes "txet" ∷ opened) ∙ number_in_text recoveries _ (codes "txet" ∷ opened)
      ∙ plain_in_text first (codes "</text>") (codes "txet" ∷ opened) plain;
}

closes_names : Closes names_text
closes_names = record { whole = λ opened. refl }

closes_strip : (signs : List ℕ) (lines : List (List ℕ)) → list_all (list_all is_plain) lines ≡ true → Closes (strip_text signs lines)
unfolding strip_text
closes_strip signs lines plain =
    closes_both (grid_text 2 100) _ (closes_grid 2 100)
    (closes_both (tenths_text lines) _ (closes_tenths lines plain)
    (closes_both names_text _ closes_names
    (closes_both (marks_text 88 signs lines) (marks_text 86 signs lines) (closes_marks 88 signs lines plain) (closes_marks 86 signs lines plain))))

-- a text inside an element of its own
closes_inside : (start text : List ℕ) → ((opened : List (List ℕ)) (rest : List ℕ) → reads (start ++ rest) (at Text opened) ≡ reads rest (at Text (codes "g" ∷ opened)))
    → Closes text → Closes (start ++ (text ++ codes "</g>"))
closes_inside start text opens inner = record {
  whole = λ opened.
      opens opened (text ++ codes "</g>") ∙ past text (codes "</g>") (at Text (codes "g" ∷ opened)) (inner.whole (codes "g" ∷ opened));
}

closes_overview : (signs : List ℕ) (lines : List (List ℕ)) → list_all (list_all is_plain) lines ≡ true → Closes (overview_of signs lines)
unfolding overview_of
closes_overview signs lines plain =
    closes_both (counts_text signs lines) _
    (closes_counts (length signs) (rows_in (length signs)) (count_of 88 signs) (count_of 86 signs) (failure_label lines (first_of 88 signs)) (plain_failure lines (first_of 88 signs) plain))
    (closes_inside (codes "\n<g transform='translate(0 104)'>") (strip_text signs lines) (λ opened rest. refl) (closes_strip signs lines plain))

-- ---- the picture

closes_row_name : (lanes row : ℕ) → Closes (row_name lanes row)
unfolding row_name numbered
closes_row_name lanes row = record {
  whole = λ opened.
      number_in_value (row_left row + 36) _ (codes "txet") opened ∙ number_in_value (row_top lanes row + 20) _ (codes "txet") opened ∙ number_in_text (row + 1) (codes "</text>") (codes "txet" ∷ opened);
}

closes_row_names : (lanes rows : ℕ) → Closes (row_names lanes rows)
unfolding row_names
closes_row_names lanes rows = closes_all (row_name lanes) (range_with_len 0 rows) (closes_row_name lanes)

closes_long : (tags : List ℕ) (lines : List (List ℕ)) → list_all (list_all is_plain) lines ≡ true → Closes (long_text tags lines)
unfolding long_text
closes_long tags lines plain =
    let names = closes_row_names (length tags) (rows_in (length lines)) in
    let rows = closes_rows tags lines plain in
    closes_both (overview_text lines) _ (closes_overview (cells_in lines sign_place) lines plain) (record {
      whole = λ opened.
          past (row_names (length tags) (rows_in (length lines))) (rows_text tags lines ++ codes "\n</g>") (at Text (codes "g" ∷ opened)) (names.whole (codes "g" ∷ opened))
          ∙ past (rows_text tags lines) (codes "\n</g>") (at Text (codes "g" ∷ opened)) (rows.whole (codes "g" ∷ opened));
    })

closes_body : (tags : List ℕ) (lines : List (List ℕ)) → list_all (list_all is_plain) lines ≡ true → Closes (body_text tags lines)
closes_body tags lines plain = closes_if (nat_le (length lines) 1000) (rows_text tags lines) (long_text tags lines) (closes_rows tags lines plain) (closes_long tags lines plain)

opens_heading : (columns lanes : ℕ) → reads (heading_text columns lanes) (at Text []) ≡ at Text (codes "gvs" ∷ [])
unfolding heading_shape numbered
opens_heading columns lanes =
    let height = height_of columns lanes in
    number_in_value (width_of columns) _ (codes "gvs") [] ∙ number_in_value height _ (codes "gvs") [] ∙ number_in_value (width_of columns) _ (codes "gvs") []
    ∙ number_in_value height _ (codes "gvs") [] ∙ number_in_text columns _ (codes "txet" ∷ codes "g" ∷ codes "gvs" ∷ []) ∙ number_in_text lanes _ (codes "txet" ∷ codes "g" ∷ codes "gvs" ∷ [])

pub closed_picture : (lines : List (List ℕ)) → list_all (list_all is_plain) lines ≡ true → IsClosed (picture_of lines ++ 10 ∷ [])
unfolding picture_with
closed_picture lines plain =
    let body = closes_body (tags_in lines) lines plain in
    reads-append (picture_of lines) (10 ∷ []) (at Text [])
    ∙ ap (reads (10 ∷ []))
    (reads-append (heading_text (length lines) (length (tags_in lines))) (body_text (tags_in lines) lines ++ codes "\n</svg>") (at Text [])
    ∙ ap (reads (body_text (tags_in lines) lines ++ codes "\n</svg>")) (opens_heading (length lines) (length (tags_in lines)))
    ∙ past (body_text (tags_in lines) lines) (codes "\n</svg>") (at Text (codes "gvs" ∷ [])) (body.whole (codes "gvs" ∷ [])))
