-- The listing of a script has plain lines, whatever it answers.
use Rattle.std.proofs.Common.{◌≡◌, ℕ, suc, zero, ◌+◌, ◌-◌, ◌%◌, ◌<◌, ◌==◌, Bool, true, false, List, [], ◌∷◌, ◌++◌, ap, sym, ◌∙◌, refl, subst, arith, codes, length, not, ◌||◌, Option, None, Some, le-leb}
use Rattle.std.specs.Prelude.{slice_index_or, max}
use Rattle.std.specs.Fmt.{decimal}
use Rattle.std.specs.List.{flat_map, list_all, range_with_len}
use Rattle.std.proofs.lemmas.Bool.{and_from, and_parts, ne_eqb}
use Rattle.ahci_port.specs.PortView.{PortView, next_number}
use Rattle.ahci_replay.specs.Transcript.{Adds, RunsLine, no_line, one_more}
use Rattle.ahci_replay.specs.declared.script_fault.ScriptFault.{ScriptFault}
use Rattle.ahci_replay.specs.declared.script_fault.ScriptFault.TheVariants as fault
use Rattle.streams.specs.Text.{hex_of}
use Rattle.ahci_script.specs.Said.{Said}
use Rattle.ahci_script.specs.declared.line.Line.{Line}
use Rattle.ahci_script.specs.declared.line.Line.TheVariants as line
use Rattle.ncq_journal.specs.Entry.{Entry, Issue, Accept, Complete, Fail, Recover, Reissue, Collect, Unqueued, Zero}
use Rattle.ncq_journal.specs.Numbering.{entry_numbered}
use Rattle.ncq_journal.specs.Work.{Work, Read, Write, sectors_of}
use Rattle.ncq_journal.specs.declared.phase.Phase.{Phase}
use Rattle.ncq_journal.specs.declared.phase.Phase.TheVariants.{Free, Issued, Accepted, Rejected, Broken, Held, Done}
use Rattle.ncq_journal.specs.declared.plain.Plain.TheVariants.{Identify, Flush, ReadLog}
use Rattle.ahci_draw.specs.Drawn.{IsListing, IsListingTo, picture_lines}
use Rattle.ahci_draw.specs.Entries.{entries_text, line_of, moved_by}
use Rattle.ahci_draw.specs.Line.{cell, cell_at, cells, entry_line, lane_of, sign_of}
use Rattle.ahci_draw.specs.Lines.{lines_from}
use Rattle.ahci_draw.specs.Markup.{IsClosed, is_plain}
use Rattle.ahci_draw.specs.Mark.{mark_of}
use Rattle.ahci_draw.specs.Listing.{added_between, listing_text}
use Rattle.ahci_draw.specs.Tags.{in_device, moved, unused}
use Rattle.ahci_draw.specs.Text.{letter, numbered}
use Rattle.ahci_draw.specs.Words.{entry_words, failure_words, issue_words, title_text, zero_words}
use Rattle.ahci_draw.specs.declared.tag_state.TagState.{TagState}
use Rattle.ahci_draw.proofs.MarkupLemmas.{plain_append, plain_decimal, plain_hex}
use Rattle.ahci_draw.proofs.ClosedLemmas.{Plain, is_listing_byte, plain_lines, plain_numbered}
use Rattle.ahci_draw.proofs.PictureLemmas.{closed_picture}

-- ---- words

plain_issue : (tag : ℕ) (work : Work) → Plain (issue_words tag work)
unfolding issue_words
plain_issue tag (Read lba sectors) =
    plain_append (numbered (codes ": read, tag ") tag) (numbered (codes ", LBA ") lba ++ numbered (codes ", sectors ") sectors) (plain_numbered _ _ refl)
    (plain_append (numbered (codes ", LBA ") lba) (numbered (codes ", sectors ") sectors) (plain_numbered _ _ refl) (plain_numbered _ _ refl))
plain_issue tag (Write lba bytes) =
    plain_append (numbered (codes ": write, tag ") tag) (numbered (codes ", LBA ") lba ++ numbered (codes ", sectors ") (sectors_of (Write lba bytes))) (plain_numbered _ _ refl)
    (plain_append (numbered (codes ", LBA ") lba) (numbered (codes ", sectors ") (sectors_of (Write lba bytes))) (plain_numbered _ _ refl) (plain_numbered _ _ refl))

plain_failure : (tag error lba : ℕ) → Plain (failure_words tag error lba)
unfolding failure_words
plain_failure tag error lba =
    plain_append (32 ∷ hex_of 2 error) (numbered (codes "h, tag ") tag ++ numbered (codes ", LBA ") lba) (plain_hex 2 error)
    (plain_append (numbered (codes "h, tag ") tag) (numbered (codes ", LBA ") lba) (plain_numbered _ _ refl) (plain_numbered _ _ refl))

plain_zero : (lba sectors : ℕ) → Plain (zero_words lba sectors)
unfolding zero_words
plain_zero lba sectors = plain_append (numbered (codes ": DATA SET MANAGEMENT, LBA ") lba) (numbered (codes ", sectors ") sectors) (plain_numbered _ _ refl) (plain_numbered _ _ refl)

plain_entry : (entry : Entry) → Plain (entry_words entry)
plain_entry (Issue tag work) = plain_issue tag work
plain_entry (Accept tag) = plain_numbered _ _ refl
plain_entry (Complete tag) = plain_numbered _ _ refl
plain_entry (Fail tag error lba) = plain_failure tag error lba
plain_entry (Recover tag) = plain_numbered _ _ refl
plain_entry (Reissue tag) = plain_numbered _ _ refl
plain_entry (Collect tag) = plain_numbered _ _ refl
plain_entry (Unqueued Identify) = refl
plain_entry (Unqueued Flush) = refl
plain_entry (Unqueued ReadLog) = refl
plain_entry (Zero lba sectors) = plain_zero lba sectors

plain_title : (number : ℕ) (entry : Entry) → Plain (title_text number entry)
unfolding title_text
plain_title number entry = plain_append (decimal number) (entry_words entry) (plain_decimal number) (plain_entry entry)

-- ---- letters

plain_above : (m : ℕ) → m < 58 → is_plain (65 + m) ≡ true
plain_above m low =
    and_from _ _ (le-leb 32 (65 + m) (omega arith)) (and_from _ _ (le-leb (65 + m) 126 (omega (arith, low))) (and_from _ _ (none 34 (omega arith)) (and_from _ _ (none 38 (omega arith))
    (and_from _ _ (none 39 (omega arith)) (and_from _ _ (none 60 (omega arith)) (none 62 (omega arith)))))))
  where
    none : (other : ℕ) → other < 65 → not (65 + m == other) ≡ true
    none other less = ap not (ne_eqb (65 + m) other (λ same. omega (arith, same, less)))

plain_letter : (n : ℕ) → is_plain (letter n) ≡ true
plain_letter n = plain_above (n % 58) (omega arith)

plain_cell : (p : Phase) (writes : Bool) → is_plain (cell p writes) ≡ true
plain_cell Free true = refl
plain_cell Free false = refl
plain_cell Issued true = refl
plain_cell Issued false = refl
plain_cell Accepted true = refl
plain_cell Accepted false = refl
plain_cell Rejected true = refl
plain_cell Rejected false = refl
plain_cell Broken true = refl
plain_cell Broken false = refl
plain_cell Held true = refl
plain_cell Held false = refl
plain_cell Done true = refl
plain_cell Done false = refl

plain_cells : (tags : List TagState) → Plain (cells tags)
unfolding cells
plain_cells tags = each (range_with_len 0 32)
  where
    each : (numbers : List ℕ) → Plain (flat_map (cell_at tags) numbers)
    each [] = refl
    each (n ∷ numbers) = let tag = slice_index_or tags n unused in and_from _ _ (plain_cell tag.phase tag.writes) (each numbers)

plain_sign_of : (entry : Entry) → is_plain (sign_of entry) ≡ true
plain_sign_of (Issue tag (Read lba sectors)) = refl
plain_sign_of (Issue tag (Write lba bytes)) = refl
plain_sign_of (Accept tag) = refl
plain_sign_of (Complete tag) = refl
plain_sign_of (Fail tag error lba) = refl
plain_sign_of (Recover tag) = refl
plain_sign_of (Reissue tag) = refl
plain_sign_of (Collect tag) = refl
plain_sign_of (Unqueued Identify) = refl
plain_sign_of (Unqueued Flush) = refl
plain_sign_of (Unqueued ReadLog) = refl
plain_sign_of (Zero lba sectors) = refl

plain_lane : (entry : Entry) → is_plain (lane_of entry) ≡ true
plain_lane (Issue tag work) = plain_letter tag
plain_lane (Accept tag) = plain_letter tag
plain_lane (Complete tag) = plain_letter tag
plain_lane (Fail tag error lba) = plain_letter tag
plain_lane (Recover tag) = plain_letter tag
plain_lane (Reissue tag) = plain_letter tag
plain_lane (Collect tag) = plain_letter tag
plain_lane (Unqueued command) = refl
plain_lane (Zero lba sectors) = refl

-- ---- the listing

abbrev OfListing : List ℕ → Type 0
OfListing text = list_all is_listing_byte text ≡ true

so : (a b : Bool) → a ≡ true → (a || b) ≡ true
so true b h = refl
so false b h = absurd (cc)

of_plain : (text : List ℕ) → Plain text → OfListing text
of_plain [] h = refl
of_plain (b ∷ text) h = and_from _ _ (so (is_plain b) (b == 10) (and_parts _ _ h).0) (of_plain text (and_parts _ _ h).1)

of_both : (a b : List ℕ) → OfListing a → OfListing b → OfListing (a ++ b)
of_both [] b p q = q
of_both (x ∷ a) b p q = and_from _ _ (and_parts _ _ p).0 (of_both a b (and_parts _ _ p).1 q)

of_entry : (number : ℕ) (tags : List TagState) (entry : Entry) → OfListing (entry_line number tags entry)
unfolding entry_line
of_entry number tags entry =
    of_plain (cells tags ++ ((letter (in_device tags) ∷ sign_of entry ∷ lane_of entry ∷ []) ++ title_text number entry))
    (plain_append (cells tags) ((letter (in_device tags) ∷ sign_of entry ∷ lane_of entry ∷ []) ++ title_text number entry) (plain_cells tags)
    (and_from _ _ (plain_letter (in_device tags)) (and_from _ _ (plain_sign_of entry) (and_from _ _ (plain_lane entry) (plain_title number entry)))))

of_line : (number : ℕ) (tags : List TagState) (entry : Option Entry) → OfListing (line_of number tags entry)
of_line number tags None = refl
of_line number tags (Some entry) = of_entry number (moved tags entry) entry

of_entries : (first : ℕ) (past : List Entry) (tags : List TagState) (number count : ℕ) → OfListing (entries_text first past tags number count)
unfolding entries_text
of_entries first past tags number zero = refl
of_entries first past tags number (suc more) =
    let found = entry_numbered first past number in
    of_both (line_of number tags found) (entries_text first past (moved_by tags found) (number + 1) more) (of_line number tags found)
    (of_entries first past (moved_by tags found) (number + 1) more)

of_added : (before after : Option PortView) → OfListing (added_between before after)
of_added before None = refl
of_added before (Some port) =
    let mark = mark_of before in
    of_entries port.first port.past mark.tags (max mark.end port.first) (next_number port - max mark.end port.first)

of_answer : (number : ℕ) (line : List ℕ) (said : Said) (before after : Option PortView) → OfListing (listing_text number line said before after)
of_answer number line said before after = of_both (added_between before after) (10 ∷ []) (of_added before after) refl

of_run : (number : ℕ) (first : List ℕ) (port : Option PortView) (l : Line) (next : Option PortView) (added : List ℕ) → RunsLine listing_text number first port l next added → OfListing added
of_run number first port line.Skip next added ran = subst OfListing (sym ran.1) refl
of_run number first port (line.Run command) next added ran = subst OfListing (sym ran.spelled) (of_answer number first ran.said port next)

of_lines : (number : ℕ) (port : Option PortView) (lines : List (List ℕ)) (text : List ℕ) (last : Option PortView) → Adds listing_text number port lines text last → OfListing text
of_lines _ _ _ _ _ (no_line number port) = refl
of_lines _ _ _ _ _ (one_more number port first l next added more text last found is ran rest) =
    of_both added text (of_run number first port l next added ran) (of_lines (number + 1) next more text last rest)

of_replayed : (r s : Option (List ℕ)) (listing : List ℕ) → IsListing r s listing → OfListing listing
of_replayed r s listing h =
    let g = h.last in
    subst OfListing (sym (h.written ∙ g.grown))
    (of_both h.text g.added (of_lines 1 None h.lines h.text h.port h.answered) (of_run (length h.lines + 1) h.rest h.port g.spelled h.last_port g.added g.ran))

of_replayed_to : (r s : Option (List ℕ)) (f : ScriptFault) (listing : List ℕ) → IsListingTo r s f listing → OfListing listing
of_replayed_to r s (fault.Line n) listing h = subst OfListing (sym h.holds.0) (of_lines 1 None h.lines h.text h.port h.answered)
of_replayed_to r s fault.Read listing h = subst OfListing (sym h.holds.0) (of_lines 1 None h.lines h.text h.port h.answered)
of_replayed_to r s fault.Write listing h = absurd h
of_replayed_to r s fault.OutOfMemory listing h = absurd h

closed_listing : (from to : ℕ) (listing : List ℕ) → OfListing listing → IsClosed (picture_lines from to listing)
closed_listing from to listing h = closed_picture (lines_from from to listing) (plain_lines from to listing h)

pub closed_whole : (from to : ℕ) (r s : Option (List ℕ)) (listing : List ℕ) → IsListing r s listing → IsClosed (picture_lines from to listing)
closed_whole from to r s listing h = closed_listing from to listing (of_replayed r s listing h)

pub closed_before : (from to : ℕ) (r s : Option (List ℕ)) (f : ScriptFault) (listing : List ℕ) → IsListingTo r s f listing → IsClosed (picture_lines from to listing)
closed_before from to r s f listing h = closed_listing from to listing (of_replayed_to r s f listing h)
