-- The lines of a trace: each note is indented, and has no line feed but its last byte.
use Rattle.std.proofs.Common.{◌≡◌, ℕ, zero, suc, ◌+◌, ◌/◌, ◌%◌, ◌==◌, Bool, true, false, not, ◌||◌, cond, List, [], ◌∷◌, ◌++◌, Option, None, Some, codes, ap, sym, refl, ◌∙◌, subst, append_assoc, arith}
use Rattle.std.specs.List.{flat_map, list_all}
use Rattle.std.specs.Fmt.{decimal, digit_glyph, digits, digits_onto}
use Rattle.std.proofs.lemmas.Bool.{and_from, and_parts}
use Rattle.std.proofs.lemmas.Bool.Decides.{nat_tests}
use Rattle.std.proofs.lemmas.List.Folds.{list_all-append}
use Rattle.std.proofs.lemmas.List.Concat.{flat_map-cons}
use Rattle.ahci_regs.specs.RegisterTable.{name_of}
use Rattle.ahci_regs.specs.declared.register.Register.{Register}
use Rattle.ahci_regs.specs.declared.register.Register.TheVariants.{Cap}
use Rattle.ahci_replay.specs.Transcript.{no_line, one_more}
use Rattle.streams.specs.Text.{hex_of}
use Rattle.ahci_script.specs.Answers.{answer_text}
use Rattle.ahci_script.specs.declared.line.Line.TheVariants as line
use Rattle.ncq_journal.specs.declared.phase.Phase.{Phase}
use Rattle.ncq_journal.specs.declared.phase.Phase.TheVariants.{Free}
use Rattle.ncq_journal.specs.declared.plain.Plain.{Plain}
use Rattle.ncq_journal.specs.declared.plain.Plain.TheVariants.{Identify, Flush, ReadLog}
use Rattle.ncq_core.specs.DiskFis.{activate_bytes, setup_bytes}
use Rattle.sata_fis.specs.Encoding.{data_head_bytes}
use Rattle.sata_fis.specs.Fields.{QueuedFields}
use Rattle.word_bits.specs.Places.{bits, has_place}
use Rattle.ahci_trace.specs.Lines.{AreNotes, KeepsAnswers, Noted, a_note, an_answer, is_line, no_answer, no_note}
use Rattle.ahci_trace.specs.Names.{Named, bits_of, bits_text, name_text, names_text, separator}
use Rattle.ahci_trace.specs.Sent.{SentBytes}
use Rattle.ahci_trace.specs.Text.{bytes_text, change_text, data_line, data_text, details_text, direction, entry_text, fis_text, kind_name, named_text, page_text, phase_name, plain_name, prdt_text, received_text, sent_text, slot_text, told_text, trace_notes, transfer_text, what_text, write_text}
use Rattle.ahci_trace.specs.Trace.{Told, told_between}
use Rattle.ahci_trace.specs.Transfers.{payloads_of}
use Rattle.ahci_trace.specs.declared.appended.Appended.{Appended}
use Rattle.ncq_journal.specs.declared.event_kind.EventKind.{EventKind}
use Rattle.ncq_journal.specs.declared.event_kind.EventKind.TheVariants as what
use Rattle.ahci_trace.specs.declared.change.Change.{Change}
use Rattle.ahci_trace.specs.declared.owned.OwnedSlot.{OwnedSlot}
use Rattle.ahci_trace.specs.declared.received.Received.{Received}
use Rattle.ahci_trace.specs.declared.register_write.RegisterWrite.{RegisterWrite}

-- ---- text without a line feed

line-append : (a b : List ℕ) → is_line a ≡ true → is_line b ≡ true → is_line (a ++ b) ≡ true
line-append a b p q = list_all-append (λ x. not (x == 10)) a b ∙ and_from (is_line a) (is_line b) p q

-- no digit is a line feed
glyph_is : (d : ℕ) → not (digit_glyph false d == 10) ≡ true
glyph_is d = grind (arith, nat_tests)

glyph-line : (d : ℕ) (more : List ℕ) → is_line more ≡ true → is_line (digit_glyph false d ∷ more) ≡ true
glyph-line d more h = and_from (not (digit_glyph false d == 10)) (is_line more) (glyph_is d) h

hex-line : (k n : ℕ) → is_line (hex_of k n) ≡ true
hex-line zero n = refl
hex-line (suc k) n = line-append (hex_of k (n / 16)) (digit_glyph false (n % 16) ∷ []) (hex-line k (n / 16)) (glyph-line (n % 16) [] refl)

either-line : (b : Bool) (x y : List ℕ) → is_line x ≡ true → is_line y ≡ true → is_line (cond b x y) ≡ true
either-line true x y p q = p
either-line false x y p q = q

onto-line : (k n : ℕ) (more : List ℕ) → is_line more ≡ true → is_line (digits_onto k 10 false n more) ≡ true
onto-line zero n more h = h
onto-line (suc k) n more h =
    either-line (n / 10 == 0) (digit_glyph false (n % 10) ∷ more) (digits_onto k 10 false (n / 10) (digit_glyph false (n % 10) ∷ more))
    (glyph-line (n % 10) more h) (onto-line k (n / 10) (digit_glyph false (n % 10) ∷ more) (glyph-line (n % 10) more h))

decimal-line : (n : ℕ) → is_line (decimal n) ≡ true
unfolding digits
decimal-line n = onto-line 64 n [] refl

flat-line : {X : Type 0} (f : X → List ℕ) → ((x : X) → is_line (f x) ≡ true) → (xs : List X) → is_line (flat_map f xs) ≡ true
flat-line f each [] = refl
flat-line f each (x ∷ xs) = ap is_line (flat_map-cons f x xs) ∙ line-append (f x) (flat_map f xs) (each x) (flat-line f each xs)

bytes-line : (bytes : List ℕ) → is_line (bytes_text bytes) ≡ true
bytes-line bytes = flat-line (λ byte. 32 ∷ hex_of 2 byte) (λ byte. hex-line 2 byte) bytes

-- ---- the words

plain-line : (p : Plain) → is_line (plain_name p) ≡ true
plain-line Identify = refl
plain-line Flush = refl
plain-line ReadLog = refl

phase-line : (p : Phase) → is_line (phase_name p) ≡ true
phase-line Free = refl
phase-line _ = refl

direction-line : (b : Bool) → is_line (direction b) ≡ true
direction-line true = refl
direction-line false = refl

abbrev are_names : List Named → Bool
are_names table = list_all (λ n. is_line n.name) table

-- the name of a register, and those of its bits
register-line : (r : Register) → (is_line (name_of r) ≡ true) × (are_names (bits_of r) ≡ true)
register-line Cap = (refl, refl)
register-line _ = (refl, refl)

separator-line : (any : Bool) → is_line (separator any) ≡ true
separator-line true = refl
separator-line false = refl

names-line : (any : Bool) (set : List Bool) (table : List Named) → are_names table ≡ true → is_line (names_text any set table) ≡ true
names-line any set [] h = refl
names-line any set (n ∷ more) h =
    let parts = and_parts (is_line n.name) (are_names more) h in
    line-append (name_text any set n.place n.name) (names_text (any || has_place set n.place) set more)
    (either-line (has_place set n.place) (separator any ++ n.name) [] (line-append (separator any) n.name (separator-line any) parts.0) refl)
    (names-line (any || has_place set n.place) set more parts.1)

bits-line : (r : Register) (word : ℕ) → is_line (bits_text r word) ≡ true
bits-line r word = names-line false (bits word) (bits_of r) (register-line r).1

kind-line : (w : EventKind) → is_line (kind_name w) ≡ true
kind-line (what.Plain command) = plain-line command
kind-line _ = refl

details-line : (w : EventKind) → is_line (details_text w) ≡ true
details-line (what.Issue tag write lba sectors) =
    line-append (decimal tag) (direction write ++ (decimal lba ++ (codes " " ++ decimal sectors))) (decimal-line tag)
    (line-append (direction write) (decimal lba ++ (codes " " ++ decimal sectors)) (direction-line write)
    (line-append (decimal lba) (codes " " ++ decimal sectors) (decimal-line lba) (decimal-line sectors)))
details-line (what.Accept tag) = decimal-line tag
details-line (what.Complete tag) = decimal-line tag
details-line (what.Fail tag error lba) =
    line-append (decimal tag) (32 ∷ (hex_of 2 error ++ (codes " " ++ decimal lba))) (decimal-line tag)
    (line-append (hex_of 2 error) (codes " " ++ decimal lba) (hex-line 2 error) (decimal-line lba))
details-line (what.Recover tag) = decimal-line tag
details-line (what.Reissue tag) = decimal-line tag
details-line (what.Collect tag) = decimal-line tag
details-line (what.Plain command) = refl
details-line (what.Zero lba sectors) = line-append (decimal lba) (codes " " ++ decimal sectors) (decimal-line lba) (decimal-line sectors)

what-line : (w : EventKind) → is_line (what_text w) ≡ true
what-line w = line-append (kind_name w) (details_text w) (kind-line w) (details-line w)

-- ---- a text that ends in its only line feed

abbrev Closes : List ℕ → Type 0
Closes text = (line : List ℕ) × (text ≡ line ++ 10 ∷ []) × (is_line line ≡ true)

feed : Closes (10 ∷ [])
feed = ([], refl, refl)

part_then : (a text : List ℕ) → is_line a ≡ true → Closes text → Closes (a ++ text)
part_then a text p c = (a ++ c.0, ap (λ t. a ++ t) c.1 ∙ sym (append_assoc a c.0 (10 ∷ [])), line-append a c.0 p c.2)

indented : (text : List ℕ) → Closes text → AreNotes (32 ∷ 32 ∷ text)
indented text c = subst (λ t. AreNotes (32 ∷ 32 ∷ t)) (sym c.1) (a_note c.0 [] c.2 no_note)

-- ---- notes

AreNotes-append : (a b : List ℕ) → AreNotes a → AreNotes b → AreNotes (a ++ b)
AreNotes-append _ b no_note q = q
AreNotes-append _ b (a_note l more is p) q =
    subst (λ t. AreNotes (32 ∷ 32 ∷ t)) (sym (append_assoc l (10 ∷ more) b)) (a_note l (more ++ b) is (AreNotes-append more b p q))

flat_notes : {X : Type 0} (f : X → List ℕ) → ((x : X) → AreNotes (f x)) → (xs : List X) → AreNotes (flat_map f xs)
flat_notes f each [] = no_note
flat_notes f each (x ∷ xs) = subst AreNotes (sym (flat_map-cons f x xs)) (AreNotes-append (f x) (flat_map f xs) (each x) (flat_notes f each xs))

entry_notes : (e : Appended) → AreNotes (entry_text e)
entry_notes e =
    indented (codes "entry " ++ (decimal e.number ++ (codes ": " ++ (what_text e.what ++ 10 ∷ []))))
    (part_then (codes "entry ") _ refl (part_then (decimal e.number) _ (decimal-line e.number) (part_then (codes ": ") _ refl (part_then (what_text e.what) _ (what-line e.what) feed))))

write_notes : (w : RegisterWrite) → AreNotes (write_text w)
write_notes w =
    indented (codes "wrote " ++ (name_of w.register ++ (codes " " ++ (hex_of 8 w.word ++ 10 ∷ []))))
    (part_then (codes "wrote ") _ refl (part_then (name_of w.register) _ (register-line w.register).0 (part_then (codes " ") _ refl (part_then (hex_of 8 w.word) _ (hex-line 8 w.word) feed))))

named_notes : (name bytes : List ℕ) → is_line name ≡ true → AreNotes (named_text (32 ∷ 32 ∷ name) bytes)
unfolding named_text
named_notes name bytes h = indented (name ++ (bytes_text bytes ++ 10 ∷ [])) (part_then name _ h (part_then (bytes_text bytes) _ (bytes-line bytes) feed))

sent_notes : (sent : Option SentBytes) → AreNotes (sent_text sent)
sent_notes None = no_note
sent_notes (Some sent) =
    AreNotes-append (named_text (codes "  sent command header") sent.header) _ (named_notes (codes "sent command header") sent.header refl)
    (AreNotes-append (named_text (codes "  sent CFIS") sent.cfis) _ (named_notes (codes "sent CFIS") sent.cfis refl)
    (flat_notes prdt_text (λ entry. named_notes (codes "sent PRDT entry") entry refl) sent.entries))

fis_notes : (name : List ℕ) (fis : Option (List ℕ)) → is_line name ≡ true → AreNotes (fis_text (32 ∷ 32 ∷ name) fis)
fis_notes name None h = no_note
fis_notes name (Some bytes) h = named_notes name bytes h

-- a Data FIS
data_notes : (name : List ℕ) (bytes : ℕ) → is_line name ≡ true → AreNotes (data_line (32 ∷ 32 ∷ name) bytes)
data_notes name bytes h =
    indented (name ++ (bytes_text data_head_bytes ++ (codes ", " ++ (decimal bytes ++ (codes " bytes" ++ 10 ∷ [])))))
    (part_then name _ h (part_then (bytes_text data_head_bytes) _ (bytes-line data_head_bytes) (part_then (codes ", ") _ refl
    (part_then (decimal bytes) _ (decimal-line bytes) (part_then (codes " bytes") _ refl feed)))))

moved_notes : (write : Bool) (bytes : ℕ) → AreNotes (data_text write bytes)
moved_notes true bytes =
    AreNotes-append (named_text (codes "  received DMA Activate FIS") activate_bytes) _ (named_notes (codes "received DMA Activate FIS") activate_bytes refl)
    (data_notes (codes "sent Data FIS") bytes refl)
moved_notes false bytes = data_notes (codes "received Data FIS") bytes refl

transfer_notes : (command : QueuedFields) → AreNotes (transfer_text command)
unfolding transfer_text
transfer_notes command =
    AreNotes-append (named_text (codes "  received DMA Setup FIS") (setup_bytes command)) _
    (named_notes (codes "received DMA Setup FIS") (setup_bytes command) refl)
    (flat_notes (data_text command.write) (moved_notes command.write) (payloads_of command))

page_notes : (pio : Option (List ℕ)) → AreNotes (page_text pio)
page_notes None = no_note
page_notes (Some bytes) =
    AreNotes-append (named_text (codes "  received PIO Setup FIS") bytes) _ (named_notes (codes "received PIO Setup FIS") bytes refl)
    (data_notes (codes "received Data FIS") 512 refl)

received_notes : (r : Received) → AreNotes (received_text r)
received_notes r =
    AreNotes-append (page_text r.pio) _ (page_notes r.pio)
    (AreNotes-append (fis_text (codes "  received D2H Register FIS") r.register) _ (fis_notes (codes "received D2H Register FIS") r.register refl)
    (fis_notes (codes "received Set Device Bits FIS") r.bits refl))

change_notes : (c : Change) → AreNotes (change_text c)
change_notes c =
    indented (name_of c.register ++ (codes " " ++ (hex_of 8 c.word ++ (bits_text c.register c.word ++ 10 ∷ []))))
    (part_then (name_of c.register) _ (register-line c.register).0 (part_then (codes " ") _ refl (part_then (hex_of 8 c.word) _ (hex-line 8 c.word)
    (part_then (bits_text c.register c.word) _ (bits-line c.register c.word) feed))))

slot_notes : (s : OwnedSlot) → AreNotes (slot_text s)
slot_notes s =
    indented (codes "slot " ++ (decimal s.tag ++ (codes " " ++ (phase_name s.phase ++ 10 ∷ []))))
    (part_then (codes "slot ") _ refl (part_then (decimal s.tag) _ (decimal-line s.tag) (part_then (codes " ") _ refl (part_then (phase_name s.phase) _ (phase-line s.phase) feed))))

told_notes : (t : Told) → AreNotes (told_text t)
told_notes t =
    AreNotes-append (flat_map entry_text t.entries) _ (flat_notes entry_text entry_notes t.entries)
    (AreNotes-append (flat_map write_text t.writes) _ (flat_notes write_text write_notes t.writes)
    (AreNotes-append (sent_text t.sent) _ (sent_notes t.sent)
    (AreNotes-append (flat_map transfer_text t.served) _ (flat_notes transfer_text transfer_notes t.served)
    (AreNotes-append (received_text t.received) _ (received_notes t.received)
    (AreNotes-append (flat_map change_text t.changes) _ (flat_notes change_text change_notes t.changes) (flat_notes slot_text slot_notes t.slots))))))

-- ---- the answers stay

noted : (answer notes text answers : List ℕ) → AreNotes notes → Noted text answers → Noted ((answer ++ 10 ∷ notes) ++ text) ((answer ++ 10 ∷ []) ++ answers)
noted answer notes text answers are so_far =
    subst (λ t. Noted t ((answer ++ 10 ∷ []) ++ answers)) (sym (append_assoc answer (10 ∷ notes) text))
    (subst (λ t. Noted (answer ++ 10 ∷ (notes ++ text)) t) (sym (append_assoc answer (10 ∷ []) answers)) (an_answer answer notes text answers are so_far))

pub keeps_answers : KeepsAnswers
keeps_answers _ _ _ _ _ (no_line number port) = ([], no_line number port, no_answer)
keeps_answers _ _ last _ _ (one_more number port first line.Skip next added more text _ fed is ran others) =
    let (answers, adds, so_far) = keeps_answers (number + 1) next last more text others in
    (answers, one_more number port first line.Skip next [] more answers last fed is (ran.0, refl) adds, subst (λ a. Noted (a ++ text) answers) (sym ran.1) so_far)
keeps_answers _ _ last _ _ (one_more number port first (line.Run command) next added more text _ fed is ran others) =
    let (answers, adds, so_far) = keeps_answers (number + 1) next last more text others in
    let answer = answer_text ran.said in (
      (answer ++ 10 ∷ []) ++ answers,
      one_more number port first (line.Run command) next (answer ++ 10 ∷ []) more answers last fed is (record { said = ran.said; ran = ran.ran; spelled = refl }) adds,
      subst (λ a. Noted (a ++ text) ((answer ++ 10 ∷ []) ++ answers)) (sym ran.spelled) (noted answer (trace_notes port next) text answers (told_notes (told_between port next)) so_far),
    )
