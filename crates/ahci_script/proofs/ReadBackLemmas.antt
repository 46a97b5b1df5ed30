-- Every printed command is read back, command by command.
use Rattle.std.proofs.Common.{◌≡◌, ℕ, ◌^◌, ◌<◌, true, List, [], ◌∷◌, ◌++◌, length, refl, ap, ◌∙◌, Some, None, Result, Ok, codes, arith}
use Rattle.std.specs.Fmt.{decimal}
use Rattle.std.specs.List.{All}
use Rattle.streams.specs.Text.{hex_of}
use Rattle.ahci_script.specs.Answers.{numbers_text}
use Rattle.ahci_script.specs.Breaches.{◌>>=◌, seen_in}
use Rattle.ahci_script.specs.Lines.{AreTags, accept_of, ack_of, collect_of, command_of, disk_of, fail_of, identify_of, named, number_if_any, raw_of}
use Rattle.ahci_script.specs.Lines.{read_of, reading, reg_of, reissue_of, serve_of, show_of, write_of}
use Rattle.ahci_script.specs.Names.{device_name, disk_name, request_name}
use Rattle.ahci_script.specs.Number.{sectors_limit}
use Rattle.ahci_script.specs.Printing.{IsReadBack, before, hex_bytes}
use Rattle.ahci_script.specs.Words.{Rest, ends, first_at, word_of}
use Rattle.ahci_script.specs.declared.breach.Breach.{Breach}
use Rattle.ahci_script.specs.declared.fault.Fault.{Fault}
use Rattle.ahci_script.specs.declared.line.ScriptCommand.{ScriptCommand}
use Rattle.ahci_script.specs.declared.line.ScriptCommand.TheVariants.{Disk, Write, Read, Raw, Accept, Serve, Fail, Collect, Reissue, Reg, Ack, Identify}
use Rattle.ahci_script.specs.declared.line.ScriptCommand.TheVariants.{Show}
use Rattle.ahci_script.specs.declared.line.Line.TheVariants as line
use Rattle.ahci_script.proofs.PrintingLemmas.{Spells, byte-spelled, bytes-spelled, cut-before, header-spelled, is_word, number-spelled, page_word-spelled}
use Rattle.ahci_script.proofs.PrintingLemmas.{register-spelled, sectors-spelled, tag-spelled, word-before, word-last}
use Rattle.ahci_script.proofs.TagsLemmas.{tags-back}

-- a value that is found goes on
then : {T U E : Type 0} (r : Result T E) (x : T) (f : T → Result U E) (y : Result U E) → r ≡ Ok x → f x ≡ y → (r >>= f) ≡ y
then r x f y found next = ap (λ k. k >>= f) found ∙ next

-- and so does a word, where words come after it
word : {T U : Type 0} {spelled : List ℕ → Result T Fault} {text : List ℕ} {value : T} (others : List ℕ) (f : T × Rest → Result U Breach) (y : Result U Breach)
    → Spells spelled text value → f (value, Some others) ≡ y → (word_of spelled (Some (before text others)) >>= f) ≡ y
word {spelled} {text} {value} others f y s next = then (word_of spelled (Some (before text others))) (value, Some others) f y (word-before others s) next

-- and where it is the last
last : {T U : Type 0} {spelled : List ℕ → Result T Fault} {text : List ℕ} {value : T} (f : T × Rest → Result U Breach) (y : Result U Breach)
    → Spells spelled text value → f (value, None) ≡ y → (word_of spelled (Some text) >>= f) ≡ y
last {spelled} {text} {value} f y s next = then (word_of spelled (Some text)) (value, None) f y (word-last s) next

-- a command by its name
by_name : (name words : List ℕ) (command : ScriptCommand) → is_word name ≡ true
    → reading (before name words) ≡ seen_in (before name words) (command_of (before name words) >>= λ c. Ok (line.Run c))
    → named (before name words) name (Some words) ≡ Ok command → reading (before name words) ≡ Ok (line.Run command)
by_name name words command whole is its =
    let text = before name words in
    let first = ap (λ c. first_at c text) (cut-before name words whole) in
    is ∙ ap (λ f. seen_in text (named text f.0 f.1 >>= λ c. Ok (line.Run c))) first ∙ ap (λ r. seen_in text (r >>= λ c. Ok (line.Run c))) its

disk-back : (sectors depth : ℕ) → sectors < 2 ^ 64 → depth < 2 ^ 64 → disk_of (Some (before (decimal sectors) (decimal depth))) ≡ Ok (Disk sectors depth None)
disk-back sectors depth s d = word (decimal depth) _ _ (number-spelled sectors s) (last _ _ (number-spelled depth d) refl)

any-back : (n : ℕ) → n < 2 ^ 64 → number_if_any (Some (decimal n)) ≡ Ok (Some n)
any-back n h = last (λ w. ends w.1 >>= λ end. Ok (Some w.0)) (Ok (Some n)) (number-spelled n h) refl

disk_with-back : (sectors depth first : ℕ) → sectors < 2 ^ 64 → depth < 2 ^ 64 → first < 2 ^ 64
    → disk_of (Some (before (decimal sectors) (before (decimal depth) (decimal first)))) ≡ Ok (Disk sectors depth (Some first))
disk_with-back sectors depth first s d f =
    word (before (decimal depth) (decimal first)) _ _ (number-spelled sectors s)
    (word (decimal first) _ _ (number-spelled depth d)
    (ap (λ r. r >>= λ o. Ok (Disk sectors depth o)) (any-back first f)))

write-back : (tag lba sectors fill : ℕ) → tag < 32 → lba < 2 ^ 64 → sectors < sectors_limit → fill < 256
    → write_of (Some (before (decimal tag) (before (decimal lba) (before (decimal sectors) (hex_of 2 fill))))) ≡ Ok (Write tag lba sectors fill)
write-back tag lba sectors fill t l n b =
    word (before (decimal lba) (before (decimal sectors) (hex_of 2 fill))) _ _ (tag-spelled tag t)
    (word (before (decimal sectors) (hex_of 2 fill)) _ _ (number-spelled lba l)
    (word (hex_of 2 fill) _ _ (sectors-spelled sectors n) (last _ _ (byte-spelled fill b) refl)))

read-back : (tag lba sectors : ℕ) → tag < 32 → lba < 2 ^ 64 → sectors < sectors_limit
    → read_of (Some (before (decimal tag) (before (decimal lba) (decimal sectors)))) ≡ Ok (Read tag lba sectors)
read-back tag lba sectors t l n =
    word (before (decimal lba) (decimal sectors)) _ _ (tag-spelled tag t)
    (word (decimal sectors) _ _ (number-spelled lba l) (last _ _ (sectors-spelled sectors n) refl))

fail-back : (tag error lba : ℕ) → tag < 32 → error < 256 → lba < 2 ^ 64
    → fail_of (Some (before (decimal tag) (before (hex_of 2 error) (decimal lba)))) ≡ Ok (Fail tag error lba)
fail-back tag error lba t e l =
    word (before (hex_of 2 error) (decimal lba)) _ _ (tag-spelled tag t)
    (word (decimal lba) _ _ (byte-spelled error e) (last _ _ (number-spelled lba l) refl))

collect-back : (tag number : ℕ) → tag < 32 → number < 2 ^ 64 → collect_of (Some (before (decimal tag) (decimal number))) ≡ Ok (Collect tag number)
collect-back tag number t n = word (decimal number) _ _ (tag-spelled tag t) (last _ _ (number-spelled number n) refl)

raw-back : (tag : ℕ) (header bytes : List ℕ) → tag < 32 → length header ≡ 32 → All (λ b. b < 256) header → 0 < length bytes
    → All (λ b. b < 256) bytes
    → raw_of (Some (before (decimal tag) (before (hex_bytes header) (hex_bytes bytes)))) ≡ Ok (Raw tag (record { header = header; bytes = bytes }))
raw-back tag header bytes t size heads some all =
    word (before (hex_bytes header) (hex_bytes bytes)) _ _ (tag-spelled tag t)
    (word (hex_bytes bytes) _ _ (header-spelled header heads size) (last _ _ (bytes-spelled bytes all some) refl))

accept-back : (tag : ℕ) → tag < 32 → accept_of (Some (decimal tag)) ≡ Ok (Accept tag)
accept-back tag h = last _ _ (tag-spelled tag h) refl

serve-back : (t : ℕ) (ts : List ℕ) → AreTags (t ∷ ts) → serve_of (Some (decimal t ++ numbers_text ts)) ≡ Ok (Serve (record { items = t ∷ ts }))
serve-back t ts are = ap (λ r. r >>= λ tags. Ok (Serve (record { items = tags }))) (tags-back t ts are)

serve-line : (tags : List ℕ) → AreTags tags → reading (codes "serve" ++ numbers_text tags) ≡ Ok (line.Run (Serve (record { items = tags })))
unfolding device_name disk_name request_name
serve-line [] are = absurd (omega (arith, are.some))
serve-line (t ∷ ts) are = by_name (codes "serve") (decimal t ++ numbers_text ts) (Serve (record { items = t ∷ ts })) refl refl (serve-back t ts are)

reissue-back : (tag : ℕ) → tag < 32 → reissue_of (Some (decimal tag)) ≡ Ok (Reissue tag)
reissue-back tag h = last _ _ (tag-spelled tag h) refl

reg-back : (off : ℕ) → off < 2 ^ 32 → reg_of (Some (hex_of 8 off)) ≡ Ok (Reg off)
reg-back off h = last _ _ (register-spelled off h) refl

ack-back : (mask : ℕ) → mask < 2 ^ 32 → ack_of (Some (hex_of 8 mask)) ≡ Ok (Ack mask)
ack-back mask h = last _ _ (register-spelled mask h) refl

identify-back : (w : ℕ) → w < 256 → identify_of (Some (decimal w)) ≡ Ok (Identify w)
identify-back w h = last _ _ (page_word-spelled w h) refl

show-back : (lba : ℕ) → lba < 2 ^ 64 → show_of (Some (decimal lba)) ≡ Ok (Show lba)
show-back lba h = last _ _ (number-spelled lba h) refl

pub read_back : IsReadBack
unfolding device_name disk_name request_name
read_back (Disk sectors depth None) h =
    by_name (codes "disk") (before (decimal sectors) (decimal depth)) (Disk sectors depth None) refl refl (disk-back sectors depth h.0 h.1)
read_back (Disk sectors depth (Some first)) h =
    by_name (codes "disk") (before (decimal sectors) (before (decimal depth) (decimal first))) (Disk sectors depth (Some first)) refl refl
    (disk_with-back sectors depth first h.0 h.1 h.2)
read_back (Write tag lba sectors fill) h =
    by_name (codes "write") (before (decimal tag) (before (decimal lba) (before (decimal sectors) (hex_of 2 fill)))) (Write tag lba sectors fill) refl refl
    (write-back tag lba sectors fill h.0 h.1 h.2 h.3)
read_back (Read tag lba sectors) h =
    by_name (codes "read") (before (decimal tag) (before (decimal lba) (decimal sectors))) (Read tag lba sectors) refl refl
    (read-back tag lba sectors h.0 h.1 h.2)
read_back (Raw tag w) h =
    by_name (codes "raw") (before (decimal tag) (before (hex_bytes w.header) (hex_bytes w.bytes))) (Raw tag w) refl refl
    (raw-back tag w.header w.bytes h.0 h.1 h.2 h.3 h.4)
read_back (Accept tag) h = by_name (codes "accept") (decimal tag) (Accept tag) refl refl (accept-back tag h)
read_back (Serve tags) h = serve-line tags.items h
read_back (Fail tag error lba) h =
    by_name (codes "fail") (before (decimal tag) (before (hex_of 2 error) (decimal lba))) (Fail tag error lba) refl refl (fail-back tag error lba h.0 h.1 h.2)
read_back (Collect tag number) h =
    by_name (codes "collect") (before (decimal tag) (decimal number)) (Collect tag number) refl refl (collect-back tag number h.0 h.1)
read_back (Reissue tag) h = by_name (codes "reissue") (decimal tag) (Reissue tag) refl refl (reissue-back tag h)
read_back (Reg off) h = by_name (codes "reg") (hex_of 8 off) (Reg off) refl refl (reg-back off h)
read_back (Ack mask) h = by_name (codes "ack") (hex_of 8 mask) (Ack mask) refl refl (ack-back mask h)
read_back (Identify w) h = by_name (codes "identify") (decimal w) (Identify w) refl refl (identify-back w h)
read_back (Show lba) h = by_name (codes "show") (decimal lba) (Show lba) refl refl (show-back lba h)
read_back _ h = refl
