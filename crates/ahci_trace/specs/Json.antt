-- What a command did as one JSON object (RFC 8259): its tokens, from the parts that the text of a trace has too.
use Rattle.std.specs.Prelude.{ℕ, Bool, if◌then◌else◌, List, [], ◌∷◌, ◌++◌, codes, flat_map, map, nat_lt, Option, None, Some}
use Rattle.std.specs.Fmt.{decimal}
use Rattle.streams.specs.Text.{hex_of}
use Rattle.ahci_script.specs.Answers.{answer_text}
use Rattle.ahci_script.specs.Said.{Said}
use Rattle.ahci_regs.specs.RegisterTable.{name_of}
use Rattle.ahci_replay.specs.Transcript.{Telling}
use Rattle.json.specs.Print.{print}
use Rattle.json.specs.Token.{Token, begin_object, end_object, begin_array, end_array, key, string, number, boolean, null}
use Rattle.ncq_core.specs.DiskFis.{setup_bytes}
use Rattle.ncq_journal.specs.declared.plain.Plain.TheVariants.{ReadLog}
use Rattle.sata_fis.specs.Fields.{QueuedFields}
use Rattle.word_bits.specs.Places.{bits, has_place}
use Rattle.ahci_trace.specs.Names.{Named, bits_of}
use Rattle.ahci_trace.specs.Text.{kind_name, phase_name}
use Rattle.ahci_trace.specs.Sent.{SentBytes}
use Rattle.ahci_trace.specs.Trace.{Told, told_between}
use Rattle.ahci_trace.specs.Transfers.{payloads_of}
use Rattle.ahci_trace.specs.declared.appended.Appended.{Appended}
use Rattle.ncq_journal.specs.declared.event_kind.EventKind.{EventKind}
use Rattle.ncq_journal.specs.declared.event_kind.EventKind.TheVariants as what
use Rattle.ahci_trace.specs.declared.as_json.tokens.Member.{Member}
use Rattle.ahci_trace.specs.declared.as_json.tokens.Value.{Value}
use Rattle.ahci_trace.specs.declared.as_json.tokens.Value.TheVariants as value
use Rattle.ahci_trace.specs.declared.change.Change.{Change}
use Rattle.ahci_trace.specs.declared.owned.OwnedSlot.{OwnedSlot}
use Rattle.ahci_trace.specs.declared.received.Received.{Received}
use Rattle.ahci_trace.specs.declared.register_write.RegisterWrite.{RegisterWrite}

-- bytes by their hexadecimal digits, two for each
abbrev pub hex_text : List ℕ → List ℕ
hex_text bytes = flat_map (λ byte. hex_of 2 byte) bytes

-- a member of an object: its name, and a text, a number or a truth value
abbrev pub text_member : List ℕ → List ℕ → List Token
text_member name text = key name ∷ string text ∷ []

abbrev pub number_member : List ℕ → ℕ → List Token
number_member name n = key name ∷ number (decimal n) ∷ []

abbrev pub boolean_member : List ℕ → Bool → List Token
boolean_member name b = key name ∷ boolean b ∷ []

-- the code's values and members
abbrev pub value_token : Value → Token
value_token (value.Text text) = string text.now
value_token (value.Number n) = number (decimal n)
value_token (value.Boolean b) = boolean b
value_token (value.Bytes bytes) = string (hex_text bytes.now)
value_token (value.Byte byte) = string (hex_of 2 byte)
value_token (value.Word word) = string (hex_of 8 word)
value_token value.Null = null

abbrev pub member_tokens : Member → List Token
member_tokens m = key m.0.now ∷ value_token m.1 ∷ []

-- a member with an array of values
abbrev pub list_member : List ℕ → List Token → List Token
list_member name values = key name ∷ begin_array ∷ (values ++ end_array ∷ [])

-- an object of members
abbrev pub object : List Token → List Token
object members = begin_object ∷ (members ++ end_object ∷ [])

-- the kind of an entry, in one word
abbrev pub kind_word : EventKind → List ℕ
kind_word (what.Plain ReadLog) = codes "read_log"
kind_word kind = kind_name kind

-- what an entry says
unfoldable pub what_members : EventKind → List Token
what_members (what.Issue tag write lba sectors) =
    number_member (codes "tag") tag ++ (boolean_member (codes "write") write ++ (number_member (codes "lba") lba ++ number_member (codes "sectors") sectors))
what_members (what.Accept tag) = number_member (codes "tag") tag
what_members (what.Complete tag) = number_member (codes "tag") tag
what_members (what.Fail tag error lba) =
    number_member (codes "tag") tag ++ (text_member (codes "error") (hex_of 2 error) ++ number_member (codes "lba") lba)
what_members (what.Recover tag) = number_member (codes "tag") tag
what_members (what.Reissue tag) = number_member (codes "tag") tag
what_members (what.Collect tag) = number_member (codes "tag") tag
what_members (what.Plain command) = []
what_members (what.Zero lba sectors) = number_member (codes "lba") lba ++ number_member (codes "sectors") sectors

-- a new entry
unfoldable pub entry_object : Appended → List Token
entry_object e = object (number_member (codes "number") e.number ++ (text_member (codes "entry") (kind_word e.what) ++ what_members e.what))

-- an entry of a PRDT
abbrev pub prdt_value : List ℕ → List Token
prdt_value entry = string (hex_text entry) ∷ []

-- what was sent; null where nothing was
unfoldable pub sent_object : SentBytes → List Token
sent_object sent =
    object (text_member (codes "header") (hex_text sent.header) ++ (text_member (codes "cfis") (hex_text sent.cfis) ++ list_member (codes "prdt") (flat_map prdt_value sent.entries)))

abbrev pub sent_value : Option SentBytes → List Token
sent_value None = null ∷ []
sent_value (Some sent) = sent_object sent

-- the number of the bytes of data in a Data FIS
abbrev pub payload_value : ℕ → List Token
payload_value bytes = number (decimal bytes) ∷ []

-- a command whose data moved, and the FISes that carried them; in a write a DMA Activate FIS came before each Data FIS
unfoldable pub transfer_object : QueuedFields → List Token
transfer_object command =
    object (number_member (codes "tag") command.tag ++ (boolean_member (codes "write") command.write
    ++ (text_member (codes "dma_setup") (hex_text (setup_bytes command)) ++ list_member (codes "data") (flat_map payload_value (payloads_of command)))))

-- a FIS by its name, where one came
abbrev pub fis_member : List ℕ → Option (List ℕ) → List Token
fis_member name None = []
fis_member name (Some bytes) = text_member name (hex_text bytes)

-- the FISes that came
unfoldable pub received_object : Received → List Token
received_object r =
    object (fis_member (codes "dma_setup") r.setup ++ (fis_member (codes "pio_setup") r.pio
    ++ (fis_member (codes "d2h_register") r.register ++ fis_member (codes "set_device_bits") r.bits)))

-- a bit's name, where it is set
abbrev pub bit_value : List Bool → Named → List Token
bit_value set n = if has_place set n.place then string n.name ∷ [] else []

-- the word of a register before; null where the command made the disk
abbrev pub before_value : Option ℕ → Token
before_value None = null
before_value (Some word) = string (hex_of 8 word)

-- a register's words, and the names of its bits
unfoldable pub change_object : Change → List Token
change_object c =
    object (text_member (codes "name") (name_of c.register) ++ (key (codes "before") ∷ before_value c.before ∷ text_member (codes "word") (hex_of 8 c.word)
    ++ list_member (codes "bits") (flat_map (bit_value (bits c.word)) (bits_of c.register))))

-- a register that was written, and the word
unfoldable pub write_object : RegisterWrite → List Token
write_object w = object (text_member (codes "name") (name_of w.register) ++ text_member (codes "word") (hex_of 8 w.word))

-- an owned slot
unfoldable pub slot_object : OwnedSlot → List Token
slot_object slot = object (number_member (codes "tag") slot.tag ++ text_member (codes "phase") (phase_name slot.phase))

-- what passed between port and device
unfoldable pub passed_members : Told → List Token
passed_members t =
    key (codes "sent") ∷ sent_value t.sent ++ (list_member (codes "transfers") (flat_map transfer_object t.served)
    ++ key (codes "received") ∷ received_object t.received)

-- what a command did
unfoldable pub told_members : Told → List Token
told_members t =
    list_member (codes "entries") (flat_map entry_object t.entries) ++ (list_member (codes "writes") (flat_map write_object t.writes)
    ++ (passed_members t ++ (list_member (codes "registers") (flat_map change_object t.changes)
    ++ list_member (codes "slots") (flat_map slot_object t.slots))))

-- a line's text: its bytes, which are ASCII where a line is understood; another byte would be shown as a question mark
abbrev pub ascii_byte : ℕ → ℕ
ascii_byte b = if nat_lt b 128 then b else 63

abbrev pub ascii_of : List ℕ → List ℕ
ascii_of line = map ascii_byte line

-- the number and the text of a command's line, its answer, and what it did
unfoldable pub command_object : ℕ → List ℕ → Said → Told → List Token
command_object n line said t =
    object ((number_member (codes "line") n ++ text_member (codes "command") (ascii_of line)) ++ (text_member (codes "answer") (answer_text said) ++ told_members t))

-- the text for an answer: one object, on a line
abbrev pub json_line : Telling
json_line n line said before after = print (command_object n line said (told_between before after)) ++ 10 ∷ []
