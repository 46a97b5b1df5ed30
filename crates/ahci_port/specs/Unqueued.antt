-- The commands that are not queued, as software puts them into slot 0 (AHCI 1.3.1, sections 4.2.2 and 4.2.3; ACS-3).
use Rattle.std.specs.Prelude.{ℕ, List, [], ◌∷◌, ◌++◌, replicate}
use Rattle.ncq_journal.specs.declared.plain.Plain.{Plain}
use Rattle.ncq_journal.specs.declared.plain.Plain.TheVariants.{Identify, Flush, ReadLog}
use Rattle.ncq_journal.specs.Entry.{Entry, Recover, Unqueued}
use Rattle.ahci_port.specs.declared.sent.Sent.{Sent}

-- the command FIS: Register FIS - Host to Device with C; the log is page 0 of log 10h
abbrev pub cfis_for : Plain → List ℕ
cfis_for Identify = 0x27 ∷ 0x80 ∷ 0xEC ∷ 0 ∷ 0 ∷ 0 ∷ 0 ∷ 0 ∷ 0 ∷ 0 ∷ 0 ∷ 0 ∷ 0 ∷ 0 ∷ 0 ∷ 0 ∷ 0 ∷ 0 ∷ 0 ∷ 0 ∷ []
cfis_for Flush = 0x27 ∷ 0x80 ∷ 0xEA ∷ 0 ∷ 0 ∷ 0 ∷ 0 ∷ 0 ∷ 0 ∷ 0 ∷ 0 ∷ 0 ∷ 0 ∷ 0 ∷ 0 ∷ 0 ∷ 0 ∷ 0 ∷ 0 ∷ 0 ∷ []
cfis_for ReadLog = 0x27 ∷ 0x80 ∷ 0x2F ∷ 0 ∷ 0x10 ∷ 0 ∷ 0 ∷ 0 ∷ 0 ∷ 0 ∷ 0 ∷ 0 ∷ 1 ∷ 0 ∷ 0 ∷ 0 ∷ 0 ∷ 0 ∷ 0 ∷ 0 ∷ []

-- how many entries the PRDT has: a page is one piece, and a flush has no data
abbrev pub entries_for : Plain → ℕ
entries_for Flush = 0
entries_for page = 1

-- the command header: CFL 5, PRDTL, CTBA 00020000h
abbrev pub header_for : Plain → List ℕ
header_for plain = (5 ∷ 0 ∷ entries_for plain ∷ 0 ∷ 0 ∷ 0 ∷ 0 ∷ 0 ∷ 0 ∷ 0 ∷ 2 ∷ 0 ∷ []) ++ replicate 20 0

-- the PRDT entry of a page: 512 bytes at 00020200h
abbrev pub page_entry : List ℕ
page_entry = 0 ∷ 2 ∷ 2 ∷ 0 ∷ 0 ∷ 0 ∷ 0 ∷ 0 ∷ 0 ∷ 0 ∷ 0 ∷ 0 ∷ 0xFF ∷ 1 ∷ 0 ∷ 0 ∷ []

-- what is sent for a command
abbrev pub sent_for : Plain → Sent
sent_for plain = record { header = header_for plain; cfis = cfis_for plain; entry = page_entry }

-- before the first command nothing was sent
abbrev pub nothing_sent : Sent
nothing_sent = record { header = replicate 32 0; cfis = replicate 20 0; entry = replicate 16 0 }

-- what was sent last, once an entry is appended: a recovery reads the log, and a queued command has a slot of its own
abbrev pub sent_by : Entry → Sent → Sent
sent_by (Recover tag) last = sent_for ReadLog
sent_by (Unqueued plain) last = sent_for plain
sent_by entry last = last
