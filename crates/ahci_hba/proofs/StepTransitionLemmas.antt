-- What each step of the device does to the registers is a list of transitions.
use Rattle.std.proofs.Common.{◌≡◌, ℕ, ◌*◌, ◌^◌, Bool, true, false, not, ◌&&◌, ◌||◌, List, [], Option, Some, None, if◌then◌else◌, nat_eq, IsSomeAnd, refl, subst, sym}
use Rattle.sata_fis.specs.Encoding.{d2h_bytes}
use Rattle.sata_fis.specs.Fields.{D2hFields, QueuedFields}
use Rattle.hba_command.specs.Action.{action_of}
use Rattle.hba_command.specs.Addressing.{addressing_of}
use Rattle.hba_command.specs.Device.{after_page, after_store, allows_log, allows_page}
use Rattle.hba_command.specs.DiskPages.{ready_page}
use Rattle.hba_command.specs.HostLogs.{host_pages, rewritten}
use Rattle.hba_command.specs.HostPages.{HostPagesFields}
use Rattle.hba_command.specs.NotQueued.{unfailed_page}
use Rattle.hba_command.specs.Pages.{controller_page}
use Rattle.hba_command.specs.Power.{needs_medium}
use Rattle.hba_command.specs.Span.{SpanFields}
use Rattle.hba_command.specs.Store.{blocks_of}
use Rattle.hba_command.specs.declared.action.Action.{Action}
use Rattle.hba_command.specs.declared.action.Action.TheVariants.{Queue, Sectors, Page, Store, Flush, Reply, Control, Abort}
use Rattle.hba_command.specs.declared.disk_page.DiskPage.{DiskPage}
use Rattle.hba_command.specs.declared.entry.PrdEntry.{PrdEntry}
use Rattle.hba_command.specs.declared.host_page.HostPage.{HostPage}
use Rattle.hba_command.specs.declared.log.Log.{Log}
use Rattle.hba_command.specs.declared.log.Log.TheVariants.{Host, Pages, QueuedError}
use Rattle.hba_command.specs.declared.page.Page.TheVariants as page
use Rattle.hba_command.specs.declared.protocol.Protocol.{Protocol}
use Rattle.hba_command.specs.declared.protocol.Protocol.TheVariants.{Pio as ByPio, Multiple, Dma as ByDma}
use Rattle.hba_command.specs.declared.reply.Reply.{Reply as Replies}
use Rattle.hba_command.specs.declared.reply.Reply.TheVariants as reply
use Rattle.hba_command.specs.declared.store.Store.{Store as Stores}
use Rattle.hba_command.specs.declared.store.Store.TheVariants as store
use Rattle.hba_command.specs.declared.trim_range.TrimRange.{TrimRange}
use Rattle.hba_command.specs.Uncorrectable.{marked_with}
use Rattle.hba_memory.specs.DmaWrites.{DmaWritesView}
use Rattle.hba_memory.specs.Processing.{has_processed}
use Rattle.hba_memory.specs.Runs.{placed}
use Rattle.hba_regs.specs.Receiving.{after_srst_cleared, moved}
use Rattle.hba_regs.specs.declared.device_kind.DeviceKind.{DeviceKind}
use Rattle.hba_regs.specs.declared.soft_reset.SoftReset.{SoftReset}
use Rattle.hba_regs.specs.declared.soft_reset.SoftReset.TheVariants as soft
use Rattle.ncq_journal.specs.History.{History}
use Rattle.ahci_port.specs.PortView.{PortView, sectors_in}
use Rattle.ahci_port.specs.Steps.{answer_to}
use Rattle.ahci_port.specs.declared.step.Stepped.{Stepped}
use Rattle.ahci_hba.specs.Delivering.{aborted, answer_with, answered, block_in, block_out, block_writes, bytes_for, closing, dma_answer, done, finishing}
use Rattle.ahci_hba.specs.Delivering.{fis_ending, going_on, only_before, page_answer, page_writes, queued_answer, queued_writes, read_answer, read_writes, received_put, setup_put}
use Rattle.ahci_hba.specs.Dropping.{is_spent, port_after}
use Rattle.ahci_hba.specs.Executing.{Executes, Performs, can_mark, disk_page_given, host_log_given, is_aborted, log_given, long_log_in, marked_by, paged, pages_given, replied, reply_fis, stopped, stops_at, stops_with}
use Rattle.ahci_hba.specs.Failing.{Fails, concluded, ended_at, ended_with, ending_fis, failed_writes, moved_before, own_in}
use Rattle.ahci_hba.specs.Failing.{moved_sectors, queue_failed, read_failed, sectors_before, sectors_ended, sectors_failed, sectors_of, vacated}
use Rattle.ahci_hba.specs.HbaView.{CommandView, Fetched, Sent, HbaView, DmaView, Idle, Fetching, Served, Pio, Block, Writing}
use Rattle.ahci_hba.specs.Keeping.{changed_by, device_ended, keeping}
use Rattle.ahci_hba.specs.Logging.{logging, logs_behind}
use Rattle.ahci_hba.specs.Marking.{marked_for, marking}
use Rattle.ahci_hba.specs.Moving.{answering, blocking, ending_of, ending_of_data}
use Rattle.ahci_hba.specs.Powering.{awake, turned}
use Rattle.ahci_hba.specs.Queueing.{Sends, accepting, after_acceptance, command_at, fis_put, has_alone, is_taken, list_in, only_after, task_in}
use Rattle.ahci_hba.specs.Recovering.{Recovers, error_log_in, error_page}
use Rattle.ahci_hba.specs.Resetting.{control_in, controlled, released, sent_by, signature, signing, signing_for}
use Rattle.ahci_hba.specs.Stepping.{IsTaken, ServesTo, marked_at, stop_for}
use Rattle.ahci_hba.specs.Storing.{content_in, kept_at_once, log_stored, log_taken_by, store_fis, stored, taken_by}
use Rattle.ahci_hba.specs.Zeroing.{StoresBy, zeroed_next}
use Rattle.ahci_hba.specs.Transfer.{TransferView, fits, has_interrupt, is_last, moved_to, next_block, next_list, next_processes, next_sectors}
use Rattle.ahci_hba.specs.Transitions.{Takes, SelectCmd, SrstCleared, SrstSet}
use Rattle.ahci_hba.specs.declared.ending.Ending.{Ending}
use Rattle.ahci_hba.specs.declared.last_fis.LastFis.TheVariants as last_fis
use Rattle.ahci_hba.specs.declared.step.Step.{Step}
use Rattle.ahci_hba.specs.declared.step.Step.TheVariants as step
use Rattle.ahci_hba.proofs.TransitionLemmas.{answers, blocks, none, one}

-- what holds of the registers of a state holds of those of an equal one
made_by : (old new made : HbaView) → new ≡ made → Takes old.registers made.registers → Takes old.registers new.registers
made_by old new made e t = subst (λ v. Takes old.registers v.registers) (sym e) t

of_some : {T Q : Type 0} (o : Option T) {P : T → Type 0} → ((x : T) → P x → Q) → IsSomeAnd o P → Q
of_some (Some x) f h = f x h
of_some None f h = absurd h

-- a power mode moves no register
wakes : (b : Bool) (old new : HbaView) → Takes old.registers new.registers → Takes old.registers (if b then awake new else new).registers
wakes true old new t = t
wakes false old new t = t

-- ---- the queue

sends : (slot : ℕ) (c : Option CommandView) (old new : HbaView) → Sends slot c old new → Takes old.registers new.registers
sends slot (Some (Fetched t list bytes)) old new s = made_by old new _ s.sent (none old.registers)
sends slot (Some (Sent t list)) old new s = absurd s
sends slot None old new s = absurd s

accepts : (slot : ℕ) (alone : Bool) (old : HbaView) (port : PortView) (answer : Stepped) → Takes old.registers (after_acceptance slot alone old port answer).registers
accepts slot alone old port answer = by (alone && is_taken answer)
  where
    posted : DmaWritesView
    posted = only_after (fis_put old.registers port 0x40 20)

    end : Ending
    end = ending_of true (accepting slot answer)

    by : (b : Bool) → Takes old.registers (if b then record old { port = port } else answering (record old { port = port }) posted end).registers
    by true = none old.registers
    by false = answers (record old { port = port }) posted end

-- ---- deliveries

closes : (h : HbaView) (slot n : ℕ) (b : Bool) (fis : D2hFields) → Takes h.registers (closing h slot n b fis).registers
closes h slot n b fis = answers h (read_writes h.registers slot [] n fis) (ending_of_data true b (fis_ending slot fis))

reads : (h : HbaView) (slot : ℕ) (list : List PrdEntry) (bytes : List ℕ) (n : ℕ) (fis : D2hFields) → Takes h.registers (read_answer h slot list bytes n fis).registers
reads h slot list bytes n fis =
    answers h (read_writes h.registers slot (placed list bytes) (moved_to n list) fis) (ending_of_data (fits n list) (has_processed list n) (fis_ending slot fis))

concludes : (h : HbaView) (slot : ℕ) (fis : D2hFields) → Takes h.registers (concluded h slot fis).registers
concludes h slot fis =
    answers (vacated h slot) (only_after (received_put h.registers 0x40 (d2h_bytes fis))) (ending_of true (fis_ending slot fis))

completes : (h : HbaView) (slot : ℕ) (list : List PrdEntry) (bytes : List ℕ) (whole : Bool) (n : ℕ) → Takes h.registers (queued_answer h slot list bytes whole n).registers
completes h slot list bytes whole n =
    answers h (queued_writes h.registers h.port (placed list bytes)) (ending_of_data whole (has_processed list n) (last_fis.Bits 0x40 0 (2 ^ slot)))

closes_or_reads : (h : HbaView) (slot : ℕ) (write : Bool) (list : List PrdEntry) (bytes : List ℕ) (n : ℕ) → Takes h.registers (dma_answer h slot write list bytes n).registers
closes_or_reads h slot true list bytes n = closes h slot n (has_processed list n) done
closes_or_reads h slot false list bytes n = reads h slot list bytes n done

answers_with : (h : HbaView) (slot : ℕ) (list : List PrdEntry) (bytes : List ℕ) (a : Action) → Takes h.registers (answer_with h slot list bytes a).registers
answers_with h slot list bytes (Queue q) = completes h slot list bytes (q.write || fits (512 * q.sectors) list) (512 * q.sectors)
answers_with h slot list bytes (Sectors write span ByDma) = closes_or_reads h slot write list bytes (512 * span.sectors)
answers_with h slot list bytes (Sectors write span ByPio) = none h.registers
answers_with h slot list bytes (Sectors write span Multiple) = none h.registers
answers_with h slot list bytes (Page page p) = closes h slot 0 false done
answers_with h slot list bytes (Store s p) = closes h slot 0 false done
answers_with h slot list bytes (Flush a) = closes h slot 0 false done
answers_with h slot list bytes (Reply r) = closes h slot 0 false done
answers_with h slot list bytes (Control reset) = closes h slot 0 false done
answers_with h slot list bytes Abort = closes h slot 0 false done

finishes : (h : HbaView) (t : TransferView) (fis : Option D2hFields) → Takes h.registers (finishing h t fis).registers
finishes h t None = none h.registers
finishes h t (Some fis) = closes (logging h (logs_behind t.logs h.logs)) t.slot t.moved false fis

moves_in : (h : HbaView) (t : TransferView) → Takes h.registers (block_in h t).registers
moves_in h t = by (is_last t)
  where
    posted : DmaWritesView
    posted = block_writes h.registers t 0x40

    end : Ending
    end = ending_of_data (fits (512 * next_sectors t) (next_list t)) (next_processes t) (last_fis.Pio t.slot)

    by : (b : Bool) → Takes h.registers (if b then answering h posted end else blocking h (block_writes h.registers t 0xC0) (next_block t)).registers
    by true = answers h posted end
    by false = blocks h (block_writes h.registers t 0xC0) (next_block t)

goes_on : (h : HbaView) (t : TransferView) → Takes h.registers (going_on h t).registers
goes_on h t = by (nat_eq t.left 0) t.write
  where
    by : (b write : Bool) → Takes h.registers (if b then finishing h t t.finish else if write then block_out h (next_sectors t) (next_block t) else block_in h t).registers
    by true write = finishes h t t.finish
    by false true = blocks h (only_before (setup_put h.registers false (has_interrupt (next_block t)) 0xC0 (next_sectors t))) (next_block t)
    by false false = moves_in h t

delivers : (h : HbaView) (w : DmaView) → Takes h.registers (answered h w).registers
delivers h Idle = none h.registers
delivers h (Fetching slot r) = none h.registers
delivers h (Served slot t window list) = answers_with h slot list (bytes_for t window) (action_of t)
delivers h (Pio t) = by h.registers.port.fre
  where
    by : (b : Bool) → Takes h.registers (if b then going_on h t else h).registers
    by true = goes_on h t
    by false = none h.registers
delivers h (Block p t) = none h.registers
delivers h (Writing p e) = none h.registers

-- ---- commands that are not queued

sends_page : (h : HbaView) (slot : ℕ) (list : List PrdEntry) (page : List ℕ) → Takes h.registers (page_answer (vacated h slot) slot list page).registers
sends_page h slot list page =
    answers (vacated h slot) (page_writes h.registers slot (placed list page) (moved_to 512 list)) (ending_of_data (fits 512 list) (has_processed list 512) (last_fis.Pio slot))

gives_page : (h : HbaView) (slot : ℕ) (p : Protocol) (list : List PrdEntry) (page : List ℕ) → Takes h.registers (paged h slot p list page).registers
gives_page h slot ByPio list page = sends_page h slot list page
gives_page h slot Multiple list page = sends_page h slot list page
gives_page h slot ByDma list page = reads (vacated h slot) slot list page 512 done

moves_before : (h : HbaView) (slot : ℕ) (p : Protocol) (list : List PrdEntry) (bytes : List ℕ) (n : ℕ) (fis : D2hFields)
    → Takes h.registers (moved_before h slot p list bytes n fis).registers
moves_before h slot ByDma list bytes n fis = reads h slot list bytes (512 * n) fis
moves_before h slot ByPio list bytes n fis = none h.registers
moves_before h slot Multiple list bytes n fis = none h.registers

reads_failing : (h : HbaView) (slot : ℕ) (p : Protocol) (list : List PrdEntry) (first n : ℕ) (fis : D2hFields) → Takes h.registers (read_failed h slot p list first n fis).registers
reads_failing h slot p list first n fis = by (nat_eq n 0)
  where
    by : (b : Bool) → Takes h.registers (if b then concluded h slot fis else moved_before (vacated h slot) slot p list (sectors_of h.port first n) n fis).registers
    by true = concludes h slot fis
    by false = moves_before (vacated h slot) slot p list (sectors_of h.port first n) n fis

ends_sectors : (h : HbaView) (slot : ℕ) (list : List PrdEntry) (write : Bool) (span : SpanFields) (p : Protocol) (status error lba : ℕ)
    → Takes h.registers (sectors_ended h slot list write span p status error lba).registers
ends_sectors h slot list true span p status error lba = concludes h slot (ending_fis span.addressing status error span.lba)
ends_sectors h slot list false span p status error lba =
    reads_failing h slot p list span.lba (sectors_before h.port span.lba span.sectors lba) (ending_fis span.addressing status error lba)

fails_sectors : (h : HbaView) (slot : ℕ) (list : List PrdEntry) (write : Bool) (span : SpanFields) (p : Protocol) (error lba : ℕ)
    → Takes h.registers (sectors_failed h slot list write span p error lba).registers
fails_sectors h slot list write span p error lba = ends_sectors h slot list write span p 0x41 error lba

gives_pages : (h : HbaView) (slot : ℕ) (p : Protocol) (list : List PrdEntry) (bytes : List ℕ) (n : ℕ) → Takes h.registers (pages_given h slot p list bytes n).registers
gives_pages h slot ByPio list bytes n = none h.registers
gives_pages h slot Multiple list bytes n = none h.registers
gives_pages h slot ByDma list bytes n = reads (vacated h slot) slot list bytes (512 * n) done

gives_host_log : (h : HbaView) (slot : ℕ) (p : Protocol) (list : List PrdEntry) (pages : HostPagesFields) → Takes h.registers (host_log_given h slot p list pages).registers
gives_host_log h slot p list pages = by (allows_log h.device pages)
  where
    by : (b : Bool) → Takes h.registers (if b then pages_given h slot p list (host_pages h.logs pages) pages.count else concluded h slot aborted).registers
    by true = gives_pages h slot p list (host_pages h.logs pages) pages.count
    by false = concludes h slot aborted

gives_log : (h : HbaView) (slot : ℕ) (p : Protocol) (list : List PrdEntry) (log : Log) → Takes h.registers (log_given h slot p list log).registers
gives_log h slot p list QueuedError = gives_page h slot p list (unfailed_page h.device.collision)
gives_log h slot p list (Pages log pages) = gives_pages h slot p list (long_log_in h log pages) pages.count
gives_log h slot p list (Host pages) = gives_host_log h slot p list pages

gives_disk_page : (h : HbaView) (slot : ℕ) (p : Protocol) (list : List PrdEntry) (page : DiskPage) → Takes h.registers (disk_page_given h slot p list page).registers
gives_disk_page h slot p list page = by (allows_page h.device page)
  where
    by : (b : Bool) → Takes h.registers (if b then keeping (paged h slot p list (ready_page h.device page)) (after_page page h.device) else concluded h slot aborted).registers
    by true = gives_page h slot p list (ready_page h.device page)
    by false = concludes h slot aborted

takes_blocks : (h : HbaView) (slot : ℕ) (p : Protocol) (list : List PrdEntry) (n : ℕ) (fis : D2hFields) → Takes h.registers (taken_by h slot p list n fis).registers
takes_blocks h slot ByPio list n fis = none h.registers
takes_blocks h slot Multiple list n fis = none h.registers
takes_blocks h slot ByDma list n fis = closes h slot (512 * n) (has_processed list (512 * n)) fis

takes_log : (h : HbaView) (slot : ℕ) (p : Protocol) (list : List PrdEntry) (n : ℕ) (logs : List HostPage) → Takes h.registers (log_taken_by h slot p list n logs).registers
takes_log h slot ByPio list n logs = none h.registers
takes_log h slot Multiple list n logs = none h.registers
takes_log h slot ByDma list n logs = closes (logging h logs) slot (512 * n) (has_processed list (512 * n)) done

stores_log : (h : HbaView) (slot : ℕ) (pages : HostPagesFields) (p : Protocol) (list : List PrdEntry) (bytes : List ℕ) → Takes h.registers (log_stored h slot pages p list bytes).registers
stores_log h slot pages p list bytes = by (allows_log h.device pages)
  where
    by : (b : Bool) → Takes h.registers (if b then log_taken_by (vacated h slot) slot p list pages.count (rewritten pages bytes h.logs) else concluded h slot aborted).registers
    by true = takes_log (vacated h slot) slot p list pages.count (rewritten pages bytes h.logs)
    by false = concludes h slot aborted

stores_at_once : (h : HbaView) (slot : ℕ) (s : Stores) (p : Protocol) (list : List PrdEntry) (bytes : List ℕ) → Takes h.registers (kept_at_once h slot s p list bytes).registers
stores_at_once h slot s p list bytes = takes_blocks (keeping (vacated h slot) (after_store s bytes h.device)) slot p list (blocks_of s) (store_fis h.port s bytes)

stores : (h : HbaView) (slot : ℕ) (s : Stores) (p : Protocol) (list : List PrdEntry) (bytes : List ℕ) → Takes h.registers (stored h slot s p list bytes).registers
stores h slot (store.Log pages) p list bytes = stores_log h slot pages p list bytes
stores h slot store.Buffer p list bytes = stores_at_once h slot store.Buffer p list bytes
stores h slot (store.Trim blocks) p list bytes = stores_at_once h slot (store.Trim blocks) p list bytes

-- sectors that become zeros move none
stores_by : (range : Option TrimRange) (slot : ℕ) (s : Stores) (p : Protocol) (list : List PrdEntry) (old new : HbaView) → StoresBy range slot s p list old new
    → Takes old.registers new.registers
stores_by (Some range) slot s p list old new h = made_by old new _ h.rest (none old.registers)
stores_by None slot s p list old new h =
    let bytes = content_in (command_at old slot) in made_by old new (stored old slot s p list bytes) h (stores old slot s p list bytes)

-- a mark moves no register
marks_none : (r : Replies) (old new : HbaView) → Takes old.registers new.registers → Takes old.registers (marked_by r new).registers
marks_none (reply.Marked span) old new t = by (can_mark new span)
  where
    by : (b : Bool) → Takes old.registers (if b then marking new (marked_with span.lba span.sectors new.marks) else new).registers
    by true = t
    by false = t
marks_none reply.Done old new t = t
marks_none (reply.Verified span) old new t = t
marks_none (reply.NativeMax a) old new t = t
marks_none reply.PowerMode old new t = t
marks_none (reply.Entered mode) old new t = t
marks_none (reply.Changed c) old new t = t
marks_none reply.SmartStatus old new t = t
marks_none reply.Diagnosed old new t = t
marks_none reply.Packet old new t = t

performs : (slot : ℕ) (a : Action) (list : List PrdEntry) (old new : HbaView) → Performs slot a list old new → Takes old.registers new.registers
performs slot (Queue q) list old new h = made_by old new (concluded old slot aborted) h (concludes old slot aborted)
performs slot (Sectors write span p) list old new h =
    let found = marked_for old (Sectors write span p) in
    made_by old new (awake (stopped old slot list write span p found)) h (fails_sectors old slot list write span p (stops_with found) (stops_at old.port span found))
performs slot (Page page.Identify p) list old new h =
    let page = controller_page (sectors_in old.port) old.depth old.device in
    made_by old new (paged (record old { port = h.port }) slot ByPio list page) h.answered (gives_page (record old { port = h.port }) slot ByPio list page)
performs slot (Page (page.Log log) p) list old new h = made_by old new (log_given old slot p list log) h (gives_log old slot p list log)
performs slot (Page (page.Disk ready) p) list old new h = made_by old new (disk_page_given old slot p list ready) h (gives_disk_page old slot p list ready)
performs slot (Store s p) list old new h = stores_by (zeroed_next old s (content_in (command_at old slot))) slot s p list old new h
performs slot (Flush a) list old new h =
    made_by old new (awake (concluded (record old { port = h.port }) slot done)) h.answered (concludes (record old { port = h.port }) slot done)
performs slot (Reply r) list old new h =
    made_by old new (replied old slot r) h
    (marks_none r old (changed_by r (turned r (concluded old slot (reply_fis old r)))) (concludes old slot (reply_fis old r)))
performs slot (Control reset) list old new h = absurd h
performs slot Abort list old new h = made_by old new (concluded old slot aborted) h (concludes old slot aborted)

executes : (b : Bool) (slot : ℕ) (a : Action) (list : List PrdEntry) (old new : HbaView) → Executes b slot a list old new → Takes old.registers new.registers
executes true slot a list old new h = made_by old new (keeping (concluded old slot aborted) (device_ended old slot 0x41 0x04)) h (concludes old slot aborted)
executes false slot a list old new h = performs slot a list old new h

releases : (h : HbaView) (slot : ℕ) (soft : SoftReset) → h.registers.port.soft ≡ soft → Takes h.registers (released soft h slot).registers
releases h slot was e = subst (λ s. Takes h.registers (released s h slot).registers) e (by h.registers.port.soft (one h.registers (SrstCleared slot)))
  where
    by : (s : SoftReset) → Takes h.registers (moved h.registers (after_srst_cleared h.registers.port slot s)) → Takes h.registers (released s h slot).registers
    by soft.Off t = t
    by soft.Held t = t
    by (soft.Ending x) t = t

controls : (h : HbaView) (slot : ℕ) (reset : Bool) → Takes h.registers (controlled h slot reset).registers
controls h slot true = one h.registers SrstSet
controls h slot false = releases h slot h.registers.port.soft refl

-- a page goes to the driver for what the port has done
pages : (slot : ℕ) (p : Protocol) (list : List PrdEntry) (page : List ℕ) (port : PortView) (old new : HbaView) → new ≡ paged (record old { port = port }) slot p list page
    → Takes old.registers new.registers
pages slot p list page port old new h =
    made_by old new (paged (record old { port = port }) slot p list page) h (gives_page (record old { port = port }) slot p list page)

recovers : (slot : ℕ) (p : Protocol) (list : List PrdEntry) (old new : HbaView) (journal : Option History) → Recovers slot p list old new journal
    → Takes old.registers new.registers
recovers slot p list old new journal r =
    of_some (answer_to r.middle r.number) {P = λ a. new ≡ paged (record old { port = port_after (not (is_spent r.port)) r.port }) slot p list (error_page r.tag a.outcome)}
    (λ a h. pages slot p list (error_page r.tag a.outcome) (port_after (not (is_spent r.port)) r.port) old new h) r.answered

pub fails : (slot error lba : ℕ) (q : Option QueuedFields) (old new : HbaView) → Fails slot error lba q old new → Takes old.registers new.registers
fails slot error lba (Some q) old new f =
    let port = f.middle.port in
    let list = list_in (command_at old slot) in
    let n = moved_sectors old.port q lba in
    let bytes = sectors_of old.port q.lba n in
    made_by old new (queue_failed old port slot q list bytes n error) f.answered
    (answers (record old { port = port }) (failed_writes old.registers port slot q list bytes n)
    (ending_of_data (nat_eq n 0 || fits (512 * n) list) (has_processed list (512 * n)) (last_fis.Bits 0x41 error 0)))
fails slot error lba None old new f = absurd f

-- a command is served, or fails at a marked sector
serves_or_fails : (stop : Option ℕ) (slot : ℕ) (old new : HbaView) → ServesTo stop slot old new → Takes old.registers new.registers
serves_or_fails None slot old new s = made_by old new _ s.served (none old.registers)
serves_or_fails (Some lba) slot old new f = fails slot 0x40 lba (own_in old slot lba) old new f

-- ---- each step

pub takes_steps : (s : Step) (slot : ℕ) (old new : HbaView) (journal : Option History) → IsTaken s slot old new journal → Takes old.registers new.registers
takes_steps step.Fetch slot old new journal t = made_by old new _ t.0 (one old.registers (SelectCmd slot))
takes_steps step.Send slot old new journal t = sends slot (command_at old slot) old new t.0
takes_steps step.Accept slot old new journal t =
    made_by old new (awake (after_acceptance slot (has_alone (command_at old slot)) old t.0.port t.0.answer)) t.0.answered (accepts slot (has_alone (command_at old slot)) old t.0.port t.0.answer)
takes_steps step.Serve slot old new journal t = serves_or_fails (stop_for old slot (marked_at old slot)) slot old new t.0
takes_steps step.Deliver slot old new journal t = made_by old new (answered old old.dma) t.0 (delivers old old.dma)
takes_steps step.Execute slot old new journal t =
    executes (is_aborted old (action_of (task_in (command_at old slot)))) slot (action_of (task_in (command_at old slot))) (list_in (command_at old slot)) old new t.0
takes_steps step.Control slot old new journal t = of_some (control_in (command_at old slot)) (λ reset h. made_by old new (controlled old slot reset) h (controls old slot reset)) t.0
takes_steps step.Recover slot old new journal t =
    of_some (error_log_in (command_at old slot)) (λ p r. recovers slot p (list_in (command_at old slot)) old new journal r) t

pub signs : (old : HbaView) (kind : DeviceKind) → Takes old.registers (signing old kind).registers
signs old kind = by (sent_by old.registers.port.signature kind)
  where
    by : (sent : DeviceKind) → Takes old.registers (signing_for old sent).registers
    by sent = answers old (only_after (received_put old.registers 0x40 (d2h_bytes (signature sent)))) (ending_of true (last_fis.Signature sent))

ends_with : (h : HbaView) (slot : ℕ) (list : List PrdEntry) (a : Action) (status error lba : ℕ) → Takes h.registers (ended_with h slot list a status error lba).registers
ends_with h slot list (Queue q) status error lba = concludes h slot (ending_fis (addressing_of (Queue q)) status error lba)
ends_with h slot list (Sectors write span p) status error lba = ends_sectors h slot list write span p status error lba
ends_with h slot list (Page page p) status error lba = concludes h slot (ending_fis (addressing_of (Page page p)) status error lba)
ends_with h slot list (Store s p) status error lba = concludes h slot (ending_fis (addressing_of (Store s p)) status error lba)
ends_with h slot list (Flush a) status error lba = concludes h slot (ending_fis (addressing_of (Flush a)) status error lba)
ends_with h slot list (Reply r) status error lba = concludes h slot (ending_fis (addressing_of (Reply r)) status error lba)
ends_with h slot list (Control reset) status error lba = concludes h slot (ending_fis (addressing_of (Control reset)) status error lba)
ends_with h slot list Abort status error lba = concludes h slot (ending_fis (addressing_of Abort) status error lba)

pub ends_at : (h : HbaView) (slot status error lba : ℕ) → Takes h.registers (ended_at h slot status error lba).registers
ends_at h slot status error lba =
    wakes (needs_medium a) h (ended_with h slot list a status error lba) (ends_with h slot list a status error lba)
  where
    a : Action
    a = action_of (task_in (command_at h slot))

    list : List PrdEntry
    list = list_in (command_at h slot)
