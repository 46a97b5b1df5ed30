-- What the device does with a command that is not queued (ACS-3, by the commands' titles).
use Rattle.std.specs.Prelude.{◌≡◌, ℕ, ◌-◌, ◌*◌, Bool, true, false, not, ◌&&◌, ◌||◌, max, min, nat_le, List, Option, None, Some, if◌then◌else◌}
use Rattle.std.specs.List.{list_any}
use Rattle.sata_fis.specs.Fields.{D2hFields}
use Rattle.hba_command.specs.Action.{action_of}
use Rattle.hba_command.specs.Addressing.{addressed, reached}
use Rattle.hba_command.specs.Device.{after_error_log, after_page, allows, allows_log, allows_page}
use Rattle.hba_command.specs.DiskPages.{ready_page}
use Rattle.hba_command.specs.HostLogs.{host_pages}
use Rattle.hba_command.specs.HostPages.{HostPagesFields}
use Rattle.hba_command.specs.LogPages.{LogPagesFields}
use Rattle.hba_command.specs.LongLogs.{long_log_pages}
use Rattle.hba_command.specs.NotQueued.{unfailed_page}
use Rattle.hba_command.specs.Pages.{controller_page}
use Rattle.hba_command.specs.Power.{power_count}
use Rattle.hba_command.specs.Span.{SpanFields}
use Rattle.hba_command.specs.Uncorrectable.{has_room, marked_with}
use Rattle.hba_command.specs.declared.action.Action.{Action}
use Rattle.hba_command.specs.declared.action.Action.TheVariants.{Queue, Sectors, Page, Store, Flush, Reply as Replies, Control, Abort}
use Rattle.hba_command.specs.declared.addressing.Addressing.{Addressing}
use Rattle.hba_command.specs.declared.addressing.Addressing.TheVariants.{Bits28, Bits48}
use Rattle.hba_command.specs.declared.change.Change.{Change}
use Rattle.hba_command.specs.declared.change.Change.TheVariants as change
use Rattle.hba_command.specs.declared.device.Device.{Device}
use Rattle.hba_command.specs.declared.disk_page.DiskPage.{DiskPage}
use Rattle.hba_command.specs.declared.entry.PrdEntry.{PrdEntry}
use Rattle.hba_command.specs.declared.log.Log.{Log}
use Rattle.hba_command.specs.declared.log.Log.TheVariants.{Host, Pages, QueuedError}
use Rattle.hba_command.specs.declared.log.LongLog.{LongLog}
use Rattle.hba_command.specs.declared.page.Page as page_kind
use Rattle.hba_command.specs.declared.page.Page.TheVariants as page
use Rattle.hba_command.specs.declared.protocol.Protocol.{Protocol}
use Rattle.hba_command.specs.declared.protocol.Protocol.TheVariants.{Pio, Dma}
use Rattle.hba_command.specs.declared.reply.Reply.{Reply}
use Rattle.hba_command.specs.declared.reply.Reply.TheVariants as reply
use Rattle.ahci_port.specs.PortView.{PortView, sectors_in}
use Rattle.ahci_port.specs.Steps.{IsFlushed, IsIdentified, LacksRoom}
use Rattle.ahci_hba.specs.Delivering.{aborted, beginning, d2h_fis, done, page_answer, read_answer}
use Rattle.ahci_hba.specs.Failing.{concluded, moves_some, sectors_failed, vacated}
use Rattle.ahci_hba.specs.HbaView.{CommandView, Fetched, HbaView}
use Rattle.ahci_hba.specs.Keeping.{changed_by, device_ended, keeping}
use Rattle.ahci_hba.specs.Marking.{marked_for, marked_on, marking}
use Rattle.ahci_hba.specs.Powering.{awake, turned}
use Rattle.ahci_hba.specs.Queueing.{command_at, has_no_blocks, has_queued, is_alone, is_failed, is_on, list_in, task_in}
use Rattle.ahci_hba.specs.Zeroing.{StoreMayLack, Stores}

-- the signature of a disk is in LBA and count (Serial ATA, "Signature")
abbrev pub signed : ℕ → ℕ → D2hFields
signed status error = d2h_fis status error 1 1

-- the first sector that is not on the disk, or that the command does not reach, of some of which that is true
abbrev pub first_missing : PortView → SpanFields → ℕ
first_missing port span = max span.lba (reached span.addressing (sectors_in port))

-- some sectors are on the disk, or IDNF names the first one that is not
abbrev pub found_all : PortView → SpanFields → D2hFields
found_all port span = if is_on port span then done else addressed span.addressing (d2h_fis 0x41 0x10 0 0) (first_missing port span)

-- a read that moves nothing: UNC names the first sector that is marked
abbrev pub verified_to : PortView → SpanFields → (marked : Option ℕ) → D2hFields
verified_to port span None = found_all port span
verified_to port span (Some lba) = addressed span.addressing (d2h_fis 0x41 0x40 0 0) lba

abbrev pub verified : HbaView → SpanFields → D2hFields
verified h span = verified_to h.port span (marked_on h.port h.marks span.addressing span.lba span.sectors)

-- WRITE UNCORRECTABLE EXT marks sectors that are all on the disk; without room for their marks it is aborted (profile)
abbrev pub can_mark : HbaView → SpanFields → Bool
can_mark h span = is_on h.port span && has_room span.lba span.sectors h.marks

abbrev pub marked_fis : HbaView → SpanFields → D2hFields
marked_fis h span = if is_on h.port span && not (has_room span.lba span.sectors h.marks) then aborted else found_all h.port span

abbrev pub marked_by : Reply → HbaView → HbaView
marked_by (reply.Marked span) h = if can_mark h span then marking h (marked_with span.lba span.sectors h.marks) else h
marked_by other h = h

-- the LBA of the last sector, of 28 bits at most FFF_FFFFh (ACS-3, "READ NATIVE MAX ADDRESS")
abbrev pub native_max : Addressing → PortView → ℕ
native_max Bits28 port = min 0x0FFFFFFF (sectors_in port - 1)
native_max Bits48 port = sectors_in port - 1

-- LBA 23:8 of the answer to a change: C24Fh says that a captive self-test has found no error (ACS-3, "SMART EXECUTE OFF-LINE IMMEDIATE", normal outputs), whose
-- subcommand has bit 7
abbrev pub changed_lba : Change → ℕ
changed_lba (change.Test subcommand) = if nat_le 0x80 subcommand then 0xC24F00 else 0
changed_lba other = 0

-- a change is made, or the command is aborted if it isn't possible; SMART RETURN STATUS says by LBA 23:8 C24Fh that no attribute has exceeded its
-- threshold, and is aborted while SMART operations are disabled
abbrev pub changed_fis : Device → Change → D2hFields
changed_fis d c = if allows d c then d2h_fis 0x40 0 (changed_lba c) 0 else aborted

abbrev pub smart_fis : Device → D2hFields
smart_fis d = if d.smart then d2h_fis 0x40 0 0xC24F00 0 else aborted

-- the answer to a command that moves nothing
abbrev pub reply_fis : HbaView → Reply → D2hFields
reply_fis h reply.Done = done
reply_fis h (reply.Entered mode) = done
reply_fis h (reply.Verified span) = verified h span
reply_fis h (reply.Marked span) = marked_fis h span
reply_fis h (reply.NativeMax a) = addressed a done (native_max a h.port)
reply_fis h reply.PowerMode = d2h_fis 0x40 0 0 (power_count h.power)
reply_fis h (reply.Changed c) = changed_fis h.device c
reply_fis h reply.SmartStatus = smart_fis h.device
reply_fis h reply.Diagnosed = signed 0x40 0x01
reply_fis h reply.Packet = signed 0x41 0x04

-- and the power mode, what the disk keeps and the marks behind it
abbrev pub replied : HbaView → ℕ → Reply → HbaView
replied h slot r = marked_by r (changed_by r (turned r (concluded h slot (reply_fis h r))))

-- a page of 512 bytes goes to the driver, by PIO or DMA
abbrev pub page_by : HbaView → ℕ → Protocol → List PrdEntry → List ℕ → HbaView
page_by h slot Dma list page = read_answer h slot list page 512 done
page_by h slot p list page = page_answer h slot list page

abbrev pub paged : HbaView → ℕ → Protocol → List PrdEntry → List ℕ → HbaView
paged h slot p list page = page_by (vacated h slot) slot p list page

-- why the device aborts a command that is not queued: queued ones are outstanding (ACS-3, "Native Command Queuing"), or log 10h is to be read, but for a
-- command that reads it, or it is READ or WRITE MULTIPLE and no block size is set
abbrev pub reads_error_log : Action → Bool
reads_error_log (Page (page.Log QueuedError) p) = true
reads_error_log other = false

abbrev pub is_aborted : HbaView → Action → Bool
is_aborted h a = list_any has_queued h.slots || (is_failed h && not (reads_error_log a)) || has_no_blocks h a

-- a command that is not queued is read
abbrev pub is_alone_fetched : Option CommandView → Bool
is_alone_fetched (Some (Fetched t list bytes)) = is_alone t
is_alone_fetched other = false

-- IDENTIFY DEVICE: the port identifies its disk, and the controller's page goes to the driver
pub record Identifies (slot : ℕ) (list : List PrdEntry) (old new : HbaView) : Type 0 where
  pub port : PortView
  pub identified : IsIdentified old.port port
  pub answered : new ≡ paged (record old { port = port }) slot Pio list (controller_page (sectors_in old.port) old.depth old.device)

-- FLUSH CACHE: the port flushes, and the device is Active
pub record Flushes (slot : ℕ) (old new : HbaView) : Type 0 where
  pub port : PortView
  pub flushed : IsFlushed old.port port
  pub answered : new ≡ awake (concluded (record old { port = port }) slot done)

-- so many pages go to the driver, by PIO a block each
abbrev pub pages_by : HbaView → ℕ → Protocol → List PrdEntry → List ℕ → ℕ → HbaView
pages_by h slot Dma list bytes n = read_answer h slot list bytes (512 * n) done
pages_by h slot p list bytes n = beginning h slot false n 1 (record { list = list; bytes = bytes }) None

abbrev pub pages_given : HbaView → ℕ → Protocol → List PrdEntry → List ℕ → ℕ → HbaView
pages_given h slot p list bytes n = pages_by (vacated h slot) slot p list bytes n

-- some pages of a log of several
abbrev pub long_log_in : HbaView → LongLog → LogPagesFields → List ℕ
long_log_in h log pages = long_log_pages log (sectors_in h.port) h.depth h.device pages.first pages.count

-- some pages of a log of the host's, or the command is aborted
abbrev pub host_log_given : HbaView → ℕ → Protocol → List PrdEntry → HostPagesFields → HbaView
host_log_given h slot p list pages =
    if allows_log h.device pages then pages_given h slot p list (host_pages h.logs pages) pages.count else concluded h slot aborted

-- a log, with no queued command failed. Log 10h ends that the device aborts commands
abbrev pub log_given : HbaView → ℕ → Protocol → List PrdEntry → Log → HbaView
log_given h slot p list QueuedError = keeping (paged h slot p list (unfailed_page h.device.collision)) (after_error_log h.device)
log_given h slot p list (Pages log pages) = pages_given h slot p list (long_log_in h log pages) pages.count
log_given h slot p list (Host pages) = host_log_given h slot p list pages

-- a page that the disk has ready, or the command is aborted
abbrev pub disk_page_given : HbaView → ℕ → Protocol → List PrdEntry → DiskPage → HbaView
disk_page_given h slot p list page =
    if allows_page h.device page then keeping (paged h slot p list (ready_page h.device page)) (after_page page h.device) else concluded h slot aborted

-- a command that moves sectors stops: at the first one that a read finds marked (UNC), else at the first one that is not on the disk (IDNF)
abbrev pub stops_at : PortView → SpanFields → (marked : Option ℕ) → ℕ
stops_at port span None = first_missing port span
stops_at port span (Some lba) = lba

abbrev pub stops_with : (marked : Option ℕ) → ℕ
stops_with None = 0x10
stops_with (Some lba) = 0x40

abbrev pub stopped : HbaView → ℕ → List PrdEntry → Bool → SpanFields → Protocol → (marked : Option ℕ) → HbaView
stopped h slot list write span p marked = sectors_failed h slot list write span p (stops_with marked) (stops_at h.port span marked)

-- what the device does with a command that it doesn't abort and the port doesn't take. Of sectors one is marked then, or not on the disk: those of a read
-- before it move, and the device is Active. A queued command has a tag that the device hasn't
abbrev pub Performs : ℕ → Action → List PrdEntry → HbaView → HbaView → Type 0
Performs slot (Queue q) list old new = new ≡ concluded old slot aborted
Performs slot (Sectors write span p) list old new = new ≡ awake (stopped old slot list write span p (marked_for old (Sectors write span p)))
Performs slot (Page page.Identify p) list old new = Identifies slot list old new
Performs slot (Page (page.Log log) p) list old new = new ≡ log_given old slot p list log
Performs slot (Page (page.Disk ready) p) list old new = new ≡ disk_page_given old slot p list ready
Performs slot (Store s p) list old new = Stores slot s p list old new
Performs slot (Flush a) list old new = Flushes slot old new
Performs slot (Replies r) list old new = new ≡ replied old slot r
Performs slot (Control reset) list old new = ⊥
Performs slot Abort list old new = new ≡ concluded old slot aborted

-- one that it aborts aborts queued ones that are outstanding, too (ACS-3, "Native Command Queuing"; Serial ATA, "NCQ error recovery")
abbrev pub Executes : (aborts : Bool) → ℕ → Action → List PrdEntry → HbaView → HbaView → Type 0
Executes true slot a list old new = new ≡ keeping (concluded old slot aborted) (device_ended old slot 0x41 0x04)
Executes false slot a list old new = Performs slot a list old new

-- what the device does with the command of a slot
abbrev pub ExecutesAt : ℕ → Action → List PrdEntry → HbaView → HbaView → Type 0
ExecutesAt slot a list old new = Executes (is_aborted old a) slot a list old new

-- an allocation can be refused: for a page that isn't aborted, for what data change that are no sectors, for the journal that a flush is an entry of, and for the
-- sectors of a read that move
abbrev pub LogMayLack : HbaView → Log → Type 0
LogMayLack h (Host pages) = allows_log h.device pages ≡ true
LogMayLack h other = Unit {0}

abbrev pub PageMayLack : HbaView → page_kind.Page → Type 0
PageMayLack h (page.Log log) = LogMayLack h log
PageMayLack h (page.Disk ready) = allows_page h.device ready ≡ true
PageMayLack h page.Identify = Unit {0}

abbrev pub MayLack : HbaView → Action → Type 0
MayLack h (Page asked p) = PageMayLack h asked
MayLack h (Store s p) = StoreMayLack h s
MayLack h (Flush a) = LacksRoom h.port
MayLack h (Sectors write span p) = moves_some h.port write span (stops_at h.port span (marked_for h (Sectors write span p))) ≡ true
MayLack h other = ⊥

abbrev pub LacksUnless : (aborts : Bool) → HbaView → Action → Type 0
LacksUnless true h a = ⊥
LacksUnless false h a = MayLack h a

abbrev pub MayLackAt : ℕ → HbaView → Type 0
MayLackAt slot h = LacksUnless (is_aborted h (action_of (task_in (command_at h slot)))) h (action_of (task_in (command_at h slot)))

abbrev pub IsExecuted : ℕ → HbaView → HbaView → Type 0
IsExecuted slot old new = ExecutesAt slot (action_of (task_in (command_at old slot))) (list_in (command_at old slot)) old new
