-- What the disk does with each command (ACS-3, by the commands' titles): the one table by which the controller acts.
use Rattle.std.specs.Prelude.{ℕ, ◌*◌, Bool, true, false}
use Rattle.hba_command.specs.Store.{blocks_of}
use Rattle.hba_command.specs.declared.action.Action.{Action}
use Rattle.hba_command.specs.declared.action.Action.TheVariants.{Queue, Sectors, Page, Store, Flush, Reply, Control, Abort}
use Rattle.hba_command.specs.declared.log.Log.{Log}
use Rattle.hba_command.specs.declared.log.Log.TheVariants as log
use Rattle.hba_command.specs.declared.page.Page.{Page as Pages}
use Rattle.hba_command.specs.declared.page.Page.TheVariants as page
use Rattle.hba_command.specs.declared.power.Power.TheVariants as power
use Rattle.hba_command.specs.declared.protocol.Protocol.TheVariants.{Pio}
use Rattle.hba_command.specs.declared.reply.Reply.TheVariants as reply
use Rattle.hba_command.specs.declared.task.Task.{Task}
use Rattle.hba_command.specs.declared.task.Task.TheVariants as task

abbrev pub action_of : Task → Action
action_of (task.Queue q) = Queue q  -- READ FPDMA QUEUED, WRITE FPDMA QUEUED
action_of (task.Read span p) = Sectors false span p  -- READ SECTOR(S), READ MULTIPLE, READ DMA, with EXT or without
action_of (task.Write span p) = Sectors true span p  -- WRITE SECTOR(S), WRITE MULTIPLE, WRITE DMA, with EXT or without
action_of (task.Verify span) = Reply (reply.Verified span)  -- READ VERIFY SECTOR(S), with EXT or without
action_of (task.Mark span) = Reply (reply.Marked span)  -- WRITE UNCORRECTABLE EXT
action_of (task.Flush a) = Flush a  -- FLUSH CACHE, with EXT or without
action_of task.Identify = Page page.Identify Pio  -- IDENTIFY DEVICE
action_of (task.ReadLog log p) = Page (page.Log log) p  -- READ LOG EXT, READ LOG DMA EXT, SMART READ LOG
action_of (task.ReadPage ready p) = Page (page.Disk ready) p  -- READ LOG EXT, READ LOG DMA EXT, SMART, READ BUFFER
action_of (task.Store s p) = Store s p  -- WRITE BUFFER, with DMA or without, DATA SET MANAGEMENT, WRITE LOG EXT, WRITE LOG DMA EXT, SMART WRITE LOG
action_of (task.Change c) = Reply (reply.Changed c)  -- SET FEATURES, SET MULTIPLE MODE, SMART
action_of task.SmartStatus = Reply reply.SmartStatus  -- SMART RETURN STATUS
action_of (task.NativeMax a) = Reply (reply.NativeMax a)  -- READ NATIVE MAX ADDRESS, with EXT or without
action_of task.PowerMode = Reply reply.PowerMode  -- CHECK POWER MODE
action_of task.Idle = Reply (reply.Entered power.Idle)  -- IDLE, IDLE IMMEDIATE
action_of task.Standby = Reply (reply.Entered power.Standby)  -- STANDBY, STANDBY IMMEDIATE
action_of task.Sleep = Reply (reply.Entered power.Sleep)  -- SLEEP
action_of task.Diagnose = Reply reply.Diagnosed  -- EXECUTE DEVICE DIAGNOSTIC
action_of task.Nothing = Reply reply.Done  -- SET FEATURES 03h of a PIO mode
action_of (task.Control reset) = Control reset  -- the device control register
action_of task.Packet = Reply reply.Packet  -- IDENTIFY PACKET DEVICE
action_of task.Unknown = Abort  -- every other command

-- how many pages of 512 bytes a page is
abbrev pub pages_in_log : Log → ℕ
pages_in_log log.QueuedError = 1
pages_in_log (log.Pages l pages) = pages.count
pages_in_log (log.Host pages) = pages.count

abbrev pub pages_of : Pages → ℕ
pages_of page.Identify = 1
pages_of (page.Log l) = pages_in_log l
pages_of (page.Disk p) = 1

-- how many bytes of data move
abbrev pub moved_by : Action → ℕ
moved_by (Queue q) = 512 * q.sectors
moved_by (Sectors write span p) = 512 * span.sectors
moved_by (Page page p) = 512 * pages_of page
moved_by (Store s p) = 512 * blocks_of s
moved_by (Flush a) = 0
moved_by (Reply r) = 0
moved_by (Control reset) = 0
moved_by Abort = 0

-- whether they go to the device
abbrev pub is_write : Action → Bool
is_write (Queue q) = q.write
is_write (Sectors write span p) = write
is_write (Page page p) = false
is_write (Store s p) = true
is_write (Flush a) = false
is_write (Reply r) = false
is_write (Control reset) = false
is_write Abort = false
