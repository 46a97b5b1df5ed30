-- What is answered is the command that the port has done.
use Rattle.std.proofs.Common.{◌≡◌, ℕ, ◌*◌, Bool, true, false, List, refl, ap, sym, ◌∙◌}
use Rattle.hba_command.specs.declared.entry.PrdEntry.{PrdEntry}
use Rattle.hba_command.specs.declared.task.Task.{Task}
use Rattle.hba_memory.specs.DmaWrites.{DmaWritesView}
use Rattle.hba_memory.specs.Runs.{Put}
use Rattle.ahci_table.specs.Window.{WindowState}
use Rattle.sata_fis.specs.Encoding.{d2h_bytes}
use Rattle.sata_fis.specs.Fields.{D2hFields}
use Rattle.ahci_hba.specs.Delivering.{answer_with, bytes_for, delivered, dma_answer, done, fis_ending, going_on, read_answer, received_put, served_answer, stepped_on}
use Rattle.hba_command.specs.Pages.{controller_page}
use Rattle.hba_command.specs.declared.protocol.Protocol.{Protocol}
use Rattle.hba_command.specs.declared.protocol.Protocol.TheVariants.{Pio}
use Rattle.hba_command.specs.declared.protocol.Protocol.TheVariants.{Pio as ByPio, Multiple, Dma as ByDma}
use Rattle.hba_command.specs.Action.{action_of}
use Rattle.hba_command.specs.declared.action.Action.{Action}
use Rattle.hba_command.specs.declared.action.Action.TheVariants as action
use Rattle.ahci_port.specs.PortView.{PortView, sectors_in}
use Rattle.ahci_port.specs.Steps.{IsIdentified}
use Rattle.ahci_hba.specs.Executing.{Identifies, marked_by, paged, pages_given, replied, reply_fis}
use Rattle.ahci_hba.specs.Failing.{concluded, vacated}
use Rattle.hba_command.specs.declared.reply.Reply.{Reply}
use Rattle.ahci_hba.specs.Keeping.{changed_by}
use Rattle.ahci_hba.specs.Powering.{turned}
use Rattle.ahci_hba.specs.Queueing.{command_at, list_in, only_after}
use Rattle.ahci_hba.specs.HbaView.{HbaView, DmaView, Idle, Pio as InPio, Served}
use Rattle.ahci_hba.specs.Transfer.{TransferView}
use Rattle.ahci_hba.specs.Moving.{answering, ending_of}
use Rattle.ahci_hba.specs.declared.ending.Ending.{Ending}
use Rattle.ahci_hba.specs.declared.last_fis.LastFis.{LastFis}

pub delivers : (h new : HbaView) (slot : ℕ) (t : Task) (w : WindowState) (list : List PrdEntry) (bytes : List ℕ) (a : Action) (was : DmaView)
    → was ≡ Served slot t w list → bytes ≡ delivered was → a ≡ action_of t → new ≡ answer_with (record h { dma = Idle }) slot list bytes a → new ≡ served_answer h was
delivers h new slot t w list bytes a was served given acts made =
    made
    ∙ ap (λ b. answer_with (record h { dma = Idle }) slot list b a) (given ∙ ap (λ x. delivered x) served)
    ∙ ap (λ x. answer_with (record h { dma = Idle }) slot list (bytes_for t w) x) acts
    ∙ idle_or_not h slot list (bytes_for t w) (action_of t)
    ∙ sym (ap (λ x. served_answer h x) served)
  where
    either : (h : HbaView) (write : Bool) (slot : ℕ) (list : List PrdEntry) (bytes : List ℕ) (n : ℕ)
        → dma_answer (record h { dma = Idle }) slot write list bytes n ≡ dma_answer h slot write list bytes n
    either h true slot list bytes n = refl
    either h false slot list bytes n = refl

    idle_or_not : (h : HbaView) (slot : ℕ) (list : List PrdEntry) (bytes : List ℕ) (a : Action)
        → answer_with (record h { dma = Idle }) slot list bytes a ≡ answer_with h slot list bytes a
    idle_or_not h slot list bytes (action.Queue q) = refl
    idle_or_not h slot list bytes (action.Sectors write span ByDma) = either h write slot list bytes (512 * span.sectors)
    idle_or_not h slot list bytes (action.Sectors write span ByPio) = refl
    idle_or_not h slot list bytes (action.Sectors write span Multiple) = refl
    idle_or_not h slot list bytes (action.Page page p) = refl
    idle_or_not h slot list bytes (action.Store s p) = refl
    idle_or_not h slot list bytes (action.Flush a) = refl
    idle_or_not h slot list bytes (action.Reply r) = refl
    idle_or_not h slot list bytes (action.Control reset) = refl
    idle_or_not h slot list bytes action.Abort = refl

-- the next block of a transfer
pub steps_on : (h new : HbaView) (t : TransferView) (was : DmaView) → was ≡ InPio t → new ≡ going_on (record h { dma = Idle }) t → new ≡ stepped_on h was
steps_on h new t was is made = made ∙ idle h t ∙ sym (ap (λ x. stepped_on h x) is)
  where
    idle : (h : HbaView) (t : TransferView) → going_on (record h { dma = Idle }) t ≡ going_on h t
    idle h t = refl

-- a command ends with a D2H Register FIS
pub concludes : (h taken new : HbaView) (slot : ℕ) (fis : D2hFields) (l : List Put) (p : DmaWritesView) (bytes : List ℕ) (last : LastFis) (e : Ending) → taken ≡ vacated h slot
    → new ≡ answering taken p e → p ≡ only_after l → l ≡ received_put taken.registers 0x40 bytes → bytes ≡ d2h_bytes fis → last ≡ fis_ending slot fis → e ≡ ending_of true last
    → new ≡ concluded h slot fis
concludes h taken new slot fis l p bytes last e was made posted put spelt said ended =
    made
    ∙ ap (λ x. answering taken x e) (posted ∙ ap (λ x. only_after x) (put ∙ ap (λ b. received_put taken.registers 0x40 b) spelt))
    ∙ ap {A = HbaView} {B = HbaView} (λ v. answering v (only_after (received_put v.registers 0x40 (d2h_bytes fis))) e) was
    ∙ ap (λ x. answering (vacated h slot) (only_after (received_put h.registers 0x40 (d2h_bytes fis))) x) (ended ∙ ap (λ f. ending_of true f) said)

-- IDENTIFY DEVICE: the port's part and the page
pub identifies : (slot : ℕ) (h new : HbaView) (port : PortView) (page : List ℕ) → IsIdentified h.port port → page ≡ controller_page (sectors_in h.port) h.depth h.device
    → new ≡ paged (record h { port = port }) slot Pio (list_in (command_at h slot)) page → Identifies slot (list_in (command_at h slot)) h new
identifies slot h new port page identified is made = record {
  port = port;
  identified = identified;
  answered = made ∙ ap (λ x. paged (record h { port = port }) slot Pio (list_in (command_at h slot)) x) is;
}

-- data go to the driver by DMA, for a slot that was emptied
reads_for : (h taken new : HbaView) (slot : ℕ) (list listed : List PrdEntry) (bytes : List ℕ) (n : ℕ) (fis : D2hFields) → taken ≡ vacated h slot → listed ≡ list → fis ≡ done
    → new ≡ read_answer taken slot listed bytes n fis → new ≡ read_answer (vacated h slot) slot list bytes n done
reads_for h taken new slot list listed bytes n fis was same is made =
    made
    ∙ ap {A = HbaView} {B = HbaView} (λ t. read_answer t slot listed bytes n fis) was
    ∙ ap {A = List PrdEntry} {B = HbaView} (λ l. read_answer (vacated h slot) slot l bytes n fis) same
    ∙ ap {A = D2hFields} {B = HbaView} (λ f. read_answer (vacated h slot) slot list bytes n f) is

pub gives_page : (h taken new : HbaView) (slot : ℕ) (p : Protocol) (list listed : List PrdEntry) (page : List ℕ) (fis : D2hFields) → p ≡ ByDma → taken ≡ vacated h slot → listed ≡ list
    → fis ≡ done → new ≡ read_answer taken slot listed page 512 fis → new ≡ paged h slot p list page
gives_page h taken new slot p list listed page fis by was same is made =
    reads_for h taken new slot list listed page 512 fis was same is made ∙ sym (ap {A = Protocol} {B = HbaView} (λ x. paged h slot x list page) by)

pub gives_pages : (h taken new : HbaView) (slot : ℕ) (p : Protocol) (list listed : List PrdEntry) (bytes : List ℕ) (n : ℕ) (fis : D2hFields) → p ≡ ByDma → taken ≡ vacated h slot → listed ≡ list
    → fis ≡ done → new ≡ read_answer taken slot listed bytes (512 * n) fis → new ≡ pages_given h slot p list bytes n
gives_pages h taken new slot p list listed bytes n fis by was same is made =
    reads_for h taken new slot list listed bytes (512 * n) fis was same is made ∙ sym (ap {A = Protocol} {B = HbaView} (λ x. pages_given h slot x list bytes n) by)

-- a command that moves nothing is answered, and then the power mode, what the disk keeps and the marks are those behind it
pub replies : (h done turning changing new : HbaView) (slot : ℕ) (r : Reply) (fis : D2hFields) → fis ≡ reply_fis h r → done ≡ concluded h slot fis → turning ≡ turned r done
    → changing ≡ changed_by r turning → new ≡ marked_by r changing → new ≡ replied h slot r
replies h done turning changing new slot r fis is ended turns changes made =
    made
    ∙ ap {A = HbaView} {B = HbaView} (λ v. marked_by r v) changes
    ∙ ap {A = HbaView} {B = HbaView} (λ v. marked_by r (changed_by r v)) turns
    ∙ ap {A = HbaView} {B = HbaView} (λ v. marked_by r (changed_by r (turned r v))) ended
    ∙ ap {A = D2hFields} {B = HbaView} (λ f. marked_by r (changed_by r (turned r (concluded h slot f)))) is
