-- Why each call is refused: the first reason that holds, in this order. Arguments are looked at before the port.
use Rattle.std.specs.Prelude.{ℕ, Bool, false, nat_eq, nat_lt, List, length, Option, None, Some, if◌then◌else◌}
use Rattle.std.specs.Option.{option_or}
use Rattle.ahci_port.specs.Faults.{collect_refusal, plain_refusal, recover_refusal, reissue_refusal, step_refusal, trim_refusal}
use Rattle.ahci_port.specs.Looking.{read_length}
use Rattle.ahci_port.specs.PortView.{PortView, sectors_in}
use Rattle.ahci_port.specs.declared.step.DeviceStep.TheVariants as step
use Rattle.ahci_port.specs.Refusals.{of_collect, of_plain, of_recover, of_reissue, of_step, of_trim}
use Rattle.ahci_ffi.specs.Status.{refused}
use Rattle.port_refusal.specs.declared.refusal.Refusal.TheVariants as refusal
use Rattle.ahci_ffi.specs.declared.status.Status.{Status}
use Rattle.ahci_ffi.specs.declared.status.Status.TheVariants as status

-- how many tags a word can name
abbrev pub most_tags : ℕ
most_tags = 32

-- a tag is looked at first
abbrev pub with_tag : ℕ → Option Status → Option Status
with_tag tag reason = if nat_lt tag most_tags then reason else Some status.BadTag

-- a buffer of a fixed length is looked at first
abbrev pub with_length : (wanted len : ℕ) → Option Status → Option Status
with_length wanted len reason = if nat_eq len wanted then reason else Some status.WrongLength

abbrev pub accept_refusal : PortView → ℕ → Option Status
accept_refusal port tag = with_tag tag (refused of_step (step_refusal port (step.Accept tag)))

abbrev pub serve_refusal : PortView → List ℕ → Option Status
serve_refusal port tags =
    if nat_lt most_tags (length tags) then Some status.TooManyTags else refused of_step (step_refusal port (step.Serve (record { items = tags })))

abbrev pub fail_refusal : PortView → (tag error lba : ℕ) → Option Status
fail_refusal port tag error lba = with_tag tag (refused of_step (step_refusal port (step.Fail tag error lba)))

abbrev pub reissue_refused : PortView → ℕ → Option Status
reissue_refused port tag = with_tag tag (refused of_reissue (reissue_refusal port tag))

abbrev pub recover_refused : PortView → Option Status
recover_refused port = refused of_recover (recover_refusal port)

abbrev pub flush_refusal : PortView → Option Status
flush_refusal port = refused of_plain (plain_refusal port)

abbrev pub identify_refusal : PortView → ℕ → Option Status
identify_refusal port len = with_length 512 len (flush_refusal port)

abbrev pub trim_refused : PortView → Option Status
trim_refused port = refused of_trim (trim_refusal port)

abbrev pub received_refusal : ℕ → Option Status
received_refusal len = with_length 256 len None

abbrev pub copy_refusal : PortView → (lba len : ℕ) → Option Status
copy_refusal port lba len = with_length 512 len (if nat_lt lba (sectors_in port) then None else Some (status.Refused refusal.NoSuchSector))

-- a buffer is too small for what a request reads
abbrev pub is_short : Option ℕ → ℕ → Bool
is_short None room = false
is_short (Some bytes) room = nat_lt room bytes

-- the request is not this tag's, or not done; or the buffer is too small
abbrev pub slot_refusal : PortView → (tag number room : ℕ) → Option Status
slot_refusal port tag number room =
    option_or (refused of_collect (collect_refusal port tag number)) (if is_short (read_length port.past tag) room then Some status.BufferTooSmall else None)

abbrev pub collect_refused : PortView → (tag number room : ℕ) → Option Status
collect_refused port tag number room = with_tag tag (slot_refusal port tag number room)
