-- FISes as C sees them: one struct for all types, in which what a type doesn't have is 0 (Serial ATA, "FIS types").
use Rattle.std.specs.Prelude.{◌≡◌, ℕ, ◌^◌, ◌%◌, Bool, not, ◌&&◌, nat_eq, nat_le, nat_lt, ◌==◌, bit_and, List, length, None, Some, Result, Ok, Err, if◌then◌else◌}
use Rattle.sata_fis.specs.Encoding.{encoded}
use Rattle.sata_fis.specs.Fault.{IsFault}
use Rattle.sata_fis.specs.Fields.{H2dFields, D2hFields, PioSetupFields, DmaSetupFields, SetBitsFields}
use Rattle.sata_fis.specs.Spelling.{Spells}
use Rattle.sata_fis.specs.declared.fault.FisFault.{FisFault}
use Rattle.sata_fis.specs.declared.fis.Fis.{Fis}
use Rattle.sata_fis.specs.declared.fis.Fis.TheVariants as fis
use Rattle.ahci_ffi.specs.Flat.{begun_with, number_if}
use Rattle.ahci_ffi.specs.Status.{of_fis}
use Rattle.ahci_ffi.specs.Told.{Told}
use Rattle.ahci_ffi.specs.declared.flat.FlatFis.{FlatFis}
use Rattle.port_refusal.specs.declared.refusal.Refusal.TheVariants as refusal
use Rattle.ahci_ffi.specs.declared.status.Status.{Status}
use Rattle.ahci_ffi.specs.declared.status.Status.TheVariants as status

-- a FIS of a type that has no field
abbrev pub bare_fis : ℕ → FlatFis
bare_fis kind = record {
  lba = 0;
  sactive = 0;
  offset = 0;
  transfer = 0;
  features = 0;
  count = 0;
  bytes = 0;
  payload = 0;
  kind = kind;
  c = 0;
  a = 0;
  i = 0;
  d = 0;
  status = 0;
  error = 0;
  device = 0;
  command = 0;
  control = 0;
  e_status = 0;
  tag = 0;
}

-- the struct of a FIS
abbrev pub flat_fis : Fis → FlatFis
flat_fis (fis.H2d f) =
    record (bare_fis 0x27) { c = number_if f.c; command = f.command; features = f.features; lba = f.lba; device = f.device; count = f.count; control = f.control }
flat_fis (fis.D2h f) =
    record (bare_fis 0x34) { i = number_if f.i; status = f.status; error = f.error; lba = f.lba; device = f.device; count = f.count }
flat_fis fis.DmaActivate = bare_fis 0x39
flat_fis (fis.DmaSetup f) =
    record (bare_fis 0x41) { a = number_if f.a; i = number_if f.i; d = number_if f.d; tag = f.tag; offset = f.offset; transfer = f.count }
flat_fis (fis.PioSetup f) =
    record (bare_fis 0x5F) { i = number_if f.i; d = number_if f.d; status = f.status; error = f.error; lba = f.lba; device = f.device; count = f.count; e_status = f.e_status; bytes = f.bytes }
flat_fis (fis.SetBits f) = record (bare_fis 0xA1) { i = number_if f.i; status = f.status; error = f.error; sactive = f.sactive }
flat_fis (fis.Data xs) = record (bare_fis 0x46) { payload = length xs }

-- bytes were read: they spell a FIS, which is in a struct; or the first fault that they have is reported
pub data AnswersDecode (bytes : List ℕ) (answer : Status) (before after : FlatFis) : Type 0 where
  is_fis : (f : Fis) → Spells bytes f → answer ≡ status.Done → after ≡ flat_fis f → AnswersDecode bytes answer before after
  is_fault : (fault : FisFault) → IsFault bytes fault → answer ≡ of_fis fault → after ≡ before → AnswersDecode bytes answer before after

-- a flag is 0 or 1
abbrev pub is_flag : ℕ → Bool
is_flag n = nat_le n 1

-- the FIS of each type that a struct names, or what in it is out of its range: its flags first
abbrev pub h2d_named : FlatFis → Result H2dFields Status
h2d_named f =
    if not (is_flag f.c) then Err status.BadFlag
    else (if nat_le (2 ^ 48) f.lba then Err (status.Refused refusal.BadLba)
    else Ok (record { c = f.c == 1; command = f.command; features = f.features; lba = f.lba; device = f.device; count = f.count; control = f.control }))

abbrev pub d2h_named : FlatFis → Result D2hFields Status
d2h_named f =
    if not (is_flag f.i) then Err status.BadFlag
    else (if nat_le (2 ^ 48) f.lba then Err (status.Refused refusal.BadLba)
    else Ok (record { i = f.i == 1; status = f.status; error = f.error; lba = f.lba; device = f.device; count = f.count }))

abbrev pub dma_setup_named : FlatFis → Result DmaSetupFields Status
dma_setup_named f =
    if not (is_flag f.a && is_flag f.i && is_flag f.d) then Err status.BadFlag
    else (if nat_le 32 f.tag then Err status.BadTag
    else Ok (record { a = f.a == 1; i = f.i == 1; d = f.d == 1; tag = f.tag; offset = f.offset; count = f.transfer }))

abbrev pub pio_setup_named : FlatFis → Result PioSetupFields Status
pio_setup_named f =
    if not (is_flag f.i && is_flag f.d) then Err status.BadFlag
    else (if nat_le (2 ^ 48) f.lba then Err (status.Refused refusal.BadLba)
    else Ok (record { i = f.i == 1; d = f.d == 1; status = f.status; error = f.error; lba = f.lba; device = f.device; count = f.count; e_status = f.e_status; bytes = f.bytes }))

abbrev pub set_bits_named : FlatFis → Result SetBitsFields Status
set_bits_named f =
    if not (is_flag f.i) then Err status.BadFlag
    else (if bit_and f.status 0x77 == f.status then Ok (record { i = f.i == 1; status = f.status; error = f.error; sactive = f.sactive })
    else Err status.BadStatus)

-- 4 to 8,192 bytes, a multiple of 4
abbrev pub data_named : List ℕ → Result (List ℕ) Status
data_named xs = if nat_le 4 (length xs) && nat_le (length xs) 8192 && nat_eq (length xs % 4) 0 then Ok xs else Err status.BadPayload

-- a FIS of a type, where its fields are in their ranges
abbrev pub of_type : {F : Type 0} → (F → Fis) → Result F Status → Result Fis Status
of_type make (Ok fields) = Ok (make fields)
of_type make (Err reason) = Err reason

-- the FIS that a struct names, with this payload where it is Data
abbrev pub fis_named : FlatFis → List ℕ → Result Fis Status
fis_named f payload =
    if f.kind == 0x27 then of_type fis.H2d (h2d_named f)
    else (if f.kind == 0x34 then of_type fis.D2h (d2h_named f)
    else (if f.kind == 0x39 then Ok fis.DmaActivate
    else (if f.kind == 0x41 then of_type fis.DmaSetup (dma_setup_named f)
    else (if f.kind == 0x5F then of_type fis.PioSetup (pio_setup_named f)
    else (if f.kind == 0xA1 then of_type fis.SetBits (set_bits_named f)
    else (if f.kind == 0x46 then of_type fis.Data (data_named payload) else Err status.UnknownType))))))

-- bytes are at the beginning of a buffer, and their number is reported; or there is no room for them
abbrev pub PutsAll : List ℕ → Status → (old new : List ℕ) → (before after : ℕ) → Type 0
PutsAll bytes answer old new before after =
    Told answer (if nat_lt (length old) (length bytes) then Some status.BufferTooSmall else None)
    ((new ≡ begun_with bytes old) × (after ≡ length bytes)) ((new ≡ old) × (after ≡ before))

-- a FIS was written, or why there is none
abbrev pub AnswersEncode : Result Fis Status → Status → (old new : List ℕ) → (before after : ℕ) → Type 0
AnswersEncode (Ok f) answer old new before after = PutsAll (encoded f) answer old new before after
AnswersEncode (Err reason) answer old new before after = (answer ≡ reason) × (new ≡ old) × (after ≡ before)
