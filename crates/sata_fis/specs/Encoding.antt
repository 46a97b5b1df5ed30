-- The bytes of each FIS, one line a dword, reserved bits 0 (Serial ATA, "FIS types").
use Rattle.std.specs.Prelude.{ℕ, false, List, [], ◌∷◌, ◌++◌, ⊤}
use Rattle.std.specs.Int.{byte_at}
use Rattle.sata_fis.specs.declared.fis.Fis.{Fis}
use Rattle.sata_fis.specs.declared.fis.Fis.TheVariants.{H2d, D2h, DmaActivate, DmaSetup, PioSetup, SetBits, Data}
use Rattle.sata_fis.specs.Places.{flags}
use Rattle.sata_fis.specs.Fields.{H2dFields, D2hFields, PioSetupFields, DmaSetupFields, SetBitsFields}

abbrev pub h2d_bytes : H2dFields → List ℕ
h2d_bytes f =
    0x27 ∷ flags f.c false false ∷ f.command ∷ byte_at 0 f.features
    ∷ byte_at 0 f.lba ∷ byte_at 1 f.lba ∷ byte_at 2 f.lba ∷ f.device
    ∷ byte_at 3 f.lba ∷ byte_at 4 f.lba ∷ byte_at 5 f.lba ∷ byte_at 1 f.features
    ∷ byte_at 0 f.count ∷ byte_at 1 f.count ∷ 0 ∷ f.control
    ∷ 0 ∷ 0 ∷ 0 ∷ 0 ∷ []

abbrev pub d2h_bytes : D2hFields → List ℕ
d2h_bytes f =
    0x34 ∷ flags false f.i false ∷ f.status ∷ f.error
    ∷ byte_at 0 f.lba ∷ byte_at 1 f.lba ∷ byte_at 2 f.lba ∷ f.device
    ∷ byte_at 3 f.lba ∷ byte_at 4 f.lba ∷ byte_at 5 f.lba ∷ 0
    ∷ byte_at 0 f.count ∷ byte_at 1 f.count ∷ 0 ∷ 0
    ∷ 0 ∷ 0 ∷ 0 ∷ 0 ∷ []

abbrev pub dma_setup_bytes : DmaSetupFields → List ℕ
dma_setup_bytes f =
    0x41 ∷ flags f.a f.i f.d ∷ 0 ∷ 0
    ∷ f.tag ∷ 0 ∷ 0 ∷ 0
    ∷ 0 ∷ 0 ∷ 0 ∷ 0
    ∷ 0 ∷ 0 ∷ 0 ∷ 0
    ∷ byte_at 0 f.offset ∷ byte_at 1 f.offset ∷ byte_at 2 f.offset ∷ byte_at 3 f.offset
    ∷ byte_at 0 f.count ∷ byte_at 1 f.count ∷ byte_at 2 f.count ∷ byte_at 3 f.count
    ∷ 0 ∷ 0 ∷ 0 ∷ 0 ∷ []

abbrev pub pio_setup_bytes : PioSetupFields → List ℕ
pio_setup_bytes f =
    0x5F ∷ flags false f.i f.d ∷ f.status ∷ f.error
    ∷ byte_at 0 f.lba ∷ byte_at 1 f.lba ∷ byte_at 2 f.lba ∷ f.device
    ∷ byte_at 3 f.lba ∷ byte_at 4 f.lba ∷ byte_at 5 f.lba ∷ 0
    ∷ byte_at 0 f.count ∷ byte_at 1 f.count ∷ 0 ∷ f.e_status
    ∷ byte_at 0 f.bytes ∷ byte_at 1 f.bytes ∷ 0 ∷ 0 ∷ []

abbrev pub set_bits_bytes : SetBitsFields → List ℕ
set_bits_bytes f =
    0xA1 ∷ flags false f.i false ∷ f.status ∷ f.error
    ∷ byte_at 0 f.sactive ∷ byte_at 1 f.sactive ∷ byte_at 2 f.sactive ∷ byte_at 3 f.sactive ∷ []

-- the first dword of Data, which its payload follows
abbrev pub data_head_bytes : List ℕ
data_head_bytes = 0x46 ∷ 0 ∷ 0 ∷ 0 ∷ []

-- the bytes of a FIS
abbrev pub encoded : Fis → List ℕ
encoded (H2d f) = h2d_bytes f
encoded (D2h f) = d2h_bytes f
encoded DmaActivate = 0x39 ∷ 0 ∷ 0 ∷ 0 ∷ []
encoded (DmaSetup f) = dma_setup_bytes f
encoded (PioSetup f) = pio_setup_bytes f
encoded (SetBits f) = set_bits_bytes f
encoded (Data xs) = data_head_bytes ++ xs

-- all but Data
abbrev pub IsNotData : Fis → Type 0
IsNotData (Data xs) = ⊥
IsNotData _ = ⊤
