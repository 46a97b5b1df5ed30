-- Which bytes spell which FIS: the type in byte 0, the length, and the fields (Serial ATA, "FIS types").
use Rattle.std.specs.Prelude.{◌≡◌, ℕ, List, length, drop}
use Rattle.sata_fis.specs.declared.fis.Fis.{Fis}
use Rattle.sata_fis.specs.declared.fis.Fis.TheVariants.{H2d, D2h, DmaActivate, DmaSetup, PioSetup, SetBits, Data}
use Rattle.sata_fis.specs.Payload.{IsPayload}
use Rattle.sata_fis.specs.Places.{byte}
use Rattle.sata_fis.specs.Layout.{h2d_at, d2h_at, dma_setup_at, pio_setup_at, set_bits_at}

-- byte 0 is this type, and there are this many bytes
abbrev pub HasHead : ℕ → ℕ → List ℕ → Type 0
HasHead type len bytes = (byte 0 bytes ≡ type) × (length bytes ≡ len)

-- the bytes spell the FIS
abbrev pub Spells : List ℕ → Fis → Type 0
Spells bytes (H2d f) = HasHead 0x27 20 bytes × (f ≡ h2d_at bytes)
Spells bytes (D2h f) = HasHead 0x34 20 bytes × (f ≡ d2h_at bytes)
Spells bytes DmaActivate = HasHead 0x39 4 bytes
Spells bytes (DmaSetup f) = HasHead 0x41 28 bytes × (f ≡ dma_setup_at bytes)
Spells bytes (PioSetup f) = HasHead 0x5F 20 bytes × (f ≡ pio_setup_at bytes)
Spells bytes (SetBits f) = HasHead 0xA1 8 bytes × (f ≡ set_bits_at bytes)
Spells bytes (Data xs) = (byte 0 bytes ≡ 0x46) × (xs ≡ drop 4 bytes) × IsPayload xs
