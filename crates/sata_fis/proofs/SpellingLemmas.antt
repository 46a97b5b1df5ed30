-- The bytes that are written for a FIS are read as that FIS.
use Rattle.std.proofs.Common.{◌≡◌, ◌^◌, ◌<◌, false, bit_and, refl}
use Rattle.std.proofs.Math.Nat.{mod-eq_of_lt}
use Rattle.sata_fis.specs.Fields.{H2dFields, D2hFields, PioSetupFields, DmaSetupFields, SetBitsFields}
use Rattle.sata_fis.specs.Layout.{h2d_at, d2h_at, dma_setup_at, pio_setup_at, set_bits_at}
use Rattle.sata_fis.specs.Encoding.{h2d_bytes, d2h_bytes, dma_setup_bytes, pio_setup_bytes, set_bits_bytes}
use Rattle.sata_fis.proofs.FieldLemmas.{two_bytes, two_apart, four_bytes, six_bytes, bits-flags}

pub h2d_at-h2d_bytes : (f : H2dFields) → f.features < 2 ^ 16 → f.lba < 2 ^ 48 → f.count < 2 ^ 16 → h2d_at (h2d_bytes f) ≡ f
h2d_at-h2d_bytes f features lba count =
    let flags = bits-flags f.c false false in
    rw (flags.0, two_apart f.features features, six_bytes f.lba lba, two_bytes f.count count) refl

pub d2h_at-d2h_bytes : (f : D2hFields) → f.lba < 2 ^ 48 → f.count < 2 ^ 16 → d2h_at (d2h_bytes f) ≡ f
d2h_at-d2h_bytes f lba count =
    let flags = bits-flags false f.i false in
    rw (flags.1, six_bytes f.lba lba, two_bytes f.count count) refl

pub dma_setup_at-dma_setup_bytes : (f : DmaSetupFields) → f.tag < 32 → f.offset < 2 ^ 32 → f.count < 2 ^ 32 → dma_setup_at (dma_setup_bytes f) ≡ f
dma_setup_at-dma_setup_bytes f tag offset count =
    let flags = bits-flags f.a f.i f.d in
    rw (flags.0, flags.1, flags.2, mod-eq_of_lt tag, four_bytes f.offset offset, four_bytes f.count count) refl

pub pio_setup_at-pio_setup_bytes : (f : PioSetupFields) → f.lba < 2 ^ 48 → f.count < 2 ^ 16 → f.bytes < 2 ^ 16 → pio_setup_at (pio_setup_bytes f) ≡ f
pio_setup_at-pio_setup_bytes f lba count bytes =
    let flags = bits-flags false f.i f.d in
    rw (flags.1, flags.2, six_bytes f.lba lba, two_bytes f.count count, two_bytes f.bytes bytes) refl

pub set_bits_at-set_bits_bytes : (f : SetBitsFields) → bit_and f.status 0x77 ≡ f.status → f.sactive < 2 ^ 32 → set_bits_at (set_bits_bytes f) ≡ f
set_bits_at-set_bits_bytes f status sactive =
    let flags = bits-flags false f.i false in
    rw (flags.1, status, four_bytes f.sactive sactive) refl
