-- What each call does to the registers is a list of transitions.
use Rattle.std.proofs.Common.{◌≡◌, ℕ, Bool, true, false, List, [], ◌∷◌, ◌++◌, if◌then◌else◌, refl, ap, sym, ◌∙◌}
use Rattle.hba_regs.specs.HbaState.{HbaState}
use Rattle.hba_regs.specs.Receiving.{moved, signature_moves, signed}
use Rattle.hba_regs.specs.declared.device_kind.DeviceKind.{DeviceKind}
use Rattle.hba_regs.specs.declared.fatal.Fatal.{Fatal}
use Rattle.hba_regs.specs.declared.fatal.Fatal.TheVariants as fatal
use Rattle.hba_regs.specs.declared.signature.Signature.{Signature}
use Rattle.hba_regs.specs.declared.signature.Signature.TheVariants.{Past, Due, Unposted}
use Rattle.hba_memory.specs.DmaWrites.{DmaWritesView, advanced, is_none, remaining}
use Rattle.hba_memory.specs.Reading.{ReadingView, Header, Command, Entries, Content, Whole, Malformed, Short, after_bytes}
use Rattle.ahci_hba.specs.HbaView.{HbaView, DmaView, Idle, Fetching, Served, Pio, Block, Writing}
use Rattle.ahci_hba.specs.Moving.{answering, block_ended, blocking, ended, ended_by, host_failed, overflowed, processed, put_done, read_so_far, setup_taken, supplied}
use Rattle.ahci_hba.specs.Transfer.{TransferView, has_interrupt}
use Rattle.ahci_hba.specs.Transitions.{Takes, Transition, CfisSuccess, DrOverflow, ErrFatal, PioEntry, PioUpdate, PrdSetIntr, RegFisEntry}
use Rattle.ahci_hba.specs.Transitions.{RegFisPostToMem, RegFisUnsolicited, RegFisUpdate, SdbEntry, Stuck, UnknownFis, after, after_all}
use Rattle.ahci_hba.specs.declared.ending.Ending.{Ending}
use Rattle.ahci_hba.specs.declared.last_fis.LastFis.{LastFis}
use Rattle.ahci_hba.specs.declared.last_fis.LastFis.TheVariants as last_fis

pub none : (s : HbaState) → Takes s s
none s = record { transitions = []; reached = refl }

pub one : (s : HbaState) (t : Transition) → Takes s (moved s (after t s.port))
one s t = record { transitions = t ∷ []; reached = refl }

in_a_row : (a b : List Transition) (s : HbaState) → after_all (a ++ b) s ≡ after_all b (after_all a s)
in_a_row [] b s = refl
in_a_row (t ∷ a) b s = in_a_row a b (moved s (after t s.port))

pub both : (s m n : HbaState) → Takes s m → Takes m n → Takes s n
both s m n a b = record {
  transitions = a.transitions ++ b.transitions;
  reached = b.reached ∙ ap (λ x. after_all b.transitions x) a.reached ∙ sym (in_a_row a.transitions b.transitions s);
}

-- ---- answers and blocks

overflows : (s : HbaState) (b : Bool) → Takes s (overflowed s b)
overflows s true = one s DrOverflow
overflows s false = none s

processes : (s : HbaState) (b : Bool) → Takes s (processed s b)
processes s true = one s PrdSetIntr
processes s false = none s

-- the two of some data
moves_data : (s : HbaState) (overflow b : Bool) → Takes s (processed (overflowed s overflow) b)
moves_data s overflow b = both s (overflowed s overflow) _ (overflows s overflow) (processes (overflowed s overflow) b)

takes_signature : (s : HbaState) (kind : DeviceKind) (b : Bool) (g : Signature) → g ≡ s.port.signature → Takes s (if b then moved s (signed kind s.port g) else s)
takes_signature s kind false g e = none s
takes_signature s kind true Past e = one s RegFisPostToMem
takes_signature s kind true Due e = one s (RegFisUpdate kind)
takes_signature s kind true (Unposted was) e = one s RegFisPostToMem

ends_by : (s : HbaState) (f : LastFis) → Takes s (ended_by s f)
unfolding ended_by
ends_by s (last_fis.Register status error i slot) = one s (RegFisEntry status error i slot)
ends_by s (last_fis.Bits status error sactive) = one s (SdbEntry status error true sactive)
ends_by s (last_fis.Pio slot) =
    both s (setup_taken s) _ (one s (PioEntry 0x48)) (one (setup_taken s) (PioUpdate 0x40 0 true slot))
ends_by s (last_fis.Signature kind) = takes_signature s kind (signature_moves s.port s.port.signature) s.port.signature refl
ends_by s last_fis.Unsolicited = one s RegFisUnsolicited
ends_by s last_fis.Unknown = one s UnknownFis

ends : (s : HbaState) (e : Ending) → Takes s (ended s e)
ends s e =
    let o = processed (overflowed s e.overflow) e.processed in
    both s o _ (moves_data s e.overflow e.processed) (ends_by o e.fis)

block_ends : (s : HbaState) (t : TransferView) → Takes s (block_ended s t)
unfolding block_ended
block_ends s t =
    let o = processed (overflowed s t.short) t.processed in
    both s o _ (moves_data s t.short t.processed)
    (both o (setup_taken o) _ (one o (PioEntry 0x48)) (one (setup_taken o) (PioUpdate 0xC0 0 (has_interrupt t) t.slot)))

pub answers : (h : HbaView) (p : DmaWritesView) (e : Ending) → Takes h.registers (answering h p e).registers
answers h p e = by (is_none (remaining p))
  where
    by : (b : Bool) → Takes h.registers (if b then record h { registers = ended h.registers e; dma = Idle } else record h { dma = Writing p e }).registers
    by true = ends h.registers e
    by false = none h.registers

pub blocks : (h : HbaView) (p : DmaWritesView) (t : TransferView) → Takes h.registers (blocking h p t).registers
blocks h p t = by (is_none (remaining p))
  where
    by : (b : Bool) → Takes h.registers (if b then record h { registers = block_ended h.registers t; dma = Pio t } else record h { dma = Block p t }).registers
    by true = block_ends h.registers t
    by false = none h.registers

-- ---- the driver's memory

pub puts : (h : HbaView) (w : DmaView) → Takes h.registers (put_done h w).registers
puts h Idle = none h.registers
puts h (Fetching slot r) = none h.registers
puts h (Served slot t window list) = none h.registers
puts h (Pio t) = none h.registers
puts h (Block p t) = blocks h (advanced p) t
puts h (Writing p e) = answers h (advanced p) e

reads : (h : HbaView) (slot : ℕ) (r : ReadingView) → Takes h.registers (read_so_far h slot r).registers
reads h slot (Whole t c list bytes) = one h.registers (CfisSuccess slot c)
reads h slot Malformed = one h.registers (ErrFatal fatal.Interface)
reads h slot (Short c) = one h.registers (Stuck slot c)
reads h slot (Header place) = none h.registers
reads h slot (Command header) = none h.registers
reads h slot (Entries t c table room) = none h.registers
reads h slot (Content t c g) = none h.registers

pub supplies : (h : HbaView) (w : DmaView) (bytes : List ℕ) → Takes h.registers (supplied h w bytes).registers
supplies h Idle bytes = none h.registers
supplies h (Fetching slot r) bytes = reads h slot (after_bytes r bytes)
supplies h (Served slot t window list) bytes = none h.registers
supplies h (Pio t) bytes = none h.registers
supplies h (Block p t) bytes = none h.registers
supplies h (Writing p e) bytes = none h.registers

pub fails_host : (f : Fatal) (h : HbaView) (w : DmaView) → Takes h.registers (host_failed f h w).registers
fails_host f h Idle = none h.registers
fails_host f h (Fetching slot r) = one h.registers (ErrFatal f)
fails_host f h (Served slot t window list) = none h.registers
fails_host f h (Pio t) = none h.registers
fails_host f h (Block p t) = one h.registers (ErrFatal f)
fails_host f h (Writing p e) = one h.registers (ErrFatal f)
