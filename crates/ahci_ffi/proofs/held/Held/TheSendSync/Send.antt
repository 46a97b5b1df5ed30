-- What an address owns may go to another thread: a port is plain data, and any thread may free its block.
use mir.Raw.{raw}
use base.Fraction.{full_share}
use base.Shift.{Keyless}
use denote.Exit.{Exit, hidden, leaves, unchanged, under}
use denote.Memory.{lone}
use denote.RawPtr.{Ptr, block_ptr, lies_at, null_ptr}
use denote.Struct.Struct.{exits_of}
use denote.Struct.Owning.{shape, fields, to}
use denote.Param.Send.{IsSend, AllSend, Quiet, owning_send, part_keyless, struct_send, sendable}
use Rattle.std.specs.Prelude.{Option, None, Some}
use Rattle.std.specs.Global.{Global}
use Rattle.std.proofs.Crossing as crossing
use Rattle.std_heap.proofs.Global.TheSendSync as heap
use Rattle.std_heap.specs.contracts.Global as Heap
use Rattle.std_heap.specs.contracts.GlobalAllocator.TheImpl.{ghosts}
use Rattle.ahci_port.proofs.port.Port.TheSendSync as port
use Rattle.sector_store.proofs.sectors.Sectors.TheSendSync as sectors
use Rattle.ahci_ffi.specs.Held.{heap_port, heap_sectors, heap_store, owned_port}
use Rattle.ahci_ffi.specs.contracts.held.Held.{the_row, the_type}

port_goes : IsSend heap_port
port_goes = port.the_send Heap.the_row heap_sectors ghosts heap_store heap.the_send (sectors.the_send Heap.the_row ghosts heap.the_send crossing.frees) crossing.frees

-- a port at an address names no thread
port_lies : (address : Ptr) (view : heap_port.Denot) → Keyless (lies_at heap_port full_share address view)
port_lies (block_ptr b o) view = part_keyless heap_port port_goes full_share view b o
port_lies null_ptr view = tt

owned_goes : (h : Global) (address : Ptr) (held : Option heap_port.Denot) → Keyless (owned_port h address held)
owned_goes h address None = tt
owned_goes h address (Some view) = (port_lies address view, crossing.frees.frees h (raw (lone heap_port.mir)) address)

-- what a drop of the struct leaves is what one of its fields leaves
same_exit : {X Y : Type 0} (part : X → Y) (e : Exit Y) → Quiet e → Quiet (hidden (under part e))
same_exit part unchanged q = λ x w. tt
same_exit part (leaves L l S s r) q = λ x. q (part x)

fields_go : AllSend (fields the_type)
fields_go = (search sendable, (heap.the_field_send, tt))

pub send : IsSend the_row
send =
    owning_send the_type fields_go (λ d. owned_goes d.heap d.address d.port) (λ k. same_exit (to the_type) (exits_of k (fields the_type)) ((struct_send (shape the_type) fields_go).leaving k))
