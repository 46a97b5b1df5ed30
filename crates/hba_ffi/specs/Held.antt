-- What the address in a place owns: the box of a controller, or nothing.
use base.Fml.{Fml, ftrue}
use base.Stored.{Coded}
use denote.RattleType.{RattleType}
use denote.RawPtr.{Ptr}
use Rattle.std.specs.Prelude.{Option, None, Some}
use Rattle.std.specs.Coded.{coded_option}
use Rattle.std.specs.Global.{Global}
use Rattle.std_heap.specs.contracts.Global as heap
use Rattle.std_heap.specs.contracts.GlobalAllocator.TheImpl.{ghosts}
use Rattle.ahci_ffi.specs.Held.{heap_sectors, heap_store, owned_at}
use Rattle.ahci_hba.specs.contracts.hba.Hba as hba

-- the type of a controller on the C library's heap
abbrev pub heap_hba : RattleType
heap_hba = hba.the_row heap.the_row heap_sectors ghosts heap_store

-- a controller is owned at its address; none owns nothing
abbrev pub owned_hba : Global → Ptr → Option heap_hba.Denot → Fml
owned_hba h address None = ftrue
owned_hba h address (Some view) = owned_at (ghosts.dealloc_token h) heap_hba address view

-- how the logic stores what is held
abbrev pub hba_coded : Coded (Option heap_hba.Denot)
hba_coded = coded_option heap_hba.coded
