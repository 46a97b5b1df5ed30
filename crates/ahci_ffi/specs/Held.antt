-- What the address in a place owns: the box of a port, or nothing.
use mir.Syntax.{Ty}
use base.Fml.{Fml, ftrue}
use base.Stored.{Coded}
use denote.RattleType.{RattleType}
use denote.RawPtr.{Ptr}
use Rattle.std.specs.Prelude.{Option, None, Some}
use Rattle.std.specs.Coded.{coded_option}
use Rattle.std.specs.Box.Ownership.{box_owns}
use Rattle.std.specs.Global.{Global}
use Rattle.std_heap.specs.contracts.Global as heap
use Rattle.std_heap.specs.contracts.GlobalAllocator.TheImpl.{ghosts}
use Rattle.sector_store.specs.declared.sector_store.SectorStore.{Ghosts}
use Rattle.sector_store.specs.contracts.sectors.Sectors as sectors
use Rattle.sector_store.specs.contracts.sectors.SectorsSectorStore.TheImpl as store
use Rattle.ahci_port.specs.contracts.port.Port as port

-- a value's block at an address, with the right to free it: what a box of the value owns
abbrev pub owned_at : (Ty → Ptr → Fml) → (R : RattleType) → Ptr → R.Denot → Fml
owned_at = box_owns

-- the type of the sectors on the C library's heap
abbrev pub heap_sectors : RattleType
heap_sectors = sectors.the_row heap.the_row ghosts

-- what they are to contracts
abbrev pub heap_store : Ghosts heap_sectors.Denot
heap_store = store.ghosts heap.the_row ghosts store.no_dict store.no_dict

-- the type of a port there
abbrev pub heap_port : RattleType
heap_port = port.the_row heap.the_row heap_sectors ghosts heap_store

-- a port is owned at its address; no port owns nothing
abbrev pub owned_port : Global → Ptr → Option heap_port.Denot → Fml
owned_port h address None = ftrue
owned_port h address (Some view) = owned_at (ghosts.dealloc_token h) heap_port address view

-- how the logic stores what is held
abbrev pub port_coded : Coded (Option heap_port.Denot)
port_coded = coded_option heap_port.coded
