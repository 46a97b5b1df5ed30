-- What an answer of the device writes into the driver's memory: a FIS, data, PRDBC, and a FIS, in this order.
use Rattle.std.specs.Prelude.{Bool, true, false, List, [], ◌∷◌, ◌++◌, Option, None, Some, if◌then◌else◌}
use Rattle.hba_memory.specs.Runs.{Put, later_puts}

pub record DmaWritesView : Type 0 where
  pub before : List Put
  pub content : List Put
  pub count : List Put
  pub after : List Put

-- one write or none
abbrev pub listed : Option Put → List Put
listed None = []
listed (Some p) = p ∷ []

-- the writes that are still to be made, the next one first
abbrev pub remaining : DmaWritesView → List Put
remaining p = p.before ++ (p.content ++ (p.count ++ p.after))

abbrev pub is_none : List Put → Bool
is_none [] = true
is_none (p ∷ rest) = false

-- the next write is made
abbrev pub advanced : DmaWritesView → DmaWritesView
advanced p =
    if is_none p.before then (if is_none p.content then (if is_none p.count then record p { after = [] } else record p { count = [] })
    else record p { content = later_puts p.content })
    else record p { before = [] }

-- the FISes are not written any more
abbrev pub without_fises : DmaWritesView → DmaWritesView
without_fises p = record p { before = []; after = [] }
