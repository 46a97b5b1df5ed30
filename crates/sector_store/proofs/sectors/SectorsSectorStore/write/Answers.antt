use Rattle.sector_store.proofs.sectors.SectorsSectorStore.write.Goals as goal

pub write-requires-in-Pages-clause-reserved : goal.write-requires-in-Pages-clause-reserved
write-requires-in-Pages-clause-reserved g c = rw c.in-Pages.is at c.requires.reserved
