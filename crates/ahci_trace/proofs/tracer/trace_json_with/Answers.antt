-- The script was traced, and its end is reported, or not.
use Rattle.ahci_trace.proofs.ClosingLemmas.{closed_reads, closed_writes}
use Rattle.ahci_trace.proofs.tracer.trace_json_with.Goals as goal

pub returns-in-Err-clause-writes : goal.returns-in-Err-clause-writes
returns-in-Err-clause-writes g c =
    closed_writes c.args.writes.now c.replay_with.new.writes c.close.new.writes _ _ c.in-Err.fault c.close.result
    c.in-Err.ensures.writes c.close.ensures.told c.close.ensures.writes

pub returns-in-Err-clause-reads : goal.returns-in-Err-clause-reads
returns-in-Err-clause-reads g c =
    closed_reads c.args.reads.now c.replay_with.new.reads _ _ c.in-Err.fault c.close.result c.in-Err.ensures.reads c.close.ensures.told
