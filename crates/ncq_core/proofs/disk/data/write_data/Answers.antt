use Rattle.std.proofs.Common.{◌≡◌, ◌+◌, ◌-◌, ◌/◌, ◌%◌, take, drop, ap, subst, ◌∙◌, arith}
use Rattle.std.specs.List.{slice_range}
use Rattle.sata_fis.specs.Fields.{QueuedFields}
use Rattle.ncq_journal.specs.Image.{IsWrittenOver}
use Rattle.ncq_core.proofs.MovingLemmas.{over_more}
use Rattle.ncq_core.proofs.TrafficLemmas.{fetched_on}
use Rattle.ncq_core.proofs.disk.data.write_data.Goals as goal

pub loop-filled-preserved : goal.loop-filled-preserved
loop-filled-preserved g c =
    let q = c.args.command.now in
    let text = g.H.Host.text c.args.host.now in
    let done = c.loop-filled.filled in
    let end = c.min-end.result in
    let n = end - done in
    let before = c.loop-filled.invariant in
    let aligned : done % 8192 ≡ 0 = before.aligned (omega arith) in
    let image = g.S.SectorStore.image in
    let come = slice_range (g.H.Host.text c.loop-filled.host) (g.H.Host.offset c.loop-filled.host) (g.H.Host.offset c.loop-filled.host + n) in
    let cut : done + n - done ≡ n = omega arith in
    let part = ap (λ xs. slice_range xs (g.H.Host.offset c.loop-filled.host) (g.H.Host.offset c.loop-filled.host + n)) before.text
    ∙ ap (λ o. slice_range text o (o + n)) before.offset
    ∙ ap (λ k. take k (drop done text)) cut in
    record {
      within = omega arith;
      whole = omega arith;
      offset = c.fetch_one.ensures.offset ∙ ap (λ o. o + n) before.offset ∙ (omega arith);
      text = c.fetch_one.ensures.text ∙ before.text;
      written = over_more q.lba done n end text come (image c.args.store.now) (image c.loop-filled.store) (image c.fetch_one.new.store) before.whole (omega arith) (omega arith) (omega arith) part before.written
          (subst (λ (k : QueuedFields). IsWrittenOver (k.lba + done / 512) come (image c.loop-filled.store) (image c.fetch_one.new.store)) c.command.view_is c.fetch_one.ensures.written);
      size = c.fetch_one.ensures.len ∙ before.size;
      stay = λ s is. c.fetch_one.ensures.stay s (before.stay s is);
      kind = c.fetch_one.ensures.kind ∙ before.kind;
      starting = c.fetch_one.ensures.starting ∙ before.starting;
      setup = c.fetch_one.ensures.setup ∙ before.setup;
      aligned = λ less. (omega arith);
      saw = subst (λ fises. g.H.Host.saw c.args.host.now fises c.fetch_one.new.host)
          (fetched_on done end n aligned (omega arith) (omega arith) (omega arith))
          (g.met.H.Host.saw_more c.args.host.now c.loop-filled.host c.fetch_one.new.host _ _ before.saw c.fetch_one.ensures.saw);
      others = g.met.H.Host.keeps_on c.args.host.now c.loop-filled.host c.fetch_one.new.host before.others c.fetch_one.ensures.others;
    }
