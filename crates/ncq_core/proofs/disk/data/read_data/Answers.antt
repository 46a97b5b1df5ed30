use Rattle.std.proofs.Common.{◌≡◌, ◌+◌, ◌-◌, ◌*◌, ◌/◌, ◌%◌, length, take, drop, ap, subst, ◌∙◌, arith, length-take, length-drop}
use Rattle.std.specs.List.{replace_range}
use Rattle.sata_fis.specs.Fields.{QueuedFields}
use Rattle.ncq_core.specs.Serving.{byte_count, bytes_at}
use Rattle.ncq_core.proofs.MovingLemmas.{delivered_more, next_part}
use Rattle.ncq_core.proofs.TrafficLemmas.{sent_more}
use Rattle.ncq_core.proofs.disk.data.read_data.Goals as goal

pub loop-sent-preserved : goal.loop-sent-preserved
loop-sent-preserved g c =
    let q = c.args.command.now in
    let image = g.S.SectorStore.image c.args.store.now in
    let bytes = bytes_at q image in
    let done = c.loop-sent.sent in
    let end = c.min-end.result in
    let n = end - done in
    let before = c.loop-sent.invariant in
    let aligned : done % 8192 ≡ 0 = before.aligned (omega arith) in
    let size : length bytes ≡ byte_count q = length-take (byte_count q) (drop (512 * q.lba) image) ∙ (let d = length-drop (512 * q.lba) image in omega arith) in
    let text = c.deliver_one.ensures.text
    ∙ ap (λ (k : QueuedFields). replace_range (g.H.Host.text c.loop-sent.host) (g.H.Host.offset c.loop-sent.host) (g.H.Host.offset c.loop-sent.host + n) (take n (drop (512 * (k.lba + done / 512)) image))) c.command.view_is
    ∙ ap (λ o. replace_range (g.H.Host.text c.loop-sent.host) o (o + n) (take n (drop (512 * (q.lba + done / 512)) image))) before.offset
    ∙ ap (replace_range (g.H.Host.text c.loop-sent.host) done (done + n)) (next_part image q.lba (byte_count q) done n before.whole (omega arith)) in
    record {
      within = omega arith;
      whole = omega arith;
      offset = c.deliver_one.ensures.offset ∙ ap (λ o. o + n) before.offset ∙ (omega arith);
      text = text ∙ delivered_more bytes (g.H.Host.text c.args.host.now) (g.H.Host.text c.loop-sent.host) done end n (omega arith) (omega arith) before.text;
      setup = c.deliver_one.ensures.setup ∙ before.setup;
      aligned = λ less. (omega arith);
      saw = subst (λ fises. g.H.Host.saw c.args.host.now fises c.deliver_one.new.host)
          (sent_more done end n aligned (omega arith) (omega arith) (omega arith))
          (g.met.H.Host.saw_more c.args.host.now c.loop-sent.host c.deliver_one.new.host _ _ before.saw c.deliver_one.ensures.saw);
      others = g.met.H.Host.keeps_on c.args.host.now c.loop-sent.host c.deliver_one.new.host before.others c.deliver_one.ensures.others;
    }
