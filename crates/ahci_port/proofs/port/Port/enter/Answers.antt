use Rattle.std.proofs.Common.{◌≡◌, ◌∙◌, ◌/◌, None, Some, ◌∷◌, length, ap, sym, refl, subst, arith}
use Rattle.std.proofs.lemmas.List.{map-set}
use Rattle.ahci_table.specs.Command.{op, queued_of}
use Rattle.ncq_core.specs.Serving.{HasRoom}
use Rattle.ncq_journal.specs.Entry.{Issue}
use Rattle.ncq_journal.specs.Work.{work_of}
use Rattle.ahci_port.specs.Faults.{MayTake}
use Rattle.ahci_port.specs.Keeping.{slot_at}
use Rattle.ahci_port.specs.Moves.{issued_slot}
use Rattle.ahci_port.specs.Registers.{issued}
use Rattle.ahci_port.specs.Slots.{view_of, window_in}
use Rattle.ahci_port.proofs.IssuingLemmas.{keeps_issue, keeps_reserved}
use Rattle.ahci_port.proofs.MemoryLemmas.{fit_sized}
use Rattle.ahci_port.proofs.RoomLemmas.{reserves_room}
use Rattle.ahci_port.proofs.TakenLemmas.{vacant_slot}
use Rattle.ahci_port.proofs.WorkLemmas.{op_direction, op_lba, op_sectors}
use Rattle.ahci_port.proofs.port.Port.enter.Goals as goal

-- what holds where memory was refused: more may be reserved
pub invariant_of-self : goal.invariant_of-self
invariant_of-self g c =
    let i = c.self.inside in
    rw c.reserve.ensures.state
    (keeps_reserved i.disk.starting i.disk i.registers i.slots.items i.headers i.journal.past i.journal.room c.reserve.new.self.reserved c.self.invariant c.reserve.ensures.stay)

pub invariant_of-self-in-Err-reserve : goal.invariant_of-self-in-Err-reserve
invariant_of-self-in-Err-reserve g c =
    let i = c.self.inside in
    rw (c.reserve.ensures.state, c.in-Err-reserve.ensures.err)
    (keeps_reserved i.disk.starting i.disk i.registers i.slots.items i.headers i.journal.past i.journal.room c.reserve.new.self.reserved c.self.invariant c.reserve.ensures.stay)

pub invariant_of-self-2 : goal.invariant_of-self-2
invariant_of-self-2 g c =
    let i = c.self.inside in
    let w = c.args.window in
    let m = subst (λ t. MayTake (view_of i.disk.starting i.disk i.registers i.unqueued.sent i.area i.slots.items i.journal) t) (sym c.tag-tag.ensures.value)
    (subst (λ p. MayTake p w.tag) (sym c.self.view_is) c.requires.taken) in
    let vacant : slot_at i.slots.items c.tag-tag.result ≡ None =
    vacant_slot i.disk.starting i.journal.past c.tag-tag.result (slot_at i.slots.items c.tag-tag.result) (c.self.invariant.each c.tag-tag.result) m.free in
    let queued : c.args.command.queued ≡ queued_of w = c.requires.queued in
    let past_same = c.in-Ok-reserve.ensures.past in
    let work = c.requires.asked in
    let room = c.in-Ok-reserve.ensures.room in
    let n = c.reserve.new.self.reserved in
    let disk = record i.disk { reserved = n } in
    let sectors = subst (λ s. HasRoom (s / 512) n c.args.command.queued.write c.args.command.queued.lba c.args.command.queued.sectors) c.self.invariant.shape.same_size c.in-Ok.ensures.ok in
    rw (c.reserve.ensures.state, c.issued.ensures.slot, c.issue.ensures, c.header.ensures, c.push_reserved.ensures.past, past_same, work)
    (keeps_issue i.disk.starting disk i.registers i.slots.items i.headers i.journal.past i.journal.room c.push_reserved.new.self.room c.tag-tag.result
    (issued_slot c.len-place.result c.args.command.queued w)
    (keeps_reserved i.disk.starting i.disk i.registers i.slots.items i.headers i.journal.past i.journal.room n c.self.invariant c.reserve.ensures.stay) m.below m.free m.running vacant c.requires.fit (sym c.tag-tag.ensures.value) c.issued.ensures.proper (c.len-place.ensures ∙ ap length past_same)
    (ap (λ q. q.write) queued ∙ sym (op_direction w), ap (λ q. q.lba) queued ∙ sym (op_lba w), ap (λ q. q.sectors) queued ∙ sym (op_sectors w (fit_sized w c.requires.fit))) refl refl sectors
    (let r = c.push_reserved.ensures.room in omega arith))

pub returns-clause-issued : goal.returns-clause-issued
returns-clause-issued g c =
    let i = c.self.inside in
    rw (← c.self.view_is, c.issued.ensures.slot, c.tag-tag.ensures.value)
    (record {
      appended = record {
        starting_same = ap (λ d. d.starting) c.reserve.ensures.state;
        image_same = ap (λ d. d.image) c.reserve.ensures.state;
        first_same = c.push_reserved.ensures.first ∙ c.in-Ok-reserve.ensures.first;
        depth_same = ap (λ d. d.depth) c.reserve.ensures.state;
        grows_same = ap (λ d. d.grows) c.reserve.ensures.state;
        past_is = c.push_reserved.ensures.past ∙ ap (λ t. Issue t (work_of c.args.asked) ∷ c.reserve-2.new.self.past) c.tag-tag.ensures.value
            ∙ ap (λ x. Issue c.args.window.tag x ∷ c.reserve-2.new.self.past) c.requires.asked ∙ ap (λ p. Issue c.args.window.tag (op c.args.window) ∷ p) c.in-Ok-reserve.ensures.past;
        sent_is = refl;
      };
      room = reserves_room _ _ _ _ c.in-Ok-reserve.ensures.room c.in-Ok-reserve.ensures.same c.in-Ok-reserve.ensures.more c.push_reserved.ensures.room c.push_reserved.ensures.held;
      registers_are = c.issue.ensures ∙ ap (issued i.registers) c.tag-tag.ensures.value;
      area_same = refl;
      windows_are = map-set window_in i.slots.items c.args.window.tag (Some (issued_slot c.len-place.result c.args.command.queued c.args.window));
    })
