use Rattle.std.proofs.Common.{◌≡◌, ◌∙◌, Some, None, true, length, ap, sym, refl, rules}
use Rattle.std.specs.Option.{option_map}
use Rattle.ncq_core.specs.Serving.{fail_fault}
use Rattle.ncq_core.specs.DiskFis.{failed_bytes}
use Rattle.ncq_journal.specs.Phase.{phase, is_busy}
use Rattle.ahci_port.specs.PortView.{put_at, bits_place}
use Rattle.ahci_port.specs.Registers.{failed}
use Rattle.ahci_port.specs.declared.step.Stepped.TheVariants.{Failed}
use Rattle.ahci_regs.specs.Receiving.{after_bits}
use Rattle.sata_fis.specs.Layout.{set_bits_at}
use Rattle.ahci_port.specs.Moves.{failed_slot, step_fault_of}
use Rattle.ahci_port.proofs.FailingLemmas.{keeps_fail}
use Rattle.ahci_port.proofs.OwningLemmas.{owner_is, windows_same}
use Rattle.ahci_port.proofs.RegisterLemmas.{tracks_fail}
use Rattle.ahci_port.proofs.StepLemmas.{answered_err, answered_ok, fail_agrees, may_fail, MayFailNow}
use Rattle.ahci_port.proofs.port.Port.fail.Goals as goal

pub returns-in-Err-clause-fault : goal.returns-in-Err-clause-fault
returns-in-Err-clause-fault g c =
    let i = c.self.inside in
    let stands = answered_err (fail_fault i.disk c.args.tag c.args.at) (failed_bytes c.args.error) c.in-Err.fault c.in-Err.ensures.answer in
    rw (← c.self.view_is)
    (rw (sym (fail_agrees _ _ _ _ _ _ _ c.args.tag c.args.at c.self.invariant) ∙ ap (option_map step_fault_of) stands ∙ ap (λ f. Some f) (sym c.step_fault.ensures)) refl)

pub index_mut-requires : goal.index_mut-requires
index_mut-requires g c =
    let i = c.self.inside in
    let a = answered_ok (fail_fault i.disk c.args.tag c.args.at) (failed_bytes c.args.error) c.in-Ok.bits c.in-Ok.ensures.answer in
    let m = may_fail _ _ _ _ _ _ _ c.args.tag c.args.error c.args.at c.self.invariant a.0 in
    let b = m.owner.below in search rules

pub push_reserved-requires : goal.push_reserved-requires
push_reserved-requires g c =
    let i = c.self.inside in
    let a = answered_ok (fail_fault i.disk c.args.tag c.args.at) (failed_bytes c.args.error) c.in-Ok.bits c.in-Ok.ensures.answer in
    let m = may_fail _ _ _ _ _ _ _ c.args.tag c.args.error c.args.at c.self.invariant a.0 in
    m.room

-- what holds once the disk has failed the command: its answer, the slot's request, the slot and the registers
said : (g : _) (c : goal.After-push_reserved g) → (fail_fault c.self.inside.disk c.args.tag c.args.at ≡ None) × (c.in-Ok.bits ≡ failed_bytes c.args.error)
said g c = answered_ok (fail_fault c.self.inside.disk c.args.tag c.args.at) (failed_bytes c.args.error) c.in-Ok.bits c.in-Ok.ensures.answer

here : (g : _) (c : goal.After-push_reserved g)
    → MayFailNow c.self.inside.disk.starting c.self.inside.disk.depth c.self.inside.journal.past c.self.inside.slots.items c.self.inside.journal.room
    c.args.tag c.args.error c.args.at
here g c = may_fail _ _ _ _ _ _ _ c.args.tag c.args.error c.args.at c.self.invariant (said g c).0

slot : (g : _) (c : goal.After-push_reserved g)
    → c.fail-in-Some.new.self ≡ failed_slot (here g c).owner.slot (length c.self.inside.journal.past) c.args.error c.args.at
slot g c = c.fail-in-Some.ensures ∙ ap (λ n. failed_slot c.in-Some.slot n c.args.error c.args.at) c.len-place.ensures
    ∙ ap (λ s. failed_slot s (length c.self.inside.journal.past) c.args.error c.args.at)
    (sym (owner_is (here g c).owner _ _ c.index_mut.ensures.value c.in-Some.is))

regs : (g : _) (c : goal.After-push_reserved g) → c.receive_bits.new.registers ≡ failed c.self.inside.registers c.args.error
regs g c = c.receive_bits.ensures.registers
    ∙ ap (λ b. after_bits c.self.inside.registers (set_bits_at b).status (set_bits_at b).error (set_bits_at b).i (set_bits_at b).sactive) (said g c).1

pub invariant_of-self-2 : goal.invariant_of-self-2
invariant_of-self-2 g c =
    let i = c.self.inside in
    let m = here g c in
    let busy : is_busy (phase i.journal.past c.args.tag) ≡ true = ap is_busy m.accepted in
    rw (regs g c, c.push_reserved.ensures.past, c.in-Ok.ensures.state, slot g c)
    (keeps_fail i.disk.starting i.disk i.registers
    (failed i.registers c.args.error) i.slots.items i.headers i.journal.past i.journal.room c.push_reserved.new.self.room c.args.tag c.args.error c.args.at m.owner.slot
    c.self.invariant busy m.owner.here m.allowed (tracks_fail i.disk.depth i.journal.past i.registers c.args.tag c.args.error c.args.at c.self.invariant.tracks busy)
    c.push_reserved.ensures.room)

pub returns-clause-ok : goal.returns-clause-ok
returns-clause-ok g c =
    let i = c.self.inside in
    let m = here g c in
    rw (← c.self.view_is, slot g c)
    (record {
      answer_is = ap (λ n. Failed n) c.end-number.ensures;
      appended = record {
        starting_same = ap (λ d. d.starting) c.in-Ok.ensures.state;
        image_same = ap (λ d. d.image) c.in-Ok.ensures.state;
        first_same = c.push_reserved.ensures.first;
        depth_same = ap (λ d. d.depth) c.in-Ok.ensures.state;
        grows_same = ap (λ d. d.grows) c.in-Ok.ensures.state;
        past_is = c.push_reserved.ensures.past;
        sent_is = refl;
      };
      room = record { room_is = c.push_reserved.ensures.room; held_same = c.push_reserved.ensures.held };
      registers_are = regs g c;
      area_is = c.receive_bits.ensures.area ∙ ap (λ b. put_at bits_place b i.area) (said g c).1;
      windows_same = windows_same i.slots.items c.args.tag m.owner.slot (failed_slot m.owner.slot (length i.journal.past) c.args.error c.args.at) m.owner.here refl;
    })

pub returns-clause-fault : goal.returns-clause-fault
returns-clause-fault g c =
    let i = c.self.inside in
    let a = answered_ok (fail_fault i.disk c.args.tag c.args.at) (failed_bytes c.args.error) c.in-Ok.bits c.in-Ok.ensures.answer in
    let none = sym (fail_agrees _ _ _ _ _ _ _ c.args.tag c.args.at c.self.invariant) ∙ ap (option_map step_fault_of) a.0 in
    rw (← c.self.view_is) (rw none refl)
