use Rattle.std.proofs.Common.{◌≡◌, ◌∙◌, ℕ, ◌/◌, max, ◌∷◌, length, ap, sym, refl, rules}
use Rattle.ahci_regs.specs.Receiving.{after_register}
use Rattle.ahci_table.specs.Command.{op}
use Rattle.ncq_journal.specs.Entry.{Fail}
use Rattle.ncq_journal.specs.Work.{lba_of}
use Rattle.sata_fis.specs.Layout.{d2h_at}
use Rattle.ahci_port.specs.Moves.{accepted_slot, failed_slot}
use Rattle.ahci_port.specs.PortView.{put_at, register_place}
use Rattle.ahci_port.specs.Registers as registers
use Rattle.ahci_port.specs.declared.step.Stepped.TheVariants.{Accepted, Failed}
use Rattle.ahci_port.proofs.AcceptingLemmas.{keeps_accept}
use Rattle.ahci_port.proofs.OwningLemmas.{windows_same}
use Rattle.ahci_port.proofs.TakingLemmas.{Taking, Accepts, Refuses, owned_now, taking_now, accepts, refuses, queues, keeps_refuse, steps_accepted, steps_refused}
use Rattle.ahci_port.proofs.port.Port.accept.Goals.{In-Some-index_mut, In-Accepted, In-Refused, After-push_reserved, After-push_reserved-in-Refused}
use Rattle.ahci_port.proofs.port.Port.accept.Goals as goal

pub index_mut-requires : goal.index_mut-requires
index_mut-requires g c =
    let b = (owned_now _ _ _ _ _ _ _ c.args.tag c.args.self.now c.self.invariant (ap (λ p. p.past) c.self.view_is) (sym c.accept_fault.ensures ∙ c.in_default.is)).below in
    search rules

-- the slot that the call has found
found : (g : _) (c : In-Some-index_mut g)
    → Taking c.self.inside.disk.starting c.self.inside.disk c.self.inside.journal.past c.self.inside.slots.items c.self.inside.journal.room c.args.tag c.in-Some-index_mut.slot
found g c = taking_now _ _ _ _ _ _ _ c.args.tag c.args.self.now _ _ c.self.invariant (ap (λ p. p.past) c.self.view_is) (sym c.accept_fault.ensures ∙ c.in_default.is)
    c.index_mut.ensures.value c.in-Some-index_mut.is

pub cfis-requires : goal.cfis-requires
cfis-requires g c = (found g (goal.at.cfis-requires g c).In-Some-index_mut).holds.fit

pub unreachable-requires-in-Plain : goal.unreachable-requires-in-Plain
unreachable-requires-in-Plain g c = queues (found g (goal.at.unreachable-requires-in-Plain g c).In-Some-index_mut) c.cfis.result.now c.in-Plain.field-0 c.cfis.ensures
    (sym c.take.ensures.answer ∙ c.in-Plain.is)

-- the disk has accepted the command
accepted : (g : _) (c : In-Accepted g)
    → Taking c.self.inside.disk.starting c.self.inside.disk c.self.inside.journal.past c.self.inside.slots.items c.self.inside.journal.room c.args.tag c.in-Some-index_mut.slot
    → Accepts c.self.inside.disk (length c.self.inside.disk.starting / 512) c.in-Some-index_mut.slot.window c.in-Accepted.fis c.take.new.self
accepted g c t = accepts t c.cfis.result.now c.in-Accepted.fis c.take.new.self c.the_disks_answers_are_these_bytes.ensures.spell c.cfis.ensures
    (sym c.take.ensures.answer ∙ c.in-Accepted.is) c.take.ensures.state

pub receive_register-requires-clause-tag : goal.receive_register-requires-clause-tag
receive_register-requires-clause-tag g c = (found g (goal.at.receive_register-requires-clause-tag g c).In-Some-index_mut).low

pub receive_register-requires-clause-spells : goal.receive_register-requires-clause-spells
receive_register-requires-clause-spells g c =
    let at = goal.at.receive_register-requires-clause-spells g c in
    (accepted g at.In-Accepted (found g at.In-Some-index_mut)).spells

pub push_reserved-requires : goal.push_reserved-requires
push_reserved-requires g c = (found g (goal.at.push_reserved-requires g c).In-Some-index_mut).room

acceptance : (g : _) (c : After-push_reserved g)
    → Accepts c.self.inside.disk (length c.self.inside.disk.starting / 512) c.in-Some-index_mut.slot.window c.in-Accepted.fis c.take.new.self
acceptance g c = let at = goal.at.invariant_of-self g c in accepted g at.In-Accepted (found g at.In-Some-index_mut)

moved : (g : _) (c : After-push_reserved g) → c.receive_register.new.registers ≡ registers.accepted c.self.inside.registers c.args.tag
moved g c = c.receive_register.ensures.registers
    ∙ ap (λ b. after_register c.self.inside.registers (d2h_at b).status (d2h_at b).error (d2h_at b).i c.args.tag) (acceptance g c).fis_is

pub invariant_of-self : goal.invariant_of-self
invariant_of-self g c =
    let i = c.self.inside in
    let t = found g (goal.at.invariant_of-self g c).In-Some-index_mut in
    let a = acceptance g c in
    rw (moved g c, c.push_reserved.ensures.past, a.state_is, c.accept.ensures)
    (keeps_accept i.disk.starting i.disk i.registers i.slots.items i.headers i.journal.past i.journal.room c.push_reserved.new.self.room c.args.tag
    c.in-Some-index_mut.slot c.self.invariant t.issued t.running t.here t.its_tag a.within c.push_reserved.ensures.room)

pub returns-in-Accepted-clause-ok : goal.returns-in-Accepted-clause-ok
returns-in-Accepted-clause-ok g c =
    let i = c.self.inside in
    let t = found g (goal.at.returns-in-Accepted-clause-ok g c).In-Some-index_mut in
    let a = acceptance g c in
    let s = c.in-Some-index_mut.slot in
    rw (← c.self.view_is, c.accept.ensures)
    (steps_accepted _ _ c.args.tag s _ t.holds a.within
    (record {
      answer_is = ap (λ n. Accepted n) c.end-number.ensures;
      appended = record {
        starting_same = ap (λ d. d.starting) a.state_is;
        image_same = ap (λ d. d.image) a.state_is;
        first_same = c.push_reserved.ensures.first;
        depth_same = ap (λ d. d.depth) a.state_is;
        grows_same = ap (λ d. d.grows) a.state_is;
        past_is = c.push_reserved.ensures.past;
        sent_is = refl;
      };
      room = record { room_is = c.push_reserved.ensures.room; held_same = c.push_reserved.ensures.held };
      registers_are = moved g c;
      area_is = c.receive_register.ensures.area ∙ ap (λ b. put_at register_place b i.area) a.fis_is;
      windows_same = windows_same i.slots.items c.args.tag s (accepted_slot s) t.here refl;
    }))

-- the disk has refused it
refused : (g : _) (c : In-Refused g)
    → Taking c.self.inside.disk.starting c.self.inside.disk c.self.inside.journal.past c.self.inside.slots.items c.self.inside.journal.room c.args.tag c.in-Some-index_mut.slot
    → Refuses c.self.inside.disk (length c.self.inside.disk.starting / 512) c.args.tag c.in-Some-index_mut.slot.window c.in-Refused.fis c.take.new.self
refused g c t = refuses t c.cfis.result.now c.in-Refused.fis c.take.new.self c.the_disks_answers_are_these_bytes.ensures.spell c.cfis.ensures
    (sym c.take.ensures.answer ∙ c.in-Refused.is) c.take.ensures.state

pub receive_register-answer-requires-clause-spells : goal.receive_register-answer-requires-clause-spells
receive_register-answer-requires-clause-spells g c =
    let at = goal.at.receive_register-answer-requires-clause-spells g c in
    (refused g at.In-Refused (found g at.In-Some-index_mut)).spells

pub push_reserved-requires-in-Refused : goal.push_reserved-requires-in-Refused
push_reserved-requires-in-Refused g c = (found g (goal.at.push_reserved-requires-in-Refused g c).In-Some-index_mut).room

refusal : (g : _) (c : After-push_reserved-in-Refused g)
    → Refuses c.self.inside.disk (length c.self.inside.disk.starting / 512) c.args.tag c.in-Some-index_mut.slot.window c.in-Refused.fis c.take.new.self
refusal g c = let at = goal.at.invariant_of-self-in-Refused g c in refused g at.In-Refused (found g at.In-Some-index_mut)

-- the first sector that the disk lacks
abbrev lba : (g : _) (c : After-push_reserved-in-Refused g) → ℕ
lba g c = max (lba_of (op c.in-Some-index_mut.slot.window)) (length c.self.inside.disk.starting / 512)

-- the answer, the slot, the entry and the registers then
says : (g : _) (c : After-push_reserved-in-Refused g) → (c.answer.inside.error ≡ 0x10) × (c.answer.inside.lba ≡ lba g c)
says g c =
    let answer = c.answer.view_is ∙ c.receive_register-answer.ensures.answer in (
      ap (λ f. f.error) answer ∙ ap (λ b. (d2h_at b).error) (refusal g c).fis_is,
      ap (λ f. f.lba) answer ∙ (refusal g c).lba_is,
    )

slot : (g : _) (c : After-push_reserved-in-Refused g)
    → c.fail.new.self ≡ failed_slot c.in-Some-index_mut.slot (length c.self.inside.journal.past) 0x10 (lba g c)
slot g c = c.fail.ensures ∙ ap (λ n. failed_slot c.in-Some-index_mut.slot n c.answer.inside.error c.answer.inside.lba) c.len-place.ensures
    ∙ ap (λ e. failed_slot c.in-Some-index_mut.slot (length c.self.inside.journal.past) e c.answer.inside.lba) (says g c).0
    ∙ ap (failed_slot c.in-Some-index_mut.slot (length c.self.inside.journal.past) 0x10) (says g c).1

pasts : (g : _) (c : After-push_reserved-in-Refused g) → c.push_reserved-in-Refused.new.self.past ≡ Fail c.args.tag 0x10 (lba g c) ∷ c.self.inside.journal.past
pasts g c = c.push_reserved-in-Refused.ensures.past ∙ ap (λ e. Fail c.args.tag e c.answer.inside.lba ∷ c.self.inside.journal.past) (says g c).0
    ∙ ap (λ n. Fail c.args.tag 0x10 n ∷ c.self.inside.journal.past) (says g c).1

regs : (g : _) (c : After-push_reserved-in-Refused g) → c.receive_register-answer.new.registers ≡ registers.refused c.self.inside.registers c.args.tag
regs g c = c.receive_register-answer.ensures.registers
    ∙ ap (λ b. after_register c.self.inside.registers (d2h_at b).status (d2h_at b).error (d2h_at b).i c.args.tag) (refusal g c).fis_is

pub invariant_of-self-in-Refused : goal.invariant_of-self-in-Refused
invariant_of-self-in-Refused g c =
    let i = c.self.inside in
    let t = found g (goal.at.invariant_of-self-in-Refused g c).In-Some-index_mut in
    let r = refusal g c in
    rw (regs g c, pasts g c, r.state_is, slot g c)
    (keeps_refuse i.disk.starting i.disk i.registers i.slots.items i.headers i.journal.past i.journal.room c.push_reserved-in-Refused.new.self.room c.args.tag
    c.in-Some-index_mut.slot c.self.invariant t r.passes c.push_reserved-in-Refused.ensures.room (lba g c) refl)

pub returns-in-Refused-clause-ok : goal.returns-in-Refused-clause-ok
returns-in-Refused-clause-ok g c =
    let i = c.self.inside in
    let t = found g (goal.at.returns-in-Refused-clause-ok g c).In-Some-index_mut in
    let r = refusal g c in
    let s = c.in-Some-index_mut.slot in
    rw (← c.self.view_is, slot g c)
    (steps_refused _ _ c.args.tag s _ t.holds r.passes
    (record {
      answer_is = ap (λ n. Failed n) c.end-number.ensures;
      appended = record {
        starting_same = ap (λ d. d.starting) r.state_is;
        image_same = ap (λ d. d.image) r.state_is;
        first_same = c.push_reserved-in-Refused.ensures.first;
        depth_same = ap (λ d. d.depth) r.state_is;
        grows_same = ap (λ d. d.grows) r.state_is;
        past_is = pasts g c;
        sent_is = refl;
      };
      room = record { room_is = c.push_reserved-in-Refused.ensures.room; held_same = c.push_reserved-in-Refused.ensures.held };
      registers_are = regs g c;
      area_is = c.receive_register-answer.ensures.area ∙ ap (λ b. put_at register_place b i.area) r.fis_is;
      windows_same = windows_same i.slots.items c.args.tag s (failed_slot s (length i.journal.past) 0x10 (lba g c)) t.here refl;
    }))
