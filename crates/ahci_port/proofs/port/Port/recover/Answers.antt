use Rattle.std.proofs.Common.{◌≡◌, ◌∙◌, ◌%◌, true, IsSomeAnd, ◌∷◌, ◌++◌, length, take, drop, map, get_or, ap, sym, refl, subst, arith}
use Rattle.std.specs.Option.{option_map}
use Rattle.std.proofs.lemmas.List.{length-map}
use Rattle.ncq_journal.specs.Halted.{halted}
use Rattle.ncq_journal.specs.Phase.{is_failed, phase}
use Rattle.ncq_core.specs.Log.{log_page}
use Rattle.ncq_journal.specs.Entry.{Recover}
use Rattle.ahci_port.specs.Slots.{window_in}
use Rattle.ahci_port.specs.Moves.{recovered_slot}
use Rattle.ahci_port.specs.Registers.{read_by_pio, recovered}
use Rattle.ahci_port.proofs.LogLemmas.{logged, tag_of_page, failed_low, whole_write, windows_recover}
use Rattle.ahci_port.proofs.ReadingLemmas.{stopped_here}
use Rattle.ahci_port.proofs.RecoveringLemmas.{keeps_recover}
use Rattle.ahci_port.proofs.RoomLemmas.{reserves_room}
use Rattle.ahci_port.proofs.port.Port.recover.Goals as goal

pub carry_out-requires : goal.carry_out-requires
carry_out-requires g c =
    let stop : halted c.self.inside.journal.past ≡ true = ap (λ p. halted p.past) c.self.view_is ∙ sym c.halted.ensures ∙ c.if-not-halted.false in
    stopped_here _ _ _ _ _ _ _ c.self.invariant ∙ stop

-- what holds once the log is read: the failed tag, the registers and the slots
bad : (g : _) (c : goal.After-push_reserved g) → is_failed (phase c.self.inside.journal.past (get_or c.page.result.now 0 0 % 32)) ≡ true
bad g c =
    let i = c.self.inside in
    let stop : halted i.journal.past ≡ true = ap (λ p. halted p.past) c.self.view_is ∙ sym c.halted.ensures ∙ c.if-not-halted.false in
    let is : IsSomeAnd i.disk.error (λ e. c.page.result.now ≡ log_page e) = subst (λ x. IsSomeAnd i.disk.error (λ e. x ≡ log_page e)) (sym c.page.ensures) c.carry_out.ensures.page in
    tag_of_page i.disk.error c.page.result.now i.journal.past (logged _ _ _ _ _ _ _ c.self.invariant stop) is (failed_low _ _ _ _ _ _ _ c.self.invariant)

regs : (g : _) (c : goal.After-push_reserved g) → c.carry_out.new.registers ≡ recovered c.self.inside.registers
regs g c = c.carry_out.ensures.registers ∙ ap read_by_pio c.restart.ensures

slots : (g : _) (c : goal.After-push_reserved g)
    → take c.self.inside.slots.len (c.recover_slots.new.slots ++ drop (length c.recover_slots.new.slots) c.self.inside.slots.items)
    ≡ map (option_map recovered_slot) c.self.inside.slots.items
slots g c =
    let i = c.self.inside in
    whole_write i.slots.items c.recover_slots.new.slots i.slots.len (sym c.deref_mut.ensures.len ∙ ap length c.deref_mut.ensures.value)
    (ap length c.recover_slots.ensures ∙ length-map c.deref_mut.result.now (option_map recovered_slot) ∙ ap length c.deref_mut.ensures.value)
    ∙ c.recover_slots.ensures ∙ ap (map (option_map recovered_slot)) c.deref_mut.ensures.value

pub returns-clause-failed : goal.returns-clause-failed
returns-clause-failed g c = rw (← c.self.view_is) (bad g c)

pub invariant_of-self-2 : goal.invariant_of-self-2
invariant_of-self-2 g c =
    let i = c.self.inside in
    rw (c.carry_out.ensures.headers, c.carry_out.ensures.disk, regs g c, slots g c, c.push_reserved.ensures.past, c.in_ok-reserve.ensures.past)
    (keeps_recover i.disk.starting i.disk i.registers i.slots.items i.headers i.journal.past i.journal.room c.push_reserved.new.self.room
    (get_or c.page.result.now 0 0 % 32) c.self.invariant (bad g c) (let a = c.in_ok-reserve.ensures.room in let b = c.push_reserved.ensures.room in omega arith))

pub returns-clause-recovered : goal.returns-clause-recovered
returns-clause-recovered g c =
    let i = c.self.inside in
    rw (← c.self.view_is)
    (record {
      appended = record {
        starting_same = ap (λ d. d.starting) c.carry_out.ensures.disk;
        image_same = ap (λ d. d.image) c.carry_out.ensures.disk;
        first_same = c.push_reserved.ensures.first ∙ c.in_ok-reserve.ensures.first;
        depth_same = ap (λ d. d.depth) c.carry_out.ensures.disk;
        grows_same = ap (λ d. d.grows) c.carry_out.ensures.disk;
        past_is = c.push_reserved.ensures.past ∙ ap (λ p. Recover (get_or c.page.result.now 0 0 % 32) ∷ p) c.in_ok-reserve.ensures.past;
        sent_is = c.carry_out.ensures.sent;
      };
      room = reserves_room _ _ _ _ c.in_ok-reserve.ensures.room c.in_ok-reserve.ensures.same c.in_ok-reserve.ensures.more c.push_reserved.ensures.room c.push_reserved.ensures.held;
      registers_are = regs g c;
      area_is = c.carry_out.ensures.area;
      windows_same = ap (map window_in) (slots g c) ∙ windows_recover i.slots.items;
    })
