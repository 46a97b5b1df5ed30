use Rattle.std.proofs.Common.{rules, ◌≡◌, ◌∙◌, ◌+◌, ◌^◌, ℕ, ◌<◌, Some, length, get_or, ap, sym, refl, subst, arith}
use Rattle.std.specs.Prelude.{slice_index}
use Rattle.ahci_regs.specs.Receiving.{after_bits}
use Rattle.ahci_table.specs.Command.{queued_of}
use Rattle.ahci_table.specs.Fit.{IsFit}
use Rattle.ncq_core.specs.DiskFis.{completed_bytes}
use Rattle.ncq_core.specs.Serving.{HasCommandRoom}
use Rattle.sata_fis.specs.Layout.{set_bits_at}
use Rattle.ahci_port.specs.Keeping.{Keeps}
use Rattle.ahci_port.specs.PortView.{bits_place, next_number, put_at}
use Rattle.ahci_port.specs.Registers.{completed, word_of_tags}
use Rattle.ahci_port.specs.Serving.{CompletesOne}
use Rattle.ahci_port.specs.Slots.{view_of}
use Rattle.ahci_port.specs.declared.step.Stepped.TheVariants.{Completed}
use Rattle.ahci_port.proofs.ListLemmas.{MayServe, serve_may}
use Rattle.ahci_port.proofs.OwningLemmas.{owner_is}
use Rattle.ahci_port.proofs.ServedLemmas.{Serving}
use Rattle.ahci_port.proofs.UnderwayLemmas.{Start, Underway, area_all, keeps_all, moved_all, next_serving, others_all, past_all, tags_low, underway_first, underway_next}
use Rattle.ahci_port.proofs.port.Port.serve.Goals as goal
use Rattle.ahci_port.proofs.port.Port.serve.Goals.{After-len-index-end, After-deref, After-deref-2, After-len}

-- what the tags are
may : (g : _) (c : After-len-index-end g) → MayServe c.self.inside.journal.past c.args.tags.now.items
may g c = subst (λ p. MayServe p c.args.tags.now.items) (sym (ap (λ v. v.past) c.self.view_is)) (serve_may c.args.self.now c.args.tags.now (sym c.serve_fault.ensures ∙ c.in_default.is))

pub loop-index-init : goal.loop-index-init
loop-index-init g c = record {
  served = underway_first _ c.self.inside.disk c.self.inside.journal.room c.self.invariant refl (may g (goal.at.loop-index-init g c).After-len-index-end);
  starting_same = refl;
  grows_same = refl;
  first_same = refl;
  room_is = omega arith;
  held_same = refl;
  registers_same = refl;
  headers_same = refl;
  unqueued_same = refl;
  tags_same = refl;
}

-- the next tag, and what its command needs
low : (g : _) (c : After-deref g) → c.loop-index.index < length c.args.tags.now.items
low g c = let t = c.loop-index-test.true in let e = c.loop-index.auto.index-end in let v = c.len-index-end.ensures.value in omega arith

tag_is : (g : _) (c : After-deref g) → slice_index c.deref.result.now c.loop-index.index ≡ slice_index c.args.tags.now.items c.loop-index.index
tag_is g c = ap (λ l. slice_index l c.loop-index.index) c.deref.ensures.0

next : (g : _) (c : After-deref g)
    → Serving c.self.inside.disk.starting c.loop-index.self-inside.disk c.loop-index.self-inside.journal.past c.loop-index.self-inside.slots.items c.loop-index.self-inside.journal.room
    (slice_index c.deref.result.now c.loop-index.index)
next g c =
    let i = c.loop-index.self-inside in
    subst (λ t. Serving c.self.inside.disk.starting i.disk i.journal.past i.slots.items i.journal.room t) (sym (tag_is g c))
    (next_serving _ c.loop-index.index i.disk i.slots.items i.area i.journal.past i.journal.room c.loop-index.invariant.served (low g c))

pub index_mut-requires : goal.index_mut-requires
index_mut-requires g c = let b = (next g (goal.at.index_mut-requires g c).After-deref).owner.below in search rules

pub complete-requires-clause-fit : goal.complete-requires-clause-fit
complete-requires-clause-fit g c =
    let t = next g (goal.at.complete-requires-clause-fit g c).After-deref in
    subst (λ s. IsFit s.window) (owner_is t.owner _ _ c.index_mut.ensures.value c.in-Some-index_mut.is) t.owner.holds.fit

pub complete-requires-clause-there : goal.complete-requires-clause-there
complete-requires-clause-there g c =
    let t = next g (goal.at.complete-requires-clause-there g c).After-deref in
    t.there ∙ ap (λ s. Some (queued_of s.window)) (owner_is t.owner _ _ c.index_mut.ensures.value c.in-Some-index_mut.is)

pub complete-requires-clause-running : goal.complete-requires-clause-running
complete-requires-clause-running g c = (next g (goal.at.complete-requires-clause-running g c).After-deref).served_now

pub complete-requires-clause-memory : goal.complete-requires-clause-memory
complete-requires-clause-memory g c =
    let t = next g (goal.at.complete-requires-clause-memory g c).After-deref in
    subst (λ s. HasCommandRoom c.loop-index.self-inside.disk (queued_of s.window)) (owner_is t.owner _ _ c.index_mut.ensures.value c.in-Some-index_mut.is) t.memory

pub complete-requires-clause-room : goal.complete-requires-clause-room
complete-requires-clause-room g c = (next g (goal.at.complete-requires-clause-room g c).After-deref).room

pub loop-index-preserved : goal.loop-index-preserved
loop-index-preserved g c =
    let i = c.loop-index.self-inside in
    let before = (goal.at.loop-index-preserved g c).After-deref in
    let same = tag_is g before in
    let less = low g before in
    let u = c.loop-index.invariant.served in
    let t = next_serving _ c.loop-index.index i.disk i.slots.items i.area i.journal.past i.journal.room u less in
    let found = owner_is t.owner _ _ (c.index_mut.ensures.value ∙ ap (λ n. get_or i.slots.items n c.index_mut.result.now) same) c.in-Some-index_mut.is in
    let one = subst (λ n. CompletesOne n i.disk c.complete.new.disk c.in-Some-index_mut.slot c.complete.new.slot i.area c.complete.new.area i.journal c.complete.new.journal) same c.complete.ensures in
    record {
      served = rw same (underway_next _ c.loop-index.index i.disk c.complete.new.disk i.slots.items c.in-Some-index_mut.slot c.complete.new.slot i.area c.complete.new.area i.journal
          c.complete.new.journal (may g (goal.at.loop-index-preserved g c).After-len-index-end) u less found one);
      starting_same = ap (λ d. d.starting) one.disk_is ∙ c.loop-index.invariant.starting_same;
      grows_same = ap (λ d. d.grows) one.disk_is ∙ c.loop-index.invariant.grows_same;
      first_same = c.complete.ensures.first_same ∙ c.loop-index.invariant.first_same;
      room_is = (let a = c.complete.ensures.room_is in let b = c.loop-index.invariant.room_is in omega arith);
      held_same = c.complete.ensures.held_same ∙ c.loop-index.invariant.held_same;
      registers_same = c.loop-index.invariant.registers_same;
      headers_same = c.loop-index.invariant.headers_same;
      unqueued_same = c.loop-index.invariant.unqueued_same;
      tags_same = c.loop-index.invariant.tags_same;
    }

-- ---- the whole list

over : (g : _) (c : After-deref-2 g) → c.loop-index.index ≡ length c.args.tags.now.items
over g c = let t = c.loop-index-test.false in let e = c.loop-index.auto.index-end in let v = c.len-index-end.ensures.value in omega arith

abbrev start : (g : _) → After-deref-2 g → Start
start g c = record {
  starting = c.self.inside.disk.starting;
  registers = c.self.inside.registers;
  slots = c.self.inside.slots.items;
  headers = c.self.inside.headers;
  past = c.self.inside.journal.past;
  area = c.self.inside.area;
  depth = c.self.inside.disk.depth;
  tags = c.args.tags.now.items;
}

all : (g : _) (c : After-deref-2 g)
    → Underway (start g c) (length c.args.tags.now.items) c.loop-index.self-inside.disk c.loop-index.self-inside.slots.items c.loop-index.self-inside.area
    c.loop-index.self-inside.journal.past c.loop-index.self-inside.journal.room
all g c =
    let i = c.loop-index.self-inside in
    subst (λ n. Underway (start g c) n i.disk i.slots.items i.area i.journal.past i.journal.room) (over g c) c.loop-index.invariant.served

word : (g : _) (c : After-len g) → c.word_of_tags.result ≡ word_of_tags c.args.tags.now.items
word g c = c.word_of_tags.ensures ∙ ap word_of_tags c.deref-2.ensures.0

bits : (g : _) (c : After-len g) → c.completed-bits.result ≡ completed_bytes (word_of_tags c.args.tags.now.items)
bits g c = c.completed-bits.ensures ∙ ap completed_bytes (word g c)

regs : (g : _) (c : After-len g) → c.receive_bits.new.registers ≡ completed c.self.inside.registers c.args.tags.now.items
regs g c =
    let small : word_of_tags c.args.tags.now.items < 2 ^ 32 = subst (λ w. w < 2 ^ 32) (word g c) c.word_of_tags.type_inv in
    c.receive_bits.ensures.registers
    ∙ ap (λ r. after_bits r (set_bits_at c.completed-bits.result).status (set_bits_at c.completed-bits.result).error (set_bits_at c.completed-bits.result).i (set_bits_at c.completed-bits.result).sactive)
    c.loop-index.invariant.registers_same
    ∙ ap (λ f. after_bits c.self.inside.registers f.status f.error f.i f.sactive)
    (ap set_bits_at (bits g c) ∙ sym (c.the_disks_answers_are_these_bytes.ensures.spell.completed (word_of_tags c.args.tags.now.items) small).1)

pub word_of_tags-requires : goal.word_of_tags-requires
word_of_tags-requires g c = subst (λ l. (k : ℕ) → k < length l → slice_index l k < 32) (sym c.deref-2.ensures.0)
    (tags_low (start g (goal.at.word_of_tags-requires g c).After-deref-2) c.self.inside.disk c.self.inside.journal.room c.self.invariant (may g (goal.at.word_of_tags-requires g c).After-len-index-end))

pub invariant_of-self : goal.invariant_of-self
invariant_of-self g c =
    let at = goal.at.invariant_of-self g c in
    let i = c.loop-index.self-inside in
    let inv = c.loop-index.invariant in
    let served = all g at.After-deref-2 in
    rw (regs g at.After-len, inv.headers_same) (subst (λ xs. Keeps xs i.disk (completed c.self.inside.registers c.args.tags.now.items) i.slots.items c.self.inside.headers i.journal.past i.journal.room) (sym inv.starting_same) (keeps_all _ i.disk i.slots.items i.area i.journal.past i.journal.room served))

pub returns-clause-ok : goal.returns-clause-ok
returns-clause-ok g c =
    let at = goal.at.returns-clause-ok g c in
    let o = c.self.inside in
    let i = c.loop-index.self-inside in
    let inv = c.loop-index.invariant in
    let tags = c.args.tags.now.items in
    let old = view_of o.disk.starting o.disk o.registers o.unqueued.sent o.area o.slots.items o.journal in
    let new = view_of i.disk.starting i.disk c.receive_bits.new.registers i.unqueued.sent c.receive_bits.new.area i.slots.items i.journal in
    let served = all g at.After-deref-2 in
    rw (← c.self.view_is)
    (record {
      answer_is = ap (λ n. Completed n c.len.result) c.end-first.ensures ∙ ap (Completed (next_number old)) c.len.ensures.value;
      appended = record {
        starting_same = inv.starting_same;
        first_same = inv.first_same;
        depth_same = served.depth_same;
        grows_same = inv.grows_same;
        past_is = past_all _ i.disk i.slots.items i.area i.journal.past i.journal.room served;
        sent_same = ap (λ q. q.sent) inv.unqueued_same;
      };
      room = record { room_is = subst (λ n. i.journal.room + n ≡ o.journal.room) (over g at.After-deref-2) inv.room_is; held_same = inv.held_same };
      registers_are = regs g at.After-len;
      area_is = c.receive_bits.ensures.area ∙ ap (λ b. put_at bits_place b i.area) (bits g at.After-len)
          ∙ ap (put_at bits_place (completed_bytes (word_of_tags tags))) (area_all _ i.disk i.slots.items i.area i.journal.past i.journal.room old served refl);
      moved = moved_all _ i.disk i.slots.items i.area i.journal.past i.journal.room (length tags) old new served refl refl refl refl;
      others_same = others_all _ i.disk i.slots.items i.area i.journal.past i.journal.room old new served refl refl;
    })
