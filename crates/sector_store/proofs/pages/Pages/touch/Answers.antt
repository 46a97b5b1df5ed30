use Rattle.std.proofs.Common.{◌≡◌, ◌*◌, ◌≤◌, [], ◌∷◌, ◌++◌, sym, subst, refl}
use Rattle.std.proofs.lemmas.Slice.{pushed}
use Rattle.sector_store.specs.Slots.{slot_at, table_span}
use Rattle.sector_store.specs.Shown.{AreTouched}
use Rattle.sector_store.proofs.ChangeLemmas.{whole_grown, whole_touched, touched_grown, touched_more, shows_grown, shows_on, shows_touched}
use Rattle.sector_store.proofs.pages.Pages.touch.Goals as goal

pub invariant_of-self-2 : goal.invariant_of-self-2
invariant_of-self-2 g c =
    let old = slot_at c.args.self.now.table in
    let mid = slot_at c.make.new.self in
    let new = slot_at c.touch.new.table in
    let before = c.args.self.now.touched.items in
    let room : c.args.self.now.sectors ≤ 8 * table_span c.touch.new.table = rw (c.touch.ensures.span, c.make.ensures.span) c.args.self.now.room in
    let items : c.push.new.self.items ≡ before ++ c.args.number ∷ [] = pushed {now = c.push.new.self.items} (c.args.number ∷ []) refl c.in_ok-push.was c.push.ensures.items in
    record {
      most = c.args.self.now.most;
      room = room;
      whole = whole_touched c.args.number mid new c.touch.ensures.others c.touch.ensures.layers (whole_grown old mid c.make.ensures.grown c.args.self.now.whole);
      touched_are = subst (λ xs. AreTouched new xs) (sym items) (touched_more c.args.number before mid new c.touch.ensures.others (touched_grown before old mid c.make.ensures.grown c.args.self.now.touched_are));
    }

pub returns-clause-same : goal.returns-clause-same
returns-clause-same g c =
    let below = g.B.Base.sector c.args.self.now.base in
    let old = slot_at c.args.self.now.table in
    let mid = slot_at c.make.new.self in
    let new = slot_at c.touch.new.table in
    shows_on below old mid new (shows_grown below old mid c.make.ensures.grown) (shows_touched below c.args.number mid new c.touch.ensures.others c.touch.ensures.layers)
