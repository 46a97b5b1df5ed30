-- The script was replayed, and its picture is written, or not.
use Rattle.std.proofs.Common.{◌≡◌, ◌∙◌, IfErr, OnOk, subst, sym}
use Rattle.ahci_replay.specs.Transcript.{ReadsBefore}
use Rattle.ahci_draw.specs.Drawn.{DrawWrites}
use Rattle.ahci_draw.proofs.ListingLemmas.{drawn_flushed, drawn_to, drawn_unfailed, drawn_whole, draws, reads_drawn, listing_of}
use Rattle.streams.specs.Ends.{with_flush}
use Rattle.ahci_draw.proofs.whole_drawing.draw_with.Goals as goal

pub returns-then-has_listing-clause-ok : goal.returns-then-has_listing-clause-ok
returns-then-has_listing-clause-ok g c =
    drawn_whole _ _ _ _ _ _ _ c.send.result c.replay_with-replayed.result c.and.result c.and.ensures
    (listing_of c.replay_with-replayed.result _ _ _ _ _ c.new-listing.ensures.items c.deref.ensures.value (sym c.has_listing.ensures ∙ c.if-has_listing.true) c.replay_with-replayed.ensures.ok c.replay_with-replayed.ensures.err)
    c.send.ensures.ok

pub returns-then-has_listing-clause-err : goal.returns-then-has_listing-clause-err
returns-then-has_listing-clause-err g c =
    drawn_to _ _ _ _ _ _ _ c.send.result c.replay_with-replayed.result c.and.result c.and.ensures
    (listing_of c.replay_with-replayed.result _ _ _ _ _ c.new-listing.ensures.items c.deref.ensures.value (sym c.has_listing.ensures ∙ c.if-has_listing.true) c.replay_with-replayed.ensures.ok c.replay_with-replayed.ensures.err)
    c.send.ensures.ok c.send.ensures.err

pub returns-then-has_listing-clause-flushed : goal.returns-then-has_listing-clause-flushed
returns-then-has_listing-clause-flushed g c =
    subst (λ r. OnOk r (c.send.new.writes ≡ with_flush c.args.writes.now)) (sym c.and.ensures)
    (drawn_flushed c.args.writes.now c.send.new.writes c.send.result c.replay_with-replayed.result c.send.ensures.flushed)

pub returns-then-has_listing-clause-writes : goal.returns-then-has_listing-clause-writes
returns-then-has_listing-clause-writes g c =
    subst (λ r. IfErr r (DrawWrites c.args.writes.now c.send.new.writes)) (sym c.and.ensures)
    (draws c.args.writes.now c.send.new.writes _ _ _ c.send.result c.replay_with-replayed.result
    (listing_of c.replay_with-replayed.result _ _ _ _ _ c.new-listing.ensures.items c.deref.ensures.value (sym c.has_listing.ensures ∙ c.if-has_listing.true) c.replay_with-replayed.ensures.ok c.replay_with-replayed.ensures.err)
    c.send.ensures.flushed c.send.ensures.writes)

pub returns-then-has_listing-clause-unfailed : goal.returns-then-has_listing-clause-unfailed
returns-then-has_listing-clause-unfailed g c =
    subst (λ r. OnOk r (c.replay_with-replayed.new.reads.failed ≡ c.args.reads.now.failed)) (sym c.and.ensures)
    (drawn_unfailed c.args.reads.now c.replay_with-replayed.new.reads c.send.result c.replay_with-replayed.result c.replay_with-replayed.ensures.unfailed)

pub returns-then-has_listing-clause-reads : goal.returns-then-has_listing-clause-reads
returns-then-has_listing-clause-reads g c =
    subst (λ r. IfErr r (ReadsBefore c.args.reads.now c.replay_with-replayed.new.reads)) (sym c.and.ensures)
    (reads_drawn c.args.reads.now c.replay_with-replayed.new.reads c.args.writes.now c.send.new.writes c.send.result c.replay_with-replayed.result c.send.ensures.writes c.replay_with-replayed.ensures.reads)
