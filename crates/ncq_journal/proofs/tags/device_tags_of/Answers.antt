-- An error leaves no tag in the device.
use Rattle.std.proofs.Common.{◌≡◌, true, false, not, ◌&&◌, sym, ap, ◌∙◌}
use Rattle.std.proofs.lemmas.Bool.{and_right}
use Rattle.word_bits.proofs.BitsLemmas.{bits_zero}
use Rattle.word_bits.proofs.PlacesLemmas.{and_true, places_none, same_places}
use Rattle.ncq_journal.specs.Halted.{halted}
use Rattle.ncq_journal.specs.History.{history_of}
use Rattle.ncq_journal.specs.Phase.{phase}
use Rattle.ncq_journal.specs.Tags.{in_device}
use Rattle.ncq_journal.proofs.tags.device_tags_of.Goals as goal

pub returns-then-is_halted : goal.returns-then-is_halted
returns-then-is_halted g c =
    let past = history_of c.args.events.now in
    let stopped : not (halted past) ≡ false = ap not (sym c.is_halted.ensures ∙ c.if-is_halted.true) in
    bits_zero ∙ sym (places_none (λ t. in_device (phase past t) && not (halted past)) (λ t h. and_right (in_device (phase past t)) (not (halted past)) stopped))

pub returns-else-is_halted : goal.returns-else-is_halted
returns-else-is_halted g c =
    let past = history_of c.args.events.now in
    let goes : not (halted past) ≡ true = ap not (sym c.is_halted.ensures ∙ c.if-is_halted.false) in
    c.tags_in.ensures in_device (λ p b h. h.1)
    ∙ same_places (λ t. in_device (phase past t)) (λ t. in_device (phase past t) && not (halted past))
    (λ t h. sym (ap (λ b. in_device (phase past t) && b) goes ∙ and_true (in_device (phase past t))))
