use Rattle.std.proofs.Common.{◌∙◌, ap, length, subst, sym}
use Rattle.std.specs.Option.{unwrap_or}
use Rattle.ahci_port.specs.Slots.{bytes_in}
use Rattle.ahci_port.proofs.CollectingLemmas.{not_refused}
use Rattle.ahci_ffi.specs.Done.{HasLength}
use Rattle.ahci_ffi.specs.Flat.{flat_reply}
use Rattle.ahci_ffi.proofs.CollectingLemmas.{text_read}
use Rattle.ahci_ffi.proofs.collection.taken.Goals as goal

pub copied-requires-clause-len : goal.copied-requires-clause-len
copied-requires-clause-len g c =
    let ended = c.in-Ok.ended in
    let window = c.in-Ok.window in
    subst (λ n. HasLength ended.outcome window n) (sym (c.unwrap_or-bytes.ensures ∙ ap (λ o. unwrap_or o 0) c.read_length.ensures))
    (text_read c.args.port.now c.args.tag c.args.number window (record { entry = ended.entry; outcome = ended.outcome; bytes = bytes_in ended.outcome window })
    c.keeps_its_promise.ensures.headline (not_refused _ _ c.in-Ok.ensures.fault) c.in-Ok.ensures.reply c.in-Ok.ensures.window)

pub returns : goal.returns
returns g c =
    let ended = c.in-Ok.ended in
    let bytes = bytes_in ended.outcome c.in-Ok.window in
    record {
      answer = record { entry = ended.entry; outcome = ended.outcome; bytes = bytes };
      is = c.in-Ok.ensures.reply;
      collected = c.in-Ok.ensures.ok;
      told = c.copied.ensures.reply ∙ ap (λ n. flat_reply n ended.outcome ended.entry (length bytes)) c.in-Ok.ensures.number;
      bytes = c.copied.ensures.out;
    }
