use Rattle.std.proofs.Common.{◌≡◌, List, None, ℕ, length, subst, sym}
use Rattle.ahci_ffi.specs.Asked.{AnswersUnless}
use Rattle.ahci_ffi.specs.Writing.{AnswersWord, list_bytes}
use Rattle.ahci_ffi.proofs.ArgumentLemmas.{with_whole}
use Rattle.ahci_ffi.proofs.registers.write_register.Goals as goal

pub returns : goal.returns
returns g c =
    let a = c.args in
    let new = c.write_word.new in
    let len = length a.list.now in
    let word = λ (list : List ℕ). AnswersWord a.offset a.word list a.windows.now c.write_word.result a.port.now new.port a.pending.now new.pending a.done.now new.done in
    subst
    (λ reason. AnswersUnless reason c.write_word.result (word a.list.now) ((new.port ≡ a.port.now) × (new.pending ≡ a.pending.now) × (new.done ≡ a.done.now)))
    (sym (with_whole list_bytes len None c.in-Ok.ensures.1.long)) (subst word c.in-Ok.ensures.1.same c.write_word.ensures)
