use Rattle.hba_regs.proofs.LawLemmas.{byte_here, byte_elsewhere}
use Rattle.hba_regs.proofs.laws.a_byte_is_written_alone.Goals as goal

pub returns-clause-here : goal.returns-clause-here
returns-clause-here c = byte_here c.args.word c.args.place c.args.value c.requires

pub returns-clause-others : goal.returns-clause-others
returns-clause-others c = λ q k n. byte_elsewhere c.args.word c.args.place c.args.value q c.requires k n
