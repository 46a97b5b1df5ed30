-- What an answer says, as plain values: a read's sectors are a list of bytes.
use Rattle.std.specs.Prelude.{ℕ, List, Option}
use Rattle.ahci_script.specs.declared.answer.ScriptAnswer.{ScriptAnswer}
use Rattle.ahci_script.specs.declared.answer.ScriptAnswer.TheVariants as code
use Rattle.port_refusal.specs.declared.refusal.Refusal.{Refusal}

pub data Said : Type 0 where
  Disk : (sectors depth : ℕ) (first : Option ℕ) → Said
  Issued : (entry : ℕ) → Said
  Accepted : (entry : ℕ) → Said
  Completed : (first end : ℕ) → Said
  FailedStep : (entry : ℕ) → Said
  Wrote : (entry : ℕ) → Said
  Read : (entry : ℕ) (bytes : List ℕ) → Said
  Failed : (entry error lba : ℕ) → Said
  Recovered : (tag : ℕ) → Said
  Reissued : (tag : ℕ) → Said
  Register : (value : ℕ) → Said
  Acked : Said
  Word : (word value : ℕ) → Said
  Flushed : Said
  Sector : (lba byte : ℕ) → Said
  Journal : (entries : ℕ) → Said
  Trimmed : (entries : ℕ) → Said
  Refused : (refusal : Refusal) → Said

-- what the code's answer says
abbrev pub said : {A : _} → ScriptAnswer A → Said
said (code.Disk sectors depth first) = Disk sectors depth first
said (code.Issued entry) = Issued entry
said (code.Accepted entry) = Accepted entry
said (code.Completed first end) = Completed first end
said (code.FailedStep entry) = FailedStep entry
said (code.Wrote entry) = Wrote entry
said (code.Read entry bytes) = Read entry bytes.items
said (code.Failed error entry lba) = Failed entry error lba
said (code.Recovered tag) = Recovered tag
said (code.Reissued tag) = Reissued tag
said (code.Register value) = Register value
said code.Acked = Acked
said (code.Word word value) = Word word value
said code.Flushed = Flushed
said (code.Sector byte lba) = Sector lba byte
said (code.Journal entries) = Journal entries
said (code.Trimmed entries) = Trimmed entries
said (code.Refused refusal) = Refused refusal
