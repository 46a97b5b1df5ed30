-- What a worker brings back of a job, without the code's buffers.
use Rattle.std.specs.Prelude.{ℕ, Bool, nat_eq, List}
use Rattle.std.specs.List.{list_any}
use Rattle.ncq_journal.specs.Answer.{Answer}
use Rattle.ahci_driver.specs.declared.receipt.Receipt.{Receipt}

-- the number of the job's request, and its answer
pub record Received : Type 0 where
  pub number : ℕ
  pub answer : Answer

-- what the code's receipt says
abbrev pub received_of : {A : _} → Receipt A → Received
received_of r = record { number = r.reply.number; answer = record { entry = r.reply.entry; outcome = r.reply.outcome; bytes = r.bytes.bytes } }

-- some of these receipts has the number
abbrev pub is_named : List Received → ℕ → Bool
is_named receipts n = list_any (λ r. nat_eq r.number n) receipts
