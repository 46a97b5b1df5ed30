-- When a run of workers is settled against the journal of its port: each job was issued once, answered as the journal
-- says, and answered before its worker's next job was issued; and nothing else was issued.
use Rattle.std.specs.Prelude.{◌≡◌, ◌≢◌, ℕ, ◌-◌, ◌<◌, ◌≤◌, true, false, List, length, take, Option, None, Some, IsSome, IsSomeAnd, is_some, slice_get, slice_index_or}
use Rattle.ncq_journal.specs.Answer.{Answer}
use Rattle.ncq_journal.specs.Entry.{Entry, Issue}
use Rattle.ncq_journal.specs.Numbering.{entry_numbered, number_of}
use Rattle.ncq_journal.specs.Work.{Work}
use Rattle.ahci_port.specs.PortView.{PortView}
use Rattle.ahci_port.specs.Steps.{answer_to}
use Rattle.ahci_driver.specs.Received.{Received, is_named}
use Rattle.ahci_driver.specs.declared.fault.SettleFault.{SettleFault}
use Rattle.ahci_driver.specs.declared.fault.SettleFault.TheVariants.{Count, Wrong, Extra, OutOfMemory}

-- the command that an entry issues, where it issues one
abbrev pub work_in : Option Entry → Option Work
work_in (Some (Issue tag work)) = Some work
work_in entry = None

-- the command that was issued under a number
abbrev pub issued_as : PortView → ℕ → Option Work
issued_as port n = work_in (entry_numbered port.first port.past n)

-- the answer of the request with a number
abbrev pub answered_as : PortView → ℕ → Option Answer
answered_as port n = answer_to port n

-- the job before job i of the same worker was answered before a number
abbrev pub AnsweredBefore : List Received → ℕ → ℕ → ℕ → Type 0
AnsweredBefore receipts workers i n = workers ≤ i → IsSomeAnd (slice_get receipts (i - workers)) (λ q. q.answer.entry < n)

-- the receipt is that of job i, whose command is given, among these receipts of so many workers
pub record IsOfJob (port : PortView) (receipts : List Received) (workers i : ℕ) (work : Work) (r : Received) : Type 0 where
  -- its number is that of an Issue of the job's command
  pub issued : issued_as port r.number ≡ Some work
  -- no earlier receipt has the number
  pub fresh : is_named (take i receipts) r.number ≡ false
  -- it is that request's answer
  pub answered : answered_as port r.number ≡ Some r.answer
  -- its worker's job before was answered before this one was issued
  pub in_turn : AnsweredBefore receipts workers i r.number

-- receipt i is that of job i
abbrev pub IsRight : PortView → List Work → List Received → ℕ → ℕ → Type 0
IsRight port jobs receipts workers i = IsSomeAnd (slice_get jobs i) (λ work. IsSomeAnd (slice_get receipts i) (IsOfJob port receipts workers i work))

-- all receipts below n are right
abbrev pub AllRight : PortView → List Work → List Received → ℕ → ℕ → Type 0
AllRight port jobs receipts workers n = (i : ℕ) → i < n → IsRight port jobs receipts workers i

-- each command that was issued under a number below n has a receipt
abbrev pub AllNamed : PortView → List Received → ℕ → Type 0
AllNamed port receipts n = (m : ℕ) → m < n → IsSome (issued_as port m) → is_named receipts m ≡ true

-- the least entry that issues a command without a receipt, or none, where each has one
abbrev pub IsFirstUnnamed : PortView → List Received → Option ℕ → Type 0
IsFirstUnnamed port receipts (Some n) = AllNamed port receipts n × IsSome (issued_as port n) × (is_named receipts n ≡ false)
IsFirstUnnamed port receipts None = (n : ℕ) → IsSome (issued_as port n) → is_named receipts n ≡ true

-- a run with these jobs and receipts, by so many workers
pub record IsSettled (port : PortView) (jobs : List Work) (receipts : List Received) (workers : ℕ) : Type 0 where
  pub count : length receipts ≡ length jobs
  pub each : AllRight port jobs receipts workers (length jobs)
  pub no_more : (n : ℕ) → IsSome (issued_as port n) → is_named receipts n ≡ true

-- the least receipt that is not that of its job, or none
abbrev pub IsFirstWrong : PortView → List Work → List Received → ℕ → Option ℕ → Type 0
IsFirstWrong port jobs receipts workers (Some i) = (i < length jobs) × AllRight port jobs receipts workers i × ¬ (IsRight port jobs receipts workers i)
IsFirstWrong port jobs receipts workers None = AllRight port jobs receipts workers (length jobs)

-- why it isn't, the first of these cases; memory may be wanted once the receipts are counted
abbrev pub IsUnsettled : PortView → List Work → List Received → ℕ → SettleFault → Type 0
IsUnsettled port jobs receipts workers Count = length receipts ≢ length jobs
IsUnsettled port jobs receipts workers (Wrong i) = (length receipts ≡ length jobs) × IsFirstWrong port jobs receipts workers (Some i)
IsUnsettled port jobs receipts workers (Extra n) =
    (length receipts ≡ length jobs) × AllRight port jobs receipts workers (length jobs) × IsFirstUnnamed port receipts (Some n)
IsUnsettled port jobs receipts workers OutOfMemory = length receipts ≡ length jobs

-- what a receipt claims of its request's answer, whose entry is a place, where entries are numbered from `first`
abbrev pub claim_of : ℕ → Received → Answer
claim_of first r = record { entry = r.answer.entry - first; outcome = r.answer.outcome; bytes = r.answer.bytes }

-- the receipt may be that of job i, whose command is given: what is left to ask is whether it holds the answer
pub record IsFit (port : PortView) (receipts : List Received) (workers i : ℕ) (work : Work) (r : Received) : Type 0 where
  pub issued : issued_as port r.number ≡ Some work
  pub fresh : is_named (take i receipts) r.number ≡ false
  pub in_turn : AnsweredBefore receipts workers i r.number
  -- no answer has an entry below the journal's first
  pub from : port.first ≤ r.answer.entry

-- receipt i may be that of job i
abbrev pub Fits : PortView → List Work → List Received → ℕ → ℕ → Type 0
Fits port jobs receipts workers i = IsSomeAnd (slice_get jobs i) (λ work. IsSomeAnd (slice_get receipts i) (IsFit port receipts workers i work))

-- all receipts below n may be those of their jobs
abbrev pub AllFit : PortView → List Work → List Received → ℕ → ℕ → Type 0
AllFit port jobs receipts workers n = (i : ℕ) → i < n → Fits port jobs receipts workers i

-- the claims of the first i receipts at the places of their numbers, of n places
pub record AreClaimed (receipts : List Received) (first n i : ℕ) (claims : List (Option Answer)) : Type 0 where
  pub count : length claims ≡ n
  pub named : (k : ℕ) → k < n → is_some (slice_index_or claims k None) ≡ is_named (take i receipts) (number_of first k)
  pub each : (j : ℕ) → j < i → IsSomeAnd (slice_get receipts j) (λ r. slice_index_or claims (r.number - first) None ≡ Some (claim_of first r))

-- the claims of the receipts below n, each of which may be that of its job
pub record AreFit (port : PortView) (jobs : List Work) (receipts : List Received) (workers n : ℕ) (claims : List (Option Answer)) : Type 0 where
  pub within : n ≤ length jobs
  pub fit : AllFit port jobs receipts workers n
  pub claimed : AreClaimed receipts port.first (length port.past) n claims
