-- Jobs whose commands can be issued, and the faults of a run that has begun.
use Rattle.std.proofs.Common.{◌≡◌, ◌≢◌, ℕ, ◌+◌, ◌*◌, ◌/◌, ◌%◌, ◌<◌, ◌≤◌, min, Bool, true, false, List, [], ◌∷◌, ◌++◌, length, nat_eq, suc, refl, ap, map, get_or, sym, subst, ◌∙◌, Some, IsSomeAnd, below_more, inl, inr, zero-add, arith}
use Rattle.std.specs.List.{All, enumerate_from, filter_map, fold, list_any, reduce, slice_get}
use Rattle.std.specs.Option.{option_and_then, option_map}
use Rattle.std.specs.Prelude.{Option, Result, None, Ok, Err, IfOk, IfErr, IfSome, IsSome, OnOk, if◌then◌else◌}
use Rattle.std.proofs.lemmas.List.Elements.{All-nil, All-cons, All-head, All-tail}
use Rattle.std.proofs.lemmas.Bool.{cases_lt, eqb-true, true≢false}
use Rattle.std.specs.declared.vec.Vec.{Vec}
use Rattle.std.proofs.lemmas.List.{get_or_push, length-map, length_push}
use Rattle.std.proofs.lemmas.List.FromFn.{get_or-enumerate_from, length-enumerate_from}
use Rattle.std.proofs.lemmas.Option.{slice_get-get_or, slice_get-map}
use Rattle.ncq_journal.proofs.EntryLemmas.{slice_get-front}
use Rattle.ncq_journal.specs.declared.op.Op.{Op}
use Rattle.ncq_journal.specs.Entry.{Entry}
use Rattle.ncq_journal.specs.Lawful.{IsProper}
use Rattle.ncq_journal.specs.Work.{Work, work_of}
use Rattle.ahci_port.specs.PortView.{PortView}
use Rattle.ahci_driver.specs.Running.{HasRun, IsGivenUp, IsLate, IsRefused, IsReturned, IsStill, MayRun, NamesJob, ProperBelow, is_lacking, least_lost, lost_by, unsettled, why_stopped}
use Rattle.ahci_driver.specs.Received.{Received, received_of}
use Rattle.ahci_driver.specs.Settled.{IsSettled, IsUnsettled}
use Rattle.ahci_driver.specs.Stopping.{AreAmong, IsStopAmong}
use Rattle.ahci_driver.specs.declared.fault.SettleFault.{SettleFault}
use Rattle.ahci_driver.specs.declared.whole_run.Handed.{Handed}
use Rattle.tag_board.specs.Board.{Board}
use Rattle.ahci_driver.specs.Crew.{AreCrew, IsWorker}
use Rattle.ahci_driver.specs.Gathering.{HasDoneAll, OfAllDone, receipts_in}
use Rattle.ahci_driver.specs.Sharing.{OfEach, in_turn, of_job, turns}
use Rattle.ahci_driver.specs.declared.receipt.Receipt.{Receipt}
use Rattle.ahci_driver.specs.declared.worker.Worker.{Worker}
use Rattle.ahci_driver.specs.declared.worker.Stop.{Stop}
use Rattle.ahci_driver.specs.declared.worker.Stop.TheVariants as stop
use Rattle.ahci_driver.specs.declared.fault.SettleFault.TheVariants as settle
use Rattle.ahci_driver.specs.declared.run_fault.RunFault.{RunFault}
use Rattle.ahci_driver.specs.declared.whole_run.RunEnd.{RunEnd}
use Rattle.ahci_driver.specs.declared.run_fault.RunFault.TheVariants.{NotFresh, BadJob, OutOfMemory, Lost, Foreign, Unsettled}
use Rattle.std.proofs.lemmas.Nat.{div-add-mod'}
use Rattle.ahci_driver.proofs.SettlingLemmas.{mapped}
use Rattle.ahci_driver.proofs.SharingLemmas.{whole_turn}

-- one job more
pub proper_more : {A : _} (jobs : List (Op A)) (i : ℕ) (op : Op A) → i < length jobs → op ≡ get_or jobs i op
    → IsProper (work_of op) → ProperBelow (map work_of jobs) i → ProperBelow (map work_of jobs) (i + 1)
proper_more jobs i op low e proper before =
    below_more _ _ before (subst (λ o. IsSomeAnd o IsProper) (sym (mapped work_of jobs i op low e)) proper)

-- a job that is bad
pub bad_here : {A : _} (jobs : List (Op A)) (i : ℕ) (op : Op A) → i < length jobs → op ≡ get_or jobs i op
    → ¬ (IsProper (work_of op)) → IsSomeAnd (slice_get (map work_of jobs) i) (λ work. ¬ (IsProper work))
bad_here jobs i op low e bad = subst (λ o. IsSomeAnd o (λ work. ¬ (IsProper work))) (sym (mapped work_of jobs i op low e)) bad

-- a run that had begun is given up for a late reason
pub late : (port : PortView) (jobs : List Work) (fault : RunFault) → MayRun port jobs → IsLate fault → NamesJob (length jobs) fault → IsGivenUp port jobs fault
late port jobs NotFresh may h low = absurd h
late port jobs (BadJob i) may h low = absurd h
late port jobs OutOfMemory may h low = (may, low)
late port jobs (Lost i) may h low = (may, low)
late port jobs Foreign may h low = (may, low)
late port jobs (Unsettled settle.OutOfMemory) may h low = absurd h
late port jobs (Unsettled settle.Count) may h low = (may, low)
late port jobs (Unsettled (settle.Wrong i)) may h low = (may, low)
late port jobs (Unsettled (settle.Extra n)) may h low = (may, low)

pub late_too : {T : Type 0} (port : PortView) (jobs : List Work) (x : Result T RunFault) → MayRun port jobs → IfErr x IsLate → IfErr x (NamesJob (length jobs))
    → IfErr x (IsGivenUp port jobs)
late_too port jobs (Ok t) may h low = tt
late_too port jobs (Err fault) may h low = late port jobs fault may h low

-- what a run ends with that has begun
pub has_run : {A B : _} (old : PortView) (handed : Handed B) (jobs : List Work) (workers : ℕ) (x : Result (RunEnd A) RunFault) → MayRun old jobs
    → IsStill old handed → IfOk x (λ end. IsReturned end.port handed) → IfOk x (λ end. IsSettled end.port jobs (map received_of end.replies.items) workers)
    → IfOk x (λ end. HasRun old end.port jobs (map received_of end.replies.items) workers)
has_run old handed jobs workers (Ok end) may was is settled = record {
  fresh = may;
  starting_same = is.0.0 ∙ sym was.0;
  depth_same = is.0.1 ∙ sym was.1;
  first_same = is.0.2 ∙ sym was.2;
  left = is.1;
  settled = settled;
}
has_run old handed jobs workers (Err fault) may was is settled = tt

-- what holds of the port and the receipts holds of the end, where `settle` has said so
pub ended_well : {A : _} {T : Type 0} (P : RunEnd A → Type 0) (x : Result T SettleFault) (y : Result (RunEnd A) RunFault) (end : RunEnd A)
    → OnOk x (y ≡ Ok end) → IfErr x (λ f. y ≡ Err (unsettled f)) → OnOk x (P end) → IfOk y P
ended_well P (Ok t) y end ok err h = subst (λ z. IfOk z P) (sym ok) h
ended_well P (Err f) y end ok err h = subst (λ z. IfOk z P) (sym err) tt

anyway : {T E : Type 0} (x : Result T E) (P : Type 0) → P → OnOk x P
anyway (Ok t) P h = h
anyway (Err e) P h = tt

-- and so what holds of both
pub ends_with : {A : _} {T : Type 0} (P : RunEnd A → Type 0) (x : Result T SettleFault) (y : Result (RunEnd A) RunFault) (end : RunEnd A)
    → OnOk x (y ≡ Ok end) → IfErr x (λ f. y ≡ Err (unsettled f)) → P end → IfOk y P
ends_with P x y end ok err h = ended_well P x y end ok err (anyway x (P end) h)

refused : {A : _} (port : PortView) (handed : Handed A) (jobs : List Work) (receipts : List Received) (workers : ℕ) (f : SettleFault)
    → IsReturned port handed → IsUnsettled port jobs receipts workers f → IsRefused port handed jobs receipts workers (unsettled f)
refused port handed jobs receipts workers settle.OutOfMemory still h = (still, h)
refused port handed jobs receipts workers _ still h = (still, h)

-- why the run is given up, where `settle` has said so
pub refused_end : {A B : _} {T : Type 0} (port : PortView) (handed : Handed B) (jobs : List Work) (receipts : List Received) (workers : ℕ) (x : Result T SettleFault)
    (y : Result (RunEnd A) RunFault) (end : RunEnd A) → OnOk x (y ≡ Ok end) → IfErr x (λ f. y ≡ Err (unsettled f))
    → IsReturned port handed → IfErr x (IsUnsettled port jobs receipts workers) → IfErr y (IsRefused port handed jobs receipts workers)
refused_end port handed jobs receipts workers (Ok t) y end ok err still h = subst (λ z. IfErr z (IsRefused port handed jobs receipts workers)) (sym ok) tt
refused_end port handed jobs receipts workers (Err f) y end ok err still h =
    subst (λ z. IfErr z (IsRefused port handed jobs receipts workers)) (sym err) (refused port handed jobs receipts workers f still h)

-- a run that is refused so is given up late, and a job that it names is one of the jobs
pub refused_late : {A : _} (port : PortView) (handed : Handed A) (jobs : List Work) (receipts : List Received) (workers : ℕ) (f : RunFault)
    → IsRefused port handed jobs receipts workers f → IsLate f × NamesJob (length jobs) f
refused_late port handed jobs receipts workers NotFresh h = absurd h
refused_late port handed jobs receipts workers (BadJob i) h = absurd h
refused_late port handed jobs receipts workers OutOfMemory h = (tt, tt)
refused_late port handed jobs receipts workers (Lost i) h = absurd h
refused_late port handed jobs receipts workers Foreign h = (tt, tt)
refused_late port handed jobs receipts workers (Unsettled settle.OutOfMemory) h = absurd h
refused_late port handed jobs receipts workers (Unsettled settle.Count) h = (tt, tt)
refused_late port handed jobs receipts workers (Unsettled (settle.Wrong i)) h = (tt, h.1.1.0)
refused_late port handed jobs receipts workers (Unsettled (settle.Extra n)) h = (tt, tt)

pub all_late : {A : _} {T : Type 0} (port : PortView) (handed : Handed A) (jobs : List Work) (receipts : List Received) (workers : ℕ) (x : Result T RunFault)
    → IfErr x (IsRefused port handed jobs receipts workers) → IfErr x IsLate × IfErr x (NamesJob (length jobs))
all_late port handed jobs receipts workers (Ok t) h = (tt, tt)
all_late port handed jobs receipts workers (Err fault) h = refused_late port handed jobs receipts workers fault h

-- the receipts that it is refused for
pub for_these : {A : _} {T : Type 0} (port : PortView) (handed : Handed A) (jobs : List Work) (receipts brought : List Received) (workers : ℕ) (x : Result T RunFault)
    → receipts ≡ brought → IfErr x (IsRefused port handed jobs receipts workers) → IfErr x (λ f. f ≢ OutOfMemory → IsRefused port handed jobs brought workers f)
for_these port handed jobs receipts brought workers (Ok t) e h = tt
for_these port handed jobs receipts brought workers (Err fault) e h = λ other. subst (λ r. IsRefused port handed jobs r workers fault) e h

-- the jobs that workers have lost, and the least of them
lost_below : {T : Type 0} (n : ℕ) (ends : List (Result T Stop)) → AreAmong n ends → All (λ job. job < n) (filter_map lost_by ends)
lost_below n [] h = All-nil (λ job. job < n)
lost_below n (Ok t ∷ ends) h = lost_below n ends (All-tail (λ end. IfErr end (IsStopAmong n)) (Ok t) ends h)
lost_below n (Err stop.OutOfMemory ∷ ends) h = lost_below n ends (All-tail (λ end. IfErr end (IsStopAmong n)) (Err stop.OutOfMemory) ends h)
lost_below n (Err stop.FlagRaised ∷ ends) h = lost_below n ends (All-tail (λ end. IfErr end (IsStopAmong n)) (Err stop.FlagRaised) ends h)
lost_below n (Err (stop.Lost job) ∷ ends) h =
    All-cons (λ j. j < n) job (filter_map lost_by ends) (All-head (λ end. IfErr end (IsStopAmong n)) (Err (stop.Lost job)) ends h)
    (lost_below n ends (All-tail (λ end. IfErr end (IsStopAmong n)) (Err (stop.Lost job)) ends h))

least_below : (n x : ℕ) (xs : List ℕ) → x < n → fold min x xs < n
least_below n x [] low = low
least_below n x (y ∷ xs) low = least_below n (min x y) xs (omega arith)

-- why workers have stopped names one of their jobs
pub stopped_names : {T : Type 0} (n : ℕ) (ends : List (Result T Stop)) (fault : RunFault) → AreAmong n ends → why_stopped ends ≡ Some fault → NamesJob n fault
stopped_names n ends fault among is = subst (λ o. IfSome o (NamesJob n)) is (by (list_any is_lacking ends))
  where
    of_least : (xs : List ℕ) → All (λ job. job < n) xs → IfSome (option_map Lost (reduce min xs)) (NamesJob n)
    of_least [] all = tt
    of_least (x ∷ xs) all = least_below n x xs (All-head (λ job. job < n) x xs all)

    by : (b : Bool) → IfSome (if b then Some OutOfMemory else option_map Lost (least_lost ends)) (NamesJob n)
    by true = tt
    by false = of_least (filter_map lost_by ends) (lost_below n ends among)

-- a journal without entries
pub fresh : (past : List Entry) → nat_eq (length past) 0 ≡ true → past ≡ []
fresh [] h = refl
fresh (entry ∷ past) h = absurd (let z : suc (length past) ≡ 0 = eqb-true (suc (length past)) 0 h in omega arith)

pub not_fresh : (past : List Entry) → nat_eq (length past) 0 ≡ false → past ≡ [] → ⊥
not_fresh [] h e = true≢false h
not_fresh (entry ∷ past) h e = cc

-- what holds of each element holds of one that was read
pub of_each : {X : Type 0} (P : X → Type 0) (xs : List X) (i : ℕ) (x : X) → i < length xs → get_or xs i x ≡ x → IsSomeAnd (slice_get xs i) P → P x
of_each P xs i x low read h = subst P read (subst (λ o. IsSomeAnd o P) (slice_get-get_or xs i x low) h)

-- and the other way round
pub each_of : {X : Type 0} (P : X → Type 0) (xs : List X) (i : ℕ) (d : X) → i < length xs → P (get_or xs i d) → IsSomeAnd (slice_get xs i) P
each_of P xs i d low h = subst (λ o. IsSomeAnd o P) (sym (slice_get-get_or xs i d low)) h

-- one element more
pub each_more : {X : Type 0} (P : ℕ → X → Type 0) (xs : List X) (x : X) → ((i : ℕ) → i < length xs → IsSomeAnd (slice_get xs i) (P i)) → P (length xs) x
    → (i : ℕ) → i < length (xs ++ x ∷ []) → IsSomeAnd (slice_get (xs ++ x ∷ []) i) (P i)
each_more P xs x before here i low =
    elim (cases_lt i (length xs)) [
      | inl less ↦ subst (λ o. IsSomeAnd o (P i)) (sym (slice_get-front xs (x ∷ []) i less)) (before i less)
      | inr last ↦
          let e : length xs ≡ i = let n = length_push xs x in omega arith in
          each_of (P i) (xs ++ x ∷ []) i x low (subst (P i) (sym (get_or_push xs x x i e)) (subst (λ k. P k x) e here))
    ]

-- an element and its index, as `enumerate` gives them
pub at_index : {X : Type 0} (xs : List X) (i : ℕ) (p : ℕ × X) → i < length (enumerate_from 0 xs) → p ≡ get_or (enumerate_from 0 xs) i p
    → (p.0 ≡ i) × (slice_get xs i ≡ Some p.1)
at_index xs i p low e =
    let n = length-enumerate_from 0 xs in
    let within : i < length xs = omega arith in
    let is : p ≡ (0 + i, get_or xs i p.1) = e ∙ get_or-enumerate_from 0 xs i p within in
    (ap (λ q. q.0) is ∙ zero-add i, slice_get-get_or xs i p.1 within ∙ ap Some (sym (ap (λ q. q.1) is)))

-- a worker of a crew
pub worker_at : {A C G : Type 0} {board : Board} {jobs : List (Op A)} {gate : G} {choosers : List C} {crew : List (Worker A C G)} → AreCrew board jobs gate choosers crew
    → (i : ℕ) (worker : Worker A C G) → i < length crew → get_or crew i worker ≡ worker → IsWorker board jobs gate choosers i worker
worker_at {board = board} {jobs = jobs} {gate = gate} {choosers = choosers} {crew = crew} are i worker low read =
    of_each (IsWorker board jobs gate choosers i) crew i worker low read (are.each i low)

-- has all its receipts, if it has not stopped
pub done_all : {A C G : Type 0} {board : Board} {jobs : List (Op A)} {gate : G} {choosers : List C} {worker : Worker A C G} {i : ℕ}
    → IsWorker board jobs gate choosers i worker → (end : Result (Vec (Receipt A) A) Stop)
    → IfOk end (λ receipts. length receipts.items ≡ turns (length worker.jobs.now) worker.workers worker.first) → HasDoneAll (length jobs) (length choosers) i end
done_all {jobs = jobs} {choosers = choosers} {worker = worker} {i = i} is (Ok receipts) h =
    h ∙ ap (λ n. turns n worker.workers worker.first) (ap length is.jobs_same) ∙ ap (λ n. turns (length jobs) n worker.first) is.workers_is
    ∙ ap (turns (length jobs) (length choosers)) is.first_is
done_all is (Err stop) h = tt

-- and each of its jobs has passed the gate
pub passed_at : {A C G : Type 0} {board : Board} {jobs : List (Op A)} {gate : G} {choosers : List C} {worker : Worker A C G} {i : ℕ}
    → IsWorker board jobs gate choosers i worker → (P : G → ℕ → Type 0) (end : Result (Vec (Receipt A) A) Stop)
    → OnOk end (OfEach (length worker.jobs.now) worker.workers worker.first (P worker.gate.now)) → OnOk end (OfEach (length jobs) (length choosers) i (P gate))
passed_at {jobs = jobs} {gate = gate} {choosers = choosers} {worker = worker} {i = i} is P (Ok receipts) h =
    subst (λ n. OfEach (length jobs) (length choosers) n (P gate)) is.first_is
    (subst (λ n. OfEach (length jobs) n worker.first (P gate)) is.workers_is
    (subst (λ n. OfEach n worker.workers worker.first (P gate)) (ap length is.jobs_same)
    (subst (λ x. OfEach (length worker.jobs.now) worker.workers worker.first (P x)) is.gate_same h)))
passed_at is P (Err stop) h = tt

-- a job that has its receipt was done by a worker that has not stopped
done_job : {A : _} (P : ℕ → Type 0) (ends : List (Result (Vec (Receipt A) A) Stop)) (w n job : ℕ) → 1 ≤ w → OfAllDone n w P ends → job < n
    → IsSome (of_job (map receipts_in ends) w job) → P job
done_job {A} P ends w n job some done low has =
    at (slice_get ends (job % w)) (done (job % w) (omega arith))
    (subst (λ o. IsSome (option_and_then (λ pile. slice_get pile (job / w)) o)) (slice_get-map receipts_in ends (job % w)) has)
  where
    at : (o : Option (Result (Vec (Receipt A) A) Stop)) → IsSomeAnd o (λ end. OnOk end (OfEach n w (job % w) P))
        → IsSome (option_and_then (λ pile. slice_get pile (job / w)) (option_map (receipts_in {A = A}) o)) → P job
    at None h s = absurd h
    at (Some (Ok receipts)) h s =
        let e = div-add-mod' job w in
        let is : job % w + job / w * w ≡ job = omega arith in
        subst P is (h (job / w) (omega arith))
    at (Some (Err stop)) h s = absurd (true≢false (sym s))

pub passed_all : {A B : _} (P : ℕ → Type 0) (ends : List (Result (Vec (Receipt A) A) Stop)) (w n : ℕ) (x : Result (RunEnd B) RunFault) → 1 ≤ w → OfAllDone n w P ends
    → OnOk x ((job : ℕ) → job < n → IsSome (of_job (map receipts_in ends) w job)) → OnOk x ((job : ℕ) → job < n → P job)
passed_all P ends w n (Ok end) some done has = λ job low. done_job P ends w n job some done low (has job low)
passed_all P ends w n (Err fault) some done has = tt

-- a run that is settled has a receipt for each job
pub ended_whole : {A : _} (x : Result (RunEnd A) RunFault) (jobs : List (Op A)) (piles : List (List (Receipt A))) (w : ℕ)
    → IfOk x (λ end. end.replies.items ≡ in_turn piles w (length jobs)) → IfOk x (λ end. IsSettled end.port (map work_of jobs) (map received_of end.replies.items) w)
    → OnOk x ((job : ℕ) → job < length jobs → IsSome (of_job piles w job))
ended_whole (Ok end) jobs piles w replies settled =
    whole_turn piles w (length jobs) (ap length (sym replies) ∙ sym (length-map end.replies.items received_of) ∙ settled.count ∙ length-map jobs work_of)
ended_whole (Err fault) jobs piles w replies settled = tt

-- the receipts of a run that is settled
pub replies_are : {A : _} (x : Result (RunEnd A) RunFault) (replies : Vec (Receipt A) A) (items : List (Receipt A)) → IfOk x (λ end. end.replies ≡ replies)
    → replies.items ≡ items → IfOk x (λ end. end.replies.items ≡ items)
replies_are (Ok end) replies items same are = ap (λ r. r.items) same ∙ are
replies_are (Err fault) replies items same are = tt

-- a worker more
pub crew_more : {A C G : Type 0} (board : Board) (jobs : List (Op A)) (gate : G) (choosers : List C) (crew longer : List (Worker A C G)) (worker : Worker A C G)
    → longer ≡ crew ++ worker ∷ [] → ((i : ℕ) → i < length crew → IsSomeAnd (slice_get crew i) (IsWorker board jobs gate choosers i))
    → IsWorker board jobs gate choosers (length crew) worker → (i : ℕ) → i < length longer → IsSomeAnd (slice_get longer i) (IsWorker board jobs gate choosers i)
crew_more board jobs gate choosers crew longer worker e before here =
    subst (λ (all : List _). (i : ℕ) → i < length all → IsSomeAnd (slice_get all i) (IsWorker board jobs gate choosers i)) (sym e)
    (each_more (λ i. IsWorker board jobs gate choosers i) crew worker before here)
