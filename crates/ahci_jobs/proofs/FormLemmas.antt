-- Lemmas about what a form has of a run.
use Rattle.std.proofs.Common.{◌≡◌, ℕ, ◌+◌, ◌<◌, List, [], ◌∷◌, ◌++◌, length, take, map, get_or, refl, sym, ap, ◌∙◌, append_assoc, append-nil, add-one, arith}
use Rattle.std.proofs.lemmas.List.{length-map, length-take-le, map-append, take_more}
use Rattle.ahci_driver.specs.Received.{Received, received_of}
use Rattle.ahci_driver.specs.declared.receipt.Receipt.{Receipt}
use Rattle.ahci_port.specs.PortView.{PortView}
use Rattle.ncq_journal.specs.Sector.{sector}
use Rattle.ahci_jobs.specs.Forms.{job_in, jobs_in, pieces_of}
use Rattle.ahci_jobs.specs.declared.form.Form.{Form}

-- what grows by a piece after a text so far
pub grown : (old so_far more text new : List ℕ) → text ≡ old ++ so_far → new ≡ text ++ more → new ≡ old ++ (so_far ++ more)
grown old so_far more text new first then = then ∙ ap (λ t. t ++ more) first ∙ append_assoc old so_far more

-- two texts, one after the other, at the end of another
pub joined : (old a b one new : List ℕ) → one ≡ old ++ a → new ≡ one ++ b → new ≡ old ++ (a ++ b)
joined old a b one new first then = grown old a b one new first then

-- what it has of some jobs, and of those that come after them
jobs-append : (form : Form) (workers job : ℕ) (xs ys : List Received) → jobs_in form workers job (xs ++ ys) ≡ jobs_in form workers job xs ++ jobs_in form workers (job + length xs) ys
jobs-append form workers job [] ys = ap (λ j. jobs_in form workers j ys) (let e : job ≡ job + 0 = omega arith in e)
jobs-append form workers job (x ∷ xs) ys =
    ap (λ l. job_in form workers job x ++ l)
    (jobs-append form workers (job + 1) xs ys ∙ ap (λ j. jobs_in form workers (job + 1) xs ++ jobs_in form workers j ys) (let e : job + 1 + length xs ≡ job + length (x ∷ xs) = omega arith in e))
    ∙ sym (append_assoc (job_in form workers job x) (jobs_in form workers (job + 1) xs) (jobs_in form workers (job + length (x ∷ xs)) ys))

-- one job more
jobs_more : {A : _} (form : Form) (workers : ℕ) (rs : List (Receipt A)) (i : ℕ) (x : Receipt A) → i < length rs → x ≡ get_or rs i x
    → jobs_in form workers 0 (map received_of (take i rs)) ++ job_in form workers i (received_of x) ≡ jobs_in form workers 0 (map received_of (take (i + 1) rs))
jobs_more form workers rs i x low is =
    sym (
    ap (λ l. jobs_in form workers 0 (map received_of l)) (take_more rs i x low ∙ ap (λ y. take i rs ++ y ∷ []) (sym is))
    ∙ ap (jobs_in form workers 0) (map-append received_of (take i rs) (x ∷ []))
    ∙ jobs-append form workers 0 (map received_of (take i rs)) (received_of x ∷ [])
    ∙ ap (λ j. jobs_in form workers 0 (map received_of (take i rs)) ++ jobs_in form workers j (received_of x ∷ [])) count
    ∙ ap (λ l. jobs_in form workers 0 (map received_of (take i rs)) ++ l) (append-nil (job_in form workers i (received_of x)))
    )
  where
    count : 0 + length (map received_of (take i rs)) ≡ i
    count =
        let e : length (map received_of (take i rs)) ≡ i = length-map (take i rs) received_of ∙ length-take-le i rs (omega (arith, low)) in
        omega (arith, e)

pub next_job : {A : _} (form : Form) (workers : ℕ) (old text new : List ℕ) (rs : List (Receipt A)) (i : ℕ) (x : Receipt A) → i < length rs → x ≡ get_or rs i x
    → text ≡ old ++ jobs_in form workers 0 (map received_of (take i rs)) → new ≡ text ++ job_in form workers i (received_of x)
    → new ≡ old ++ jobs_in form workers 0 (map received_of (take (i + 1) rs))
next_job form workers old text new rs i x low is so_far then =
    grown old (jobs_in form workers 0 (map received_of (take i rs))) (job_in form workers i (received_of x)) text new so_far then
    ∙ ap (λ l. old ++ l) (jobs_more form workers rs i x low is)

-- one sector more
pub next_piece : (piece : ℕ → List ℕ → List ℕ) (port : PortView) (old text new : List ℕ) (k : ℕ) → text ≡ old ++ pieces_of piece port k
    → new ≡ text ++ piece k (sector port.starting port.past k) → new ≡ old ++ pieces_of piece port (k + 1)
next_piece piece port old text new k so_far then =
    grown old (pieces_of piece port k) (piece k (sector port.starting port.past k)) text new so_far then
    ∙ ap (λ l. old ++ l) (let e : pieces_of piece port k ++ piece k (sector port.starting port.past k) ≡ pieces_of piece port (k + 1) = rw add-one refl in e)
