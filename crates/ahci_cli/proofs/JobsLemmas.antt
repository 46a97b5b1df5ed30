-- A check of a job list and its run agree.
use Rattle.std.proofs.Common.{◌≡◌, ◌∙◌, ◌↔◌, ℕ, ◌+◌, ◌*◌, ◌/◌, ◌<◌, ◌≤◌, ◌^◌, ◌||◌, Bool, true, false, List, [], ◌∷◌, length, replicate, Option, Some, None, Result, Ok, Err, nat_eq, nat_lt, nat_le, is_some, if◌then◌else◌, ap, refl, subst, sym, arith, inl, inr}
use Rattle.std.specs.Option.{option_map}
use Rattle.std.specs.Result.{result_ok}
use Rattle.std.proofs.lemmas.Bool.{eqb-false, ne_eqb, le-ltb, leb-false, lt-leb, ltb-false, or_from, or_parts}
use Rattle.std.proofs.lemmas.List.{length-replicate}
use Rattle.streams.specs.Reading.{last_by, last_of}
use Rattle.streams.specs.Unread.{Begins, found_of, too_long, whole}
use Rattle.ahci_script.specs.Jobs.{job_line_of, job_reading}
use Rattle.ahci_script.specs.Words.{after_first}
use Rattle.ahci_script.specs.declared.breach.Breach.{Breach}
use Rattle.ahci_script.specs.declared.job.Job.{Job}
use Rattle.ahci_script.specs.declared.job.Job.TheVariants as job
use Rattle.ahci_script.specs.declared.job.JobLine.{JobLine}
use Rattle.ahci_script.specs.declared.job.JobLine.TheVariants.{Skip, Do}
use Rattle.ncq_journal.specs.Lawful.{IsProper, most_sectors}
use Rattle.ahci_check.specs.Complaints.{of_excess}
use Rattle.ahci_check.specs.Judges.{job_complaint, job_excess, judge_after, of_job_reading}
use Rattle.ahci_check.specs.Limits.{count_excess}
use Rattle.ahci_check.specs.Reports.{AreLines, no_line, one_more, Report, blank, judged_from, said_of, report_of, with_found, with_next}
use Rattle.ahci_check.specs.declared.form.Form.{Form}
use Rattle.ahci_check.specs.declared.judge.Judge.TheVariants.{OfJobs}
use Rattle.ahci_jobs.specs.JobList.{AreGood, IsGood, command_for}
use Rattle.ahci_jobs.specs.JobList as list
use Rattle.ahci_cli.specs.JobsAgree.{JobsAgree, LinesAgree, ListsAreQuiet, QuietAreLists}

-- ---- a line

-- none of three limits is passed
none_of : {X : Type 0} (a b c : Bool) (x y z : X) → ((if a then Some x else if b then Some y else if c then Some z else None) ≡ None) ↔ ((a ≡ false) × (b ≡ false) × (c ≡ false))
none_of true b c x y z = ((λ e. absurd (cc)), (λ h. let no = h.0 in absurd (cc)))
none_of false true c x y z = ((λ e. absurd (cc)), (λ h. let no = h.1 in absurd (cc)))
none_of false false true x y z = ((λ e. absurd (cc)), (λ h. let no = h.2 in absurd (cc)))
none_of false false false x y z = ((λ e. (refl, refl, refl)), (λ h. refl))

-- the sectors of a command that can be issued, and its LBA
abbrev IsInRange : ℕ → ℕ → Type 0
IsInRange lba count = (1 ≤ count) × (count ≤ most_sectors) × (lba < 2 ^ 48)

in_range : (words : List ℕ) (lba count : ℕ) → (count_excess words lba count ≡ None) ↔ IsInRange lba count
in_range words lba count =
    let none = none_of (nat_eq count 0) (nat_lt most_sectors count) (nat_le (2 ^ 48) lba) _ _ _ in (
      (λ e. let h = none.0 e in
          let some : count ≡ 0 → ⊥ = eqb-false count 0 h.0 in
          (omega arith, ltb-false most_sectors count h.1, leb-false (2 ^ 48) lba h.2)),
      (λ h. let some = h.0 in none.1 (ne_eqb count 0 (λ e. omega arith), le-ltb most_sectors count h.1, lt-leb (2 ^ 48) lba h.2)),
    )

proper_read : (lba sectors : ℕ) → IsInRange lba sectors ↔ IsProper (command_for (job.Read lba sectors))
proper_read lba sectors =
    ((λ h. record { some = h.0; most = h.1; lba = h.2; whole = tt }), (λ proper. (proper.some, proper.most, proper.lba)))

filled : (sectors fill : ℕ) → length (replicate (sectors * 512) fill) / 512 ≡ sectors
filled sectors fill = ap (λ n. n / 512) (length-replicate (sectors * 512) fill) ∙ omega arith

proper_write : (lba sectors fill : ℕ) → IsInRange lba sectors ↔ IsProper (command_for (job.Write lba sectors fill))
proper_write lba sectors fill =
    let count = filled sectors fill in
    let long = length-replicate (sectors * 512) fill in (
      (λ h. record {
        some = subst (λ n. 1 ≤ n) (sym count) h.0;
        most = subst (λ n. n ≤ most_sectors) (sym count) h.1;
        lba = h.2;
        whole = long ∙ (let swap : sectors * 512 ≡ 512 * sectors = omega arith in swap) ∙ ap (λ n. 512 * n) (sym count);
      }),
      (λ proper. (subst (λ n. 1 ≤ n) count proper.some, subst (λ n. n ≤ most_sectors) count proper.most, proper.lba)),
    )

no_more : {X Y : Type 0} (f : X → Y) (o : Option X) → (option_map f o ≡ None) ↔ (o ≡ None)
no_more f None = ((λ e. refl), (λ e. refl))
no_more f (Some x) = ((λ e. absurd (cc)), (λ e. absurd (cc)))

both : {P Q R : Type 0} → P ↔ Q → Q ↔ R → P ↔ R
both f g = ((λ p. g.0 (f.0 p)), (λ r. f.1 (g.1 r)))

of_job : (number : ℕ) (line : List ℕ) (j : Job) → (of_excess number line (job_excess line j) ≡ None) ↔ IsProper (command_for j)
of_job number line (job.Write lba sectors fill) = both (no_more _ _) (both (in_range (after_first line) lba sectors) (proper_write lba sectors fill))
of_job number line (job.Read lba sectors) = both (no_more _ _) (both (in_range (after_first line) lba sectors) (proper_read lba sectors))

lines_agree : LinesAgree
lines_agree number line = by (job_reading line)
  where
    by : (r : Result JobLine Breach) → (of_job_reading number line r ≡ None) ↔ IsGood (result_ok r)
    by (Err breach) = ((λ e. absurd (cc)), (λ h. absurd h))
    by (Ok Skip) = ((λ e. tt), (λ h. refl))
    by (Ok (Do j)) = of_job number line j

-- ---- an input

none_is_false : {X : Type 0} (o : Option X) → (is_some o ≡ false) ↔ (o ≡ None)
none_is_false None = ((λ e. refl), (λ e. refl))
none_is_false (Some x) = ((λ e. absurd (cc)), (λ e. absurd (cc)))

-- each of some lines is good
abbrev AllGood : List (List ℕ) → Type 0
AllGood [] = Unit {0}
AllGood (first ∷ more) = IsGood (job_line_of first) × AllGood more

-- a line is judged as one of a job list, and so is the next
found_next : (report : Report) (number : ℕ) (found : Begins) → report.judge ≡ OfJobs
    → (with_next report number found).found ≡ (report.found || is_some (said_of OfJobs number found))
found_next report number found jobs = ap (λ j. report.found || is_some (said_of j number found)) jobs

judge_next : (report : Report) (number : ℕ) (line : List ℕ) → report.judge ≡ OfJobs → (with_next report number (whole line)).judge ≡ OfJobs
judge_next report number line jobs = ap (λ j. judge_after j line) jobs

judge_stays : (number : ℕ) (report : Report) (lines : List (List ℕ)) → report.judge ≡ OfJobs → (judged_from number report lines).judge ≡ OfJobs
judge_stays number report [] jobs = jobs
judge_stays number report (line ∷ more) jobs = judge_stays (number + 1) (with_next report number (whole line)) more (judge_next report number line jobs)

-- nothing is found in a report with one line more exactly if nothing was found before, and the line is good
quiet_next : (report : Report) (number : ℕ) (line : List ℕ) → report.judge ≡ OfJobs
    → ((with_next report number (whole line)).found ≡ false) ↔ ((report.found ≡ false) × IsGood (job_line_of line))
quiet_next report number line jobs =
    let is = found_next report number (whole line) jobs in
    let agree = lines_agree number line in
    let said = none_is_false (job_complaint number line) in (
      (λ e. let h = or_parts report.found (is_some (job_complaint number line)) (sym is ∙ e) in (h.0, agree.0 (said.0 h.1))),
      (λ h. is ∙ or_from report.found (is_some (job_complaint number line)) h.0 (said.1 (agree.1 h.1))),
    )

quiet_lines : (number : ℕ) (report : Report) (lines : List (List ℕ)) → report.judge ≡ OfJobs
    → ((judged_from number report lines).found ≡ false) ↔ ((report.found ≡ false) × AllGood lines)
quiet_lines number report [] jobs = ((λ e. (e, tt)), (λ h. h.0))
quiet_lines number report (line ∷ more) jobs =
    let next = quiet_next report number line jobs in
    let later = quiet_lines (number + 1) (with_next report number (whole line)) more (judge_next report number line jobs) in
    ((λ e. let h = later.0 e in let k = next.0 h.0 in (k.0, (k.1, h.1))), (λ h. later.1 (next.1 (h.0, h.1.0), h.1.1)))

-- lines that are their own and good
are_good : (lines : List (List ℕ)) → AreLines lines → AllGood lines → AreGood lines
are_good _ no_line good = list.no_line
are_good _ (one_more first more own others) good = list.one_more first more own good.0 (are_good more others good.1)

all_good : (lines : List (List ℕ)) → AreGood lines → AllGood lines
all_good _ list.no_line = tt
all_good _ (list.one_more first more own good others) = (good, all_good more others)

-- the whole input
quiet_input : (form : Form) (lines : List (List ℕ)) (rest : List ℕ)
    → ((with_next (report_of form OfJobs lines) (length lines + 1) (whole rest)).found ≡ false) ↔ (AllGood lines × IsGood (job_line_of rest))
quiet_input form lines rest =
    let stays = judge_stays 1 (blank form OfJobs) lines refl in
    let first = quiet_lines 1 (blank form OfJobs) lines refl in
    let last = quiet_next (report_of form OfJobs lines) (length lines + 1) rest stays in
    ((λ e. let h = last.0 e in ((first.0 h.0).1, h.1)), (λ h. last.1 (first.1 (refl, h.0), h.1)))

lists_are_quiet : ListsAreQuiet
lists_are_quiet form lines rest good unended last =
    ap (λ found. (with_next (report_of form OfJobs lines) (length lines + 1) (last_by found rest)).found) unended
    ∙ (quiet_input form lines rest).1 (all_good lines good, last)

long_is_found : (form : Form) (lines : List (List ℕ)) (rest : List ℕ) → found_of rest ≡ too_long → (with_found form OfJobs lines (last_of rest)).found ≡ false → ⊥
long_is_found form lines rest long quiet =
    let report = report_of form OfJobs lines in
    let is = found_next report (length lines + 1) too_long (judge_stays 1 (blank form OfJobs) lines refl) in
    let there = ap (λ found. (with_next report (length lines + 1) (last_by found rest)).found) long in
    let no = (or_parts report.found true (sym is ∙ sym there ∙ quiet)).1 in
    absurd (cc)

quiet_are_lists : QuietAreLists
quiet_are_lists form lines rest remaining own may quiet = elim may [
  | inl long ↦ absurd (long_is_found form lines rest long quiet)
  | inr end ↦
      let there = ap (λ found. (with_next (report_of form OfJobs lines) (length lines + 1) (last_by found rest)).found) end.1 in
      let h = (quiet_input form lines rest).0 (sym there ∙ quiet) in
      (are_good lines own h.0, end.1, h.1)
]

pub jobs_agree : JobsAgree
jobs_agree = record { line = lines_agree; quiet = lists_are_quiet; lists = quiet_are_lists }
