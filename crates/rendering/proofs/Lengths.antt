-- How long a report can be.
--   report-fits, balanced-report-fits     every text is at most that long
use Prim.Native.Nat.{ℕ, ◌*◌, ◌-◌, ◌≤◌, ◌<◌}
use native.Mathlib.Omega.{arith}
use mathlib.Core.List.{List, [], ◌∷◌, ◌++◌}
use lib.ListN.{length, get_or, length-append}
use Rattle.limits.specs.Limits.{offers_most, digits_most, step_line_most, offer_line_most, longest_report}
use Rattle.runs.specs.declared.Record.{Record}
use Rattle.runs.specs.declared.Verdict.{Verdict}
use Rattle.runs.specs.declared.Verdict.TheVariants.{Rejected, Kept, Aside}
use Rattle.runs.specs.declared.FullRun.{FullRun}
use Rattle.runs.specs.Stepdown.{Outcome}
use Rattle.runs.specs.FullRuns.{accepted_run}
use Rattle.trial.specs.declared.Trial.{Trial}
use Rattle.verdicts.specs.Verdicts.{rejected_count}
use Rattle.trial.specs.declared.Shape.{Shape}
use Rattle.words.specs.Words.{words_of}
use Rattle.trialfile.specs.Files.{trial_of, file_checks, file_refusal}
use Rattle.trialfile.proofs.Taken.{read-accepted}
use Rattle.trialfile.proofs.Inputs.{digits-few}
use Rattle.trial.proofs.Accepted.{accepted}
use Rattle.trialrun.specs.TrialRuns.{trial_run}
use Rattle.trialbalance.specs.TrialBalance.{trial_balanced_run}
use Rattle.text.specs.Ascii.{ascii}
use Rattle.text.specs.Text.{printed, decimal, decimal_int, cents, line, lines_to}
use Rattle.text.proofs.Lengths.{printed-most, int-most, line-end, field, number, line-most, numbered-most, lines-most, answer-most}
use Rattle.rendering.specs.Reports.{head_line, step_line, verdict_word, verdict_step, offer_line, record_at, decision_at, step_line_at, offer_line_at, trial_text, report_by, report_of, balanced_report_of}
use Rattle.rendering.specs.Internal.{Printable}
use Rattle.rendering.proofs.PrintableFiles.{PrintableRun, plain-printable, balanced-printable}

-- ---- lines

head-most : (s : Shape) (r : FullRun) → length (head_line s r) ≤ 111
head-most s r = line-most (ascii "trial") 5 (omega arith) (number _ (number _ (number _ (number _ (number _ line-end)))))

step-most : (m : Record) (code digits : ℕ) → digits ≤ digits_most → length (step_line m (printed digits code)) ≤ step_line_most
step-most m code digits h =
    line-most (ascii "step") 4 (omega arith) (number _ (field (decimal_int (cents m.critical)) 21 (int-most (cents m.critical)) (number _ (field (printed digits code) digits_most (omega (arith, printed-most digits code)) line-end))))

word-most : (v : Verdict) → length (ascii (verdict_word v)) ≤ 8
word-most (Rejected s c) = omega arith
word-most (Kept c) = omega arith
word-most Aside = omega arith

offer-most : (code digits : ℕ) (v : Verdict) (last n : ℕ) → digits ≤ digits_most → length (offer_line (printed digits code) v last n) ≤ offer_line_most
offer-most code digits v last n h = line-most (printed digits code) digits_most (omega (arith, printed-most digits code)) (field (ascii (verdict_word v)) 8 (word-most v) (number (verdict_step last v) (number n line-end)))

-- ---- the report

module _ (t : Trial) (r : FullRun) (few : t.shape.offers ≤ offers_most) (digits-few : (i : ℕ) → i < t.shape.offers → get_or t.labels.digits i 0 ≤ digits_most) (p : Printable t.shape.offers r) where
  trial-fits : length (trial_text t r) ≤ longest_report
  unfolding trial_text
  trial-fits =
      let end = line (ascii "end") (decimal (rejected_count t.shape.offers r.verdicts) ∷ []) in
      let steps = lines_to r.steps (step_line_at t.labels r) in
      let offers = lines_to t.shape.offers (offer_line_at t.labels r) in
      let a : length steps ≤ r.steps * step_line_most = lines-most r.steps step_line_most (step_line_at t.labels r)
      (λ i l. let j = (record_at r i).offer - 1 in let q = p.named i l in step-most (record_at r i) (get_or t.labels.codes j 0) (get_or t.labels.digits j 0) (digits-few j (omega (arith, q.0, q.1)))) in
      let b : length offers ≤ t.shape.offers * offer_line_most = lines-most t.shape.offers offer_line_most (offer_line_at t.labels r) (λ i l. offer-most (get_or t.labels.codes i 0) (get_or t.labels.digits i 0) (decision_at r i) r.steps (get_or r.counts i 0) (digits-few i l)) in
      omega (arith, length-append (head_line t.shape r) (steps ++ (offers ++ end)), length-append steps (offers ++ end), length-append offers end, a, b, head-most t.shape r, numbered-most (ascii "end") (rejected_count t.shape.offers r.verdicts) 3 (omega arith), p.few-steps, few)

fits_by : (run : Trial → Outcome) → PrintableRun run → (bytes : List ℕ) → length (report_by run bytes) ≤ longest_report
unfolding report_by file_refusal
fits_by run p bytes =
    let t = trial_of (words_of bytes) in
    answer-most (file_checks bytes) (trial_text t (accepted_run (run t))) longest_report (omega arith)
    (λ z. let h = read-accepted bytes z in let acc = accepted t h in trial-fits t (accepted_run (run t)) acc.offers-most (digits-few t acc) (p t h))

pub report-fits : (bytes : List ℕ) → length (report_of bytes) ≤ longest_report
unfolding report_of
report-fits = fits_by trial_run plain-printable

pub balanced-report-fits : (bytes : List ℕ) → length (balanced_report_of bytes) ≤ longest_report
unfolding balanced_report_of
balanced-report-fits = fits_by trial_balanced_run balanced-printable
