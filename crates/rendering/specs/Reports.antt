-- The report's text. Definitions only.
--   head_line s r          figures of an offer, offers and k of a shape, e and M of a full run
--   code_at l i             the printed code of offer i, from 0
--   step_line m code       a step's number and critical value, the row that set it and the printed code of the offer that did
--   verdict_word v         the word for a verdict
--   verdict_step last v    the step that rejected, or the last step; 0 for an offer that is set aside
--   offer_line ..          an offer: printed code, verdict, step, count
--   record_at, decision_at  the record of step i and the verdict of offer i, both from 0
--   step_line_at, offer_line_at  their lines
--   trial_text t r         the report of a trial with the full run r
--   report_by run bytes    all that is printed for a file, by a full run of its trial: the report of that run, or the file's refusal
--   report_of bytes        the report: by the full run of the trial
--   balanced_report_of bytes   the balanced report: by its balanced full run, whose critical values are ranks
use Rattle.std.specs.Prelude.{ℕ, ◌-◌, List, [], ◌∷◌, ◌++◌, get_or}
use Prim.Native.String.{String}
use Rattle.std.specs.Float.{nan}
use Rattle.refusals.specs.Answers.{answer}
use Rattle.runs.specs.Stepdown.{Outcome}
use Rattle.runs.specs.FullRuns.{accepted_run}
use Rattle.runs.specs.declared.Record.{Record}
use Rattle.runs.specs.declared.Verdict.{Verdict}
use Rattle.runs.specs.declared.Verdict.TheVariants.{Rejected, Kept, Aside}
use Rattle.runs.specs.declared.FullRun.{FullRun}
use Rattle.verdicts.specs.Verdicts.{rejected_count}
use Rattle.trial.specs.Designs.{units_of}
use Rattle.trial.specs.declared.Labels.{Labels}
use Rattle.trial.specs.declared.Shape.{Shape}
use Rattle.trial.specs.declared.Trial.{Trial}
use Rattle.words.specs.Words.{words_of}
use Rattle.trialfile.specs.Files.{trial_of, file_checks}
use Rattle.trialrun.specs.TrialRuns.{trial_run}
use Rattle.trialbalance.specs.TrialBalance.{trial_balanced_run}
use Rattle.text.specs.Ascii.{ascii}
use Rattle.text.specs.Text.{printed, decimal, decimal_int, cents, line, lines_to, refused_text}

abbrev pub head_line : Shape → FullRun → List ℕ
head_line s r = line (ascii "trial") (decimal (units_of s.design) ∷ decimal s.offers ∷ decimal s.k ∷ decimal r.e ∷ decimal r.rows ∷ [])

abbrev pub code_at : Labels → ℕ → List ℕ
code_at l i = printed (get_or l.digits i 0) (get_or l.codes i 0)

abbrev pub step_line : Record → List ℕ → List ℕ
step_line m code = line (ascii "step") (decimal m.step ∷ decimal_int (cents m.critical) ∷ decimal m.row ∷ code ∷ [])

abbrev pub verdict_word : Verdict → String
verdict_word (Rejected s c) = "rejected"
verdict_word (Kept c) = "kept"
verdict_word Aside = "aside"

abbrev pub verdict_step : ℕ → Verdict → ℕ
verdict_step last (Rejected s c) = s
verdict_step last (Kept c) = last
verdict_step last Aside = 0

abbrev pub offer_line : List ℕ → Verdict → ℕ → ℕ → List ℕ
offer_line code v last n = line code (ascii (verdict_word v) ∷ decimal (verdict_step last v) ∷ decimal n ∷ [])

-- the line of step i and of offer i, from 0; no line looks beyond the arrays' ends
abbrev pub record_at : FullRun → ℕ → Record
record_at r i = get_or r.records i (record { step = 0; critical = nan; row = 0; offer = 0 })

abbrev pub decision_at : FullRun → ℕ → Verdict
decision_at r i = get_or r.verdicts i (Rejected 0 nan)

abbrev pub step_line_at : Labels → FullRun → ℕ → List ℕ
step_line_at l r i = step_line (record_at r i) (code_at l ((record_at r i).offer - 1))

abbrev pub offer_line_at : Labels → FullRun → ℕ → List ℕ
offer_line_at l r i = offer_line (code_at l i) (decision_at r i) r.steps (get_or r.counts i 0)

unfoldable pub trial_text : Trial → FullRun → List ℕ
unfolding units_of lines_to rejected_count
trial_text t r =
    head_line t.shape r
    ++ (lines_to r.steps (step_line_at t.labels r)
    ++ (lines_to t.shape.offers (offer_line_at t.labels r)
    ++ line (ascii "end") (decimal (rejected_count t.shape.offers r.verdicts) ∷ [])))

unfoldable pub report_by : (Trial → Outcome) → List ℕ → List ℕ
unfolding answer file_checks trial_of words_of accepted_run trial_text
report_by run bytes =
    let t = trial_of (words_of bytes) in
    answer (file_checks bytes) (trial_text t (accepted_run (run t))) refused_text

unfoldable pub report_of : List ℕ → List ℕ
unfolding report_by trial_run
report_of bytes = report_by trial_run bytes

unfoldable pub balanced_report_of : List ℕ → List ℕ
unfolding report_by trial_balanced_run
balanced_report_of bytes = report_by trial_balanced_run bytes
