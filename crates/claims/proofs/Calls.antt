-- Every call in the one form of an answer, and the stated orders; what accepted calls hand out beyond the page.
-- With `every_call`, `every_outcome` and `refused-unchanged` of Claims.antt each line below says of its call which number comes when, and what the buffers hold.
--   ..-order         the conditions of a call, in their order
--   ..-told          the paper's number and values for each case of an answer
--   ..-number        the number that an answer holds is that of the first condition that holds
--   ..-accepted      what an accepted call hands out
use Prim.Native.Nat.{ℕ, ◌+◌, ◌*◌, ◌<◌}
use mathlib.Core.Path.{◌≡◌, refl}
use mathlib.Core.Bool.{true, false, not, ◌||◌}
use mathlib.Core.List.{List, [], ◌∷◌, ◌++◌}
use lib.ListN.{length, get_or}
use lib.Dec.{ltb, leb, eqb}
use lib.IntN.{pos}
use lib.Ieee.{Float, nan}
use Rattle.order.specs.Lists.{rows_of}
use Rattle.refusals.specs.Answers.{r1, r2, r3, r4, r9, r10, r11, r12, r13, r14, r15, places_from, answer, refusal_in}
use Rattle.limits.specs.Limits.{offers_most, pairs_most}
use Rattle.refusals.specs.Limits.{outside, bad_columns, bad_level}
use Rattle.refusals.specs.Buffers.{too_short, written, cleared}
use Rattle.refusals.proofs.Answers.{answered, outcome_number, passed-ok, both-pass}
use Rattle.std.proofs.Common.{Ok}
use Rattle.runs.specs.FullRuns.{no_record, accepted_run}
use Rattle.runs.specs.Tables.{table_run}
use Rattle.stepdown.specs.Runs.{begun, next_run, step_record}
use Rattle.stepdown.specs.Refusals.{bad_shape, bad_value, table_checks, table_run_checks, table_run_refusal, begin_checks, spoiled, step_checks, step_refusal}
use Rattle.stepdown.specs.Answers.{told, told_by_beginning, told_by_step, begin_answer, step_answer, full_answer}
use Rattle.stepdown.specs.declared.Run.{Run}
use Rattle.adjustment.specs.Adjusted.{table_figures}
use Rattle.adjustment.specs.Answers.{adjustment_checks, adjustment_call_checks, adjustment_call_refusal, accepted_figures, figures_answer}
use Rattle.balance.specs.Balance.{balanced_table}
use Rattle.tablebalance.specs.Answers.{bad_counts, balance_checks, balance_refusal, balance_buffer, balanced_run, balanced_checks, balanced_refusal, balanced_answer}
use Rattle.verdicts.specs.Verdicts.{rejected_count}
use Rattle.trial.specs.Exchange.{row_total, table_of}
use Rattle.trial.specs.Designs.{bad_shops, design_checks}
use Rattle.trial.specs.Record.{figure_count, setting_of, figures_of}
use Rattle.trial.specs.Refusals.{heading_checks, offer_checks, figure_checks, nth, content_checks, trial_checks}
use Rattle.trial.specs.declared.Design.TheVariants.{Paired, Unpaired}
use Rattle.trial.specs.declared.Shape.{Shape}
use Rattle.trial.specs.Lent.{full_size, table_call_checks, table_call_refusal, table_buffer}
use Rattle.trial.specs.declared.Trial.{Trial}
use Rattle.words.specs.Words.{words_of, word}
use Rattle.layouts.specs.Layouts.{level_at, shape_at, layout_of}
use Rattle.words.specs.Words.{no_shape, spare_of, shape_in}
use Rattle.trialfile.specs.Files.{bad_length, level_place, shape_place, offer_place, figure_place, end_place, body_places, file_checks, file_refusal, trial_of, reading_of}
use Rattle.trialwriter.specs.Writings.{file_length, write_checks, write_refusal, writing_of}
use Rattle.trialrun.specs.TrialRuns.{trial_run, run_call_checks, run_call_refusal, run_size, trial_answer}
use Rattle.trialrun.specs.FileRuns.{file_run}
use Rattle.trialadjustment.specs.TrialFigures.{trial_figures, trial_figures_answer}
use Rattle.trialbalance.specs.TrialBalance.{trial_balanced_run, trial_balanced_answer}
use Rattle.trialbalance.specs.FileBalance.{file_balanced_run}
use Rattle.host.specs.Calls.{verdict_bytes, file_offers, trial_verdicts_checks, trial_verdicts_refusal, trial_verdicts_answer, trial_verdicts_buffer, table_verdicts_checks, table_verdicts_refusal, table_verdicts_answer, table_verdicts_buffer}
use Rattle.host.specs.AdjustedCalls.{table_adjusted_checks, table_adjusted_refusal, table_adjusted_answer, table_adjusted_work, table_adjusted_buffer, trial_adjusted_checks, trial_adjusted_refusal, trial_adjusted_answer, trial_adjusted_buffer, trial_adjusted_rows}
use Rattle.host.specs.BalancedCalls.{table_balanced_answer, trial_balanced_verdicts_answer, trial_balanced_verdicts_buffer}
use Rattle.view.specs.Entries.{entry_of, held}
use Rattle.stepdown.proofs.Calls as calls
use Rattle.stepdown.proofs.StepByStep as steps
use Rattle.view.proofs.Places as places

-- ==== the stated orders ====

-- a file: 1 first, then words from the start: level, shape, offers, figures, end
pub file-order : (bytes : List ℕ) → let ws = words_of bytes in
    file_checks bytes ≡ (bad_length bytes, r1) ∷ (level_place (word ws level_at) ++ (shape_place (word ws shape_at) ++ body_places ws (shape_in (word ws shape_at))))
unfolding file_checks
file-order bytes = refl

pub body-order : (ws : List ℕ) (s : Shape) → let l = layout_of s in
    body_places ws s ≡ places_from (offer_place ws l) 0 s.offers ++ (places_from (figure_place ws l) 0 (figure_count s) ++ end_place ws l.end)
unfolding body_places
body-order ws s = refl

-- at the shape word: 2, 4, then what its layout adds: the pairs' part of 4, or 15 of shops without partners
pub shape-order : (w : ℕ) → shape_place w ≡ (no_shape w, r2) ∷ (bad_columns offers_most (shape_in w).offers (shape_in w).k || not (eqb (spare_of w) 0), r4) ∷ design_checks (shape_in w).design
shape-order w = refl

pub layout-order : (pairs shops treated : ℕ)
    → (design_checks (Paired pairs) ≡ (outside 1 pairs_most pairs, r4) ∷ []) × (design_checks (Unpaired shops treated) ≡ (bad_shops shops treated, r15) ∷ [])
unfolding design_checks
layout-order pairs shops treated = (refl, refl)

-- a trial given as a record: 4, 15, 3, then offers (at each, 5 before 6), then figures; for its table, its run, plain or balanced, its figures and the writer the same, then 12
module _ (t : Trial) where
  pub record-order : let s = t.shape in trial_checks t ≡
      ((bad_columns offers_most s.offers s.k, r4) ∷ (design_checks s.design ++ ((bad_level t.level.a t.level.b, r3) ∷ [])))
      ++ (places_from (offer_checks (nth (setting_of t).codes 0) (nth (setting_of t).digits 0)) 0 s.offers
      ++ places_from (figure_checks (nth (figures_of t) (pos 0))) 0 (figure_count s))
  unfolding trial_checks content_checks heading_checks
  record-order = refl

  pub lent-order : (places work : ℕ)
      → (table_call_checks t places ≡ trial_checks t ++ too_short places (row_total t * t.shape.offers))
      × (run_call_checks t places work ≡ trial_checks t ++ (too_short places (row_total t * t.shape.offers) ++ too_short work (row_total t)))
      × (write_checks t places ≡ trial_checks t ++ too_short places (file_length t))
  unfolding table_call_checks write_checks
  lent-order places work = (refl, refl, refl)

-- beginning a run: 4, 3, 10; a table: 4, 3, 9, 10, 11, then 12
module _ (rows columns k a b observed : ℕ) where
  pub begin-order : begin_checks rows columns k a b observed ≡ (bad_shape rows columns k, r4) ∷ (bad_level a b, r3) ∷ (leb rows observed, r10) ∷ []
  begin-order = refl

  pub table-order : (t : List Float) (places : ℕ) → table_run_checks t rows columns k a b observed places ≡
      (bad_shape rows columns k, r4)
      ∷ (bad_level a b, r3)
      ∷ (not (eqb (length t) (rows * columns)), r9)
      ∷ (leb rows observed, r10)
      ∷ (bad_value t, r11)
      ∷ (ltb places rows, r12)
      ∷ []
  unfolding table_checks
  table-order t places = refl

-- the adjusted figures of a table: no level is taken, so 3 is skipped: 4, 9, 10, 11, then 12
pub figures-order : (t : List Float) (rows columns k observed places : ℕ) → adjustment_call_checks t rows columns k observed places ≡
    (bad_shape rows columns k, r4)
    ∷ (not (eqb (length t) (rows * columns)), r9)
    ∷ (leb rows observed, r10)
    ∷ (bad_value t, r11)
    ∷ (ltb places rows, r12)
    ∷ []
unfolding adjustment_checks
figures-order t rows columns k observed places = refl

-- the balanced table, from C too: 4 for the sizes alone, 9, 11, then 12; a balanced full run of a table: as the plain one, then 12 for the table's buffer
pub balance-order : (t : List Float) (rows columns places : ℕ) → balance_checks t rows columns places ≡
    (bad_counts rows columns, r4)
    ∷ (not (eqb (length t) (rows * columns)), r9)
    ∷ (bad_value t, r11)
    ∷ (ltb places (rows * columns), r12)
    ∷ []
unfolding balance_checks
balance-order t rows columns places = refl

pub balanced-order : (t : List Float) (rows columns k a b observed places work : ℕ) → balanced_checks t rows columns k a b observed places work ≡
    (bad_shape rows columns k, r4)
    ∷ (bad_level a b, r3)
    ∷ (not (eqb (length t) (rows * columns)), r9)
    ∷ (leb rows observed, r10)
    ∷ (bad_value t, r11)
    ∷ (ltb work rows, r12)
    ∷ (ltb places (rows * columns), r12)
    ∷ []
unfolding table_checks
balanced-order t rows columns k a b observed places work = refl

-- a step: 14, 13, 9, 11, 12
pub step-order : (t : List Float) (r : Run) (places : ℕ) → step_checks t r places ≡
    (spoiled r, r14)
    ∷ (r.ended, r13)
    ∷ (not (eqb (length t) (r.rows * r.columns)), r9)
    ∷ (bad_value t, r11)
    ∷ (ltb places r.rows, r12)
    ∷ []
step-order t r places = refl

-- the calls for C: the same as for a file and for a table, and 12 last; the balanced run of a file has the conditions of the plain one
pub c-order : (file : List ℕ) (t : List Float) (rows columns k a b observed work places : ℕ)
    → (trial_verdicts_checks file places ≡ file_checks file ++ too_short places (file_offers file))
    × (table_verdicts_checks t rows columns k a b observed work places ≡ table_checks t rows columns k a b observed ++ (too_short work rows ++ too_short places columns))
unfolding table_checks
c-order file t rows columns k a b observed work places = (refl, refl)

pub c-adjusted-order : (file : List ℕ) (t : List Float) (rows columns k observed work places : ℕ)
    → (trial_adjusted_checks file places ≡ file_checks file ++ too_short places (file_offers file))
    × (table_adjusted_checks t rows columns k observed work places ≡ adjustment_call_checks t rows columns k observed work ++ too_short places columns)
c-adjusted-order file t rows columns k observed work places = (refl, refl)

-- ==== the numbers and values that are answered ====

pub begin-told : (rows columns k a b observed : ℕ) (r : Run)
    → told_by_beginning r (begin_answer rows columns k a b observed) ≡ answer (begin_checks rows columns k a b observed) (told 0 (begun rows columns k a b observed) no_record) (λ n. told n r no_record)
begin-told = calls.begin-told

pub step-told : (t : List Float) (r : Run) (places : ℕ)
    → told_by_step r (step_answer t r places) ≡ answer (step_checks t r places) (told 0 (next_run t r) (step_record t r)) (λ n. told n r no_record)
step-told = calls.step-told

pub full-number : (t : List Float) (rows columns k a b observed places : ℕ) → refusal_in (full_answer t rows columns k a b observed places) ≡ table_run_refusal t rows columns k a b observed places
unfolding full_answer table_run_refusal
full-number t rows columns k a b observed places = outcome_number (table_run_checks t rows columns k a b observed places) (accepted_run (table_run t rows columns k a b observed))

pub figures-number : (t : List Float) (rows columns k observed places : ℕ) → refusal_in (figures_answer t rows columns k observed places) ≡ adjustment_call_refusal t rows columns k observed places
unfolding figures_answer adjustment_call_refusal
figures-number t rows columns k observed places = outcome_number (adjustment_call_checks t rows columns k observed places) (accepted_figures rows (table_figures t rows columns k observed))

pub balanced-number : (t : List Float) (rows columns k a b observed places work : ℕ) → refusal_in (balanced_answer t rows columns k a b observed places work) ≡ balanced_refusal t rows columns k a b observed places work
unfolding balanced_answer balanced_refusal
balanced-number t rows columns k a b observed places work = outcome_number (balanced_checks t rows columns k a b observed places work) (accepted_run (balanced_run t rows columns k a b observed))

-- the table that is made for a run of a trial, and the runs: one number
pub size_number : (t : Trial) (places work : ℕ) → refusal_in (run_size t places work) ≡ run_call_refusal t places work
unfolding run_size run_call_refusal
size_number t places work = outcome_number (run_call_checks t places work) (full_size t)

pub trial-number : (t : Trial) (places work : ℕ) → refusal_in (trial_answer t places work) ≡ run_call_refusal t places work
unfolding trial_answer run_call_refusal
trial-number t places work = outcome_number (run_call_checks t places work) (accepted_run (trial_run t))

pub trial-figures-number : (t : Trial) (places work : ℕ) → refusal_in (trial_figures_answer t places work) ≡ run_call_refusal t places work
unfolding trial_figures_answer run_call_refusal
trial-figures-number t places work = outcome_number (run_call_checks t places work) (accepted_figures (row_total t) (trial_figures t))

pub trial-balanced-number : (t : Trial) (places work : ℕ) → refusal_in (trial_balanced_answer t places work) ≡ run_call_refusal t places work
unfolding trial_balanced_answer run_call_refusal
trial-balanced-number t places work = outcome_number (run_call_checks t places work) (accepted_run (trial_balanced_run t))

pub read_number : (bytes : List ℕ) → refusal_in (reading_of bytes) ≡ file_refusal bytes
unfolding reading_of file_refusal
read_number bytes = outcome_number (file_checks bytes) (trial_of (words_of bytes))

pub write-number : (t : Trial) (places : ℕ) → refusal_in (writing_of t places) ≡ write_refusal t places
unfolding writing_of write_refusal
write-number t places = outcome_number (write_checks t places) (file_length t)

-- ==== what accepted calls hand out ====

-- a run that an accepted step hands back can be stepped again until it has ended, and is then refused by 13: never by 14
module _ (t : List Float) (r : Run) (places : ℕ) (h : step_refusal t r places ≡ 0) where
  pub step-again : (next_run t r).ended ≡ false → step_refusal t (next_run t r) places ≡ 0
  step-again = steps.step-again t r places h

  pub step-over : (next_run t r).ended ≡ true → step_refusal t (next_run t r) places ≡ 13
  step-over = steps.step-over t r places h

pub table-accepted : (t : Trial) (buf : List Float) → table_call_refusal t (length buf) ≡ 0 → table_buffer t buf ≡ written (table_of t) buf
unfolding table_buffer table_call_refusal
table-accepted t buf h = (answered (table_call_checks t (length buf)) _ (λ _. buf)).gives h

-- from C: the number of rejected offers, and the verdicts in the first bytes
pub c-trial-accepted : (file verdicts : List ℕ) → trial_verdicts_refusal file (length verdicts) ≡ 0 → let run = accepted_run (trial_run (trial_of (words_of file))) in
    (trial_verdicts_answer file (length verdicts) ≡ rejected_count (file_offers file) run.verdicts) × (trial_verdicts_buffer file verdicts ≡ written (verdict_bytes (file_offers file) run.verdicts) verdicts)
    × (file_run file ≡ Ok (record { trial = trial_of (words_of file); run = run }))
unfolding trial_verdicts_answer trial_verdicts_buffer trial_verdicts_refusal file_run
c-trial-accepted file verdicts h = ((answered (trial_verdicts_checks file (length verdicts)) _ (λ n. 100 + n)).gives h, (answered (trial_verdicts_checks file (length verdicts)) _ (λ _. verdicts)).gives h, passed-ok (file_checks file) _ (both-pass (file_checks file) (too_short (length verdicts) (file_offers file)) h).0)

pub c-table-accepted : (t : List Float) (rows columns k a b observed : ℕ) (work : ℕ) (verdicts : List ℕ) → table_verdicts_refusal t rows columns k a b observed work (length verdicts) ≡ 0
    → let ds = (accepted_run (table_run t rows columns k a b observed)).verdicts in
    (table_verdicts_answer t rows columns k a b observed work (length verdicts) ≡ rejected_count columns ds)
    × (table_verdicts_buffer t rows columns k a b observed work verdicts ≡ written (verdict_bytes columns ds) verdicts)
unfolding table_verdicts_answer table_verdicts_buffer table_verdicts_refusal
c-table-accepted t rows columns k a b observed work verdicts h =
    ((answered (table_verdicts_checks t rows columns k a b observed work (length verdicts)) _ (λ n. 100 + n)).gives h, (answered (table_verdicts_checks t rows columns k a b observed work (length verdicts)) _ (λ _. verdicts)).gives h)

-- the calls for adjusted figures: 0, the figures in the first places, and M
pub c-trial-adjusted : (file figures : List ℕ) (rows : ℕ) → trial_adjusted_refusal file (length figures) ≡ 0 → let t = trial_of (words_of file) in
    (trial_adjusted_answer file (length figures) ≡ 0) × (trial_adjusted_buffer file figures ≡ written (trial_figures t) figures) × (trial_adjusted_rows file (length figures) rows ≡ row_total t)
unfolding trial_adjusted_answer trial_adjusted_buffer trial_adjusted_rows trial_adjusted_refusal
c-trial-adjusted file figures rows h =
    let cs = trial_adjusted_checks file (length figures) in
    ((answered cs _ (λ n. 100 + n)).gives h, (answered cs _ (λ _. figures)).gives h, (answered cs _ (λ _. rows)).gives h)

pub c-table-adjusted : (t : List Float) (rows columns k observed : ℕ) (work : List Float) (figures : List ℕ) → table_adjusted_refusal t rows columns k observed (length work) (length figures) ≡ 0
    → (table_adjusted_answer t rows columns k observed (length work) (length figures) ≡ 0)
    × (table_adjusted_work t rows columns k observed work (length figures) ≡ cleared rows work)
    × (table_adjusted_buffer t rows columns k observed (length work) figures ≡ written (table_figures t rows columns k observed) figures)
unfolding table_adjusted_answer table_adjusted_work table_adjusted_buffer table_adjusted_refusal
c-table-adjusted t rows columns k observed work figures h =
    let cs = table_adjusted_checks t rows columns k observed (length work) (length figures) in
    ((answered cs _ (λ n. 100 + n)).gives h, (answered cs _ (λ _. work)).gives h, (answered cs _ (λ _. figures)).gives h)

-- the calls over balanced tables: 0 and the balanced table; of a file the number of rejected offers of its balanced run, and the verdicts
pub c-table-balanced : (t : List Float) (rows columns : ℕ) (out : List Float) → balance_refusal t rows columns (length out) ≡ 0
    → (table_balanced_answer t rows columns (length out) ≡ 0) × (balance_buffer t rows columns out ≡ written (balanced_table t rows columns) out)
unfolding table_balanced_answer balance_buffer balance_refusal
c-table-balanced t rows columns out h = let cs = balance_checks t rows columns (length out) in ((answered cs _ (λ n. 100 + n)).gives h, (answered cs _ (λ _. out)).gives h)

pub c-trial-balanced : (file verdicts : List ℕ) → trial_verdicts_refusal file (length verdicts) ≡ 0 → let run = accepted_run (trial_balanced_run (trial_of (words_of file))) in
    (trial_balanced_verdicts_answer file (length verdicts) ≡ rejected_count (file_offers file) run.verdicts) × (trial_balanced_verdicts_buffer file verdicts ≡ written (verdict_bytes (file_offers file) run.verdicts) verdicts)
    × (file_balanced_run file ≡ Ok (record { trial = trial_of (words_of file); run = run }))
unfolding trial_balanced_verdicts_answer trial_balanced_verdicts_buffer trial_verdicts_refusal file_balanced_run
c-trial-balanced file verdicts h =
    let cs = trial_verdicts_checks file (length verdicts) in
    ((answered cs _ (λ n. 100 + n)).gives h, (answered cs _ (λ _. verdicts)).gives h, passed-ok (file_checks file) _ (both-pass (file_checks file) (too_short (length verdicts) (file_offers file)) h).0)

-- a view of a whole table shows the values that the method looks at
pub view-entry : (xs : List Float) (rows columns row column : ℕ) → length xs ≡ rows * columns → row < rows → column < columns
    → held (entry_of xs rows columns row column) ≡ get_or (get_or (rows_of rows columns xs) row []) column nan ∷ []
view-entry xs rows columns row column full r c = mathlib.Core.Path.ap held (places.row-value xs rows columns row column full r c)
