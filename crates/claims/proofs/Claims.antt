-- The promises of the whole, on one page: total, exact and controlled, then what was asked for later; each theorem from the parts in a line or two.
-- A contract says that a public function answers what a definition gives, for every input; the theorems are about those definitions.
-- Every call of the library that can be refused is `outcome checks accepted`, every call that tells a number or a text `answer checks accepted
-- refused`, and every lent buffer `afterwards checks new old` (refusals/specs/Answers.antt): Calls.antt beside this page lists them, with the
-- stated orders.
-- docs/CLAIMS.md maps every sentence that was asked for to what keeps it.
use Prim.Native.Nat.{ℕ, suc, ◌+◌, ◌*◌, ◌-◌, ◌/◌, ◌%◌, ◌^◌, ◌≤◌, ◌<◌}
use mathlib.Core.Path.{◌≡◌, refl, sym, ap, ◌∙◌}
use mathlib.Core.Bool.{Bool, true, false, not, ◌&&◌, ◌||◌}
use mathlib.Core.List.{List, [], ◌∷◌, ◌++◌, map}
use mathlib.Core.Logic.{◌↔◌, ◌⊎◌}
use lib.ListN.{length, get_or, replicate, take}
use lib.Dec.{T, ltb}
use lib.IntN.{ℤ, pos, ◌-ℤ◌, ◌*ℤ◌}
use lib.Ieee.{Float, nan, binary64, of_int, to_signed}
use Rattle.limits.specs.Limits.{input_room, longest_report, longest_sheet}
use Rattle.order.specs.Order.{plus_zero, finite, smaller, at_most, equal}
use Rattle.order.specs.Counting.{count, all}
use Rattle.order.specs.Lists.{tabulate, rows_of}
use Rattle.order.specs.Places.{place}
use Rattle.order.proofs.Rows.{sound_row}
use Rattle.order.proofs.Places as places
use Rattle.select.specs.Rank.{mth_smallest}
use Rattle.select.specs.Passes.{top_bits, Search}
use Rattle.select.proofs.Passes as passes
use Rattle.refusals.specs.Answers.{r15, Checks, First, first_refusal, afterwards, value_or}
use Rattle.refusals.specs.Limits.{outside, allowance}
use Rattle.refusals.specs.Buffers.{written, cleared}
use Rattle.refusals.proofs.Answers.{Answered, answered, none-holds, passed-ok}
use Rattle.std.proofs.Common.{Ok}
use Rattle.columns.specs.Columns.{Columns, size, ◌∪◌, ◌∖◌, within, choose, every_column}
use Rattle.method.specs.Method.{k_max, at_least}
use Rattle.method.specs.Bars.{k_max_column}
use Rattle.method.proofs.Bars as of-a-row
use Rattle.runs.specs.Stepdown.{live_set, rejected_set, left_over, step_sets, newly_rejected, full_run}
use Rattle.runs.specs.FullRuns.{accepted_run, blank_run, verdicts_in, is_rejected, is_aside}
use Rattle.runs.specs.SetBy.{SetBy, RecordSetBy}
use Rattle.runs.specs.declared.FullRun.{FullRun}
use Rattle.runs.specs.declared.Record.{Record}
use Rattle.runs.specs.declared.Verdict.{Verdict}
use Rattle.runs.specs.declared.Verdict.TheVariants.{Kept}
use Rattle.runs.specs.Tables.{table_start, table_run}
use Rattle.runs.specs.Examples.{examples}
use Rattle.runs.specs.Examples as ties
use Rattle.runs.proofs.Examples.{all-examples, all-bars}
use Rattle.runs.proofs.ToldColumns as told
use Rattle.verdicts.specs.Verdicts.{verdict_byte, rejected_count}
use Rattle.verdicts.proofs.Bytes.{Tells, run-tells}
use Rattle.stepdown.specs.Runs.{begun, state_of, next_run, step_record}
use Rattle.stepdown.specs.Refusals.{table_refusal, table_run_checks, table_run_refusal, step_refusal}
use Rattle.stepdown.specs.Answers.{full_answer, full_work}
use Rattle.stepdown.specs.Stepping.{stepped, stepped_records, last_run}
use Rattle.stepdown.specs.declared.Run.{Run}
use Rattle.stepdown.proofs.Accepted as checked
use Rattle.stepdown.proofs.Bars as bars
use Rattle.adjustment.specs.Adjusted.{rejected_in, table_figures}
use Rattle.adjustment.specs.Passes.{maximum_pass, k_max_pass}
use Rattle.adjustment.specs.Answers.{adjustment_checks, adjustment_call_checks, adjustment_call_refusal, accepted_figures, figures_answer, figures_work}
use Rattle.adjustment.specs.Examples as adjusted
use Rattle.adjustment.proofs.Accepted.{accepted}
use Rattle.adjustment.proofs.Tables as figures
use Rattle.adjustment.proofs.Examples as figure-examples
use Rattle.balance.specs.Balance.{rank, whole, balanced_rows, balanced_table}
use Rattle.balance.specs.Examples as ranked
use Rattle.balance.proofs.Balanced.{balanced_table-entry}
use Rattle.balance.proofs.Examples as rank-examples
use Rattle.tablebalance.specs.Answers.{balance_checks, balance_refusal, balance_buffer, balanced_run, balanced_checks, balanced_refusal, balanced_answer, balanced_out, balanced_work}
use Rattle.tablebalance.specs.Examples as balanced
use Rattle.tablebalance.proofs.Accepted.{accepted-balanced}
use Rattle.tablebalance.proofs.Counted as counted
use Rattle.tablebalance.proofs.Examples as balance-examples
use Rattle.trial.specs.Ascending.{before}
use Rattle.trial.specs.Choices.{Choice, choices, choice_at, shops_of, sum_of, contrast, chosen_first}
use Rattle.trial.specs.Designs.{design_checks, row_count, entry_of, untested}
use Rattle.trial.specs.Examples.{trial_shops, sums_shops, two_shops, ten_shops}
use Rattle.trial.specs.Record.{ArrayLengths, Contents, blank, trimmed, Same, Keeps}
use Rattle.trial.specs.Aside.{live_offers}
use Rattle.trial.specs.Exchange.{by_offer, figures_at, row_of, row_total, trial_rows, table_of}
use Rattle.trial.specs.Refusals.{trial_refusal}
use Rattle.trial.specs.declared.Labels.{Labels}
use Rattle.trial.specs.declared.Trial.{Trial}
use Rattle.trial.specs.declared.Design.TheVariants.{Paired, Unpaired}
use Rattle.trial.proofs.Accepted as trial-accepted
use Rattle.trial.proofs.Ascending.{choices-ascend}
use Rattle.trial.proofs.Aside as asides-of
use Rattle.trial.proofs.Choices as chosen
use Rattle.trial.proofs.Examples as shop-examples
use Rattle.words.proofs.Shapes.{in-shops}
use Rattle.control.proofs.Shops as in-shops-of
use Rattle.trial.proofs.Unused.{same-trimmed}
use Rattle.trial.proofs.Exact.{row-exact}
use Rattle.words.specs.Words.{Bytes, words_of, shape_in}
use Rattle.trialfile.specs.Files.{file_checks, trial_of, file_refusal, reading_of}
use Rattle.trialwriter.specs.Writings.{file_length, writing_of, after_writing}
use Rattle.trialrun.specs.TrialRuns.{trial_start, trial_run, run_call_checks, run_call_refusal, trial_answer, run_work}
use Rattle.trialbalance.specs.TrialBalance.{trial_balanced, trial_balanced_run, trial_balanced_answer, run_balanced}
use Rattle.trialadjustment.specs.TrialFigures.{rejected_of, trial_figures, trial_figures_answer}
use Rattle.trialadjustment.proofs.Trials as trialfigures
use Rattle.trialrun.specs.Bars.{Remaining}
use Rattle.trialrun.proofs.Aside as asides
use Rattle.trialrun.proofs.Bars as trialbars
use Rattle.trialrun.proofs.Without as without
use Rattle.trialrun.proofs.Without.{Without, remaining_table}
use Rattle.trialrun.specs.FileRuns.{file_run}
use Rattle.trialbalance.specs.FileBalance.{file_balanced_run}
use Rattle.host.specs.Calls.{file_offers, trial_verdicts_refusal, trial_verdicts_buffer}
use Rattle.host.specs.BalancedCalls.{trial_balanced_verdicts_buffer}
use Rattle.host.proofs.FileBytes as bytes
use Rattle.trialbalance.proofs.Calls as balancing
use Rattle.control.proofs.Trials as runs-of-trials
use Rattle.control.proofs.Answered.{tables-answered, trials-answered, balanced-tables-answered, balanced-trials-answered}
use Rattle.text.specs.Ascii.{ascii}
use Rattle.text.specs.Text.{printed, decimal, decimal_int, cents, line, refused_text}
use Rattle.rendering.specs.Reports.{record_at, step_line_at, offer_line_at, trial_text, report_of, balanced_report_of}
use Rattle.rendering.specs.Renderings.{rendering_of, after_rendering}
use Rattle.text.specs.Renderings.{text_answer, after_text}
use Rattle.sheet.specs.Sheets.{sheet_text, sheet_of}
use Rattle.sheet.proofs.Lengths as sheets
use Rattle.sheet.proofs.Inputs as sheet-inputs
use Rattle.streams.specs.Programs.{Gives}
use Rattle.stepdown.proofs.StepByStep as steps
use Rattle.trialrun.proofs.Runs as trialruns
use Rattle.control.specs.Statements.{runs_that_reject, SameOn, ListedOn}
use Rattle.rendering.proofs.Rendered as rendered
use Rattle.rendering.proofs.AsideLines as lines
use Rattle.rendering.proofs.Inputs as inputs
use Rattle.rendering.proofs.PrintableFiles as printing
use Rattle.streams.proofs.Programs as programs
use Rattle.claims.proofs.Files as files
use Rattle.claims.proofs.Outcomes.{Concluded, concluded}
use Rattle.claims.proofs.BalancedFigures.{figures-accepted}

-- ==== 1. Total ====

-- each refusal number comes exactly when its condition is the first to hold in the stated order; a call is accepted exactly when none holds
pub every_call : {A : Type 0} (cs : Checks) (done : A) (refusing : ℕ → A) → Answered cs done refusing
every_call = answered

-- the same of a call that answers a Result: `Err` of the refusal whose condition is the first to hold, and `Ok` exactly where none holds
pub every_outcome : {A : Type 0} (cs : Checks) (done : A) → Concluded cs done
every_outcome = concluded

-- a refused call changes no lent buffer
pub refused-unchanged : {A : Type 0} (cs : Checks) (new old : A) (n : ℕ) → First cs n → afterwards cs new old ≡ old
refused-unchanged cs new old n f = (answered cs new (λ _. old)).refuses n f

-- fed any bytes the program ends in one report or one refusal: what it prints, of an input that it read into such a buffer, is the report of the whole input
pub program : (whole buffer text : List ℕ) (n : ℕ) → input_room ≤ length buffer → longest_report ≤ length text → Gives whole buffer n
    → let read = take n buffer in take (value_or 0 (rendering_of read (length text))) (after_rendering read text) ≡ report_of whole
program whole buffer text n h k g = rendered.rendered-whole (take n buffer) text _ _ k refl refl ∙ programs.whole-input report_of input_room inputs.cut_off whole buffer n h g

pub report-refused : (bytes : List ℕ) (n : ℕ) → First (file_checks bytes) n → report_of bytes ≡ refused_text n
unfolding report_of
report-refused bytes n f = (answered (file_checks bytes) _ refused_text).refuses n f

-- ==== 2. Exact ====

-- of an accepted table the verdicts, counts and records are the method's, and the work buffer is cleared
module _ (t : List Float) (rows columns k a b observed : ℕ) where
  pub table-run : (places : ℕ) → table_run_refusal t rows columns k a b observed places ≡ 0 → full_answer t rows columns k a b observed places ≡ Ok (accepted_run (table_run t rows columns k a b observed))
  unfolding full_answer table_run_refusal
  table-run places h = passed-ok (table_run_checks t rows columns k a b observed places) _ h

  pub table-work : (work : List Float) → table_run_refusal t rows columns k a b observed (length work) ≡ 0 → full_work t rows columns k a b observed work ≡ cleared rows work
  unfolding full_work table_run_refusal
  table-work work h = (answered (table_run_checks t rows columns k a b observed (length work)) _ (λ _. work)).gives h

  -- stepping from the beginning until a step is refused gives the records of the full run, and the refusal is 13
  pub stepping : (places : ℕ) → table_run_refusal t rows columns k a b observed places ≡ 0 → (n : ℕ) → 32 ≤ n
      → (stepped_records n t places (begun rows columns k a b observed) ≡ (table_run t rows columns k a b observed).records)
      × (step_refusal t (last_run (begun rows columns k a b observed) (stepped n t places (begun rows columns k a b observed))) places ≡ 13)
  stepping places h n l = (steps.stepping t rows columns k a b observed places h n l, steps.stepping-ends t rows columns k a b observed places h n l)

-- a run has ended after a step exactly when that step rejected nothing, fewer than k are rejected, or none is left
pub step-ended : (t : List Float) (r : Run) (places : ℕ) → step_refusal t r places ≡ 0
    → ((next_run t r).ended ≡ true) ↔ ((size (newly_rejected (rows_of r.rows r.columns t) (state_of r)) ≡ 0) ⊎ ((size (rejected_set (state_of (next_run t r))) < r.k) ⊎ (size (left_over (state_of (next_run t r))) ≡ 0)))
step-ended = steps.step-ended

-- an accepted trial: its entries are exact, and its full run is the method's on its table, over the offers that are not set aside
module _ (t : Trial) where
  pub sums-exact : trial_refusal t ≡ 0 → (g : ℕ) → map (to_signed 63) (row_of t g) ≡ map (entry_of t.shape.design g) (by_offer t)
  sums-exact = row-exact t

  pub trial-run : (places work : ℕ) → run_call_refusal t places work ≡ 0 → trial_answer t places work ≡ Ok (accepted_run (trial_run t))
  unfolding trial_answer run_call_refusal
  trial-run places work h = passed-ok (run_call_checks t places work) _ h

  -- it is the run of the table that stands in the buffer
  pub trial-run-table : trial_run t ≡ full_run (rows_of (row_total t) t.shape.offers (table_of t)) (trial_start t)
  trial-run-table = trialruns.trial_run-table t

  -- a trial written as a file reads back as the same trial
  pub write_read : ArrayLengths t → trial_refusal t ≡ 0 → (buf : List ℕ) → file_length t ≤ length buf
      → (reading_of (take (value_or 0 (writing_of t (length buf))) (after_writing t buf)) ≡ Ok (trimmed t)) × Same t (trimmed t)
  write_read sized h buf room = (files.write-back t sized h buf room, same-trimmed t sized h)

-- an accepted file is written again byte for byte
pub read-write : (bytes : List ℕ) → Bytes bytes → file_refusal bytes ≡ 0 → (buf : List ℕ) → length bytes ≤ length buf
    → let t = value_or blank (reading_of bytes) in (writing_of t (length buf) ≡ Ok (length bytes)) × (take (length bytes) (after_writing t buf) ≡ bytes)
read-write = files.read_back

-- the report of an accepted file is that of its trial's full run, and its critical values are printed whole
pub report-accepted : (bytes : List ℕ) → file_refusal bytes ≡ 0 → let t = trial_of (words_of bytes) in report_of bytes ≡ trial_text t (accepted_run (trial_run t))
unfolding report_of file_refusal
report-accepted bytes h = (answered (file_checks bytes) _ refused_text).gives h

pub printed-cents : (t : Trial) → trial_refusal t ≡ 0 → (i : ℕ) → i < length (trial_run t).records → let c = (record_at (accepted_run (trial_run t)) i).critical in of_int binary64 (cents c) ≡ c
printed-cents = printing.printed-cents

-- the M and e of a trial's full run, which the report prints: the rows of its table, and floor(M × a/b)
pub run-sizes : (t : Trial) → let r = accepted_run (trial_run t) in (r.rows ≡ row_total t) × (r.e ≡ allowance (row_total t) t.level.a t.level.b)
run-sizes = trialruns.run-sizes

-- the starred examples hold, all of them
pub starred : map (λ x. x.asked) examples ≡ map (λ x. x.told) examples
starred = all-examples

-- ==== 3. Controlled ====

-- whichever shops the coins had picked, at most floor(2^n × a/b) of the 2^n runs reject k or more idle offers, whatever the other offers show in each run:
-- the verdicts are those that the full runs answer, with buffers that are long enough. Of the other offers nothing is asked but that each run's trial is
-- accepted: one of them may be set aside in some runs and not in others. The same theorem holds for shops without partners, over the choices of treated shops
-- (`listed`; "Shops without partners" below has it in its own words). `ArrayLengths` says what every value of the record's type has: arrays of their length
pub trials : (t : Trial) (idle : ℕ → Bool) (runs : ℕ → Trial) → ArrayLengths t → trial_refusal t ≡ 0
    → ((g : ℕ) → g < row_total t → trial_refusal (runs g) ≡ 0)
    → ((g : ℕ) → g < row_total t → Keeps t (runs g))
    → ((g : ℕ) → g < row_total t → ListedOn idle g t (runs g))
    → (places work : ℕ) → row_total t * t.shape.offers ≤ places → row_total t ≤ work
    → runs_that_reject t.shape.k (row_total t) idle (λ g. verdicts_in t.shape.offers (value_or blank_run (trial_answer (runs g) places work))) ≤ allowance (row_total t) t.level.a t.level.b
trials = trials-answered

-- the matching promise for tables, each row as the observed one in turn
pub tables : (rows columns k a b : ℕ) (t : List Float) (idle : ℕ → Bool) (runs : ℕ → List Float) (o : ℕ) → table_refusal t rows columns k a b o ≡ 0
    → ((g : ℕ) → g < rows → table_refusal (runs g) rows columns k a b g ≡ 0)
    → ((g : ℕ) → g < rows → SameOn idle rows columns t (runs g))
    → (places : ℕ) → rows ≤ places
    → runs_that_reject k rows idle (λ g. verdicts_in columns (value_or blank_run (full_answer (runs g) rows columns k a b g places))) ≤ allowance rows a b
tables = tables-answered

-- ==== Adjusted figures ====

-- of an accepted table the call answers M and, for each column, the least e from 0 to M - 1 at which the method rejects it, or M; the work buffer is cleared
module _ (t : List Float) (rows columns k observed : ℕ) where
  pub table-figures : (places : ℕ) → adjustment_call_refusal t rows columns k observed places ≡ 0 → figures_answer t rows columns k observed places ≡ Ok (accepted_figures rows (table_figures t rows columns k observed))
  unfolding figures_answer adjustment_call_refusal
  table-figures places h = passed-ok (adjustment_call_checks t rows columns k observed places) _ h

  pub figures-work : (work : List Float) → adjustment_call_refusal t rows columns k observed (length work) ≡ 0 → figures_work t rows columns k observed work ≡ cleared rows work
  unfolding figures_work adjustment_call_refusal
  figures-work work h = (answered (adjustment_call_checks t rows columns k observed (length work)) _ (λ _. work)).gives h

  module _ (ok : first_refusal (adjustment_checks t rows columns k observed) ≡ 0) where
    -- loosening drops nobody: what the method rejects at e it rejects at every larger e below M; so a figure is at most e exactly when the method rejects at e
    pub drops-nobody : (j : ℕ) → j < columns → (e e' : ℕ) → e ≤ e' → e' < rows → T (rejected_in t rows columns k observed e j) → T (rejected_in t rows columns k observed e' j)
    drops-nobody = figures.table_stays t rows columns k observed (accepted t rows columns k observed ok)

    pub figure-means : (j : ℕ) → j < columns → (e : ℕ) → e < rows → (get_or (table_figures t rows columns k observed) j 0 ≤ e) ↔ T (rejected_in t rows columns k observed e j)
    figure-means = figures.table-law t rows columns k observed (accepted t rows columns k observed ok)

    -- one pass down the observed values gives the figures, for every k
    pub by-one-pass : k_max_pass k (rows_of rows columns t) (every_column columns) observed ≡ table_figures t rows columns k observed
    by-one-pass = figures.table-k_max_pass t rows columns k observed (accepted t rows columns k observed ok)

-- for k = 1 it is one pass over the columns
pub by-maxima : (t : List Float) (rows columns observed : ℕ) → first_refusal (adjustment_checks t rows columns 1 observed) ≡ 0 → maximum_pass (rows_of rows columns t) (every_column columns) observed ≡ table_figures t rows columns 1 observed
by-maxima t rows columns observed ok = figures.table-maximum_pass t rows columns observed (accepted t rows columns 1 observed ok)

-- the list at a level a/b holds exactly the columns whose figure is at most e
pub on-the-list : (t : List Float) (rows columns k a b observed : ℕ) → table_refusal t rows columns k a b observed ≡ 0 → (j : ℕ) → j < columns
    → (get_or (table_figures t rows columns k observed) j 0 ≤ allowance rows a b) ↔ T (is_rejected (get_or (table_run t rows columns k a b observed).verdicts j (Kept plus_zero)))
on-the-list = figures.table-level

-- a trial's figures are those of its table over the offers that are not set aside, with its own k: the same holds of its offers, those set aside among them
module _ (t : Trial) where
  pub trial-figures : (places work : ℕ) → run_call_refusal t places work ≡ 0 → trial_figures_answer t places work ≡ Ok (accepted_figures (row_total t) (trial_figures t))
  unfolding trial_figures_answer run_call_refusal
  trial-figures places work h = passed-ok (run_call_checks t places work) _ h

  pub trial-by-one-pass : trial_refusal t ≡ 0 → t.shape.k ≤ size (live_offers t) → k_max_pass t.shape.k (trial_rows t) (live_offers t) 0 ≡ trial_figures t
  trial-by-one-pass = trialfigures.trial-pass t

  module _ (ok : trial_refusal t ≡ 0) (i : ℕ) (h : i < t.shape.offers) where
    pub trial-drops-nobody : (e e' : ℕ) → e ≤ e' → e' < row_total t → T (rejected_of t e i) → T (rejected_of t e' i)
    trial-drops-nobody = trialfigures.trial-stays t ok i h

    pub trial-figure-means : (e : ℕ) → e < row_total t → (get_or (trial_figures t) i 0 ≤ e) ↔ T (rejected_of t e i)
    trial-figure-means = trialfigures.trial-figure-law t ok i h

    pub trial-on-the-list : (get_or (trial_figures t) i 0 ≤ allowance (row_total t) t.level.a t.level.b) ↔ T (is_rejected (get_or (trial_run t).verdicts i (Kept plus_zero)))
    trial-on-the-list = trialfigures.trial-law t ok i h

-- the level has no part in the figures: a sheet serves every level at which the same offers and figures are judged
pub one-sheet : (t u : Trial) → t.shape ≡ u.shape → by_offer t ≡ by_offer u → trial_figures t ≡ trial_figures u
one-sheet = trialfigures.one-level

-- what the program for the sheet prints, of an input that it read into such a buffer, is the sheet of the whole input: the figures of its trial, or its refusal
pub sheet-program : (whole buffer text : List ℕ) (n : ℕ) → input_room ≤ length buffer → longest_sheet ≤ length text → Gives whole buffer n
    → let read = take n buffer in take (value_or 0 (text_answer (sheet_of read) (length text))) (after_text (sheet_of read) text) ≡ sheet_of whole
sheet-program whole buffer text n h k g = sheets.sheet-whole (take n buffer) text _ _ k refl refl ∙ programs.whole-input sheet_of input_room sheet-inputs.cut_off whole buffer n h g

pub sheet-accepted : (bytes : List ℕ) → file_refusal bytes ≡ 0 → let t = trial_of (words_of bytes) in sheet_of bytes ≡ sheet_text t (accepted_figures (row_total t) (trial_figures t))
unfolding sheet_of file_refusal
sheet-accepted bytes h = (answered (file_checks bytes) _ refused_text).gives h

pub sheet-refused : (bytes : List ℕ) (n : ℕ) → First (file_checks bytes) n → sheet_of bytes ≡ refused_text n
unfolding sheet_of
sheet-refused bytes n f = (answered (file_checks bytes) _ refused_text).refuses n f

-- W's figures are 1 and 3, P's with k 2 are 0, 1 and 2; a table with ties among the observed values
pub adjusted-examples : map (λ x. x.asked) adjusted.examples ≡ map (λ x. x.told) adjusted.examples
adjusted-examples = figure-examples.all-examples

-- ==== Large tables ====

-- each finite value has its place, a 64-bit number, and stands lower exactly when it is smaller; equal places are those of equal values
module _ (x y : Float) (u : T (finite x)) (v : T (finite y)) where
  pub lower-exactly : (place x < 2 ^ 64) × (smaller x y ≡ ltb (place x) (place y)) × (T (equal x y) ↔ (place x ≡ place y))
  lower-exactly = (places.place-fits x u, places.place-smaller x y u v, places.place-equal x y u v)

-- each pass over the values makes one bit more, from the top, that of the m-th smallest's place, or all further bits that the values left share
module _ (m : ℕ) (xs : List Float) (fs : T (all finite xs)) (pos : 0 < m) (many : m ≤ length xs) where
  pub one-bit-more : {p h f : ℕ} → Search m xs p h f → top_bits (64 - p) h ≡ top_bits (64 - p) (place (mth_smallest m xs))
  one-bit-more = passes.after-passes m xs fs pos many

  -- so that 64 at most settle it: what is not free is settled, and with each pass fewer bits are free
  pub at-most-64 : {p h f : ℕ} → Search m xs p h f → (p + f ≤ 64) × (h ≡ top_bits f (place (mth_smallest m xs)))
  at-most-64 = passes.search-bits m xs fs pos many

  pub settled-by-64 : {h f : ℕ} → Search m xs 64 h f → h ≡ place (mth_smallest m xs)
  settled-by-64 = passes.settled-by-64 m xs fs pos many

  -- and fewer do, where no bit is free any more
  pub settled : {p h : ℕ} → Search m xs p h 0 → h ≡ place (mth_smallest m xs)
  settled = passes.settled m xs fs pos many

-- ==== Balanced verdicts ====

-- of an accepted table the buffer holds the balanced table, and each of its entries is the number of rows of its own column whose value is at most that entry
module _ (t : List Float) (rows columns : ℕ) (out : List Float) (h : balance_refusal t rows columns (length out) ≡ 0) where
  pub balanced-table : balance_buffer t rows columns out ≡ written (balanced_table t rows columns) out
  unfolding balance_buffer balance_refusal
  balanced-table = (answered (balance_checks t rows columns (length out)) _ (λ _. out)).gives h

  pub balanced-entry : (g j : ℕ) → g < rows → j < columns
      → get_or (balanced_table t rows columns) (g * columns + j) nan ≡ whole (count (λ row. at_most (get_or row j nan) (get_or t (g * columns + j) nan)) (rows_of rows columns t))
  unfolding balance_refusal balance_checks rank
  balanced-entry = balanced_table-entry t rows columns (checked.full-length t (rows * columns) (none-holds (balance_checks t rows columns (length out)) h).1.0)

-- the engine then runs on that table: verdicts, counts and records of an accepted call are those of the balanced table, which stands in its buffer; the work buffer is cleared
module _ (t : List Float) (rows columns k a b observed : ℕ) where
  pub balanced-run : (places work : ℕ) → balanced_refusal t rows columns k a b observed places work ≡ 0 → balanced_answer t rows columns k a b observed places work ≡ Ok (accepted_run (table_run (balanced_table t rows columns) rows columns k a b observed))
  unfolding balanced_answer balanced_refusal balanced_run
  balanced-run places work h = passed-ok (balanced_checks t rows columns k a b observed places work) _ h

  pub balanced-buffers : (out work : List Float) → balanced_refusal t rows columns k a b observed (length out) (length work) ≡ 0
      → (balanced_out t rows columns k a b observed out (length work) ≡ written (balanced_table t rows columns) out) × (balanced_work t rows columns k a b observed (length out) work ≡ cleared rows work)
  unfolding balanced_out balanced_work balanced_refusal
  balanced-buffers out work h = let cs = balanced_checks t rows columns k a b observed (length out) (length work) in ((answered cs _ (λ _. out)).gives h, (answered cs _ (λ _. work)).gives h)

  module _ (ok : table_refusal t rows columns k a b observed ≡ 0) where
    -- the balanced table of an accepted table is accepted, with the same k, level and observed row
    pub balanced-accepted : table_refusal (balanced_table t rows columns) rows columns k a b observed ≡ 0
    balanced-accepted = accepted-balanced t rows columns k a b observed ok

    -- balancing changes no count
    pub balanced-counts : (table_run (balanced_table t rows columns) rows columns k a b observed).counts ≡ (table_run t rows columns k a b observed).counts
    unfolding balanced_run
    balanced-counts = counted.balanced-counts t rows columns k a b observed (checked.accepted t rows columns k a b observed ok)

-- and by the call for adjusted figures: those of a balanced table come from it as those of any table
pub balanced-figures : (t : List Float) (rows columns k observed : ℕ) → first_refusal (adjustment_checks t rows columns k observed) ≡ 0 → first_refusal (adjustment_checks (balanced_table t rows columns) rows columns k observed) ≡ 0
balanced-figures = figures-accepted

-- a trial's balanced run is that of the balanced rows of its table, from the state that its plain run begins with; the balanced table stands in the table's buffer
module _ (t : Trial) where
  pub trial-balanced-run : (places work : ℕ) → run_call_refusal t places work ≡ 0 → trial_balanced_answer t places work ≡ Ok (accepted_run (full_run (balanced_rows (trial_rows t)) (trial_start t)))
  unfolding trial_balanced_answer trial_balanced_run run_call_refusal
  trial-balanced-run places work h = passed-ok (run_call_checks t places work) _ h

  pub trial-balanced-table : trial_balanced_run t ≡ full_run (rows_of (row_total t) t.shape.offers (trial_balanced t)) (trial_start t)
  trial-balanced-table = balancing.balanced_run-table t

  pub trial-balanced-buffers : (table work : List Float) → run_call_refusal t (length table) (length work) ≡ 0
      → (run_balanced t table (length work) ≡ written (balanced_table (table_of t) (row_total t) t.shape.offers) table) × (run_work t (length table) work ≡ cleared (row_total t) work)
  unfolding run_balanced run_work trial_balanced run_call_refusal
  trial-balanced-buffers table work h = let cs = run_call_checks t (length table) (length work) in ((answered cs _ (λ _. table)).gives h, (answered cs _ (λ _. work)).gives h)

  pub trial-balanced-counts : trial_refusal t ≡ 0 → (trial_balanced_run t).counts ≡ (trial_run t).counts
  trial-balanced-counts = balancing.trial-counts t

-- what the second report program prints, of an input that it read into such a buffer, is the balanced report of the whole input
pub balanced-program : (whole buffer text : List ℕ) (n : ℕ) → input_room ≤ length buffer → longest_report ≤ length text → Gives whole buffer n
    → let read = take n buffer in take (value_or 0 (text_answer (balanced_report_of read) (length text))) (after_text (balanced_report_of read) text) ≡ balanced_report_of whole
balanced-program whole buffer text n h k g = rendered.balanced-whole (take n buffer) text _ _ k refl refl ∙ programs.whole-input balanced_report_of input_room inputs.balanced-cut-off whole buffer n h g

-- of an accepted file that is the report of its trial's balanced run, with ranks as critical values, printed whole; a refused one prints as in the report
pub balanced-report-accepted : (bytes : List ℕ) → file_refusal bytes ≡ 0 → let t = trial_of (words_of bytes) in balanced_report_of bytes ≡ trial_text t (accepted_run (trial_balanced_run t))
unfolding balanced_report_of file_refusal
balanced-report-accepted bytes h = (answered (file_checks bytes) _ refused_text).gives h

pub balanced-report-refused : (bytes : List ℕ) (n : ℕ) → First (file_checks bytes) n → balanced_report_of bytes ≡ refused_text n
unfolding balanced_report_of
balanced-report-refused bytes n f = (answered (file_checks bytes) _ refused_text).refuses n f

pub printed-ranks : (t : Trial) → trial_refusal t ≡ 0 → (i : ℕ) → i < length (trial_balanced_run t).records → let c = (record_at (accepted_run (trial_balanced_run t)) i).critical in of_int binary64 (cents c) ≡ c
printed-ranks = printing.printed-ranks

-- the rarity of wrong names holds for it too: demand 3 in both forms, over what the balanced full runs answer
pub balanced-trials : (t : Trial) (idle : ℕ → Bool) (runs : ℕ → Trial) → ArrayLengths t → trial_refusal t ≡ 0
    → ((g : ℕ) → g < row_total t → trial_refusal (runs g) ≡ 0)
    → ((g : ℕ) → g < row_total t → Keeps t (runs g))
    → ((g : ℕ) → g < row_total t → ListedOn idle g t (runs g))
    → (places work : ℕ) → row_total t * t.shape.offers ≤ places → row_total t ≤ work
    → runs_that_reject t.shape.k (row_total t) idle (λ g. verdicts_in t.shape.offers (value_or blank_run (trial_balanced_answer (runs g) places work))) ≤ allowance (row_total t) t.level.a t.level.b
balanced-trials = balanced-trials-answered

pub balanced-tables : (rows columns k a b : ℕ) (t : List Float) (idle : ℕ → Bool) (runs : ℕ → List Float) (o : ℕ) → table_refusal t rows columns k a b o ≡ 0
    → ((g : ℕ) → g < rows → table_refusal (runs g) rows columns k a b g ≡ 0)
    → ((g : ℕ) → g < rows → SameOn idle rows columns t (runs g))
    → (places work : ℕ) → rows * columns ≤ places → rows ≤ work
    → runs_that_reject k rows idle (λ g. verdicts_in columns (value_or blank_run (balanced_answer (runs g) rows columns k a b g places work))) ≤ allowance rows a b
balanced-tables = balanced-tables-answered

-- balanced tables with ties and with both zeros; those of W, and of milk and saffron, with their runs
pub balanced-examples : (map (λ x. balanced_table x.table x.rows x.columns) ranked.examples ≡ map (λ x. x.told) ranked.examples) × (map (λ x. x.asked) balanced.examples ≡ map (λ x. x.told) balanced.examples)
balanced-examples = (rank-examples.all-examples, balance-examples.all-examples)

-- ==== Offers that never sold ====

-- in an accepted paired trial an offer (from 0) has not been tested exactly where its difference is 0 in every pair, as the record holds them, offer by offer
pub not_tested : (t : Trial) → ArrayLengths t → trial_refusal t ≡ 0 → (i : ℕ) → i < t.shape.offers → (pairs : ℕ) → t.shape.design ≡ Paired pairs
    → T (untested t.shape.design (figures_at t i)) ↔ ((j : ℕ) → j < pairs → get_or t.figures (i * pairs + j) (pos 0) ≡ pos 0)
not_tested t sized ok = asides-of.every-difference t sized (trial-accepted.accepted t ok)

module _ (t : Trial) (i : ℕ) (h : i < t.shape.offers) where
  -- an offer is set aside exactly where it has not been tested, by the trial's own figures, in the balanced run too
  pub set-aside : (d : Verdict) → (is_aside (get_or (trial_run t).verdicts i d) ≡ untested t.shape.design (figures_at t i)) × (is_aside (get_or (trial_balanced_run t).verdicts i d) ≡ untested t.shape.design (figures_at t i))
  unfolding trial_run trial_balanced_run
  set-aside d = (asides.aside-told t (trial_rows t) i h d, asides.aside-told t (balanced_rows (trial_rows t)) i h d)

  -- its line reads code, `aside`, 0, 0 in both reports, and its figure is M
  module _ (q : T (untested t.shape.design (figures_at t i))) where
    pub aside-lines : let reads = line (printed (get_or t.labels.digits i 0) (get_or t.labels.codes i 0)) (ascii "aside" ∷ decimal 0 ∷ decimal 0 ∷ []) in
        (offer_line_at t.labels (accepted_run (trial_run t)) i ≡ reads) × (offer_line_at t.labels (accepted_run (trial_balanced_run t)) i ≡ reads)
    unfolding trial_run trial_balanced_run
    aside-lines = (lines.aside-line t (trial_rows t) i h q, lines.aside-line t (balanced_rows (trial_rows t)) i h q)

    pub aside-figure : get_or (trial_figures t) i 0 ≡ row_total t
    aside-figure = trialfigures.trial-aside t i h q

  -- the byte that tells its verdict is 255, and no other offer's is; a rejected offer's is from 1 to 32
  pub bytes-tell : (d : Verdict) → Tells (get_or (trial_run t).verdicts i d) × Tells (get_or (trial_balanced_run t).verdicts i d)
  unfolding trial_run trial_balanced_run
  bytes-tell d = (run-tells (trial_rows t) (trial_start t) refl i h d, run-tells (balanced_rows (trial_rows t)) (trial_start t) refl i h d)

  -- the count of an offer that remains: the rows that reach its observed value
  pub tested-count : untested t.shape.design (figures_at t i) ≡ false → get_or (trial_run t).counts i 0 ≡ at_least (trial_rows t) (get_or (get_or (trial_rows t) 0 []) i nan) i
  unfolding trial_run
  tested-count = asides.tested-count t (trial_rows t) i h

-- the buffer of an accepted call from C holds these bytes
pub c-bytes : (file buf : List ℕ) → trial_verdicts_refusal file (length buf) ≡ 0 → (i : ℕ) → i < file_offers file → (d : Verdict) → let t = trial_of (words_of file) in
    (get_or (trial_verdicts_buffer file buf) i 0 ≡ verdict_byte (get_or (trial_run t).verdicts i d)) × (get_or (trial_balanced_verdicts_buffer file buf) i 0 ≡ verdict_byte (get_or (trial_balanced_run t).verdicts i d))
unfolding trial_verdicts_refusal trial_verdicts_buffer trial_balanced_verdicts_buffer file_run file_balanced_run trial_run trial_balanced_run
c-bytes file buf ok i l d = (bytes.byte-told trial_rows file buf ok i l d, bytes.byte-told (λ t. balanced_rows (trial_rows t)) file buf ok i l d)

-- demand 2 is read over the offers that remain: the run of an accepted trial is that of the table of these offers alone, with all its columns. Its records are
-- the same, but that their offers count in the trial, and of the offers that remain, in their order, verdicts and counts; so are the balanced run and the figures
module _ (t : Trial) (ok : trial_refusal t ≡ 0) where
  pub as-without : Without t (trial_run t) (table_run (remaining_table t) (row_total t) (size (live_offers t)) t.shape.k t.level.a t.level.b 0)
  as-without = without.trial-without t ok

  pub balanced-as-without : Without t (trial_balanced_run t) (balanced_run (remaining_table t) (row_total t) (size (live_offers t)) t.shape.k t.level.a t.level.b 0)
  balanced-as-without = balancing.balanced-without t ok

  pub figures-as-without : within (live_offers t) (trial_figures t) ≡ table_figures (remaining_table t) (row_total t) (size (live_offers t)) t.shape.k 0
  figures-as-without = trialfigures.trial-without t ok

  -- that table has the sums of these offers, and is accepted where k of them or more remain
  pub remaining-rows : rows_of (row_total t) (size (live_offers t)) (remaining_table t) ≡ map (within (live_offers t)) (trial_rows t)
  remaining-rows = without.remaining-rows t ok

  pub remaining-accepted : t.shape.k ≤ size (live_offers t) → table_refusal (remaining_table t) (row_total t) (size (live_offers t)) t.shape.k t.level.a t.level.b 0 ≡ 0
  remaining-accepted = without.remaining-accepted t ok

-- where fewer than k offers remain no step is run, in either run: each of them is kept with step 0, its count and plus zero, and none is rejected; every figure is M
module _ (t : Trial) (few : size (live_offers t) < t.shape.k) where
  pub no_step : ((trial_run t).records ≡ []) × ((trial_balanced_run t).records ≡ [])
  unfolding trial_run trial_balanced_run
  no_step = (asides.few-none t (trial_rows t) few, asides.few-none t (balanced_rows (trial_rows t)) few)

  pub none-rejected : (rejected_count t.shape.offers (accepted_run (trial_run t)).verdicts ≡ 0) × (rejected_count t.shape.offers (accepted_run (trial_balanced_run t)).verdicts ≡ 0)
  unfolding trial_run trial_balanced_run
  none-rejected = (lines.few-end t (trial_rows t) few, lines.few-end t (balanced_rows (trial_rows t)) few)

  module _ (i : ℕ) (h : i < t.shape.offers) (q : untested t.shape.design (figures_at t i) ≡ false) where
    pub kept-without-steps : (d : Verdict) → (get_or (trial_run t).verdicts i d ≡ Kept plus_zero) × (get_or (trial_balanced_run t).verdicts i d ≡ Kept plus_zero)
    unfolding trial_run trial_balanced_run
    kept-without-steps d = (asides.few-told t (trial_rows t) i h q few d, asides.few-told t (balanced_rows (trial_rows t)) i h q few d)

    pub lines-without-steps : let reads : ℕ → List ℕ = λ n. line (printed (get_or t.labels.digits i 0) (get_or t.labels.codes i 0)) (ascii "kept" ∷ decimal 0 ∷ decimal n ∷ []) in
        (offer_line_at t.labels (accepted_run (trial_run t)) i ≡ reads (get_or (trial_run t).counts i 0)) × (offer_line_at t.labels (accepted_run (trial_balanced_run t)) i ≡ reads (get_or (trial_balanced_run t).counts i 0))
    unfolding trial_run trial_balanced_run
    lines-without-steps = (lines.few-line t (trial_rows t) i h q few, lines.few-line t (balanced_rows (trial_rows t)) i h q few)

  pub few-figures : trial_figures t ≡ replicate t.shape.offers (row_total t)
  few-figures = trialfigures.trial-few t few

-- in the runs of demand 3 an idle offer is set aside in all runs or in none
pub idle-alike : (t u : Trial) (g : ℕ) (idle : ℕ → Bool) → ArrayLengths t → trial_refusal t ≡ 0 → g < row_total t → Keeps t u → ListedOn idle g t u → (i : ℕ) → i < t.shape.offers → T (idle i)
    → untested u.shape.design (figures_at u i) ≡ untested t.shape.design (figures_at t i)
idle-alike = runs-of-trials.idle-alike

-- tables handed in know nothing of this: no column is set aside
pub tables-tested : (t : List Float) (rows columns k a b observed j : ℕ) → j < columns → (d : Verdict) → is_aside (get_or (table_run t rows columns k a b observed).verdicts j d) ≡ false
tables-tested = told.table-tested

-- ==== Which offer set the bar ====

-- the record of an accepted step tells who set its critical value. `SetBy` says what that is, as facts that are checked without looking for them: a set that the step
-- looked at gives the critical value, those before it a smaller one, and none a larger one; over it the row's k-max equals that value, and no lower row's does; the offer
-- is in the set, its value in that row equals it, and no lower one of the set has that (runs/specs/SetBy.antt)
pub step-bar : (t : List Float) (r : Run) (places : ℕ) → step_refusal t r places ≡ 0
    → SetBy r.k (allowance r.rows r.a r.b) (rows_of r.rows r.columns t) (step_sets r.k (live_set (state_of r)) (rejected_set (state_of r)) r.steps) (step_record t r)
step-bar = bars.step-set-by

-- the sets that a step looks at, in the order of the walk: in step 1 the live columns, and later those left with each choice of k - 1 rejected ones
pub sets-looked-at : (k : ℕ) (live R : Columns) (s : ℕ) → (step_sets k live R 0 ≡ live ∷ []) × (step_sets k live R (suc s) ≡ map (λ I. (live ∖ R) ∪ I) (choose (k - 1) R))
unfolding step_sets
sets-looked-at k live R s = (refl, refl)

-- of the choices, those with the lowest column of R come before those without it
pub walk-order : (j : ℕ) (R : Columns) → (choose 0 R ≡ map (λ _. false) R ∷ [])
    × (choose (suc j) (true ∷ R) ≡ map (λ I. true ∷ I) (choose j R) ++ map (λ I. false ∷ I) (choose (suc j) R)) × (choose (suc j) (false ∷ R) ≡ map (λ I. false ∷ I) (choose (suc j) R))
unfolding choose
walk-order j R = (refl, refl, refl)

-- the k-th largest of any row comes with its column: in the set, with that value, and no lower one of the set has it
module _ (k : ℕ) (K : Columns) (row : List Float) (finitely : T (sound_row (length K) row)) (some : 0 < k) (wide : k ≤ size K) where
  pub k-max-column : T (get_or K (k_max_column k K row) false && equal (k_max k K row) (get_or row (k_max_column k K row) nan))
  k-max-column = of-a-row.column-has k K row finitely some wide

  pub k-max-lowest : (j : ℕ) → j < k_max_column k K row → (get_or K j false && equal (k_max k K row) (get_or row j nan)) ≡ false
  k-max-lowest = of-a-row.column-first k K row finitely some wide

-- the records of the full run of an accepted table tell it too; a balanced run is that of the balanced table, which is accepted (`balanced-run`, `balanced-accepted`)
pub table-bars : (t : List Float) (rows columns k a b observed : ℕ) → table_refusal t rows columns k a b observed ≡ 0
    → (i : ℕ) → i < length (table_run t rows columns k a b observed).records → (d : Record) → RecordSetBy (rows_of rows columns t) (table_start rows columns k a b observed) i (get_or (table_run t rows columns k a b observed).records i d)
table-bars = bars.table-set-by

-- and of both runs of an accepted trial; the row is one of its rows, and the offer, by its position in the trial, one that is not set aside
module _ (t : Trial) (ok : trial_refusal t ≡ 0) (i : ℕ) (d : Record) where
  pub trial-bars : i < length (trial_run t).records → RecordSetBy (trial_rows t) (trial_start t) i (get_or (trial_run t).records i d)
  trial-bars h = trialbars.plain-set-by t ok i h d

  pub trial-balanced-bars : i < length (trial_balanced_run t).records → RecordSetBy (balanced_rows (trial_rows t)) (trial_start t) i (get_or (trial_balanced_run t).records i d)
  trial-balanced-bars h = balancing.balanced-set-by t ok i h d

  pub bar-remains : i < length (trial_run t).records → Remaining t (get_or (trial_run t).records i d)
  bar-remains h = trialbars.plain-offer t ok i h d

  pub balanced-bar-remains : i < length (trial_balanced_run t).records → Remaining t (get_or (trial_balanced_run t).records i d)
  balanced-bar-remains h = balancing.balanced-offer t ok i h d

-- in both reports a step's line ends in that row and that offer's printed code
pub step_lines : (l : Labels) (r : FullRun) (i : ℕ) → let m = record_at r i in
    step_line_at l r i ≡ line (ascii "step") (decimal m.step ∷ decimal_int (cents m.critical) ∷ decimal m.row ∷ printed (get_or l.digits (m.offer - 1) 0) (get_or l.codes (m.offer - 1) 0) ∷ [])
step_lines l r i = refl

-- ties in offers, in rows and between sets, and both zeros; W and P stand among the starred examples
pub bar-examples : map (λ x. x.asked) ties.bars ≡ map (λ x. x.told) ties.bars
bar-examples = all-bars

-- ==== Shops without partners ====

-- the shape word of kind 5: k, offers, shops and treated shops in bits 27-24, 23-16, 15-8 and 7-0. Both round trips (`write_read`, `read-write`)
-- hold for both kinds
pub shops-word : (w : ℕ) → w / 268435456 ≡ 5 → shape_in w ≡ record { k = w / 16777216 % 16; offers = w / 65536 % 256; design = Unpaired (w / 256 % 256) (w % 256) }
shops-word w h = sym (in-shops w (w / 268435456) refl h)

-- two trials are the same only if their kinds are
pub same_kind : (t u : Trial) → Same t u → t.shape.design ≡ u.shape.design
same_kind t u same = ap (λ (c : Contents). c.setting.shape.design) same

-- refused by 15: shops outside 2 to 10, or treated ones outside 1 to all but one
pub shops-refused : (shops treated : ℕ) → design_checks (Unpaired shops treated) ≡ (outside 2 10 shops || outside 1 (shops - 1) treated, r15) ∷ []
unfolding design_checks
shops-refused shops treated = refl

-- the rows of the table: a row for each choice of so many shops, in ascending order of their lists, every choice in one row and in one alone; row 0 has the first shops,
-- which are the treated ones. There are at most 252
module _ (shops treated : ℕ) where
  pub shops-rows : (row_count (Unpaired shops treated) ≡ length (choices shops treated)) × (shops ≤ 10 → length (choices shops treated) ≤ 252)
  unfolding row_count
  shops-rows = (refl, chosen.choices-most shops treated)

  pub shops-ascend : (g h : ℕ) → g < h → h < length (choices shops treated) → T (before (shops_of 1 (choice_at shops treated g)) (shops_of 1 (choice_at shops treated h)))
  shops-ascend = choices-ascend shops treated

  pub shops-chosen : (g : ℕ) → g < length (choices shops treated) → (length (choice_at shops treated g) ≡ shops) × (size (choice_at shops treated g) ≡ treated)
  shops-chosen g h = (chosen.choice-length shops treated g h, chosen.choice-size shops treated g h)

  pub shops-all : (c : Choice) → length c ≡ shops → size c ≡ treated → (g : ℕ) × (g < length (choices shops treated)) × (choice_at shops treated g ≡ c)
  shops-all = chosen.choices-all shops treated

  pub shops-once : (g h : ℕ) → g < length (choices shops treated) → h < length (choices shops treated) → choice_at shops treated g ≡ choice_at shops treated h → g ≡ h
  shops-once = chosen.choices-once shops treated

pub shops-first : (treated others : ℕ) → choice_at (treated + others) treated 0 ≡ replicate treated true ++ replicate others false
shops-first = chosen.first-choice

-- the entry: (shops - treated) times the chosen sum, less treated times the remaining sum. It is exact as an f64 (`sums-exact`)
pub shops-entry : (shops treated g : ℕ) (xs : List ℤ) → let c = choice_at shops treated g in
    entry_of (Unpaired shops treated) g xs ≡ pos (shops - treated) *ℤ sum_of (within c xs) -ℤ pos treated *ℤ sum_of (within (map not c) xs)
unfolding entry_of contrast
shops-entry shops treated g xs = refl

-- in an accepted trial of shops an offer has not been tested exactly where its figures are equal in all of them, as the record holds them
pub shops-aside : (t : Trial) → ArrayLengths t → trial_refusal t ≡ 0 → (i : ℕ) → i < t.shape.offers → (shops treated : ℕ) → t.shape.design ≡ Unpaired shops treated
    → T (untested t.shape.design (figures_at t i)) ↔ ((j : ℕ) → j < shops → get_or t.figures (i * shops + j) (pos 0) ≡ get_or t.figures (i * shops) (pos 0))
shops-aside t sized ok = asides-of.every-shop t sized (trial-accepted.accepted t ok)

-- rarity: over all C choices named as treated, idle figures staying with their shops, so that run g lists those of the shops of choice g first, both groups in ascending order,
-- and the other offers any allowed ones, new in each run, at most floor(C × a/b) runs reject k or more idle offers, plain and balanced
module _ (t : Trial) (shops treated : ℕ) (laid : t.shape.design ≡ Unpaired shops treated) (idle : ℕ → Bool) (runs : ℕ → Trial) (sized : ArrayLengths t) (ok : trial_refusal t ≡ 0)
    (oks : (g : ℕ) → g < length (choices shops treated) → trial_refusal (runs g) ≡ 0)
    (keeps : (g : ℕ) → g < length (choices shops treated) → Keeps t (runs g))
    (named : (g : ℕ) → g < length (choices shops treated) → (i : ℕ) → i < t.shape.offers → T (idle i) → let c = choice_at shops treated g in figures_at (runs g) i ≡ within c (figures_at t i) ++ within (map not c) (figures_at t i))
    (places work : ℕ) (room : length (choices shops treated) * t.shape.offers ≤ places) (rows : length (choices shops treated) ≤ work) where
  pub shops-trials : runs_that_reject t.shape.k (length (choices shops treated)) idle (λ g. verdicts_in t.shape.offers (value_or blank_run (trial_answer (runs g) places work))) ≤ allowance (length (choices shops treated)) t.level.a t.level.b
  unfolding chosen_first
  shops-trials = in-shops-of.shops-answered t shops treated laid idle runs sized ok oks keeps named places work room rows

  pub shops-balanced-trials : runs_that_reject t.shape.k (length (choices shops treated)) idle (λ g. verdicts_in t.shape.offers (value_or blank_run (trial_balanced_answer (runs g) places work))) ≤ allowance (length (choices shops treated)) t.level.a t.level.b
  unfolding chosen_first
  shops-balanced-trials = in-shops-of.shops-balanced-answered t shops treated laid idle runs sized ok oks keeps named places work room rows

-- the entries of a trial of 4 shops with 2 treated, as worked by hand (trial/specs/Examples.antt); and how many rows it has, 2 shops with 1 treated, and 10 with 5 and with 9
pub shops-examples : (tabulate (row_total trial_shops) (λ g. map (entry_of (Unpaired 4 2) g) (by_offer trial_shops)) ≡ sums_shops) × (map row_total (trial_shops ∷ two_shops ∷ ten_shops 5 ∷ ten_shops 9 ∷ []) ≡ 6 ∷ 2 ∷ 252 ∷ 10 ∷ [])
shops-examples = (shop-examples.shops-sums, (shop-examples.ten-shops).2)
