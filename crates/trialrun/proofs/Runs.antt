-- The full run of a trial: its table is accepted, so it can be run over the offers that are not set aside.
--   rows-again, joined_is, rows-accepted     a table with as many rows, of k columns or more: its rows, its length, and that it is accepted
--   table-accepted, table-checked  the table of an accepted trial is an accepted one
--   level-known, startable         what the engine asks for: a level, and a table in the trial's buffer
--   told, left                     what its full run tells and leaves, of the trial's table or of one in its place
--   trial_run-table                the full run of a trial, by its table
--   start-all, nothing-aside       where no offer is set aside it is the full run of the table
--   run-sizes                      M and e of the full run: the rows of the trial's table, and floor(M × a/b)
use Prim.Native.Nat.{ℕ, ◌*◌, ◌^◌, ◌≤◌, ◌<◌}
use native.Mathlib.Omega.{arith}
use mathlib.Core.Path.{◌≡◌, refl, sym, ap, ap₂, ◌∙◌}
use mathlib.Core.Bool.{false, not}
use mathlib.Core.List.{List}
use lib.ListN.{length}
use lib.Dec.{T, eqb}
use lib.Ieee.{Float}
use borrow.Author.Tests.{le-ltb, lt-leb, eq-eqb}
use Rattle.order.specs.Order.{finite}
use Rattle.order.specs.Counting.{all}
use Rattle.order.specs.Lists.{rows_of, joined}
use Rattle.order.proofs.Booleans.{T_true, not-no, and_left}
use Rattle.order.proofs.Counts.{all-le}
use Rattle.order.proofs.Lists.{joined-all, joined_length, rows_of-joined}
use Rattle.order.proofs.Rows.{Sound, sound_row, sound-all}
use Rattle.limits.specs.Limits.{tolerance_most, trial_rows_most, table_rows_most}
use Rattle.refusals.specs.Answers.{outcome}
use Rattle.refusals.specs.Buffers.{cleared}
use Rattle.refusals.specs.Limits.{bad_sizes, bad_level, allowance}
use Rattle.refusals.proofs.Answers.{none_first}
use Rattle.refusals.proofs.Limits.{neither, within, allowance-lt}
use Rattle.columns.specs.Columns.{full_mask}
use Rattle.masks.specs.Internal.{CheckedTable}
use Rattle.runs.specs.Stepdown.{first_state, full_run}
use Rattle.runs.specs.FullRuns.{accepted_run}
use Rattle.runs.specs.Tables.{table_start, table_run}
use Rattle.runs.specs.declared.FullRun.{FullRun}
use Rattle.stepdown.specs.Refusals.{bad_shape, bad_value, table_checks, table_refusal}
use Rattle.stepdown.proofs.Accepted as tables
use Rattle.trial.specs.Aside.{live_mask}
use Rattle.trial.specs.Exchange.{row_total, trial_rows, table_of}
use Rattle.trial.specs.declared.Trial.{Trial}
use Rattle.trial.specs.declared.TableSize.{TableSize}
use Rattle.trial.proofs.Accepted.{Accepted}
use Rattle.trial.proofs.Aside.{live-fits}
use Rattle.trial.proofs.Tables.{trial_rows-length, trial_rows-sound, row_total-some, table_of-rows}
use Rattle.trialrun.specs.TrialRuns.{trial_start, trial_run, run_call_checks, run_size, run_table, run_work}
use Rattle.trialrun.proofs.Tabled.{good, rows_are, columns-are, live-is, work-room, free, changed, asked}
use Rattle.std.proofs.Common.{Result, Ok}

-- ---- the table of an accepted trial

module _ (t : Trial) (a : Accepted t) where
  rows-most : row_total t ≤ trial_rows_most
  unfolding row_total
  rows-most = a.laid.rows-most

  -- a table with as many rows, of n columns: all offers, or those that remain
  module _ (n : ℕ) (X : List (List Float)) (tall : length X ≡ row_total t) (sound : Sound n X) where
    even : T (all (λ row. eqb (length row) n) X)
    even = all-le (sound_row n) (λ row. eqb (length row) n) X (λ row q. and_left (eqb (length row) n) (all finite row) q) sound

    pub rows-again : rows_of (row_total t) n (joined X) ≡ X
    rows-again = ap (λ (m : ℕ). rows_of m n (joined X)) (sym tall) ∙ rows_of-joined n X even

    pub joined_is : length (joined X) ≡ row_total t * n
    joined_is = joined_length n X even ∙ ap (λ (m : ℕ). m * n) tall

    shape-good : t.shape.k ≤ n → n ≤ t.shape.offers → bad_shape (row_total t) n t.shape.k ≡ false
    unfolding bad_sizes
    shape-good held narrow =
        neither (within 1 4096 (row_total t) (row_total-some t a) (omega (arith, rows-most)))
        (neither (within 1 32 n (omega (arith, a.k-some)) (omega (arith, a.offers-most))) (neither (within 1 tolerance_most t.shape.k a.k-some a.k-most) (le-ltb n t.shape.k held)))

    pub rows-accepted : t.shape.k ≤ n → n ≤ t.shape.offers → table_refusal (joined X) (row_total t) n t.shape.k t.level.a t.level.b 0 ≡ 0
    unfolding table_refusal table_checks bad_value
    rows-accepted held narrow =
        none_first (table_checks (joined X) (row_total t) n t.shape.k t.level.a t.level.b 0)
        (shape-good held narrow, (a.level-good, (not-no _ (eq-eqb (length (joined X)) (row_total t * n) joined_is), (lt-leb (row_total t) 0 (row_total-some t a), (ap not (T_true (all finite (joined X)) (joined-all finite X (sound-all n X sound))), tt)))))

  pub table-accepted : table_refusal (table_of t) (row_total t) t.shape.offers t.shape.k t.level.a t.level.b 0 ≡ 0
  unfolding table_of
  table-accepted = rows-accepted t.shape.offers (trial_rows t) (trial_rows-length t) (trial_rows-sound t a) a.k-held (omega arith)

-- ---- the full run of a table in the trial's buffer

module _ (t : Trial) (table work : List Float) (s : TableSize) (q : run_size t (length table) (length work) ≡ Ok s) where
  acc : Accepted t
  acc = good t table work s q

  pub level-known : (s.rows ≤ table_rows_most) × (bad_level t.level.a t.level.b ≡ false)
  level-known = (omega (arith, rows_are t table work s q, rows-most t acc), acc.level-good)

  -- x is the table of the trial, or one of its size that stands in its place; n is e
  module _ (n : ℕ) (l : n ≡ allowance s.rows t.level.a t.level.b) (x : List Float) (y : List Float) (p : x ≡ y) where
    pub startable : CheckedTable y (row_total t) t.shape.offers t.shape.k → CheckedTable x s.rows s.columns t.shape.k × (n < s.rows) × (0 < s.rows) × (s.live < 2 ^ s.columns) × (s.rows ≤ length work)
    startable ready = rw (p, l, rows_are t table work s q, columns-are t table work s q, live-is t table work s q)
        (ready, allowance-lt (row_total t) t.level.a t.level.b (row_total-some t acc) acc.levelled.proper, row_total-some t acc, live-fits t, work-room t table work s q)

    started : (X : List (List Float)) → rows_of (row_total t) t.shape.offers y ≡ X
        → full_run (rows_of s.rows s.columns x) (first_state s.rows s.columns t.shape.k n 0 s.live) ≡ full_run X (trial_start t)
    started X r =
        ap₂ (λ (m v : ℕ). full_run (rows_of s.rows s.columns x) (first_state s.rows s.columns t.shape.k m 0 v)) l (live-is t table work s q)
        ∙ asked t table work s q (λ u rows columns. full_run (rows_of rows columns u) (first_state rows columns t.shape.k (allowance rows t.level.a t.level.b) 0 (live_mask t))) x y p
        ∙ ap (λ (Y : List (List Float)). full_run Y (trial_start t)) r

    pub told : (X : List (List Float)) → rows_of (row_total t) t.shape.offers y ≡ X → (f : FullRun) → f ≡ accepted_run (full_run (rows_of s.rows s.columns x) (first_state s.rows s.columns t.shape.k n 0 s.live))
        → Ok f ≡ outcome (run_call_checks t (length table) (length work)) (accepted_run (full_run X (trial_start t)))
    told X r f v = ap Ok (v ∙ ap accepted_run (started X r)) ∙ sym (free t table work s q (accepted_run (full_run X (trial_start t))))

  pub left : (v : List Float) → v ≡ cleared s.rows work → v ≡ run_work t (length table) work
  unfolding run_work
  left v p = p ∙ ap (λ (m : ℕ). cleared m work) (rows_are t table work s q) ∙ sym (changed t table work s q (cleared (row_total t) work) work)

-- ---- the full run of the table itself

pub table-checked : (t : Trial) → Accepted t → CheckedTable (table_of t) (row_total t) t.shape.offers t.shape.k
table-checked t a =
    tables.accepted-checked (table_of t) (row_total t) t.shape.offers t.shape.k t.level.a t.level.b 0
    (tables.accepted (table_of t) (row_total t) t.shape.offers t.shape.k t.level.a t.level.b 0 (table-accepted t a))

pub trial_run-table : (t : Trial) → trial_run t ≡ full_run (rows_of (row_total t) t.shape.offers (table_of t)) (trial_start t)
unfolding trial_run
trial_run-table t = ap (λ (X : List (List Float)). full_run X (trial_start t)) (sym (table_of-rows t))

-- where no offer is set aside the state before step 1 is that of the table
pub start-all : (t : Trial) → live_mask t ≡ full_mask t.shape.offers → trial_start t ≡ table_start (row_total t) t.shape.offers t.shape.k t.level.a t.level.b 0
start-all t = ap (first_state (row_total t) t.shape.offers t.shape.k (allowance (row_total t) t.level.a t.level.b) 0)

pub nothing-aside : (t : Trial) → live_mask t ≡ full_mask t.shape.offers → trial_run t ≡ table_run (table_of t) (row_total t) t.shape.offers t.shape.k t.level.a t.level.b 0
unfolding table_run
nothing-aside t h = trial_run-table t ∙ ap (full_run (rows_of (row_total t) t.shape.offers (table_of t))) (start-all t h)

-- ---- the sizes that a full run tells

pub run-sizes : (t : Trial) → let r = accepted_run (trial_run t) in (r.rows ≡ row_total t) × (r.e ≡ allowance (row_total t) t.level.a t.level.b)
unfolding accepted_run trial_run full_run
run-sizes t = (refl, refl)
