-- The balanced full run of a trial: its table is accepted, and so is the balanced one.
--   rankable                       the table in its buffer can be ranked
--   few-rows                       there is a place for each row in a space for the largest trial
--   table-room                     the table buffer, once the table is ranked, holds it
--   table-kept                     the table buffer of a refused call
--   table_is, table-left           the balanced table then stands at its front, and the buffer after an accepted call
--   balanced-checked, balanced-rows     it can be run, and its rows are the balanced ones
--   balanced_run-table             the balanced full run, by that table
--   nothing-aside                  where no offer is set aside it is the balanced full run of the trial's table
--   trial-counts                   its counts are those of the plain run
--   balanced-without               it is the balanced full run of the table of the offers that remain
--   balanced-set-by, balanced-offer     who set its critical values
use Prim.Native.Nat.{ℕ, ◌*◌, ◌^◌, ◌≤◌, ◌<◌}
use native.Mathlib.Omega.{arith}
use mathlib.Core.Path.{◌≡◌, sym, ap, ap₂, ◌∙◌, subst}
use mathlib.Core.List.{List, ◌++◌}
use lib.ListN.{length, get_or, take, drop, length-append}
use lib.Seq.{take_at, drop_at}
use lib.Ieee.{Float}
use Rattle.order.specs.Lists.{rows_of}
use Rattle.limits.specs.Limits.{trial_rows_most}
use Rattle.order.proofs.Rows.{Sound}
use Rattle.refusals.specs.Buffers.{written}
use Rattle.columns.specs.Columns.{size, full_mask}
use Rattle.masks.specs.Internal.{CheckedTable}
use Rattle.runs.specs.Stepdown.{Outcome, full_run}
use Rattle.runs.specs.Tables.{table_start, table_run}
use Rattle.runs.specs.SetBy.{RecordSetBy}
use Rattle.runs.specs.declared.Record.{Record}
use Rattle.stepdown.proofs.Accepted as tables
use Rattle.balance.specs.Balance.{balanced_rows, balanced_table}
use Rattle.balance.proofs.Balanced.{balanced_rows-length, balanced-sound, balanced_table-length, balanced_table-rows}
use Rattle.ranking.specs.Internal.{Rankable}
use Rattle.tablebalance.specs.Answers.{balanced_run}
use Rattle.tablebalance.proofs.Accepted.{accepted-balanced}
use Rattle.tablebalance.proofs.Counted.{run-counts, balanced_run-rows}
use Rattle.trial.specs.Aside.{live_offers, live_mask}
use Rattle.trial.specs.Exchange.{row_total, trial_rows, table_of}
use Rattle.trial.specs.declared.Trial.{Trial}
use Rattle.trial.specs.declared.TableSize.{TableSize}
use Rattle.trial.specs.Refusals.{trial_refusal}
use Rattle.trial.proofs.Accepted.{Accepted, accepted}
use Rattle.trial.proofs.Aside.{live-length}
use Rattle.trial.proofs.Tables.{trial_rows-length, trial_rows-sound, table_of-length, table_of-rows, row_total-some}
use Rattle.std.proofs.Common.{Ok, Err}
use Rattle.refusals.specs.declared.refusal.Refusal.{Refusal}
use Rattle.trialrun.specs.TrialRuns.{trial_start, trial_run, run_size, run_table}
use Rattle.trialrun.proofs.Tabled.{changed, turned-buffer, rows_are, columns-are, same_total, good, filled, front, asked}
use Rattle.trialrun.proofs.Runs.{table-accepted, start-all}
use Rattle.trialrun.specs.Bars.{Remaining}
use Rattle.trialrun.proofs.Bars.{trial-set-by, trial-offer}
use Rattle.trialrun.proofs.Without.{Without, run-without, remaining_table, remaining-rows, remaining-length}
use Rattle.trialbalance.specs.TrialBalance.{trial_balanced, trial_balanced_run, run_balanced}
use Rattle.trialbalance.proofs.Parts.{balanced-part}

module _ (t : Trial) (table work : List Float) (s : TableSize) (q : run_size t (length table) (length work) ≡ Ok s) (w : List Float) (e : w ≡ run_table t table (length work)) where
  abbrev total : ℕ
  total = s.rows * s.columns

  pub few-rows : s.rows ≤ trial_rows_most
  unfolding row_total
  few-rows = omega (arith, rows_are t table work s q, (good t table work s q).laid.rows-most)

  pub rankable : Rankable (take total w) s.rows s.columns
  rankable =
      let acc = tables.accepted (table_of t) (row_total t) t.shape.offers t.shape.k t.level.a t.level.b 0 (table-accepted t (good t table work s q)) in
      let g = acc.shaped in
      rw (front t table work s q w e, rows_are t table work s q, columns-are t table work s q) (record { full = acc.full; finitely = acc.finitely; rows-most = g.rows-most; columns-some = g.columns-some; columns-most = g.columns-most })

  -- u is the table, ranked
  module _ (u : List Float) (r : u ≡ balanced_table (take total w) s.rows s.columns) where
    ranked : u ≡ trial_balanced t
    unfolding trial_balanced
    ranked = r ∙ asked t table work s q balanced_table (take total w) (table_of t) (front t table work s q w e)

    table-length : length (table_of t) ≡ total
    table-length = table_of-length t ∙ sym (same_total t table work s q)

    balanced-length : length (trial_balanced t) ≡ total
    unfolding trial_balanced
    balanced-length = balanced_table-length (table_of t) (row_total t) t.shape.offers (table_of-length t) ∙ sym (same_total t table work s q)

    pub table-room : total ≤ length (u ++ drop total w)
    table-room = omega (arith, length-append u (drop total w), ap length ranked, balanced-length)

    buffer : u ++ drop total w ≡ written (trial_balanced t) table
    buffer =
        ap₂ (λ (x y : List Float). x ++ y) ranked
        (ap (drop total) (filled t table work s q w e)
        ∙ drop_at (table_of t) (drop (length (table_of t)) table) total table-length
        ∙ ap (λ (n : ℕ). drop n table) (table-length ∙ sym balanced-length))

    pub table_is : take total (u ++ drop total w) ≡ trial_balanced t
    table_is = ap (take total) buffer ∙ take_at (trial_balanced t) (drop (length (trial_balanced t)) table) total balanced-length

    pub table-left : u ++ drop total w ≡ run_balanced t table (length work)
    unfolding run_balanced
    table-left = buffer ∙ sym (changed t table work s q (written (trial_balanced t) table) table)

-- the table buffer of a refused call, of either run
pub table-kept : (t : Trial) (table work : List Float) (r : Refusal) → run_size t (length table) (length work) ≡ Err r → run_table t table (length work) ≡ run_balanced t table (length work)
unfolding run_table run_balanced
table-kept t table work r q = turned-buffer t table work r q _ _ ∙ sym (turned-buffer t table work r q _ _)

-- ---- the balanced table of an accepted trial

module _ (t : Trial) where
  pub balanced-checked : Accepted t → CheckedTable (trial_balanced t) (row_total t) t.shape.offers t.shape.k
  unfolding trial_balanced
  balanced-checked acc =
      tables.accepted-checked (balanced_table (table_of t) (row_total t) t.shape.offers) (row_total t) t.shape.offers t.shape.k t.level.a t.level.b 0
      (tables.accepted (balanced_table (table_of t) (row_total t) t.shape.offers) (row_total t) t.shape.offers t.shape.k t.level.a t.level.b 0
      (accepted-balanced (table_of t) (row_total t) t.shape.offers t.shape.k t.level.a t.level.b 0 (table-accepted t acc)))

  pub balanced-rows : rows_of (row_total t) t.shape.offers (trial_balanced t) ≡ balanced_rows (trial_rows t)
  unfolding trial_balanced
  balanced-rows = balanced_table-rows (table_of t) (row_total t) t.shape.offers (table_of-length t) ∙ ap balanced_rows (table_of-rows t)

  pub balanced_run-table : trial_balanced_run t ≡ full_run (rows_of (row_total t) t.shape.offers (trial_balanced t)) (trial_start t)
  unfolding trial_balanced_run
  balanced_run-table = ap (λ (X : List (List Float)). full_run X (trial_start t)) (sym balanced-rows)

  pub nothing-aside : live_mask t ≡ full_mask t.shape.offers → trial_balanced_run t ≡ balanced_run (table_of t) (row_total t) t.shape.offers t.shape.k t.level.a t.level.b 0
  unfolding trial_balanced balanced_run table_run
  nothing-aside h = balanced_run-table ∙ ap (full_run (rows_of (row_total t) t.shape.offers (trial_balanced t))) (start-all t h)

  module _ (ok : trial_refusal t ≡ 0) where
    acc : Accepted t
    acc = accepted t ok

    few : length (trial_rows t) ≤ 2 ^ 53
    unfolding row_total
    few = omega (arith, trial_rows-length t, acc.laid.rows-most)

    ranked-sound : Sound t.shape.offers (balanced_rows (trial_rows t))
    ranked-sound = balanced-sound t.shape.offers (trial_rows t) (trial_rows-sound t acc) few

    ranked-length : length (balanced_rows (trial_rows t)) ≡ row_total t
    ranked-length = balanced_rows-length (trial_rows t) ∙ trial_rows-length t

    pub trial-counts : (trial_balanced_run t).counts ≡ (trial_run t).counts
    unfolding trial_balanced_run trial_run
    trial-counts = run-counts (trial_rows t) (trial_start t) (trial_rows-sound t acc) few (omega (arith, trial_rows-length t, row_total-some t acc))

    pub balanced-without : Without t (trial_balanced_run t) (balanced_run (remaining_table t) (row_total t) (size (live_offers t)) t.shape.k t.level.a t.level.b 0)
    unfolding trial_balanced_run
    balanced-without =
        let n = size (live_offers t) in
        let start = table_start (row_total t) n t.shape.k t.level.a t.level.b 0 in
        subst (λ (o : Outcome). Without t (full_run (balanced_rows (trial_rows t)) (trial_start t)) o)
        (ap (λ (Y : List (List Float)). full_run Y start)
        (balanced-part t.shape.offers (trial_rows t) (trial_rows-sound t acc) (live_offers t) (live-length t) ∙ ap balanced_rows (sym (remaining-rows t ok)))
        ∙ sym (balanced_run-rows (remaining_table t) (row_total t) n t.shape.k t.level.a t.level.b 0 (remaining-length t ok)))
        (run-without t acc (balanced_rows (trial_rows t)) ranked-sound ranked-length)

    -- who set its critical values
    module _ (i : ℕ) (h : i < length (trial_balanced_run t).records) (d : Record) where
      pub balanced-set-by : RecordSetBy (balanced_rows (trial_rows t)) (trial_start t) i (get_or (trial_balanced_run t).records i d)
      unfolding trial_balanced_run
      balanced-set-by = trial-set-by t acc (balanced_rows (trial_rows t)) ranked-sound ranked-length i h d

      pub balanced-offer : Remaining t (get_or (trial_balanced_run t).records i d)
      unfolding trial_balanced_run
      balanced-offer = trial-offer t acc (balanced_rows (trial_rows t)) ranked-sound ranked-length i h d
