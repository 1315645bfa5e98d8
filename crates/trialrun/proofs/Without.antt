-- Demand 2 over the offers that remain (document 02, §4): the full run of a trial is that of its table without the columns of the offers that are set aside.
--   Without t o r      the records of o are those of r, their offers counted in the trial; and of the offers that remain, in their order, verdicts and counts
--   run-without        so it is for the full run of X without the other columns
--   remaining_table t  the table of the offers that remain; its rows, its length, and that it is accepted where k or more remain: remaining-..
--   trial-without      the full run of the trial is that of this table
use Prim.Native.Nat.{◌*◌, ◌≤◌, ◌<◌}
use native.Mathlib.Omega.{arith}
use mathlib.Core.Path.{◌≡◌, sym, ◌∙◌, subst}
use mathlib.Core.List.{List, map}
use lib.ListN.{length, length-map}
use lib.Ieee.{Float}
use Rattle.order.specs.Lists.{rows_of, joined}
use Rattle.order.proofs.Rows.{Sound}
use Rattle.refusals.specs.Limits.{allowance}
use Rattle.columns.specs.Columns.{Columns, size, within}
use Rattle.columns.proofs.Sets.{size-length}
use Rattle.runs.specs.Stepdown.{Outcome, full_run}
use Rattle.runs.specs.Tables.{table_start, table_run}
use Rattle.runs.proofs.Without.{counted, rest-sound, records-without, verdicts-without, counts-without}
use Rattle.stepdown.specs.Refusals.{table_refusal}
use Rattle.trial.specs.Aside.{live_offers, live_mask}
use Rattle.trial.specs.Exchange.{row_total, trial_rows}
use Rattle.trial.specs.Refusals.{trial_refusal}
use Rattle.trial.specs.declared.Trial.{Trial}
use Rattle.trial.proofs.Accepted.{Accepted, accepted}
use Rattle.trial.proofs.Aside.{live-length, live-columns}
use Rattle.trial.proofs.Tables.{trial_rows-length, trial_rows-sound}
use Rattle.trialrun.specs.TrialRuns.{trial_start, trial_run}
use Rattle.trialrun.proofs.Bars.{some-row, few-rows}
use Rattle.trialrun.proofs.Runs.{rows-again, joined_is, rows-accepted}

module _ (t : Trial) where
  -- o is what a run of the trial tells of all offers, and r what one of the remaining offers tells of them
  pub record Without (o r : Outcome) : Type 0 where
    pub records : o.records ≡ map (counted (live_offers t)) r.records
    pub verdicts : within (live_offers t) o.verdicts ≡ r.verdicts
    pub counts : within (live_offers t) o.counts ≡ r.counts

  module _ (acc : Accepted t) (X : List (List Float)) (sound : Sound t.shape.offers X) (tall : length X ≡ row_total t) where
    some : 0 < length X
    some = some-row t acc X sound tall

    abbrev alone : Columns → Outcome
    alone L = full_run (map (within L) X) (table_start (row_total t) (size L) t.shape.k t.level.a t.level.b 0)

    abbrev full : Outcome
    full = full_run X (trial_start t)

    pub run-without : Without (full_run X (trial_start t)) (full_run (map (within (live_offers t)) X) (table_start (row_total t) (size (live_offers t)) t.shape.k t.level.a t.level.b 0))
    run-without =
        let e = allowance (row_total t) t.level.a t.level.b in
        record {
          records = subst (λ (L : Columns). full.records ≡ map (counted L) (alone L).records) (live-columns t) (records-without X (row_total t) t.shape.offers t.shape.k e 0 (live_mask t) sound some acc.k-some (few-rows t acc X sound tall));
          verdicts = subst (λ (L : Columns). within L full.verdicts ≡ (alone L).verdicts) (live-columns t) (verdicts-without X (row_total t) t.shape.offers t.shape.k e 0 (live_mask t) sound some);
          counts = subst (λ (L : Columns). within L full.counts ≡ (alone L).counts) (live-columns t) (counts-without X (row_total t) t.shape.offers t.shape.k e 0 (live_mask t) sound some);
        }

  -- ---- as a table: the call for tables takes it where k offers or more remain

  abbrev L : Columns
  L = live_offers t

  abbrev rest : List (List Float)
  rest = map (within (live_offers t)) (trial_rows t)

  abbrev pub remaining_table : List Float
  remaining_table = joined (map (within (live_offers t)) (trial_rows t))

  module _ (ok : trial_refusal t ≡ 0) where
    acc : Accepted t
    acc = accepted t ok

    rest-tall : length (map (within (live_offers t)) (trial_rows t)) ≡ row_total t
    rest-tall = length-map (trial_rows t) (within L) ∙ trial_rows-length t

    rest-rows : Sound (size (live_offers t)) (map (within (live_offers t)) (trial_rows t))
    rest-rows = rest-sound (trial_rows t) t.shape.offers (trial_rows-sound t acc) L (live-length t) (trial_rows t) (trial_rows-sound t acc)

    pub remaining-rows : rows_of (row_total t) (size (live_offers t)) (joined (map (within (live_offers t)) (trial_rows t))) ≡ map (within (live_offers t)) (trial_rows t)
    remaining-rows = rows-again t acc (size L) rest rest-tall rest-rows

    pub remaining-length : length (joined (map (within (live_offers t)) (trial_rows t))) ≡ row_total t * size (live_offers t)
    remaining-length = joined_is t acc (size L) rest rest-tall rest-rows

    pub remaining-accepted : t.shape.k ≤ size (live_offers t) → table_refusal (joined (map (within (live_offers t)) (trial_rows t))) (row_total t) (size (live_offers t)) t.shape.k t.level.a t.level.b 0 ≡ 0
    remaining-accepted held = rows-accepted t acc (size L) rest rest-tall rest-rows held (omega (arith, size-length L, live-length t))

    pub trial-without : Without (trial_run t) (table_run (joined (map (within (live_offers t)) (trial_rows t))) (row_total t) (size (live_offers t)) t.shape.k t.level.a t.level.b 0)
    unfolding trial_run table_run
    trial-without =
        subst (λ (Y : List (List Float)). Without (full_run (trial_rows t) (trial_start t)) (full_run Y (table_start (row_total t) (size L) t.shape.k t.level.a t.level.b 0))) (sym remaining-rows)
        (run-without acc (trial_rows t) (trial_rows-sound t acc) (trial_rows-length t))
