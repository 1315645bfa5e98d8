-- Who set the critical values of a trial's full run. Definitions only.
--   Remaining t m     the row of a record is one of the trial's rows, from 0, and its offer, from 1, one of the trial's that is not set aside
use Rattle.std.specs.Prelude.{◌-◌, ◌≤◌, ◌<◌, ◌≡◌, false}
use Rattle.runs.specs.declared.Record.{Record}
use Rattle.trial.specs.Designs.{untested}
use Rattle.trial.specs.Exchange.{figures_at, row_total}
use Rattle.trial.specs.declared.Trial.{Trial}

pub record Remaining (t : Trial) (m : Record) : Type 0 where
  pub row_below : m.row < row_total t
  pub offer-some : 0 < m.offer
  pub offer-most : m.offer ≤ t.shape.offers
  pub tested : untested t.shape.design (figures_at t (m.offer - 1)) ≡ false
