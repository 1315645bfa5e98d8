-- Who set a critical value, as facts that are checked without looking for it. Definitions only.
--   SetBy k e X Ks m     what a record tells is true of the sets Ks that its step looked at, in their order: a set of them gives the critical value, those before it
--                        a smaller one, and none a larger one; over that set the row's k-max equals it, and no lower row's does; the offer, counted from 1, is in the set, its value in that row equals it,
--                        and no lower one of the set has that
--   after n X s          the state after n steps from s
--   RecordSetBy X s i m  that of the record m of step i + 1 of the run that begins with s: the columns rejected till then are those of the state after i steps
use Rattle.std.specs.Prelude.{ℕ, zero, suc, ◌+◌, ◌-◌, ◌<◌, ◌≡◌, false, List, [], length, get_or, T, Float}
use Rattle.std.specs.Float.{nan}
use Rattle.order.specs.Order.{smaller, at_most, equal}
use Rattle.columns.specs.Columns.{Columns}
use Rattle.method.specs.Method.{k_max, critical_value}
use Rattle.runs.specs.Stepdown.{live_set, rejected_set, step_sets, next}
use Rattle.runs.specs.declared.State.{State}
use Rattle.runs.specs.declared.Record.{Record}

pub record SetBy (k e : ℕ) (X : List (List Float)) (Ks : List Columns) (m : Record) : Type 0 where
  pub place : ℕ
  pub walked : place < length Ks
  pub gives : critical_value k e X (get_or Ks place []) ≡ m.critical
  pub earlier : (i : ℕ) → i < place → T (smaller (critical_value k e X (get_or Ks i [])) m.critical)
  pub largest : (i : ℕ) → i < length Ks → T (at_most (critical_value k e X (get_or Ks i [])) m.critical)
  pub row_below : m.row < length X
  pub row-equals : T (equal m.critical (k_max k (get_or Ks place []) (get_or X m.row [])))
  pub row-lowest : (g : ℕ) → g < m.row → equal m.critical (k_max k (get_or Ks place []) (get_or X g [])) ≡ false
  pub offer-some : 0 < m.offer
  pub offer-in : T (get_or (get_or Ks place []) (m.offer - 1) false)
  pub offer-equals : T (equal m.critical (get_or (get_or X m.row []) (m.offer - 1) nan))
  pub offer-lowest : (j : ℕ) → j < m.offer - 1 → T (get_or (get_or Ks place []) j false) → equal m.critical (get_or (get_or X m.row []) j nan) ≡ false

-- ---- in a full run

unfoldable pub after : ℕ → List (List Float) → State → State
unfolding next
after zero X s = s
after (suc n) X s = after n X (next X s)

abbrev pub RecordSetBy : List (List Float) → State → ℕ → Record → Type 0
RecordSetBy X s i m = (m.step ≡ i + 1) × SetBy s.k s.e X (step_sets s.k (live_set s) (rejected_set (after i X s)) i) m
