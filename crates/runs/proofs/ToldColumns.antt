-- What a full run tells of each column: one that is not live is set aside.
--   verdicts-length, counts-length     there is a verdict and a count for each column
--   verdict-told, count-told      the verdict and the count of column j
--   verdict-live, count-live      of a live one: the verdict of the steps, and its count
--   verdict-aside, count-aside    of another: set aside, with no count
--   rejected-told                 what is rejected is live, and a step rejects it
--   aside-exactly                 a column is told as set aside exactly where it is not live
--   table-tested                  no column of a table is set aside
--   verdict-held, count_held      the verdict and the count of a column in the run that is answered
--   few-records, few-kept         where fewer than k columns are live there is no step, and each of them is kept with plus zero
use Prim.Native.Nat.{ℕ, ◌-◌, ◌<◌}
use mathlib.Core.Path.{◌≡◌, refl, sym, ap, ◌∙◌}
use mathlib.Core.Bool.{Bool, true, false, not, cond, ◌&&◌}
use mathlib.Core.List.{List, [], ◌∷◌, map}
use lib.ListN.{length, get_or, replicate, get_or-append}
use lib.Ieee.{Float, nan}
use borrow.Author.Tests.{lt-ltb}
use Rattle.order.specs.Order.{plus_zero}
use Rattle.order.specs.Lists.{rows_of}
use Rattle.order.proofs.Lists.{tabulate-length, tabulate-get_d}
use Rattle.columns.specs.Columns.{Columns, size, in_set, columns_of, full_mask}
use Rattle.columns.proofs.Sets.{has, has_all}
use Rattle.columns.proofs.Masks.{has-columns_of, full-columns}
use Rattle.method.specs.Method.{at_least}
use Rattle.runs.specs.Stepdown.{first_state, steps_from, steps_of, verdict_from, verdict_of, verdict_at, count_at, Outcome, full_run}
use Rattle.runs.specs.Tables.{table_start, table_run}
use Rattle.runs.specs.FullRuns.{accepted_run, is_rejected, is_aside}
use Rattle.runs.specs.declared.State.{State}
use Rattle.runs.specs.declared.Step.{Step}
use Rattle.runs.specs.declared.Verdict.{Verdict}
use Rattle.runs.specs.declared.Verdict.TheVariants.{Rejected, Kept, Aside}

only-live : (c : Bool) (v : Verdict) → is_rejected (cond c v Aside) ≡ (c && is_rejected v)
only-live true v = refl
only-live false v = refl

pub verdicts-length : (X : List (List Float)) (s : State) → length (full_run X s).verdicts ≡ s.columns
unfolding full_run
verdicts-length X s = tabulate-length s.columns (λ j. verdict_at s (steps_of X s) j)

pub counts-length : (X : List (List Float)) (s : State) → length (full_run X s).counts ≡ s.columns
unfolding full_run
counts-length X s = tabulate-length s.columns (λ j. count_at X s j)

module _ (X : List (List Float)) (s : State) (j : ℕ) (h : j < s.columns) (d : Verdict) where
  pub verdict-told : get_or (full_run X s).verdicts j d ≡ verdict_at s (steps_of X s) j
  unfolding full_run
  verdict-told = tabulate-get_d s.columns (λ j. verdict_at s (steps_of X s) j) j d h

  pub verdict-live : in_set s.live j ≡ true → get_or (full_run X s).verdicts j d ≡ verdict_of (steps_of X s) j
  verdict-live q = verdict-told ∙ ap (λ (b : Bool). cond b (verdict_of (steps_of X s) j) Aside) q

  pub verdict-aside : in_set s.live j ≡ false → get_or (full_run X s).verdicts j d ≡ Aside
  verdict-aside q = verdict-told ∙ ap (λ (b : Bool). cond b (verdict_of (steps_of X s) j) Aside) q

  pub rejected-told : is_rejected (get_or (full_run X s).verdicts j d) ≡ (in_set s.live j && is_rejected (verdict_of (steps_of X s) j))
  rejected-told = ap is_rejected verdict-told ∙ only-live (in_set s.live j) (verdict_of (steps_of X s) j)

module _ (X : List (List Float)) (s : State) (j : ℕ) (h : j < s.columns) where
  pub count-told : get_or (full_run X s).counts j 0 ≡ count_at X s j
  unfolding full_run
  count-told = tabulate-get_d s.columns (λ j. count_at X s j) j 0 h

  pub count-live : in_set s.live j ≡ true → get_or (full_run X s).counts j 0 ≡ at_least X (get_or (get_or X s.observed []) j nan) j
  count-live q = count-told ∙ ap (λ (b : Bool). cond b (at_least X (get_or (get_or X s.observed []) j nan) j) 0) q

  pub count-aside : in_set s.live j ≡ false → get_or (full_run X s).counts j 0 ≡ 0
  count-aside q = count-told ∙ ap (λ (b : Bool). cond b (at_least X (get_or (get_or X s.observed []) j nan) j) 0) q

-- no step sets a column aside
never-aside : (last : Float) (ss : List Step) (j : ℕ) → is_aside (verdict_from last ss j) ≡ false
never-aside last [] j = refl
never-aside last (s ∷ ss) j = go (in_set s.state.rejected j) (never-aside s.logged.critical ss j)
  where
    go : (b : Bool) → is_aside (verdict_from s.logged.critical ss j) ≡ false → is_aside (cond b (Rejected s.logged.step s.logged.critical) (verdict_from s.logged.critical ss j)) ≡ false
    go true q = refl
    go false q = q

pub aside-exactly : (X : List (List Float)) (s : State) (j : ℕ) → j < s.columns → (d : Verdict) → is_aside (get_or (full_run X s).verdicts j d) ≡ not (in_set s.live j)
unfolding verdict_of
aside-exactly X s j h d = ap is_aside (verdict-told X s j h d) ∙ go (in_set s.live j)
  where
    go : (b : Bool) → is_aside (cond b (verdict_of (steps_of X s) j) Aside) ≡ not b
    go true = never-aside plus_zero (steps_of X s) j
    go false = refl

pub table-tested : (t : List Float) (rows columns k a b observed j : ℕ) → j < columns → (d : Verdict) → is_aside (get_or (table_run t rows columns k a b observed).verdicts j d) ≡ false
unfolding table_run
table-tested t rows columns k a b observed j h d =
    aside-exactly (rows_of rows columns t) (table_start rows columns k a b observed) j h d
    ∙ ap not (sym (has-columns_of columns (full_mask columns) j h) ∙ ap (λ (K : Columns). has K j) (full-columns columns) ∙ has_all columns j h)

-- ---- fewer than k live columns

module _ (X : List (List Float)) (rows columns k e observed live : ℕ) (few : size (columns_of columns live) < k) where
  abbrev first : State
  first = first_state rows columns k e observed live

  no_steps : steps_of X (first_state rows columns k e observed live) ≡ []
  unfolding steps_of steps_from
  no_steps = ap (λ (b : Bool). steps_from 32 b X first) (lt-ltb (size (columns_of columns live)) k few)

  pub few-records : (full_run X (first_state rows columns k e observed live)).records ≡ []
  unfolding full_run
  few-records = ap (map (λ s. s.logged)) no_steps

  pub few-kept : (j : ℕ) → j < columns → in_set live j ≡ true → (d : Verdict) → get_or (full_run X (first_state rows columns k e observed live)).verdicts j d ≡ Kept plus_zero
  unfolding verdict_of
  few-kept j h q d = verdict-live X first j h d q ∙ ap (λ (ss : List Step). verdict_of ss j) no_steps

-- ---- the run that is answered

module _ (o : Outcome) (i : ℕ) where
  pub verdict-held : i < length o.verdicts → (d : Verdict) → get_or (accepted_run o).verdicts i d ≡ get_or o.verdicts i d
  unfolding accepted_run
  verdict-held h d = get_or-append o.verdicts (replicate (32 - length o.verdicts) (Kept plus_zero)) d i h

  pub count_held : i < length o.counts → get_or (accepted_run o).counts i 0 ≡ get_or o.counts i 0
  unfolding accepted_run
  count_held h = get_or-append o.counts (replicate (32 - length o.counts) 0) 0 i h
