-- A run followed from step to step, beside the list of its steps.
--   Followed          what holds after i steps: the trace has the first i of them, and the others are those from here on
--   follow-start, follow-turn, follow-end, follow-out
use Prim.Native.Nat.{ℕ, zero, suc, ◌+◌, ◌-◌, ◌≤◌, ◌<◌}
use native.Mathlib.Omega.{arith}
use native.Mathlib.Numerals.{add-one}
use mathlib.Core.Path.{◌≡◌, refl, sym, ap, ap₂, ◌∙◌, subst}
use mathlib.Core.Bool.{Bool, true, false, true≢false}
use mathlib.Core.List.{List, [], ◌∷◌, ◌++◌, map}
use lib.ListN.{length, get_or, take, drop, set, length-map}
use lib.Seq.{length-take-le}
use lib.Ieee.{Float}
use Rattle.order.specs.Lists.{rows_of, padded}
use Rattle.order.proofs.Lists.{map_more, set-padded}
use Rattle.runs.specs.Stepdown.{next, step, steps_from, steps_of}
use Rattle.runs.specs.FullRuns.{no_record}
use Rattle.runs.specs.declared.State.{State}
use Rattle.runs.specs.declared.Step.{Step}
use Rattle.engine.specs.Internal.{CanStep, trace_of, noted_at}
use Rattle.engine.specs.declared.tracing.Trace.{Trace}
use Rattle.engine.proofs.OneStep.{next-can}

-- ---- lists

head_at : {A : Type 0} (l : List A) (i : ℕ) (x : A) (xs : List A) → drop i l ≡ x ∷ xs → (i < length l) × (take (suc i) l ≡ take i l ++ (x ∷ [])) × (drop (suc i) l ≡ xs)
head_at [] zero x xs e = absurd (let z : ◌≡◌ {A = ℕ} 0 (suc (length xs)) = ap length e in omega arith)
head_at [] (suc i) x xs e = absurd (let z : ◌≡◌ {A = ℕ} 0 (suc (length xs)) = ap length e in omega arith)
head_at (y ∷ l) zero x xs e = (omega arith, ap (λ z. z ∷ []) (ap (λ z. get_or z 0 x) e), ap (drop 1) e)
head_at (y ∷ l) (suc i) x xs e = let h = head_at l i x xs e in (omega (arith, h.0), ap (λ z. y ∷ z) h.1, h.2)

none_after : {A : Type 0} (l : List A) (i : ℕ) → drop i l ≡ [] → take i l ≡ l
none_after [] zero e = refl
none_after [] (suc i) e = refl
none_after (y ∷ l) zero e = sym e
none_after (y ∷ l) (suc i) e = ap (λ z. y ∷ z) (none_after l i e)

-- ---- the steps from here on

from-ended : (X : List (List Float)) (m : ℕ) (b : Bool) (r : State) → b ≡ true → steps_from m b X r ≡ []
unfolding steps_from
from-ended X zero b r e = refl
from-ended X (suc m) true r e = refl
from-ended X (suc m) false r e = absurd (true≢false (sym e))

from-going : (X : List (List Float)) (m : ℕ) (b : Bool) (r : State) → 0 < m → b ≡ false → steps_from m b X r ≡ step X r ∷ steps_from (m - 1) (next X r).ended X (next X r)
unfolding steps_from
from-going X zero b r p e = absurd (omega arith)
from-going X (suc m) true r p e = absurd (true≢false e)
from-going X (suc m) false r p e = let z : suc m - 1 ≡ m = omega arith in ap (λ (n : ℕ). step X r ∷ steps_from n (next X r).ended X (next X r)) (sym z)

-- ---- followed for i steps

abbrev table_rows : List Float → State → List (List Float)
table_rows t r = rows_of r.rows r.columns t

pub record Followed (t : List Float) (start : State) (tr : Trace) (r : State) (i : ℕ) : Type 0 where
  pub same_rows : r.rows ≡ start.rows
  pub same-columns : r.columns ≡ start.columns
  pub at-step : r.steps ≡ i
  pub within : i ≤ 32
  pub long : i ≤ length (steps_of (table_rows t start) start)
  pub going : r.ended ≡ false → CanStep t r
  pub rest : steps_from (32 - i) r.ended (table_rows t start) r ≡ drop i (steps_of (table_rows t start) start)
  pub traced : tr ≡ trace_of (take i (steps_of (table_rows t start) start))

pub follow-start : (t : List Float) (start : State) → (start.ended ≡ false → CanStep t start) → start.steps ≡ 0 → Followed t start (trace_of []) start 0
unfolding steps_of
follow-start t start g z = record { same_rows = refl; same-columns = refl; at-step = z; within = omega arith; long = omega arith; going = g; rest = refl; traced = refl }

module _ (t : List Float) (start : State) (tr : Trace) (r : State) (i : ℕ) (f : Followed t start tr r i) where
  abbrev X : List (List Float)
  X = table_rows t start

  abbrev ss : List Step
  ss = steps_of X start

  same-table : table_rows t r ≡ X
  same-table = ap₂ (λ (m n : ℕ). rows_of m n t) f.same_rows f.same-columns

  -- nothing is to come
  pub follow-end : r.ended ≡ true → tr ≡ trace_of (steps_of (table_rows t start) start)
  follow-end e = f.traced ∙ ap trace_of (none_after ss i (sym f.rest ∙ from-ended X (32 - i) r.ended r e))

  pub follow-out : 32 ≤ i → tr ≡ trace_of (steps_of (table_rows t start) start)
  unfolding steps_from
  follow-out h = let z : 32 - i ≡ 0 = omega arith in f.traced ∙ ap trace_of (none_after ss i (sym f.rest ∙ ap (λ (m : ℕ). steps_from m r.ended X r) z))

  module _ (h : i < 32) (on : r.ended ≡ false) where
    here : drop i ss ≡ step X r ∷ steps_from (32 - i - 1) (next X r).ended X (next X r)
    here = sym f.rest ∙ from-going X (32 - i) r.ended r (omega arith) on

    rest-next : steps_from (32 - (i + 1)) (next X r).ended X (next X r) ≡ drop (i + 1) ss
    rest-next =
        let z : 32 - (i + 1) ≡ 32 - i - 1 = omega arith in
        ap (λ (m : ℕ). steps_from m (next X r).ended X (next X r)) z ∙ sym (head_at ss i (step X r) _ here).2 ∙ ap (λ (m : ℕ). drop m ss) (sym (add-one i))

    taken : take (i + 1) ss ≡ take i ss ++ (step X r ∷ [])
    taken = ap (λ (m : ℕ). take m ss) (add-one i) ∙ (head_at ss i (step X r) _ here).1

    -- an array that has a value of each of the first i steps, and then of one step more
    filled : {A : Type 0} (d : A) (g : Step → A) → set (padded 32 d (map g (take i ss))) i (g (step X r)) ≡ padded 32 d (map g (take i ss ++ (step X r ∷ [])))
    filled d g =
        set-padded 32 d (map g (take i ss)) i (g (step X r)) (length-map (take i ss) g ∙ length-take-le i ss f.long) h
        ∙ ap (padded 32 d) (sym (map_more g (take i ss) (step X r)))

    traced-next : noted_at tr i (step X r) ≡ trace_of (take (i + 1) ss)
    unfolding trace_of
    traced-next =
        ap (λ (x : Trace). noted_at x i (step X r)) f.traced
        ∙ (λ j. record { steps = count j; records = filled no_record (λ s. s.logged) j; sets = filled 0 (λ s. s.state.rejected) j })
        ∙ ap trace_of (sym taken)
      where
        count : i + 1 ≡ length (take i ss ++ (step X r ∷ []))
        count = sym (simp lib.ListN.length-append (omega (arith, length-take-le i ss f.long)))

    next-followed : Followed t start (noted_at tr i (step X r)) (next X r) (i + 1)
    unfolding next
    next-followed = record {
      same_rows = f.same_rows;
      same-columns = f.same-columns;
      at-step = ap (λ (n : ℕ). n + 1) f.at-step;
      within = omega arith;
      long = omega (arith, (head_at ss i (step X r) _ here).0);
      going = λ q. subst (λ (Y : List (List Float)). CanStep t (next Y r)) same-table (next-can t r (f.going on) (ap (λ (Y : List (List Float)). (next Y r).ended) same-table ∙ q) (omega (arith, f.at-step)));
      rest = rest-next;
      traced = traced-next;
    }

    pub follow-turn : (s : Step) (tr' : Trace) (r' : State) → s ≡ step (table_rows t r) r → tr' ≡ noted_at tr i s → r' ≡ s.state → Followed t start tr' r' (i + 1)
    follow-turn s tr' r' e p q =
        let e' : s ≡ step X r = e ∙ ap (λ (Y : List (List Float)). step Y r) same-table in
        subst (λ (x : Trace). Followed t start x r' (i + 1)) (sym (p ∙ ap (noted_at tr i) e')) (subst (λ (x : State). Followed t start (noted_at tr i (step X r)) x (i + 1)) (sym (q ∙ ap (λ (x : Step). x.state) e')) next-followed)

-- ---- the work buffer

pub kept-room : {t : List Float} {start : State} {tr : Trace} {r : State} {i : ℕ} {n : ℕ} → Followed t start tr r i → start.rows ≤ n → r.rows ≤ n
kept-room f h = omega (arith, f.same_rows)

pub kept-beyond : {t : List Float} {start : State} {tr : Trace} {r : State} {i : ℕ} (w w' w₀ : List Float) → Followed t start tr r i → drop r.rows w' ≡ drop r.rows w → drop start.rows w ≡ drop start.rows w₀ → drop start.rows w' ≡ drop start.rows w₀
kept-beyond w w' w₀ f p q = ap (λ (n : ℕ). drop n w') (sym f.same_rows) ∙ p ∙ ap (λ (n : ℕ). drop n w) f.same_rows ∙ q
