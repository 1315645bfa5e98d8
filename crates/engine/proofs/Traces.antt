-- All steps of a run, place by place.
--   look-..         a verdict read off a trace, step by step
--   told-live, told-aside     what is told of a column by whether it is live
use Prim.Native.Nat.{ℕ, ◌+◌, ◌/◌, ◌%◌, ◌^◌, ◌≤◌, ◌<◌}
use native.Mathlib.Omega.{arith}
use native.Mathlib.Numerals.{add-one}
use mathlib.Core.Path.{◌≡◌, refl, sym, ap, ap₂, ◌∙◌}
use mathlib.Core.Bool.{Bool, cond}
use mathlib.Core.List.{List, ◌∷◌}
use lib.ListN.{length, get_or, take, drop, length-take, drop_of_length-le}
use lib.Seq.{drop-cons, get_or-take, length-take-le}
use lib.Ieee.{Float, nan}
use borrow.Author.Tests.{eq-eqb, ne_eqb}
use Rattle.order.specs.Order.{plus_zero}
use Rattle.columns.specs.Columns.{in_set}
use Rattle.runs.specs.declared.Record.{Record}
use Rattle.runs.specs.declared.Verdict.{Verdict}
use Rattle.runs.specs.declared.Verdict.TheVariants.{Rejected, Kept}
use Rattle.engine.specs.Internal.{Traced, verdict_over, verdict_in}
use Rattle.engine.specs.declared.tracing.Trace.{Trace}

-- ---- a verdict

-- the verdict that the steps from i on give, after the critical value `last`
abbrev pub look_from : Trace → ℕ → Float → ℕ → Verdict
look_from t i last j = verdict_over last (drop i (take t.steps t.records)) (drop i (take t.steps t.sets)) j

-- what a read beyond the records gives
abbrev blank : Record
blank = record { step = 0; critical = nan; row = 0; offer = 0 }

module _ (t : Trace) (i j : ℕ) (last : Float) (d : Traced t) (h : i < t.steps) where
  abbrev rec : Record
  rec = get_or t.records i blank

  look-more : look_from t i last j ≡ cond (in_set (get_or t.sets i 0) j) (Rejected rec.step rec.critical) (look_from t (i + 1) rec.critical j)
  look-more = ap₂ (λ (rs : List Record) (ss : List ℕ). verdict_over last rs ss j) front (front-sets)
    where
      r-length : length (take t.steps t.records) ≡ t.steps
      r-length = length-take-le t.steps t.records (omega (arith, d.steps-most, d.records-32))

      s-length : length (take t.steps t.sets) ≡ t.steps
      s-length = length-take-le t.steps t.sets (omega (arith, d.steps-most, d.sets-32))

      front : drop i (take t.steps t.records) ≡ rec ∷ drop (i + 1) (take t.steps t.records)
      front = drop-cons (take t.steps t.records) i blank (omega (arith, r-length))
          ∙ ap₂ (λ (x : Record) (n : ℕ). x ∷ drop n (take t.steps t.records)) (get_or-take t.steps t.records i blank h) (sym (add-one i))

      front-sets : drop i (take t.steps t.sets) ≡ get_or t.sets i 0 ∷ drop (i + 1) (take t.steps t.sets)
      front-sets = drop-cons (take t.steps t.sets) i 0 (omega (arith, s-length)) ∙ ap₂ (λ (x n : ℕ). x ∷ drop n (take t.steps t.sets)) (get_or-take t.steps t.sets i 0 h) (sym (add-one i))

  pub look_hit : (r : Record) → r ≡ rec → get_or t.sets i 0 / 2 ^ j % 2 ≡ 1 → verdict_in t j ≡ look_from t i last j → Rejected r.step r.critical ≡ verdict_in t j
  look_hit r q e v = sym (v ∙ look-more ∙ ap (λ (b : Bool). cond b (Rejected rec.step rec.critical) (look_from t (i + 1) rec.critical j)) (eq-eqb (get_or t.sets i 0 / 2 ^ j % 2) 1 e) ∙ ap (λ (x : Record). Rejected x.step x.critical) (sym q))

  pub look-on : (r : Record) → r ≡ rec → (get_or t.sets i 0 / 2 ^ j % 2 ≡ 1 → ⊥) → verdict_in t j ≡ look_from t i last j → verdict_in t j ≡ look_from t (i + 1) r.critical j
  look-on r q e v = v ∙ look-more ∙ ap (λ (b : Bool). cond b (Rejected rec.step rec.critical) (look_from t (i + 1) rec.critical j)) (ne_eqb (get_or t.sets i 0 / 2 ^ j % 2) 1 e) ∙ ap (λ (x : Record). look_from t (i + 1) x.critical j) (sym q)

pub look-start : (t : Trace) (j : ℕ) → verdict_in t j ≡ look_from t 0 plus_zero j
unfolding verdict_in
look-start t j = refl

pub look-end : (t : Trace) (i j : ℕ) (last : Float) (n : ℕ) → Traced t → n ≡ t.steps → n ≤ i → verdict_in t j ≡ look_from t i last j → Kept last ≡ verdict_in t j
look-end t i j last n d e h v = sym (v ∙ ap (λ (rs : List Record). verdict_over last rs (drop i (take t.steps t.sets)) j) (drop_of_length-le (take t.steps t.records) {i = i} (simp length-take (omega arith))))

-- ---- live columns

pub told-live : {A : Type 0} (live j : ℕ) (v x y : A) → live / 2 ^ j % 2 ≡ 1 → v ≡ x → v ≡ cond (in_set live j) x y
told-live live j v x y h e = e ∙ sym (ap (λ (b : Bool). cond b x y) (eq-eqb (live / 2 ^ j % 2) 1 h))

pub told-aside : {A : Type 0} (live j : ℕ) (x y : A) → (live / 2 ^ j % 2 ≡ 1 → ⊥) → y ≡ cond (in_set live j) x y
told-aside live j x y h = sym (ap (λ (b : Bool). cond b x y) (ne_eqb (live / 2 ^ j % 2) 1 h))
