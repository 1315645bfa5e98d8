-- Laws of a layout as numbers.
--   numbers-of              the numbers of a layout whose case is known
--   one_by_one              they are the three that the code hands out
--   of-pairs, of-shops      the layout of numbers, by the kind
--   laid-out-as             the trial of numbers and arrays
use Prim.Native.Nat.{ℕ}
use mathlib.Core.Path.{◌≡◌, refl, sym, ap, ◌∙◌}
use mathlib.Core.Bool.{Bool, cond}
use mathlib.Core.List.{List, [], ◌∷◌}
use lib.ListN.{get_or}
use lib.IntN.{ℤ}
use borrow.Author.Tests.{eq-eqb, ne_eqb}
use Rattle.trial.specs.declared.Design.{Design}
use Rattle.trial.specs.declared.Design.TheVariants.{Paired, Unpaired}
use Rattle.benchcalls.specs.Calls.{layout_numbers, design_from, trial_from}

pub numbers-of : (d e : Design) → d ≡ e → layout_numbers e ≡ layout_numbers d
numbers-of d e q = ap layout_numbers (sym q)

-- the three of them, taken one by one
three : (d : Design) → get_or (layout_numbers d) 0 0 ∷ get_or (layout_numbers d) 1 0 ∷ get_or (layout_numbers d) 2 0 ∷ [] ≡ layout_numbers d
unfolding layout_numbers
three (Paired n) = refl
three (Unpaired n t) = refl

pub one_by_one : (d : Design) (l : List ℕ) → l ≡ layout_numbers d → get_or l 0 0 ∷ get_or l 1 0 ∷ get_or l 2 0 ∷ [] ≡ layout_numbers d
one_by_one d l e = ap (λ (x : List ℕ). get_or x 0 0 ∷ get_or x 1 0 ∷ get_or x 2 0 ∷ []) e ∙ three d

module _ (kind units treated : ℕ) where
  pub of-pairs : kind ≡ 2 → Paired units ≡ design_from kind units treated
  unfolding design_from
  of-pairs h = ap (λ (b : Bool). cond b (Paired units) (Unpaired units treated)) (sym (eq-eqb kind 2 h))

  pub of-shops : (kind ≡ 2 → ⊥) → Unpaired units treated ≡ design_from kind units treated
  unfolding design_from
  of-shops h = ap (λ (b : Bool). cond b (Paired units) (Unpaired units treated)) (sym (ne_eqb kind 2 h))

-- a trial of numbers whose layout is known
pub laid-out-as : (ns codes digits : List ℕ) (figures : List ℤ) (d : Design) → d ≡ design_from (get_or ns 4 0) (get_or ns 5 0) (get_or ns 6 0)
    → record {
      level = record { a = get_or ns 0 0; b = get_or ns 1 0 };
      shape = record { k = get_or ns 2 0; offers = get_or ns 3 0; design = d };
      labels = record { codes = codes; digits = digits };
      figures = figures;
    } ≡ trial_from ns codes digits figures
laid-out-as ns codes digits figures d q = ap (λ (e : Design). record {
  level = record { a = get_or ns 0 0; b = get_or ns 1 0 };
  shape = record { k = get_or ns 2 0; offers = get_or ns 3 0; design = e };
  labels = record { codes = codes; digits = digits };
  figures = figures;
}) q
