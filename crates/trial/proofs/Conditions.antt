-- Laws by which the checks of a record are proved.
--   earlier_any                      an earlier number, looked for in the order of the record (6)
--   offer_beyond                     beyond the last place
--   offer-same                       numbers and digits that agree are judged alike
--   difference_low, difference-high  a difference out of range, tested at each end (7)
--   figures_any                      figures are turned away where one of them is
--   heading_err, offers_err, figures_left     a record is turned away for its heading, then for its offers, then for its figures
--   places_held                      past the heading, no more offers and figures than the record has places for
use Prim.Native.Nat.{ℕ, zero, suc, ◌≤◌, ◌<◌}
use native.Mathlib.Numerals.{add-one}
use native.Mathlib.Omega.{arith}
use mathlib.Core.Path.{◌≡◌, refl, sym, ap, ap₂, ◌∙◌, subst}
use mathlib.Core.Bool.{Bool, true, false, cond, ◌||◌}
use mathlib.Core.List.{List, [], ◌∷◌, ◌++◌}
use lib.ListN.{length, get_or, take, get_or-eq_default}
use lib.Seq.{get_or-take, length-take-le}
use lib.Dec.{T, eqb, eqb-zero-suc, eqb-suc-zero, eqb-suc-suc}
use lib.IntN.{ℤ, pos, negsuc}
use lib.Signed.{lt_z}
use borrow.Author.Tests.{ltb-true, ltb-false, lt-ltb, le-ltb}
use Rattle.std.proofs.Common.{Result, Ok, Err}
use Rattle.std.specs.List.{list_any}
use Rattle.std.proofs.lemmas.List.Folds.{list_any_more}
use Rattle.limits.specs.Limits.{offers_most, units_most, difference_most}
use Rattle.refusals.specs.Answers.{r3, r7, Checks, places_from, outcome, refused_where}
use Rattle.refusals.specs.Limits.{bad_level}
use Rattle.refusals.specs.declared.refusal.Refusal.{Refusal}
use Rattle.refusals.specs.declared.refusal.Refusal.TheVariants.{Digits, Figure}
use Rattle.refusals.proofs.Answers.{none-append, ok-none, ok-append, err-append}
use Rattle.refusals.proofs.Places.{places_same}
use Rattle.refusals.proofs.Limits.{fitting}
use Rattle.trial.specs.Designs.{design_checks, units_of}
use Rattle.trial.specs.Record.{figure_count, setting_of, figures_of}
use Rattle.trial.specs.Refusals.{bad_digits, among, bad_difference, heading_checks, earlier, offer_checks, figure_checks, nth, content_checks, trial_checks}
use Rattle.trial.specs.declared.Level.{Level}
use Rattle.trial.specs.declared.Shape.{Shape}
use Rattle.trial.specs.declared.Trial.{Trial}
use Rattle.trial.proofs.LaidOut.{laid_out}
use Rattle.trial.proofs.Places.{places_shift}

-- ---- 6

-- two numbers are equal in either order
eqb-turn : (m n : ℕ) → eqb m n ≡ eqb n m
eqb-turn zero zero = refl
eqb-turn zero (suc n) = eqb-zero-suc n ∙ sym (eqb-suc-zero n)
eqb-turn (suc m) zero = eqb-suc-zero m ∙ sym (eqb-zero-suc m)
eqb-turn (suc m) (suc n) = eqb-suc-suc m n ∙ eqb-turn m n ∙ sym (eqb-suc-suc n m)

or-turn : (b c : Bool) → (b || c) ≡ (c || b)
or-turn true true = refl
or-turn true false = refl
or-turn false true = refl
or-turn false false = refl

-- the first i numbers, in the order of the record
pub earlier_any : (xs : List ℕ) (c i : ℕ) → i ≤ length xs → list_any (λ y. eqb y c) (take i xs) ≡ among c (earlier (nth xs 0) i)
unfolding among earlier
earlier_any xs c zero h = refl
earlier_any xs c (suc i) h =
    ap (λ (j : ℕ). list_any (λ y. eqb y c) (take j xs)) (sym (add-one i)) ∙ list_any_more (λ y. eqb y c) xs i 0 (omega arith)
    ∙ or-turn (list_any (λ y. eqb y c) (take i xs)) (eqb (get_or xs i 0) c)
    ∙ ap₂ ◌||◌ (eqb-turn (get_or xs i 0) c) (earlier_any xs c i (omega arith))

-- beyond the last place no digits are printed
zero-digits : (c : ℕ) → bad_digits c 0 ≡ true
unfolding bad_digits
zero-digits c = refl

-- one condition that refuses
pub refused_is : {r e : Refusal} (b : Bool) → Err e ≡ refused_where b r → (b ≡ true) × (e ≡ r)
refused_is true h = (refl, cc)
refused_is false h = cc

pub offer_beyond : (codes digits : List ℕ) (i : ℕ) → length digits ≤ i → outcome (offer_checks (nth codes 0) (nth digits 0) i) (tt {0}) ≡ Err Digits
offer_beyond codes digits i h = rw (get_or-eq_default digits 0 h, zero-digits (get_or codes i 0))

-- numbers and digits that agree are judged alike
module _ (f g d e : ℕ → ℕ) (n : ℕ) (h : (j : ℕ) → j < n → f j ≡ g j) (k : (j : ℕ) → j < n → d j ≡ e j) where
  earlier-same : (i : ℕ) → i ≤ n → earlier f i ≡ earlier g i
  unfolding earlier
  earlier-same zero l = refl
  earlier-same (suc i) l = ap₂ (λ (x : ℕ) (xs : List ℕ). x ∷ xs) (h i (omega arith)) (earlier-same i (omega arith))

  pub offer-same : (i : ℕ) → i < n → offer_checks f d i ≡ offer_checks g e i
  offer-same i l = rw (earlier-same i (omega arith), h i l, k i l)

-- ---- 7

bad-low : (d : ℤ) (m : ℕ) → lt_z d (negsuc m) ≡ true → 134217726 ≤ m → true ≡ bad_difference d
unfolding bad_difference
bad-low (pos n) m h l = absurd (subst (λ (b : Bool). T b) (sym h) tt)
bad-low (negsuc n) m h l = let g = ltb-true m n h in sym (lt-ltb difference_most (suc n) (omega arith))

bad-high : (d : ℤ) → lt_z d (negsuc 134217726) ≡ false → lt_z (pos difference_most) d ≡ bad_difference d
unfolding bad_difference
bad-high (pos n) h = refl
bad-high (negsuc n) h = let g = ltb-false 134217726 n h in sym (le-ltb difference_most (suc n) (omega arith))

-- the same of a difference that was read from its bits
module _ (x d : ℤ) (e : x ≡ d) where
  pub difference_low : (m : ℕ) → lt_z x (negsuc m) ≡ true → 134217726 ≤ m → true ≡ bad_difference d
  difference_low m h l = bad-low d m (ap (λ (z : ℤ). lt_z z (negsuc m)) (sym e) ∙ h) l

  pub difference-high : lt_z x (negsuc 134217726) ≡ false → lt_z (pos difference_most) x ≡ bad_difference d
  difference-high h = ap (lt_z (pos difference_most)) e ∙ bad-high d (ap (λ (z : ℤ). lt_z z (negsuc 134217726)) (sym e) ∙ h)

-- figures are turned away where one of them is
pub figures_any : (xs : List ℤ) → outcome (places_from (figure_checks (nth xs (pos 0))) 0 (length xs)) (tt {0}) ≡ refused_where (list_any bad_difference xs) Figure
unfolding places_from
figures_any [] = refl
figures_any (x ∷ xs) =
    ap (λ (cs : Checks). outcome ((bad_difference x, r7) ∷ cs) tt) (places_shift (figure_checks (nth (x ∷ xs) (pos 0))) 0 (length xs))
    ∙ go (bad_difference x) (outcome (places_from (figure_checks (nth xs (pos 0))) 0 (length xs)) tt) (figures_any xs)
  where
    go : (b : Bool) (later : Result (Unit {0}) Refusal) → later ≡ refused_where (list_any bad_difference xs) Figure → cond b (Err Figure) later ≡ refused_where (b || list_any bad_difference xs) Figure
    go true later e = refl
    go false later e = e

-- ---- the checks of a record, in order

abbrev offers_part : Trial → Checks
offers_part t = places_from (offer_checks (nth (setting_of t).codes 0) (nth (setting_of t).digits 0)) 0 t.shape.offers

abbrev pub figures_part : Trial → Checks
figures_part t = places_from (figure_checks (nth (figures_of t) (pos 0))) 0 (figure_count t.shape)

-- in the arrays
offers-held : (t : Trial) → offers_part t ≡ places_from (offer_checks (nth t.labels.codes 0) (nth t.labels.digits 0)) 0 t.shape.offers
offers-held t =
    let n = t.shape.offers in
    let same : (xs : List ℕ) (j : ℕ) → j < n → get_or (take n xs) j 0 ≡ get_or xs j 0 = λ xs j l. get_or-take n xs j 0 l in
    places_same _ _ n (offer-same (nth (take n t.labels.codes) 0) (nth t.labels.codes 0) (nth (take n t.labels.digits) 0) (nth t.labels.digits 0) n (same t.labels.codes) (same t.labels.digits))

-- the figures that the counts use, as a slice
pub figures_sliced : (t : Trial) (n : ℕ) → n ≡ figure_count t.shape → n ≤ length t.figures
    → outcome (places_from (figure_checks (nth (take n t.figures) (pos 0))) 0 (length (take n t.figures))) (tt {0}) ≡ outcome (figures_part t) (tt {0})
figures_sliced t n e h =
    ap₂ (λ (m k : ℕ). outcome (places_from (figure_checks (nth (take m t.figures) (pos 0))) 0 k) (tt {0})) e (length-take-le n t.figures h ∙ e)

-- a record is turned away for its heading, then for its offers, then for its figures
module _ (t : Trial) where
  abbrev pub offers_here : Checks
  offers_here = places_from (offer_checks (nth t.labels.codes 0) (nth t.labels.digits 0)) 0 t.shape.offers

  trial_parts : trial_checks t ≡ heading_checks t.level t.shape ++ (offers_here ++ figures_part t)
  unfolding trial_checks content_checks
  trial_parts = ap (λ (cs : Checks). heading_checks t.level t.shape ++ (cs ++ figures_part t)) (offers-held t)

  module _ (a b : Unit {0}) where
    pub heading_err : (r : Refusal) → outcome (heading_checks t.level t.shape) a ≡ Err r → outcome (trial_checks t) b ≡ Err r
    heading_err r e = ap (λ (cs : Checks). outcome cs b) trial_parts ∙ err-append (heading_checks t.level t.shape) (offers_here ++ figures_part t) a b r e

    module _ (x : Unit {0}) (h : outcome (heading_checks t.level t.shape) a ≡ Ok x) where
      past_heading : outcome (trial_checks t) b ≡ outcome (offers_here ++ figures_part t) b
      past_heading = ap (λ (cs : Checks). outcome cs b) trial_parts ∙ ok-append (heading_checks t.level t.shape) (offers_here ++ figures_part t) a x b h

      pub offers_err : (r : Refusal) → outcome offers_here a ≡ Err r → outcome (trial_checks t) b ≡ Err r
      offers_err r e = past_heading ∙ err-append offers_here (figures_part t) a b r e

      pub figures_left : outcome offers_here a ≡ Ok x → outcome (trial_checks t) b ≡ outcome (figures_part t) b
      figures_left e = past_heading ∙ ok-append offers_here (figures_part t) a x b e

-- past the heading, no more offers and figures than the record has places for
pub places_held : (l : Level) (s : Shape) → outcome (heading_checks l s) (tt {0}) ≡ Ok tt → (s.offers ≤ offers_most) × (units_of s.design ≤ units_most)
unfolding heading_checks
places_held l s h =
    let f = ok-none (heading_checks l s) tt tt h in
    let g = none-append (design_checks s.design) ((bad_level l.a l.b, r3) ∷ []) f.1 in
    ((fitting offers_most s.offers s.k f.0).columns-most, (laid_out s.design g.0).units-most)
