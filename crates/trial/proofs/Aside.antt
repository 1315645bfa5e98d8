-- Laws of offers that are set aside.
--   untested-listed                   a zero stays a zero under a change of sign, and equal figures are equal in every listing
--   live-length, live_at              the offers that take part: offer i where it has been tested
--   live-fits, live-columns, live-bit     the same as a mask
--   figures_at-length                 an offer has a figure for each pair or shop
--   every-difference, every-shop      an offer has not been tested exactly where each of its differences in the record is 0, or each of its figures that of the first shop
--   same_bits, each_alike             two figures compared by their bits, and one offer's figures each with the same
--   mask_from, mask-..                the mask of the offers from i on, as the code makes it
use Prim.Native.Nat.{ℕ, zero, suc, ◌+◌, ◌-◌, ◌*◌, ◌/◌, ◌%◌, ◌^◌, ◌≤◌, ◌<◌}
use native.Mathlib.Omega.{arith}
use mathlib.Core.Path.{◌≡◌, refl, sym, ap, ap₂, ◌∙◌, subst}
use mathlib.Core.Logic.{◌↔◌}
use mathlib.Core.Bool.{Bool, true, false, not, ◌&&◌}
use mathlib.Core.List.{List, [], ◌∷◌, map}
use lib.ListN.{length, get_or, take, drop, length-map, length-drop, drop_of_length-le}
use lib.Seq.{drop-cons, length-take-le}
use lib.Dec.{T, eqb, eqb→eq, eqb-suc-zero}
use lib.IntN.{ℤ, pos, negsuc}
use lib.Pow.{pow_mono}
use mir.Syntax.{w32}
use mir.Val.{SFits, to_z, of_z}
use mir.Facts.{to_z-of_z}
use borrow.Author.Tests.{eq-eqb}
use Rattle.std.specs.List.{list_all}
use Rattle.order.specs.Counting.{bit, all}
use Rattle.order.specs.Lists.{rows_of}
use Rattle.order.proofs.Booleans.{same_test, true-T, and_both}
use Rattle.order.proofs.Counts.{all_get_d}
use Rattle.order.proofs.Lists.{part-rows, get_d_map, rows_of-length, rows_of-row, row-entry}
use Rattle.columns.specs.Columns.{Columns, in_set, columns_of, mask_of}
use Rattle.columns.proofs.Sets.{has}
use Rattle.columns.proofs.Masks.{columns_of-mask_of, mask_of-lt, has-columns_of}
use Rattle.limits.specs.Limits.{offers_most}
use Rattle.trial.specs.Pairs.{exchanged, exchanged_by}
use Rattle.trial.specs.Choices.{choice_at}
use Rattle.trial.specs.Designs.{same_figure, alike, row_count, units_of, listed, yardstick, untested}
use Rattle.trial.specs.Record.{ArrayLengths}
use Rattle.trial.specs.Exchange.{by_offer, figures_at}
use Rattle.trial.specs.Aside.{live_offers, live_mask}
use Rattle.trial.specs.declared.Design.{Design}
use Rattle.trial.specs.declared.Design.TheVariants.{Paired, Unpaired}
use Rattle.trial.specs.declared.Trial.{Trial}
use Rattle.trial.proofs.Accepted.{Accepted}
use Rattle.trial.proofs.Choices.{choice-length}
use Rattle.trial.proofs.LaidOut.{count_most}
use Rattle.trial.proofs.Listed.{same-figure, own-figure, level-listed}
use Rattle.trial.proofs.Tables.{by_offer-figures, by_offer-length}

-- ---- differences that are 0

-- a zero stays a zero under a change of sign, and nothing else becomes one
zero-exchanged : (b : Bool) (d : ℤ) → same_figure (exchanged b d) (pos 0) ≡ same_figure d (pos 0)
unfolding same_figure
zero-exchanged true (pos zero) = refl
zero-exchanged true (pos (suc n)) = sym (eqb-suc-zero n)
zero-exchanged true (negsuc n) = eqb-suc-zero n
zero-exchanged false d = refl

zeros-exchanged : (g : ℕ) (ds : List ℤ) → alike (pos 0) (exchanged_by g ds) ≡ alike (pos 0) ds
unfolding alike all exchanged_by
zeros-exchanged g [] = refl
zeros-exchanged g (d ∷ ds) = ap₂ (λ (a b : Bool). a && b) (zero-exchanged (eqb (g % 2) 1) d) (zeros-exchanged (g / 2) ds)

-- ---- by cases of the layout

pub untested-listed : (d : Design) (g : ℕ) (xs : List ℤ) → g < row_count d → length xs ≡ units_of d → untested d (listed d g xs) ≡ untested d xs
unfolding untested yardstick listed row_count units_of
untested-listed (Paired n) g xs h l = zeros-exchanged g xs
untested-listed (Unpaired n t) g xs h l = level-listed (choice_at n t g) xs (l ∙ sym (choice-length n t g h))

-- ---- which offers take part

module _ (t : Trial) where
  pub live-length : length (live_offers t) ≡ t.shape.offers
  unfolding live_offers
  live-length = length-map (by_offer t) (λ xs. not (untested t.shape.design xs)) ∙ by_offer-length t

  pub live_at : (i : ℕ) → i < t.shape.offers → has (live_offers t) i ≡ not (untested t.shape.design (figures_at t i))
  unfolding live_offers
  live_at i h = get_d_map (λ xs. not (untested t.shape.design xs)) (by_offer t) i [] false (omega (arith, by_offer-length t))

  pub live-fits : live_mask t < 2 ^ t.shape.offers
  unfolding live_mask
  live-fits = subst (λ (n : ℕ). live_mask t < 2 ^ n) live-length (mask_of-lt (live_offers t))

  pub live-columns : columns_of t.shape.offers (live_mask t) ≡ live_offers t
  unfolding live_mask
  live-columns = ap (λ (n : ℕ). columns_of n (live_mask t)) (sym live-length) ∙ columns_of-mask_of (live_offers t)

  pub live-bit : (i : ℕ) → i < t.shape.offers → in_set (live_mask t) i ≡ not (untested t.shape.design (figures_at t i))
  live-bit i h = sym (has-columns_of t.shape.offers (live_mask t) i h) ∙ ap (λ (K : Columns). has K i) live-columns ∙ live_at i h

-- ---- what the test says of a record, figure by figure

alike_at : (z : ℤ) (xs : List ℤ) → T (alike z xs) → (j : ℕ) → j < length xs → get_or xs j (pos 0) ≡ z
unfolding alike
alike_at z xs t j h = same-figure (get_or xs j (pos 0)) z (all_get_d (λ x. same_figure x z) xs j (pos 0) h t)

all_alike : (z : ℤ) (xs : List ℤ) → ((j : ℕ) → j < length xs → get_or xs j (pos 0) ≡ z) → T (alike z xs)
unfolding alike all
all_alike z [] f = tt
all_alike z (x ∷ xs) f = and_both (same_figure x z) (alike z xs) (subst (λ (y : ℤ). T (same_figure x y)) (f 0 (omega arith)) (own-figure x)) (all_alike z xs (λ j h. f (suc j) (omega arith)))

-- an offer of an accepted record
module _ (t : Trial) (ty : ArrayLengths t) (acc : Accepted t) (i : ℕ) (h : i < t.shape.offers) where
  abbrev d : Design
  d = t.shape.design

  abbrev units : ℕ
  units = units_of d

  row_is : figures_at t i ≡ get_or (rows_of t.shape.offers units t.figures) i []
  row_is = ap (λ (rs : List (List ℤ)). get_or rs i []) (by_offer-figures t)

  figure-is : (j : ℕ) → j < units → get_or (figures_at t i) j (pos 0) ≡ get_or t.figures (i * units + j) (pos 0)
  figure-is j l = ap (λ (xs : List ℤ). get_or xs j (pos 0)) row_is ∙ row-entry t.figures t.shape.offers units i j (pos 0) h l

  pub figures_at-length : length (figures_at t i) ≡ units
  figures_at-length =
      ap length (row_is ∙ rows_of-row t.shape.offers units t.figures i h)
      ∙ length-take-le units (drop (i * units) t.figures)
      (simp length-drop (omega (arith, ty.figures-length, part-rows t.shape.offers units i h, count_most t.shape units acc.offers-most acc.laid.units-most refl)))

  abbrev EachIs : Design → Type 0
  EachIs e = T (untested e (figures_at t i)) ↔ ((j : ℕ) → j < units_of e → get_or t.figures (i * units_of e + j) (pos 0) ≡ yardstick e (figures_at t i))

  every-figure : EachIs d
  unfolding untested
  every-figure = let z = yardstick d (figures_at t i) in (
    λ q j l. sym (figure-is j l) ∙ alike_at z (figures_at t i) q j (omega (arith, figures_at-length)),
    λ f. all_alike z (figures_at t i) (λ j l. let m : j < units = omega (arith, figures_at-length) in figure-is j m ∙ f j m),
  )

  -- in pairs every difference is 0
  pub every-difference : (pairs : ℕ) → d ≡ Paired pairs → T (untested d (figures_at t i)) ↔ ((j : ℕ) → j < pairs → get_or t.figures (i * pairs + j) (pos 0) ≡ pos 0)
  unfolding units_of yardstick
  every-difference pairs e = subst (λ (f : Design). T (untested f (figures_at t i)) ↔ ((j : ℕ) → j < pairs → get_or t.figures (i * pairs + j) (pos 0) ≡ pos 0)) (sym e) (subst EachIs e every-figure)

  -- in shops every figure is that of the first shop
  pub every-shop : (shops treated : ℕ) → d ≡ Unpaired shops treated
      → T (untested d (figures_at t i)) ↔ ((j : ℕ) → j < shops → get_or t.figures (i * shops + j) (pos 0) ≡ get_or t.figures (i * shops) (pos 0))
  unfolding units_of yardstick
  every-shop shops treated e =
      subst (λ (f : Design). T (untested f (figures_at t i)) ↔ ((j : ℕ) → j < shops → get_or t.figures (i * shops + j) (pos 0) ≡ get_or t.figures (i * shops) (pos 0))) (sym e)
      (subst (λ (z : ℤ). T (untested (Unpaired shops treated) (figures_at t i)) ↔ ((j : ℕ) → j < shops → get_or t.figures (i * shops + j) (pos 0) ≡ z)) first (subst EachIs e every-figure))
    where
      n : units_of d ≡ shops
      n = ap units_of e

      at : i * units_of d + 0 ≡ i * shops
      at = rw n (omega arith)

      first : get_or (figures_at t i) 0 (pos 0) ≡ get_or t.figures (i * shops) (pos 0)
      first = figure-is 0 (omega (arith, acc.laid.units-some)) ∙ ap (λ (p : ℕ). get_or t.figures p (pos 0)) at

-- ---- the code: one offer's figures

-- two figures are compared by their bits
pub same_bits : (x y : ℤ) → SFits w32 x → SFits w32 y → eqb (of_z w32 x) (of_z w32 y) ≡ same_figure x y
same_bits x y f g =
    same_test (eqb (of_z w32 x) (of_z w32 y)) (same_figure x y)
    (λ t. subst (λ (z : ℤ). T (same_figure x z)) (sym (to_z-of_z f) ∙ ap (to_z w32) (eqb→eq (of_z w32 x) (of_z w32 y) t) ∙ to_z-of_z g) (own-figure x))
    (λ t. true-T (eqb (of_z w32 x) (of_z w32 y)) (eq-eqb (of_z w32 x) (of_z w32 y) (ap (of_z w32) (same-figure x y t))))

pub each_alike : (z : ℤ) (xs : List ℤ) → list_all (λ x. same_figure x z) xs ≡ alike z xs
unfolding alike all
each_alike z [] = refl
each_alike z (x ∷ xs) = ap (λ (b : Bool). same_figure x z && b) (each_alike z xs)

-- ---- the code: from the last offer to the first

module _ (d : Design) (offers n : ℕ) (xs : List ℤ) where
  abbrev tested : Columns
  tested = map (λ ys. not (untested d ys)) (rows_of offers n xs)

  abbrev pub mask_from : ℕ → ℕ
  mask_from i = mask_of (drop i tested)

  tested-length : length tested ≡ offers
  tested-length = length-map (rows_of offers n xs) (λ ys. not (untested d ys)) ∙ rows_of-length offers n xs

  pub mask_start : 0 ≡ mask_from offers
  unfolding mask_of
  mask_start = rw (drop_of_length-le tested {i = offers} (omega (arith, tested-length)))

  pub mask-room : (i m : ℕ) → offers ≤ offers_most → m ≡ mask_from i → m < 2 ^ 31
  mask-room i m h e =
      let l : length (drop i tested) ≤ offers_most = simp length-drop (omega (arith, tested-length)) in
      let p : 2 ^ length (drop i tested) ≤ 2 ^ offers_most = pow_mono l in
      omega (arith, mask_of-lt (drop i tested))

  pub mask-turn : (i m r : ℕ) (b : Bool) → 0 < i → i ≤ offers → m ≡ mask_from i → b ≡ untested d (take ((i - 1) * n + n - (i - 1) * n) (drop ((i - 1) * n) xs)) → r ≡ bit (not b) + 2 * m
      → r ≡ mask_from (i - 1)
  unfolding mask_of
  mask-turn i m r b h k e q s =
      let z : suc (i - 1) ≡ i = omega arith in
      let l : i - 1 < offers = omega arith in
      let w : (i - 1) * n + n - (i - 1) * n ≡ n = omega arith in
      s ∙ ap₂ (λ (c : Bool) (x : ℕ). bit c + 2 * x)
      (ap not (q ∙ ap (untested d) (ap (λ (x : ℕ). take x (drop ((i - 1) * n) xs)) w ∙ sym (rows_of-row offers n xs (i - 1) l))) ∙ sym (get_d_map (λ ys. not (untested d ys)) (rows_of offers n xs) (i - 1) [] false (omega (arith, rows_of-length offers n xs))))
      (e ∙ ap mask_from (sym z))
      ∙ ap mask_of (sym (drop-cons tested (i - 1) false (omega (arith, tested-length))))

pub mask_end : (t : Trial) (n i m : ℕ) → n ≡ units_of t.shape.design → i ≤ 0 → m ≡ mask_from t.shape.design t.shape.offers n t.figures i → m ≡ live_mask t
unfolding live_mask live_offers
mask_end t n i m u h e =
    let d = t.shape.design in
    let z : i ≡ 0 = omega arith in
    e ∙ ap₂ (λ (x y : ℕ). mask_from d t.shape.offers x t.figures y) u z
    ∙ ap (λ (os : List (List ℤ)). mask_of (map (λ ys. not (untested d ys)) os)) (sym (by_offer-figures t))
