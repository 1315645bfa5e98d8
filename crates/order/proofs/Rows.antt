-- Rows of finite values.
--   Finite xs        every member is finite
--   Sound n X        every row of X has n values, all of them finite
--   sound-..        what a row of such rows is known to be, and its value in column j; sound-row, rows_of-sound: which are such rows; sound-map: what is made of each
--   none_equal       where no value equals c, none does with plus zero for either zero
use Prim.Native.Nat.{ℕ, ◌*◌, ◌<◌}
use native.Mathlib.Omega.{arith}
use mathlib.Core.Path.{◌≡◌, refl, sym, ap₂, subst}
use mathlib.Core.Bool.{Bool, not, ◌&&◌}
use mathlib.Core.List.{List, [], ◌∷◌, map}
use lib.ListN.{length, get_or}
use lib.Dec.{T, eqb, eqb_refl, eqb→eq}
use lib.Ieee.{Float, nan}
use Rattle.order.specs.Order.{finite, equal, with_plus_zero}
use Rattle.order.specs.Counting.{all}
use Rattle.order.specs.Lists.{rows_of}
use Rattle.order.proofs.Booleans.{and_left, and_right, and_both}
use Rattle.order.proofs.Counts.{all_get_d, all-le, all_both}
use Rattle.order.proofs.Keys.{equal-with_plus_zero}
use Rattle.order.proofs.Lists.{rows_of-even, rows_of-all}

abbrev pub Finite : List Float → Type 0
Finite xs = T (all finite xs)

abbrev pub sound_row : ℕ → List Float → Bool
sound_row n row = eqb (length row) n && all finite row

abbrev pub Sound : ℕ → List (List Float) → Type 0
Sound n X = T (all (sound_row n) X)

pub sound-length : (n : ℕ) (row : List Float) → T (sound_row n row) → length row ≡ n
sound-length n row t = eqb→eq (length row) n (and_left (eqb (length row) n) (all finite row) t)

pub sound-finite : (n : ℕ) (row : List Float) → T (sound_row n row) → Finite row
sound-finite n row t = and_right (eqb (length row) n) (all finite row) t

pub sound-at : (n : ℕ) (row : List Float) (j : ℕ) → T (sound_row n row) → j < n → T (finite (get_or row j nan))
sound-at n row j t h = all_get_d finite row j nan (omega (arith, sound-length n row t)) (sound-finite n row t)

pub sound-all : (n : ℕ) (X : List (List Float)) → Sound n X → T (all (all finite) X)
sound-all n X s = all-le (sound_row n) (all finite) X (sound-finite n) s

pub sound-map : {B : Type 0} (n : ℕ) (f g : List Float → B) (X : List (List Float)) → Sound n X → ((row : List Float) → T (sound_row n row) → f row ≡ g row) → map f X ≡ map g X
unfolding all
sound-map n f g [] s h = refl
sound-map n f g (row ∷ X) s h = ap₂ (λ y ys. y ∷ ys) (h row (and_left (sound_row n row) (all (sound_row n) X) s)) (sound-map n f g X (and_right (sound_row n row) (all (sound_row n) X) s) h)

pub sound-row : (n : ℕ) (row : List Float) → length row ≡ n → Finite row → T (sound_row n row)
sound-row n row h f = and_both (eqb (length row) n) (all finite row) (subst (λ (i : ℕ). T (eqb i n)) (sym h) (eqb_refl n)) f

pub rows_of-sound : (m n : ℕ) (xs : List Float) → length xs ≡ m * n → Finite xs → Sound n (rows_of m n xs)
rows_of-sound m n xs h f = all_both (λ r. eqb (length r) n) (all finite) (rows_of m n xs) (rows_of-even m n xs h) (rows_of-all finite m n xs f)

-- where no value equals c, none does with plus zero for either zero
pub none_equal : {A : Type 0} (f : A → Float) (r : A → Bool) (xs : List A) (c : Float) → T (finite c) → T (all r xs) → ((x : A) → T (r x) → T (finite (f x))) → T (all (λ x. not (equal c (f x))) xs) → T (all (λ x. not (equal c (with_plus_zero (f x)))) xs)
none_equal f r xs c good rs fin t = all-le (λ x. r x && not (equal c (f x))) (λ x. not (equal c (with_plus_zero (f x)))) xs
    (λ x b. subst (λ (d : Bool). T (not d)) (sym (equal-with_plus_zero c (f x) good (fin x (and_left (r x) (not (equal c (f x))) b)))) (and_right (r x) (not (equal c (f x))) b))
    (all_both r (λ x. not (equal c (f x))) xs rs t)
