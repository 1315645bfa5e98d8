-- The rows of a trial of shops without partners stand in ascending order of their lists: choices-ascend.
use Prim.Native.Nat.{ℕ, zero, suc, ◌-◌, ◌<◌}
use native.Mathlib.Omega.{arith}
use native.Mathlib.Decide.{dec_lt}
use mathlib.Core.Bool.{true, false, ◌&&◌}
use mathlib.Core.List.{List, [], ◌∷◌}
use lib.ListN.{length}
use lib.Dec.{T, ltb, eqb, lt→ltb, eqb_refl}
use Rattle.order.specs.Counting.{count}
use Rattle.order.proofs.Booleans.{and_both, or_left, or_right}
use Rattle.columns.specs.Columns.{size}
use Rattle.trial.specs.Choices.{Choice, choices, choice_at, shops_of}
use Rattle.trial.specs.Ascending.{before}
use Rattle.trial.proofs.Choices.{binomial, choices-length, choice-size, choice-with, later-row}

abbrev in_order : ℕ → Choice → Choice → Type 0
in_order i c d = T (before (shops_of i c) (shops_of i d))

-- a list that begins with an earlier shop comes first
earlier-first : (i j : ℕ) (xs : List ℕ) (d : Choice) → i < j → 0 < size d → T (before (i ∷ xs) (shops_of j d))
unfolding before shops_of size count
earlier-first i j xs [] h s = absurd (omega arith)
earlier-first i j xs (true ∷ d) h s = or_left (ltb i j) (eqb i j && before xs (shops_of (suc j) d)) (lt→ltb i j h)
earlier-first i j xs (false ∷ d) h s = earlier-first i (suc j) xs d (omega arith) (omega arith)

both-begin : (i : ℕ) (c d : Choice) → in_order (suc i) c d → in_order i (true ∷ c) (true ∷ d)
unfolding before shops_of
both-begin i c d t =
    or_right (ltb i i) (eqb i i && before (shops_of (suc i) c) (shops_of (suc i) d)) (and_both (eqb i i) (before (shops_of (suc i) c) (shops_of (suc i) d)) (eqb_refl i) t)

rows-ascend : (i n t g h : ℕ) → g < h → h < length (choices n t) → in_order i (choice_at n t g) (choice_at n t h)
unfolding shops_of binomial
rows-ascend i n zero g h l m = absurd (omega (arith, choices-length n zero))
rows-ascend i zero (suc t) g h l m = absurd (omega (arith, choices-length zero (suc t)))
rows-ascend i (suc n) (suc t) g h l m =
    go (dec_lt g L) (dec_lt h L) (rows-ascend (suc i) n t g h l) (rows-ascend (suc i) n (suc t) (g - L) (h - L))
  where
    L : ℕ
    L = length (choices n t)

    go : Dec (g < L) → Dec (h < L) → (h < L → in_order (suc i) (choice_at n t g) (choice_at n t h))
        → (g - L < h - L → h - L < length (choices n (suc t)) → in_order (suc i) (choice_at n (suc t) (g - L)) (choice_at n (suc t) (h - L)))
        → in_order i (choice_at (suc n) (suc t) g) (choice_at (suc n) (suc t) h)
    go (yes p) (yes q) first later = rw (choice-with n t g p, choice-with n t h q) (both-begin i (choice_at n t g) (choice_at n t h) (first q))
    go (yes p) (no q) first later =
        let r = later-row n t h (omega (arith, q)) m in
        rw (choice-with n t g p, r.1)
        (earlier-first i (suc i) (shops_of (suc i) (choice_at n t g)) (choice_at n (suc t) (h - L)) (omega arith) (omega (arith, choice-size n (suc t) (h - L) r.0)))
    go (no p) (yes q) first later = absurd (omega (arith, p))
    go (no p) (no q) first later =
        let r = later-row n t h (omega (arith, q)) m in
        rw ((later-row n t g (omega (arith, p)) (omega arith)).1, r.1) (later (omega (arith, p)) r.0)

pub choices-ascend : (n t g h : ℕ) → g < h → h < length (choices n t) → T (before (shops_of 1 (choice_at n t g)) (shops_of 1 (choice_at n t h)))
choices-ascend = rows-ascend 1
