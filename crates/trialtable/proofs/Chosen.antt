-- Laws by which the table of shops is made, block by block.
--   shops-known             the counts of an accepted layout
--   no-choice               one choice where none is treated
--   chooses                 the rows of a block are those straight before them
--   at-end                  past the last block all choices with the shops before p are there
--   chosen-room, before-room     so many rows are rows of the table
--   in_turn                 the numbers of a block
--   chosen-most, chosen-rising     the choices with the shops before p are among all, and among those with fewer
use Prim.Native.Nat.{ℕ, suc, ◌+◌, ◌-◌, ◌*◌, ◌≤◌, ◌<◌}
use native.Mathlib.Omega.{arith}
use native.Mathlib.Nat.{mul-le-mul_right}
use mathlib.Core.Path.{◌≡◌, ap₂}
use mathlib.Core.List.{List}
use lib.ListN.{length}
use lib.IntN.{ℤ}
use Rattle.limits.specs.Limits.{shops_most}
use Rattle.refusals.specs.Answers.{first_refusal}
use Rattle.refusals.proofs.Answers.{none-holds}
use Rattle.trial.specs.Choices.{choices}
use Rattle.trial.specs.Designs.{design_checks, units_of, row_count, entry_of}
use Rattle.trial.specs.declared.Design.TheVariants.{Unpaired}
use Rattle.trial.proofs.Choices.{binomial, choices-length, choices-more, choices-none}
use Rattle.trial.proofs.LaidOut.{shops-inside}
use Rattle.trialtable.specs.Internal.{table_for, taken_off, first_step, Steps}
use Rattle.trialtable.proofs.Places.{table_for-length}
use Rattle.trialtable.proofs.Choosing.{block_at, block_rows, more-chosen, block-fits, contrast-block}

pub shops-known : (n t : ℕ) → first_refusal (design_checks (Unpaired n t)) ≡ 0 → (2 ≤ n) × (n ≤ shops_most) × (1 ≤ t) × (t < n)
shops-known n t h = shops-inside n t (none-holds (design_checks (Unpaired n t)) h)

pub chosen-most : (n t p : ℕ) → p ≤ t → t ≤ n → length (choices (n - p) (t - p)) ≤ length (choices n t)
chosen-most n t p h k =
    let e : p + (n - p) ≡ n = omega arith in
    let f : p + (t - p) ≡ t = omega arith in
    omega (arith, more-chosen p (n - p) (t - p), ap₂ (λ (x y : ℕ). length (choices x y)) e f)

-- the choices with one shop more are among them
pub chosen-rising : (n t p : ℕ) → 0 < p → p ≤ t → t ≤ n → length (choices (n - p) (t - p)) ≤ length (choices (n - (p - 1)) (t - (p - 1)))
chosen-rising n t p h k l = go (n - p) (t - p) (n - (p - 1)) (t - (p - 1)) (omega arith) (omega arith)
  where
    go : (a b c d : ℕ) → c ≡ suc a → d ≡ suc b → length (choices a b) ≤ length (choices c d)
    go a b c d e f = rw (e, f) (omega (arith, choices-more a b))

-- where none is treated there is one choice
pub no-choice : (n : ℕ) → length (choices n 0) ≡ 1
unfolding binomial
no-choice n = choices-length n 0

module _ (n t : ℕ) (h : t < n) where
  pub at-end : (p m : ℕ) → p < t → n - t + p < m → m ≤ n → block_at n t p m ≡ length (choices (n - p) (t - p))
  at-end p m k l i = omega (arith, choices-none (n - m) (t - p) (omega arith))

  pub chooses : (p m at rows : ℕ) → at ≡ block_at n t p m → rows ≡ block_rows n t p m → p < t → p < m → m ≤ n - t + p → Steps (Unpaired n t) at rows m
  unfolding units_of row_count entry_of taken_off first_step
  chooses p m at rows e f k l i =
      let j : m < n = omega arith in
      let b = block-fits n t p m k (omega arith) l j in
      rw (e, f) (record {
        reached = (omega arith, j);
        before = b.0;
        inside = b.1;
        entries = λ g ys q r. contrast-block n t p m g ys k (omega arith) l j r q;
      })

  pub chosen-room : (offers : ℕ) (xs : List ℤ) (r : ℕ) → r ≤ length (choices n t) → r * offers ≤ length (table_for (Unpaired n t) offers xs)
  unfolding row_count
  chosen-room offers xs r k = let m : r * offers ≤ length (choices n t) * offers = mul-le-mul_right offers k in omega (arith, table_for-length (Unpaired n t) offers xs)

module _ (n t : ℕ) (good : first_refusal (design_checks (Unpaired n t)) ≡ 0) where
  -- shop m in the place of the one before it, with the shops before p and not p
  pub in_turn : (p m : ℕ) → p < t → p + 1 ≤ m → m < n - (t - p - 1) → (p < m) × (m ≤ n - t + p) × (m < n) × (t < n) × (n ≤ shops_most)
  in_turn p m k a b = let s = shops-known n t good in (omega arith, omega (arith, s), omega (arith, s), s.3, s.1)

  -- the rows whose choices have the shops before p
  pub before-room : (offers : ℕ) (xs : List ℤ) (p at : ℕ) → p ≤ t → at ≡ length (choices (n - p) (t - p)) → at * offers ≤ length (table_for (Unpaired n t) offers xs)
  before-room offers xs p at h e = let s = shops-known n t good in chosen-room n t s.3 offers xs at (omega (arith, e, chosen-most n t p h (omega (arith, s))))
