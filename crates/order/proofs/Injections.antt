-- A one-to-one map of the numbers below n: what passes a test is met as often.
--   count-inj     into the numbers below m it meets no more than there are
--   Met n p, some_below, below-some     a number below n passes the test, exactly where more than none do
--   count-onto, met                     into the numbers below n it meets as many as there are, and each of them
use Prim.Native.Nat.{ℕ, zero, suc, ◌+◌, ◌≤◌, ◌<◌}
use native.Mathlib.Omega.{arith}
use native.Mathlib.Decide.{ℕ_discrete}
use mathlib.Core.Path.{◌≡◌, refl, ap, subst}
use mathlib.Core.Bool.{Bool, true, false, not, ◌&&◌}
use lib.Dec.{T, eqb, eqb_refl}
use borrow.Author.Tests.{eq-eqb, ne_eqb}
use Rattle.order.specs.Counting.{bit, count_below}
use Rattle.order.proofs.Counts.{bit-T, bit-yes, bit_not, count_below-le}
use Rattle.order.proofs.Booleans.{true-T}

without : (ℕ → Bool) → ℕ → ℕ → Bool
without q j i = q i && not (eqb i j)

without-same : (q : ℕ → Bool) (j : ℕ) → bit (without q j j) ≡ 0
unfolding without
without-same q j = rw (eq-eqb j j refl) (go (q j))
  where
    go : (b : Bool) → bit (b && false) ≡ 0
    go true = refl
    go false = refl

without_other : (q : ℕ → Bool) (i j : ℕ) → (i ≡ j → ⊥) → bit (without q j i) ≡ bit (q i)
unfolding without
without_other q i j n = rw (ne_eqb i j n) (go (q i))
  where
    go : (b : Bool) → bit (b && true) ≡ bit b
    go true = refl
    go false = refl

without-keeps : (m : ℕ) (q : ℕ → Bool) (j : ℕ) → m ≤ j → count_below m (without q j) ≡ count_below m q
unfolding count_below
without-keeps zero q j h = refl
without-keeps (suc m) q j h = omega (arith, without-keeps m q j (omega arith), without_other q m j (λ e. omega arith))

without-one : (m : ℕ) (q : ℕ → Bool) (j : ℕ) → j < m → count_below m q ≡ count_below m (without q j) + bit (q j)
unfolding count_below
without-one zero q j h = absurd (omega arith)
without-one (suc m) q j h = go (ℕ_discrete m j) (λ l. without-one m q j l)
  where
    go : Dec (m ≡ j) → (j < m → count_below m q ≡ count_below m (without q j) + bit (q j)) → count_below m q + bit (q m) ≡ count_below m (without q j) + bit (without q j m) + bit (q j)
    go (yes e) ih = omega (arith, without-keeps m q j (omega arith), ap (λ (i : ℕ). bit (q i)) e, ap (λ (i : ℕ). bit (without q j i)) e, without-same q j)
    go (no n) ih = omega (arith, ih (omega (arith, n)), without_other q m j n)

pub count-inj : (n m : ℕ) (τ : ℕ → ℕ) (q : ℕ → Bool) → ((i : ℕ) → i < n → τ i < m) → ((i j : ℕ) → i < n → j < n → τ i ≡ τ j → i ≡ j) → count_below n (λ i. q (τ i)) ≤ count_below m q
unfolding count_below
count-inj zero m τ q in-m inj = omega arith
count-inj (suc n) m τ q in-m inj =
    omega (
      arith,
      without-one m q (τ n) (in-m n (omega arith)),
      count-inj n m τ (without q (τ n)) (λ i l. in-m i (omega arith)) (λ i j l r. inj i j (omega arith) (omega arith)),
      count_below-le n (λ i. q (τ i)) (λ i. without q (τ n) (τ i))
          (λ i l t. bit-T (without q (τ n) (τ i)) (omega (arith, without_other q (τ i) (τ n) (λ e. omega (arith, inj i n (omega arith) (omega arith) e)), bit-yes (q (τ i)) t))),
    )

-- ---- some number passes

pub record Met (n : ℕ) (p : ℕ → Bool) : Type 0 where
  pub at : ℕ
  pub within : at < n
  pub here : T (p at)

pub some_below : (n : ℕ) (p : ℕ → Bool) → 0 < count_below n p → Met n p
unfolding count_below
some_below zero p h = absurd (omega arith)
some_below (suc n) p h = go (p n) refl (some_below n p)
  where
    go : (b : Bool) → p n ≡ b → (0 < count_below n p → Met n p) → Met (suc n) p
    go true e on = record { at = n; within = omega arith; here = true-T (p n) e }
    go false e on = let m = on (omega (arith, ap bit e)) in record { at = m.at; within = omega (arith, m.within); here = m.here }

pub below-some : (n : ℕ) (p : ℕ → Bool) (i : ℕ) → i < n → T (p i) → 0 < count_below n p
unfolding count_below
below-some zero p i h t = absurd (omega arith)
below-some (suc n) p i h t = go (ℕ_discrete i n) (λ l. below-some n p i l t)
  where
    go : Dec (i ≡ n) → (i < n → 0 < count_below n p) → 0 < count_below n p + bit (p n)
    go (yes e) on = omega (arith, bit-yes (p n) (subst (λ (j : ℕ). T (p j)) e t))
    go (no e) on = omega (arith, on (omega (arith, e)))

-- ---- of the numbers below n into themselves it meets each

count_below-not : (n : ℕ) (p : ℕ → Bool) → count_below n p + count_below n (λ i. not (p i)) ≡ n
unfolding count_below
count_below-not zero p = refl
count_below-not (suc n) p = omega (arith, count_below-not n p, bit_not (p n))

module _ (n : ℕ) (τ : ℕ → ℕ) (in-n : (i : ℕ) → i < n → τ i < n) (inj : (i j : ℕ) → i < n → j < n → τ i ≡ τ j → i ≡ j) where
  pub count-onto : (q : ℕ → Bool) → count_below n (λ i. q (τ i)) ≡ count_below n q
  count-onto q =
      omega (
        arith,
        count-inj n n τ q in-n inj,
        count-inj n n τ (λ i. not (q i)) in-n inj,
        count_below-not n q,
        count_below-not n (λ i. q (τ i)),
      )

  pub met : (k : ℕ) → k < n → Met n (λ i. eqb (τ i) k)
  met k h = some_below n (λ i. eqb (τ i) k) (omega (arith, count-onto (λ i. eqb i k), below-some n (λ i. eqb i k) k h (eqb_refl k)))
