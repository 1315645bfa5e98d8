-- Laws of sets of columns.
--   has K j        column j is in K
--   K ⊆ L          two sets over the same columns, each column of K in L; ⊆-by and ⊆-at go by columns
--   has-over          which columns are over a value
--   ⊆-refl, ⊆-trans   a set holds itself, and what the sets that it holds hold
--   ∪-in, ∩-in, ∖-in  it holds what two sets that it holds have together, and what is left of one
--   some-column       a set that has a column is not empty
--   empty-..          the set of no column, beside a set: it lies in every set, and has no column
use Prim.Native.Nat.{ℕ, zero, suc, ◌+◌, ◌≤◌, ◌<◌}
use native.Mathlib.Omega.{arith}
use mathlib.Core.Path.{◌≡◌, refl, sym, ap, ◌∙◌, subst}
use mathlib.Core.Bool.{Bool, true, false, not, ◌&&◌, ◌||◌}
use mathlib.Core.List.{List, [], ◌∷◌, map, zip_with}
use lib.ListN.{length, get_or, replicate, length-map}
use lib.Dec.{T}
use Rattle.order.specs.Counting.{bit, count, all}
use Rattle.order.specs.Order.{smaller}
use Rattle.order.proofs.Booleans.{and_left, and_right, and_both}
use Rattle.order.proofs.Counts.{bit_le, bit-one, bit-yes}
use Rattle.columns.specs.Columns.{over, Columns, size, ◌∪◌, ◌∩◌, ◌∖◌, within}
use lib.Ieee.{Float, nan}

abbrev pub has : Columns → ℕ → Bool
has K j = get_or K j false

-- ---- the operations, column by column

module _ (f : Bool → Bool → Bool) where
  zip_length : (K L : Columns) → length K ≡ length L → length (zip_with f K L) ≡ length K
  unfolding zip_with
  zip_length [] [] h = refl
  zip_length [] (b ∷ L) h = refl
  zip_length (a ∷ K) [] h = absurd (omega arith)
  zip_length (a ∷ K) (b ∷ L) h = ap suc (zip_length K L (omega arith))

  zip-has : (K L : Columns) (j : ℕ) → length K ≡ length L → f false false ≡ false → has (zip_with f K L) j ≡ f (has K j) (has L j)
  unfolding zip_with
  zip-has [] [] j h z = sym z
  zip-has [] (b ∷ L) j h z = absurd (omega arith)
  zip-has (a ∷ K) [] j h z = absurd (omega arith)
  zip-has (a ∷ K) (b ∷ L) zero h z = refl
  zip-has (a ∷ K) (b ∷ L) (suc j) h z = zip-has K L j (omega arith) z

module _ (K L : Columns) (h : length K ≡ length L) where
  pub length-∪ : length (K ∪ L) ≡ length K
  unfolding ◌∪◌
  length-∪ = zip_length ◌||◌ K L h

  pub length-∩ : length (K ∩ L) ≡ length K
  unfolding ◌∩◌
  length-∩ = zip_length ◌&&◌ K L h

  pub length-∖ : length (K ∖ L) ≡ length K
  unfolding ◌∖◌
  length-∖ = zip_length (λ a b. a && not b) K L h

  pub has-∪ : (j : ℕ) → has (K ∪ L) j ≡ (has K j || has L j)
  unfolding ◌∪◌
  has-∪ j = zip-has ◌||◌ K L j h refl

  pub has-∩ : (j : ℕ) → has (K ∩ L) j ≡ (has K j && has L j)
  unfolding ◌∩◌
  has-∩ j = zip-has ◌&&◌ K L j h refl

  pub has-∖ : (j : ℕ) → has (K ∖ L) j ≡ (has K j && not (has L j))
  unfolding ◌∖◌
  has-∖ j = zip-has (λ a b. a && not b) K L j h refl

-- a column is over v exactly where its value is larger
pub has-over : (v : Float) (row : List Float) (j : ℕ) → j < length row → has (over v row) j ≡ smaller v (get_or row j nan)
unfolding over
has-over v [] j h = absurd (omega arith)
has-over v (x ∷ row) zero h = refl
has-over v (x ∷ row) (suc j) h = has-over v row j (omega arith)

pub has_all : (n j : ℕ) → j < n → has (replicate n true) j ≡ true
has_all zero j h = absurd (omega arith)
has_all (suc n) zero h = refl
has_all (suc n) (suc j) h = has_all n j (omega arith)

pub has-length : (K : Columns) (j : ℕ) → T (has K j) → j < length K
has-length [] j t = absurd t
has-length (a ∷ K) zero t = omega arith
has-length (a ∷ K) (suc j) t = omega (arith, has-length K j t)

-- ---- subsets

pub data ◌⊆◌ : Columns → Columns → Type 0 where
  none : [] ⊆ []
  more : {a b : Bool} {K L : Columns} → (T a → T b) → K ⊆ L → (a ∷ K) ⊆ (b ∷ L)

infix 4 ◌⊆◌
pub ⊆-by : (K L : Columns) → length K ≡ length L → ((j : ℕ) → T (has K j) → T (has L j)) → K ⊆ L
⊆-by [] [] h f = none
⊆-by [] (b ∷ L) h f = absurd (omega arith)
⊆-by (a ∷ K) [] h f = absurd (omega arith)
⊆-by (a ∷ K) (b ∷ L) h f = more (f 0) (⊆-by K L (omega arith) (λ j. f (suc j)))

pub ⊆-at : {K L : Columns} → K ⊆ L → (j : ℕ) → T (has K j) → T (has L j)
⊆-at none j t = t
⊆-at (more f s) zero t = f t
⊆-at (more f s) (suc j) t = ⊆-at s j t

pub ⊆-length : {K L : Columns} → K ⊆ L → length K ≡ length L
⊆-length none = refl
⊆-length (more f s) = ap suc (⊆-length s)

pub ⊆-refl : (K : Columns) → K ⊆ K
⊆-refl K = ⊆-by K K refl (λ j t. t)

pub ⊆-trans : {K L N : Columns} → K ⊆ L → L ⊆ N → K ⊆ N
⊆-trans none none = none
⊆-trans (more f s) (more g t) = more (λ z. g (f z)) (⊆-trans s t)

pub ∪-in : {K N L : Columns} → K ⊆ L → N ⊆ L → (K ∪ N) ⊆ L
unfolding ◌∪◌ zip_with
∪-in none none = none
∪-in (more {a} {b} f s) (more {a = c} g t) = more (either a c f g) (∪-in s t)
  where
    either : (a c : Bool) → (T a → T b) → (T c → T b) → T (a || c) → T b
    either true c f g z = f tt
    either false c f g z = g z

module _ {K L : Columns} (s : K ⊆ L) (N : Columns) (h : length K ≡ length N) where
  pub ∩-in : (K ∩ N) ⊆ L
  ∩-in = ⊆-by (K ∩ N) L (length-∩ K N h ∙ ⊆-length s) (λ j t. ⊆-at s j (and_left (has K j) (has N j) (subst (λ (b : Bool). T b) (has-∩ K N h j) t)))

  pub ∖-in : (K ∖ N) ⊆ L
  ∖-in = ⊆-by (K ∖ N) L (length-∖ K N h ∙ ⊆-length s) (λ j t. ⊆-at s j (and_left (has K j) (not (has N j)) (subst (λ (b : Bool). T b) (has-∖ K N h j) t)))

pub size_mono : {K L : Columns} → K ⊆ L → size K ≤ size L
unfolding size count
size_mono none = omega arith
size_mono (more {a} {b} {K} {L} f s) = omega (arith, bit_le a b f, size_mono s)

-- what a set of n columns leaves, and the set itself
pub size-left : (K : Columns) → size (replicate (length K) true ∖ K) + size K ≡ length K
unfolding size count ◌∖◌ zip_with
size-left [] = refl
size-left (true ∷ K) = omega (arith, size-left K)
size-left (false ∷ K) = omega (arith, size-left K)

pub size-length : (K : Columns) → size K ≤ length K
unfolding size count
size-length [] = omega arith
size-length (b ∷ K) = omega (arith, bit-one b, size-length K)

pub size-all : (n : ℕ) → size (replicate n true) ≡ n
unfolding size count
size-all zero = refl
size-all (suc n) = omega (arith, size-all n)

pub some-column : (K : Columns) (j : ℕ) → T (has K j) → 0 < size K
unfolding size count
some-column [] j t = absurd t
some-column (b ∷ K) zero t = omega (arith, bit-yes b t)
some-column (b ∷ K) (suc j) t = omega (arith, some-column K j t)

-- ---- the values of a row at a set

pub within-length : {A : Type 0} (K : Columns) (row : List A) → length row ≡ length K → length (within K row) ≡ size K
unfolding count within size
within-length [] row h = refl
within-length (b ∷ K) [] h = absurd (omega arith)
within-length (true ∷ K) (x ∷ row) h = omega (arith, within-length K row (omega arith))
within-length (false ∷ K) (x ∷ row) h = omega (arith, within-length K row (omega arith))

pub within_all : {A : Type 0} (p : A → Bool) (K : Columns) (row : List A) → T (all p row) → T (all p (within K row))
unfolding all within
within_all p [] row t = tt
within_all p (b ∷ K) [] t = tt
within_all p (true ∷ K) (x ∷ row) t = and_both (p x) (all p (within K row)) (and_left (p x) (all p row) t) (within_all p K row (and_right (p x) (all p row) t))
within_all p (false ∷ K) (x ∷ row) t = within_all p K row (and_right (p x) (all p row) t)

-- as many columns of K pass a test of their values as values at K do
pub size-test : {A : Type 0} (p : A → Bool) (K : Columns) (row : List A) → size (K ∩ map p row) ≡ count p (within K row)
unfolding ◌∩◌ zip_with size count within
size-test p [] row = refl
size-test p (a ∷ K) [] = refl
size-test p (true ∷ K) (x ∷ row) = ap (λ (n : ℕ). bit (p x) + n) (size-test p K row)
size-test p (false ∷ K) (x ∷ row) = omega (arith, size-test p K row)

-- ---- no column

pub empty-in : (R : Columns) → map (λ _. false) R ⊆ R
empty-in [] = none
empty-in (b ∷ R) = more (λ z. absurd z) (empty-in R)

pub empty-size : (R : Columns) → size (map (λ _. false) R) ≡ 0
unfolding size count
empty-size [] = refl
empty-size (b ∷ R) = omega (arith, empty-size R)

pub empty-has : (R : Columns) (j : ℕ) → T (has (map (λ _. false) R) j) → ⊥
empty-has [] j t = t
empty-has (b ∷ R) zero t = t
empty-has (b ∷ R) (suc j) t = empty-has R j t

pub empty-under : (R L : Columns) → length R ≡ length L → map (λ _. false) R ⊆ L
empty-under R L h = ⊆-by (map (λ _. false) R) L (length-map R _ ∙ h) (λ j t. absurd (empty-has R j t))
