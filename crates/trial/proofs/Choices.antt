-- Laws of the choices of shops.
--   choice-length, choice-size    the choice of a row is one of all shops, and has as many as are treated
--   binomial n t                  how many choices of t of n shops there are: choices-length
--   choices-more                  those with the first shop, and those without it
--   at-number                     what the first m numbers pass, each of them passes
--   choices-some, choices-none, choices-most    there is one where t ≤ n; up to 10 shops there are at most 252
--   choice-with, later-row        the first rows have the first shop, and the later ones have not
--   first-choice                  row 0 has the first shops
--   rank t c                      the row of a choice of t shops
--   rank_lt, rank-at, at-rank     it is a row, it has that choice, and it is the row that a choice was met in
--   choices-all, choices-once     every choice of t of n shops stands in a row, and in one alone
use Prim.Native.Nat.{ℕ, zero, suc, ◌+◌, ◌-◌, ◌≤◌, ◌<◌}
use native.Mathlib.Omega.{arith}
use native.Mathlib.Decide.{dec_lt}
use mathlib.Core.Path.{◌≡◌, refl, sym, ap, ◌∙◌, subst}
use mathlib.Core.Bool.{Bool, true, false}
use mathlib.Core.List.{[], ◌∷◌, ◌++◌, map}
use lib.ListN.{length, get_or, replicate, length-append, length-map, length-replicate, get_or-append}
use lib.Seq.{get_or-append-add}
use lib.Dec.{T, leb, leb→le}
use Rattle.order.specs.Counting.{count, all}
use Rattle.order.specs.Lists.{tabulate}
use Rattle.order.proofs.Counts.{all_get_d}
use Rattle.order.proofs.Lists.{get_d_map, tabulate-length, tabulate-get_d}
use Rattle.columns.specs.Columns.{every_column, size, choose}
use Rattle.columns.proofs.Sets.{⊆-length, size-all}
use Rattle.columns.proofs.PutBack.{choose-some, choose-member}
use Rattle.trial.specs.Choices.{Choice, choices, choice_at, shops_of}

-- two of three shops
two-of-three : map (shops_of 1) (choices 3 2) ≡ (1 ∷ 2 ∷ []) ∷ (1 ∷ 3 ∷ []) ∷ (2 ∷ 3 ∷ []) ∷ []
unfolding choices shops_of
two-of-three = refl

-- ---- a choice

module _ (n t g : ℕ) (h : g < length (choices n t)) where
  pub choice-length : length (choice_at n t g) ≡ n
  unfolding choices
  choice-length = ⊆-length (choose-member t (every_column n) g h).0 ∙ length-replicate n true

  pub choice-size : size (choice_at n t g) ≡ t
  unfolding choices
  choice-size = (choose-member t (every_column n) g h).1

-- ---- how many there are

unfoldable pub binomial : ℕ → ℕ → ℕ
binomial n zero = 1
binomial zero (suc t) = 0
binomial (suc n) (suc t) = binomial n t + binomial n (suc t)

-- those with the first shop, and those without it
pub choices-more : (n t : ℕ) → length (choices (suc n) (suc t)) ≡ length (choices n t) + length (choices n (suc t))
unfolding choices choose
choices-more n t = simp (length-append, length-map)

pub choices-length : (n t : ℕ) → length (choices n t) ≡ binomial n t
unfolding choices choose binomial
choices-length n zero = refl
choices-length zero (suc t) = refl
choices-length (suc n) (suc t) = omega (arith, choices-more n t, choices-length n t, choices-length n (suc t))

pub choices-some : (n t : ℕ) → t ≤ n → 0 < length (choices n t)
unfolding choices
choices-some n t h = choose-some t (every_column n) (omega (arith, size-all n))

binomial-none : (n t : ℕ) → n < t → binomial n t ≡ 0
unfolding binomial
binomial-none n zero h = absurd (omega arith)
binomial-none zero (suc t) h = refl
binomial-none (suc n) (suc t) h = omega (arith, binomial-none n t (omega arith), binomial-none n (suc t) (omega arith))

pub choices-none : (n t : ℕ) → n < t → length (choices n t) ≡ 0
choices-none n t h = choices-length n t ∙ binomial-none n t h

pub at-number : (p : ℕ → Bool) (m i : ℕ) → T (all p (tabulate m (λ i. i))) → i < m → T (p i)
at-number p m i t h =
    subst (λ (j : ℕ). T (p j)) (tabulate-get_d m (λ i. i) i 0 h) (all_get_d p (tabulate m (λ i. i)) i 0 (omega (arith, tabulate-length m (λ i. i))) t)

few : ℕ → Bool
few n = all (λ t. leb (binomial n t) 252) (tabulate 11 (λ t. t))

computed : T (all few (tabulate 11 (λ n. n)))
unfolding few binomial all tabulate
computed = tt

pub choices-most : (n t : ℕ) → n ≤ 10 → length (choices n t) ≤ 252
unfolding few
choices-most n t h = omega (arith, choices-length n t, go (dec_lt n t))
  where
    go : Dec (n < t) → binomial n t ≤ 252
    go (yes g) = omega (arith, binomial-none n t g)
    go (no g) =
        leb→le (binomial n t) 252 (at-number (λ t. leb (binomial n t) 252) 11 t (at-number few 11 n computed (omega arith)) (omega (arith, g)))

-- ---- the row of a choice

-- the first rows have the first shop, and the others have not
module _ (n t g : ℕ) where
  pub choice-with : g < length (choices n t) → choice_at (suc n) (suc t) g ≡ true ∷ choice_at n t g
  unfolding choices choose
  choice-with h =
      get_or-append (map (λ I. true ∷ I) (choices n t)) (map (λ I. false ∷ I) (choices n (suc t))) [] g (omega (arith, length-map (choices n t) (λ I. true ∷ I)))
      ∙ get_d_map (λ I. true ∷ I) (choices n t) g [] [] h

  choice-without : g < length (choices n (suc t)) → choice_at (suc n) (suc t) (length (choices n t) + g) ≡ false ∷ choice_at n (suc t) g
  unfolding choices choose
  choice-without h =
      ap (λ (i : ℕ). get_or (map (λ I. true ∷ I) (choices n t) ++ map (λ I. false ∷ I) (choices n (suc t))) (i + g) []) (sym (length-map (choices n t) (λ I. true ∷ I)))
      ∙ get_or-append-add (map (λ I. true ∷ I) (choices n t)) (map (λ I. false ∷ I) (choices n (suc t))) g []
      ∙ get_d_map (λ I. false ∷ I) (choices n (suc t)) g [] [] h

-- and by the number of the row
pub later-row : (n t g : ℕ) → length (choices n t) ≤ g → g < length (choices (suc n) (suc t))
    → (g - length (choices n t) < length (choices n (suc t))) × (choice_at (suc n) (suc t) g ≡ false ∷ choice_at n (suc t) (g - length (choices n t)))
later-row n t g h k =
    let m : g - length (choices n t) < length (choices n (suc t)) = omega (arith, choices-more n t) in
    let e : g ≡ length (choices n t) + (g - length (choices n t)) = omega arith in
    (m, ap (choice_at (suc n) (suc t)) e ∙ choice-without n t (g - length (choices n t)) m)

-- no shop is chosen
no-shop : (n : ℕ) → choice_at n 0 0 ≡ replicate n false
unfolding choices choose
no-shop zero = refl
no-shop (suc n) = ap (λ (c : Choice). false ∷ c) (no-shop n)

pub first-choice : (t r : ℕ) → choice_at (t + r) t 0 ≡ replicate t true ++ replicate r false
first-choice zero r = let e : 0 + r ≡ r = omega arith in rw e (no-shop r)
first-choice (suc t) r =
    let e : suc t + r ≡ suc (t + r) = omega arith in
    ap (λ (n : ℕ). choice_at n (suc t) 0) e ∙ choice-with (t + r) t 0 (choices-some (t + r) t (omega arith)) ∙ ap (λ (c : Choice). true ∷ c) (first-choice t r)

unfoldable pub rank : ℕ → Choice → ℕ
unfolding choices
rank zero c = 0
rank (suc t) [] = 0
rank (suc t) (true ∷ c) = rank t c
rank (suc t) (false ∷ c) = length (choices (length c) t) + rank (suc t) c

rank-lt' : (t : ℕ) (c : Choice) → size c ≡ t → rank t c < length (choices (length c) t)
unfolding rank size count choices choose
rank-lt' zero c s = omega arith
rank-lt' (suc t) [] s = absurd (omega arith)
rank-lt' (suc t) (true ∷ c) s = omega (arith, choices-more (length c) t, rank-lt' t c (omega arith))
rank-lt' (suc t) (false ∷ c) s = omega (arith, choices-more (length c) t, rank-lt' (suc t) c (omega arith))

rank-at' : (t : ℕ) (c : Choice) → size c ≡ t → choice_at (length c) t (rank t c) ≡ c
unfolding rank size count
rank-at' zero [] s = no-shop 0
rank-at' zero (true ∷ c) s = absurd (omega arith)
rank-at' zero (false ∷ c) s = no-shop (suc (length c)) ∙ ap (λ (d : Choice). false ∷ d) (sym (no-shop (length c)) ∙ rank-at' zero c (omega arith))
rank-at' (suc t) [] s = absurd (omega arith)
rank-at' (suc t) (true ∷ c) s =
    choice-with (length c) t (rank t c) (rank-lt' t c (omega arith)) ∙ ap (λ (d : Choice). true ∷ d) (rank-at' t c (omega arith))
rank-at' (suc t) (false ∷ c) s =
    choice-without (length c) t (rank (suc t) c) (rank-lt' (suc t) c (omega arith)) ∙ ap (λ (d : Choice). false ∷ d) (rank-at' (suc t) c (omega arith))

module _ (n t : ℕ) (c : Choice) (l : length c ≡ n) (s : size c ≡ t) where
  pub rank_lt : rank t c < length (choices n t)
  rank_lt = subst (λ (m : ℕ). rank t c < length (choices m t)) l (rank-lt' t c s)

  pub rank-at : choice_at n t (rank t c) ≡ c
  rank-at = ap (λ (m : ℕ). choice_at m t (rank t c)) (sym l) ∙ rank-at' t c s

pub at-rank : (n t g : ℕ) → g < length (choices n t) → rank t (choice_at n t g) ≡ g
unfolding rank choose
at-rank n zero g h = omega arith
at-rank zero (suc t) g h = absurd (omega arith)
at-rank (suc n) (suc t) g h = go (dec_lt g L) (at-rank n t g) (at-rank n (suc t) (g - L))
  where
    L : ℕ
    L = length (choices n t)

    go : Dec (g < L) → (g < L → rank t (choice_at n t g) ≡ g) → (g - L < length (choices n (suc t)) → rank (suc t) (choice_at n (suc t) (g - L)) ≡ g - L)
        → rank (suc t) (choice_at (suc n) (suc t) g) ≡ g
    go (yes l) first later = ap (rank (suc t)) (choice-with n t g l) ∙ first l
    go (no l) first later =
        let r = later-row n t g (omega (arith, l)) h in
        ap (rank (suc t)) r.1 ∙ omega (arith, l, ap (λ (i : ℕ). length (choices i t)) (choice-length n (suc t) (g - L) r.0), later r.0)

-- ---- every choice stands in one row

pub choices-all : (n t : ℕ) (c : Choice) → length c ≡ n → size c ≡ t → (g : ℕ) × (g < length (choices n t)) × (choice_at n t g ≡ c)
choices-all n t c l s = (rank t c, rank_lt n t c l s, rank-at n t c l s)

pub choices-once : (n t g h : ℕ) → g < length (choices n t) → h < length (choices n t) → choice_at n t g ≡ choice_at n t h → g ≡ h
choices-once n t g h l m e = sym (at-rank n t g l) ∙ ap (rank t) e ∙ at-rank n t h m
