-- Sets seen from a set L that holds them: its columns alone, numbered anew. `within L K` is the set K then, and `within L row` the row.
--   within-map, within-∪, within-∩, within-∖     what is made of sets and rows is made of what is seen of them
--   within_same, within-size     the values of a row at K, and how many columns K has, are the same from L
--   within-self, within-choose   L itself is every column, and the sets of j columns of R are those of j columns of what is seen of it
--   choose-same                  what is made of each set of j columns of R
--   position L i                 the column that is number i of L
--   position-lt, position_in, within-at     it is a column, of L, and has what stands at i of what is seen
--   lowest-part                  the lowest column of a set is the same one, seen from L
use Prim.Native.Nat.{ℕ, zero, suc, ◌+◌, ◌<◌}
use native.Mathlib.Omega.{arith}
use mathlib.Core.Path.{◌≡◌, refl, sym, ap, ap₂, ◌∙◌}
use mathlib.Core.Bool.{Bool, true, false, not, ◌&&◌, ◌||◌}
use mathlib.Core.List.{List, [], ◌∷◌, ◌++◌, map, map-map, map-append, zip_with}
use lib.ListN.{length, get_or}
use lib.Dec.{T}
use Rattle.order.specs.Counting.{count}
use Rattle.order.specs.Lists.{first_at}
use Rattle.columns.specs.Columns.{Columns, every_column, size, ◌∪◌, ◌∩◌, ◌∖◌, within, choose, lowest}
use Rattle.columns.proofs.Sets.{has, ◌⊆◌, none, more, empty-in}

pub within-map : {A B : Type 0} (f : A → B) (L : Columns) (row : List A) → within L (map f row) ≡ map f (within L row)
unfolding within
within-map f [] row = refl
within-map f (b ∷ L) [] = refl
within-map f (true ∷ L) (x ∷ row) = ap (λ ys. f x ∷ ys) (within-map f L row)
within-map f (false ∷ L) (x ∷ row) = within-map f L row

within-zip : (f : Bool → Bool → Bool) (L K N : Columns) → length K ≡ length N → within L (zip_with f K N) ≡ zip_with f (within L K) (within L N)
unfolding within zip_with
within-zip f [] K N h = refl
within-zip f (b ∷ L) [] [] h = refl
within-zip f (b ∷ L) [] (c ∷ N) h = absurd (omega arith)
within-zip f (b ∷ L) (a ∷ K) [] h = absurd (omega arith)
within-zip f (true ∷ L) (a ∷ K) (c ∷ N) h = ap (λ (M : Columns). f a c ∷ M) (within-zip f L K N (omega arith))
within-zip f (false ∷ L) (a ∷ K) (c ∷ N) h = within-zip f L K N (omega arith)

module _ (L K N : Columns) (h : length K ≡ length N) where
  pub within-∪ : within L (K ∪ N) ≡ within L K ∪ within L N
  unfolding ◌∪◌
  within-∪ = within-zip ◌||◌ L K N h

  pub within-∩ : within L (K ∩ N) ≡ within L K ∩ within L N
  unfolding ◌∩◌
  within-∩ = within-zip ◌&&◌ L K N h

  pub within-∖ : within L (K ∖ N) ≡ within L K ∖ within L N
  unfolding ◌∖◌
  within-∖ = within-zip (λ a b. a && not b) L K N h

-- ---- sets that L holds

pub within_same : {A : Type 0} {K L : Columns} (row : List A) → K ⊆ L → length row ≡ length L → within (within L K) (within L row) ≡ within K row
unfolding within
within_same row none h = refl
within_same [] (more f s) h = absurd (omega arith)
within_same (x ∷ row) (more {a = true} {b = true} f s) h = ap (λ ys. x ∷ ys) (within_same row s (omega arith))
within_same (x ∷ row) (more {a = true} {b = false} f s) h = absurd (f tt)
within_same (x ∷ row) (more {a = false} {b = true} f s) h = within_same row s (omega arith)
within_same (x ∷ row) (more {a = false} {b = false} f s) h = within_same row s (omega arith)

pub within-size : {K L : Columns} → K ⊆ L → size (within L K) ≡ size K
unfolding within size count
within-size none = refl
within-size (more {a = true} {b = true} f s) = omega (arith, within-size s)
within-size (more {a = true} {b = false} f s) = absurd (f tt)
within-size (more {a = false} {b = true} f s) = omega (arith, within-size s)
within-size (more {a = false} {b = false} f s) = omega (arith, within-size s)

pub within-self : (L : Columns) → within L L ≡ every_column (size L)
unfolding within size count
within-self [] = refl
within-self (true ∷ L) = ap (λ (K : Columns). true ∷ K) (within-self L) ∙ ap every_column (let e : suc (size L) ≡ 1 + size L = omega arith in e)
within-self (false ∷ L) = within-self L ∙ ap every_column (let e : size L ≡ 0 + size L = omega arith in e)

pub within-choose : {R L : Columns} (j : ℕ) → R ⊆ L → choose j (within L R) ≡ map (within L) (choose j R)
unfolding choose within
within-choose {R} {L} zero s = ap (λ (I : Columns). I ∷ []) (sym (within-map (λ _. false) L R))
within-choose (suc j) none = refl
within-choose (suc j) (more {a} {b} {K = R} {L = L} f s) = go a b f (within-choose j s) (within-choose (suc j) s)
  where
    step : (d : Bool) (xs : List Columns) → map (λ I. d ∷ I) (map (within L) xs) ≡ map (within (true ∷ L)) (map (λ I. d ∷ I) xs)
    step d xs = map-map (λ I. d ∷ I) (within L) xs ∙ sym (map-map (within (true ∷ L)) (λ I. d ∷ I) xs)

    go : (a b : Bool) → (T a → T b) → choose j (within L R) ≡ map (within L) (choose j R) → choose (suc j) (within L R) ≡ map (within L) (choose (suc j) R)
        → choose (suc j) (within (b ∷ L) (a ∷ R)) ≡ map (within (b ∷ L)) (choose (suc j) (a ∷ R))
    go true true f p q =
        ap₂ (λ (xs ys : List Columns). map (λ I. true ∷ I) xs ++ map (λ I. false ∷ I) ys) p q
        ∙ ap₂ (λ (xs ys : List Columns). xs ++ ys) (step true (choose j R)) (step false (choose (suc j) R))
        ∙ sym (map-append (within (true ∷ L)) (map (λ I. true ∷ I) (choose j R)) (map (λ I. false ∷ I) (choose (suc j) R)))
    go true false f p q = absurd (f tt)
    go false true f p q = ap (map (λ I. false ∷ I)) q ∙ step false (choose (suc j) R)
    go false false f p q = q ∙ sym (map-map (within (false ∷ L)) (λ I. false ∷ I) (choose (suc j) R))

put_first : {B : Type 0} (f g : Columns → B) (b : Bool) (Is : List Columns) → map (λ I. f (b ∷ I)) Is ≡ map (λ I. g (b ∷ I)) Is → map f (map (λ I. b ∷ I) Is) ≡ map g (map (λ I. b ∷ I) Is)
put_first f g b Is e = map-map f (λ I. b ∷ I) Is ∙ e ∙ sym (map-map g (λ I. b ∷ I) Is)

-- what is made of each set of j columns of R
pub choose-same : {B : Type 0} (j : ℕ) (R : Columns) (f g : Columns → B) → ((I : Columns) → I ⊆ R → f I ≡ g I) → map f (choose j R) ≡ map g (choose j R)
unfolding choose
choose-same zero R f g h = ap (λ y. y ∷ []) (h (map (λ _. false) R) (empty-in R))
choose-same (suc j) [] f g h = refl
choose-same (suc j) (true ∷ R) f g h =
    map-append f (map (λ I. true ∷ I) (choose j R)) (map (λ I. false ∷ I) (choose (suc j) R))
    ∙ ap₂ (λ ys zs. ys ++ zs)
    (put_first f g true (choose j R) (choose-same j R (λ I. f (true ∷ I)) (λ I. g (true ∷ I)) (λ I s. h (true ∷ I) (more (λ t. t) s))))
    (put_first f g false (choose (suc j) R) (choose-same (suc j) R (λ I. f (false ∷ I)) (λ I. g (false ∷ I)) (λ I s. h (false ∷ I) (more (λ t. absurd t) s))))
    ∙ sym (map-append g (map (λ I. true ∷ I) (choose j R)) (map (λ I. false ∷ I) (choose (suc j) R)))
choose-same (suc j) (false ∷ R) f g h =
    put_first f g false (choose (suc j) R) (choose-same (suc j) R (λ I. f (false ∷ I)) (λ I. g (false ∷ I)) (λ I s. h (false ∷ I) (more (λ t. t) s)))

-- ---- by number

pub position : Columns → ℕ → ℕ
position [] i = 0
position (true ∷ L) zero = 0
position (true ∷ L) (suc i) = suc (position L i)
position (false ∷ L) i = suc (position L i)

pub position-lt : (L : Columns) (i : ℕ) → i < size L → position L i < length L
unfolding position size count
position-lt [] i h = absurd (omega arith)
position-lt (true ∷ L) zero h = omega arith
position-lt (true ∷ L) (suc i) h = omega (arith, position-lt L i (omega arith))
position-lt (false ∷ L) i h = omega (arith, position-lt L i (omega arith))

pub within-at : {A : Type 0} (L : Columns) (xs : List A) (i : ℕ) (d : A) → i < size L → length xs ≡ length L → get_or (within L xs) i d ≡ get_or xs (position L i) d
unfolding position within size count
within-at [] xs i d h l = absurd (omega arith)
within-at (b ∷ L) [] i d h l = absurd (omega arith)
within-at (true ∷ L) (x ∷ xs) zero d h l = refl
within-at (true ∷ L) (x ∷ xs) (suc i) d h l = within-at L xs i d (omega arith) (omega arith)
within-at (false ∷ L) (x ∷ xs) i d h l = within-at L xs i d (omega arith) (omega arith)

pub position_in : (L : Columns) (i : ℕ) → i < size L → has L (position L i) ≡ true
unfolding position size count
position_in [] i h = absurd (omega arith)
position_in (true ∷ L) zero h = refl
position_in (true ∷ L) (suc i) h = position_in L i (omega arith)
position_in (false ∷ L) i h = position_in L i (omega arith)

-- the lowest column of a set that L holds
pub lowest-part : {K L : Columns} → K ⊆ L → position L (lowest (within L K)) ≡ lowest K
unfolding lowest first_at within position
lowest-part none = refl
lowest-part (more {a = true} {b = true} f s) = refl
lowest-part (more {a = true} {b = false} f s) = absurd (f tt)
lowest-part (more {a = false} {b = true} f s) = ap suc (lowest-part s)
lowest-part (more {a = false} {b = false} f s) = ap suc (lowest-part s)
