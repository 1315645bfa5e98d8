-- The rows of a table, met in another order: what passes a test is counted alike.
use Prim.Native.Nat.{ℕ, suc, ◌≤◌, ◌<◌}
use native.Mathlib.Omega.{arith}
use mathlib.Core.Path.{◌≡◌, refl, sym, ap, ap₂, ◌∙◌, subst}
use mathlib.Core.Bool.{Bool, true, false}
use mathlib.Core.List.{List, [], ◌∷◌, map}
use lib.ListN.{length, get_or}
use lib.Dec.{T}
use lib.Ieee.{Float, nan}
use Rattle.order.specs.Counting.{count}
use Rattle.order.proofs.Counts.{count_map, count_below-le, count_below-list}
use Rattle.order.proofs.Injections.{count-inj}
use Rattle.order.proofs.Keys.{key}
use Rattle.columns.specs.Columns.{Columns, within}
use Rattle.columns.proofs.Sets.{has}
use Rattle.control.proofs.General.{keys_at}

-- ---- rows that agree on a set

-- rows agree on a set, as numbers, where they agree at each of its columns
pub keys-same : (K : Columns) (r s : List Float) → length r ≡ length s → ((j : ℕ) → j < length r → T (has K j) → key (get_or r j nan) ≡ key (get_or s j nan)) → keys_at K r ≡ keys_at K s
unfolding within
keys-same [] r s l h = refl
keys-same (b ∷ K) [] [] l h = refl
keys-same (b ∷ K) [] (y ∷ s) l h = absurd (omega arith)
keys-same (b ∷ K) (x ∷ r) [] l h = absurd (omega arith)
keys-same (true ∷ K) (x ∷ r) (y ∷ s) l h =
    ap₂ (λ (z : ℕ) (zs : List ℕ). z ∷ zs) (h 0 (omega arith) tt) (keys-same K r s (omega arith) (λ j i t. h (suc j) (omega arith) t))
keys-same (false ∷ K) (x ∷ r) (y ∷ s) l h = keys-same K r s (omega arith) (λ j i t. h (suc j) (omega arith) t)

-- σ carries the rows of Y to those of X, on the set K, and τ undoes it
pub reordered : (X Y : List (List Float)) (K : Columns) (σ τ : ℕ → ℕ) → length Y ≡ length X
    → ((i : ℕ) → i < length X → τ i < length X) → ((i : ℕ) → i < length X → σ (τ i) ≡ i)
    → ((h : ℕ) → h < length X → keys_at K (get_or Y h []) ≡ keys_at K (get_or X (σ h) []))
    → (p : List ℕ → Bool) → count p (map (keys_at K) X) ≤ count p (map (keys_at K) Y)
reordered X Y K σ τ len in-X back rows p =
    omega (
      arith,
      count_map (keys_at K) p X,
      count_map (keys_at K) p Y,
      count_below-list (λ r. p (keys_at K r)) X [],
      count_below-list (λ r. p (keys_at K r)) Y [],
      count_below-le (length X) (λ i. p (keys_at K (get_or X i []))) (λ i. p (keys_at K (get_or Y (τ i) [])))
          (λ i l t. subst (λ (r : List ℕ). T (p r)) (sym (rows (τ i) (in-X i l) ∙ ap (λ (z : ℕ). keys_at K (get_or X z [])) (back i l))) t),
      count-inj (length X) (length Y) τ (λ h. p (keys_at K (get_or Y h []))) (λ i l. omega (arith, in-X i l))
          (λ i j l r e. sym (back i l) ∙ ap σ e ∙ back j r),
    )
