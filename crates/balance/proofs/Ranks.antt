-- Ranks keep the order of the values in their column.
--   rank-order        the order of the ranks of a value that stands in the column and of any other
--   balanced-order    the order of an entry and another one of its column, in the balanced rows
use Prim.Native.Nat.{ℕ, ◌^◌, ◌≤◌, ◌<◌}
use native.Mathlib.Omega.{arith}
use native.Mathlib.Decide.{dec_le}
use mathlib.Core.Path.{◌≡◌, sym, ap₂, ◌∙◌}
use mathlib.Core.List.{List, []}
use lib.ListN.{length, get_or}
use lib.Dec.{T, leb, leb→le, le→leb}
use lib.Ieee.{Float, nan}
use borrow.Author.Tests.{le-leb, lt-leb}
use Rattle.order.specs.Order.{finite, at_most}
use Rattle.order.specs.Counting.{count}
use Rattle.order.proofs.Counts.{all_get_d, count-le-all, count_less}
use Rattle.order.proofs.Keys.{key, at_most-key}
use Rattle.order.proofs.Rows.{Sound, sound_row, sound-length, sound-at}
use Rattle.order.proofs.Whole.{whole-at_most}
use Rattle.balance.specs.Balance.{rank, balanced_row}
use Rattle.balance.proofs.Balanced.{rank-keys, rank_most, balanced_row-at}

-- of a member and any number: how many members are at most the one, and at most the other
counts-order : {A : Type 0} (f : A → ℕ) (l : List A) (g : ℕ) (d : A) (b : ℕ) → g < length l → leb (count (λ x. leb (f x) (f (get_or l g d))) l) (count (λ x. leb (f x) b) l) ≡ leb (f (get_or l g d)) b
counts-order {A} f l g d b h = go (dec_le a b)
  where
    a : ℕ
    a = f (get_or l g d)

    up : (a b : ℕ) → a ≤ b → (x : A) → T (leb (f x) a) → T (leb (f x) b)
    up a b k x t = le→leb (f x) b (omega (arith, leb→le (f x) a t))

    go : Dec (a ≤ b) → leb (count (λ x. leb (f x) a) l) (count (λ x. leb (f x) b) l) ≡ leb a b
    go (yes k) = le-leb (count (λ x. leb (f x) a) l) (count (λ x. leb (f x) b) l) (count-le-all _ _ l (up a b k)) ∙ sym (le-leb a b k)
    go (no k) =
        let less : b < a = omega (arith, k) in
        lt-leb (count (λ x. leb (f x) a) l) (count (λ x. leb (f x) b) l) (count_less _ _ l g d (up b a (omega arith)) h (le→leb a a (omega arith)) (λ t. k (leb→le a b t)))
        ∙ sym (lt-leb a b less)

module _ (n : ℕ) (X : List (List Float)) (sound : Sound n X) (j : ℕ) (in_row : j < n) (g : ℕ) (in_rows : g < length X) where
  own : T (sound_row n (get_or X g []))
  own = all_get_d (sound_row n) X g [] in_rows sound

  pub rank-order : (w : Float) → T (finite w) → leb (rank X j (get_or (get_or X g []) j nan)) (rank X j w) ≡ at_most (get_or (get_or X g []) j nan) w
  rank-order w f =
      let v = get_or (get_or X g []) j nan in
      let fv = sound-at n (get_or X g []) j own in_row in
      ap₂ leb (rank-keys n X sound j in_row v fv) (rank-keys n X sound j in_row w f)
      ∙ counts-order (λ row. key (get_or row j nan)) X g [] (key w) in_rows
      ∙ sym (at_most-key v w fv f)

  pub balanced-order : length X ≤ 2 ^ 53 → (row : List Float) → T (sound_row n row)
      → at_most (get_or (balanced_row X (get_or X g [])) j nan) (get_or (balanced_row X row) j nan) ≡ at_most (get_or (get_or X g []) j nan) (get_or row j nan)
  balanced-order few row s =
      let v = get_or (get_or X g []) j nan in
      let w = get_or row j nan in
      ap₂ at_most (balanced_row-at X (get_or X g []) j (omega (arith, sound-length n (get_or X g []) own))) (balanced_row-at X row j (omega (arith, sound-length n row s)))
      ∙ whole-at_most (rank X j v) (rank X j w) (omega (arith, rank_most X j v)) (omega (arith, rank_most X j w))
      ∙ rank-order w (sound-at n row j s in_row)
