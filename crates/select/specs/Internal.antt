-- Definitions that only the inner functions cite. Definitions only; a reader of the promises needs none of them.
--   chosen lo hi x none   the pattern of x, with plus zero for either zero, where x is not below lo, and below hi; `none` elsewhere
--   gathered f lo hi none d xs     d joined by f, member after member, with what is chosen of each
--   any_bits lo hi xs     the bits that are set in the pattern of some such member
--   every_bits lo hi xs   the bits that are set in the pattern of every such member
--   Holds m xs h          h is what a search holds, after some number of passes
use Rattle.std.specs.Prelude.{ℕ, ◌-◌, ◌^◌, cond, List, [], ◌∷◌, Float}
use Rattle.std.specs.Int.Bits.{bit_and, bit_or}
use Rattle.std.specs.Float.{binary64}
use Rattle.std.specs.Float.Ieee.{to_bits}
use Rattle.order.specs.Order.{smaller, with_plus_zero}
use Rattle.select.specs.Passes.{Search}
use Rattle.select.specs.declared.smallest.Held.{Held}

unfoldable pub chosen : Float → Float → Float → ℕ → ℕ
unfolding with_plus_zero to_bits
chosen lo hi x none = cond (smaller x lo) none (cond (smaller x hi) (to_bits binary64 (with_plus_zero x)) none)

unfoldable pub gathered : (ℕ → ℕ → ℕ) → Float → Float → ℕ → ℕ → List Float → ℕ
unfolding chosen
gathered f lo hi none d [] = d
gathered f lo hi none d (x ∷ xs) = gathered f lo hi none (f d (chosen lo hi x none)) xs

abbrev pub any_bits : Float → Float → List Float → ℕ
any_bits lo hi xs = gathered bit_or lo hi 0 0 xs

abbrev pub every_bits : Float → Float → List Float → ℕ
every_bits lo hi xs = gathered bit_and lo hi (2 ^ 64 - 1) (2 ^ 64 - 1) xs

pub record Holds (m : ℕ) (xs : List Float) (h : Held) : Type 0 where
  pub passes : ℕ
  pub search : Search m xs passes h.place h.free
