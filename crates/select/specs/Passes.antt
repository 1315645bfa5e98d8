-- The m-th smallest by the 64-bit order: one bit of its place after another, from the top. Definitions only.
--   lower p xs            how many members stand below the place p
--   top_bits o p           p with its o lowest bits zero
--   passed m xs o h       what is held after the pass that settles bit o, zero in h till then: h + 2 ^ o where fewer than m members stand below that place, and h where not
--   left_at h f p          p is one of the places that are left, where h is held and the f lowest bits are free: from h to below h + 2 ^ f
--   shares_top h f o q x  x stands at no place that is left, or at one whose top bits are q, all but the o lowest
--   Search m xs p h f     a search that holds h, with the f lowest bits free, after p passes over the members: each pass settles one bit more,
--                         or all bits that the members left share
use Rattle.std.specs.Prelude.{ℕ, suc, ◌+◌, ◌*◌, ◌/◌, ◌^◌, ◌<◌, Bool, cond, not, ◌&&◌, ◌||◌, List, T, ltb, leb, eqb, Float}
use Rattle.order.specs.Counting.{count, all}
use Rattle.order.specs.Places.{place}

abbrev pub lower : ℕ → List Float → ℕ
lower p xs = count (λ x. ltb (place x) p) xs

abbrev pub top_bits : ℕ → ℕ → ℕ
top_bits o p = p / 2 ^ o * 2 ^ o

unfoldable pub passed : ℕ → List Float → ℕ → ℕ → ℕ
passed m xs o h = cond (ltb (lower (h + 2 ^ o) xs) m) (h + 2 ^ o) h

abbrev pub left_at : ℕ → ℕ → ℕ → Bool
left_at h f p = leb h p && ltb p (h + 2 ^ f)

abbrev pub shares_top : ℕ → ℕ → ℕ → ℕ → Float → Bool
shares_top h f o q x = not (left_at h f (place x)) || eqb (top_bits o (place x)) q

pub data Search (m : ℕ) (xs : List Float) : ℕ → ℕ → ℕ → Type 0 where
  begun : Search m xs 0 0 64
  one_bit : {p h f : ℕ} → Search m xs p h (suc f) → Search m xs (suc p) (passed m xs f h) f
  all-shared : {p h f o q : ℕ} → Search m xs p h f → o < f → T (all (shares_top h f o q) xs) → Search m xs (suc p) q o
