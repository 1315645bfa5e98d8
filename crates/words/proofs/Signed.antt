-- Laws of a signed 28-bit field as an i32.
--   sub-fits, field-low, field-high, field-kept    from the field to the i32
--   same                                           a difference in range, as an i32
--   moved-fits, moved-is, as_is, field-casts, field_is       from the i32 to the field
use Prim.Native.Nat.{ℕ, suc, ◌-◌, ◌≤◌, ◌<◌, ◌^◌}
use native.Mathlib.Omega.{arith}
use mathlib.Core.Path.{◌≡◌, refl, sym, ap, ◌∙◌}
use mathlib.Core.Bool.{Bool, true, false, cond}
use lib.Dec.{T, ltb}
use lib.IntN.{ℤ, pos, negsuc, nat_abs, ◌+ℤ◌, ◌-ℤ◌}
use lib.Signed.{mag, lt_z, non_neg}
use borrow.Author.Tests.{lt-ltb, le-ltb}
use mir.Syntax.{w32}
use mir.Val.{Fits, SFits, to_z, of_z}
use mir.Facts.{to_z-of_z, to_z_pos}
use Rattle.order.proofs.Signed.{mag-abs, kept, negative, not_negative}
use Rattle.words.specs.Words.{signed, bits_of}
use Rattle.words.proofs.Fields.{bits_small}

-- ---- from the field to the i32

pub field-low : (v : ℕ) → v < 134217728 → to_z w32 v ≡ signed v
unfolding signed
field-low v h = to_z_pos w32 {n = v} (omega arith) ∙ simp (lt-ltb v 134217728 h)

signed-fits : (v : ℕ) → v < 268435456 → SFits w32 (signed v)
unfolding signed
signed-fits v h = go (ltb v 134217728)
  where
    go : (t : Bool) → SFits w32 (cond t (pos v) (negsuc (268435455 - v)))
    go true = record { sfits = omega arith }
    go false = record { sfits = omega arith }

module _ (v : ℕ) (lo : 134217728 ≤ v) (hi : v < 268435456) where
  less : to_z w32 v -ℤ pos 268435456 ≡ signed v
  unfolding signed
  less =
      let e : 268435456 - suc v ≡ 268435455 - v = omega arith in
      ap (λ (z : ℤ). z -ℤ pos 268435456) (to_z_pos w32 {n = v} (omega arith)) ∙ simp (lt-ltb v 268435456 hi, le-ltb v 134217728 lo, e)

  pub sub-fits : SFits w32 (to_z w32 v -ℤ pos 268435456)
  sub-fits = rw less (signed-fits v hi)

  pub field-high : to_z w32 (of_z w32 (to_z w32 v -ℤ pos 268435456)) ≡ signed v
  field-high = to_z-of_z sub-fits ∙ less

-- stored as an i32 and taken out again
pub field-kept : (v : ℕ) (z : ℤ) → v < 268435456 → z ≡ signed v → to_z w32 (of_z w32 z) ≡ signed v
field-kept v z h e = ap (λ (x : ℤ). to_z w32 (of_z w32 x)) e ∙ to_z-of_z (signed-fits v h)

-- ---- from the i32 to the field

up : (d : ℤ) → nat_abs d ≤ 134217727 → d ≡ negsuc (mag d) → d +ℤ pos 268435456 ≡ pos (bits_of d)
unfolding bits_of
up d h e =
    let l : mag d < 268435456 = omega (arith, mag-abs d) in
    let m : 268435456 - suc (mag d) ≡ 268435455 - mag d = omega arith in
    ap (λ (z : ℤ). z +ℤ pos 268435456) e
    ∙ (simp (le-ltb 268435456 (suc (mag d)) (omega arith), m))
    ∙ ap (λ (z : ℤ). pos (bits_of z)) (sym e)

module _ (d : ℤ) (h : nat_abs d ≤ 134217727) where
  in-width : nat_abs d < 2 ^ 31
  in-width = omega arith

  pub same : to_z w32 (of_z w32 d) ≡ d
  same = kept w32 d in-width

  module _ (t : lt_z (to_z w32 (of_z w32 d)) (pos 0) ≡ true) where
    moved : to_z w32 (of_z w32 d) +ℤ pos 268435456 ≡ pos (bits_of d)
    moved = ap (λ (z : ℤ). z +ℤ pos 268435456) same ∙ up d h (negative w32 d in-width t)

    pub moved-fits : SFits w32 (to_z w32 (of_z w32 d) +ℤ pos 268435456)
    moved-fits = rw moved (record { sfits = omega (arith, bits_small d h) })

    pub moved-is : to_z w32 (of_z w32 (to_z w32 (of_z w32 d) +ℤ pos 268435456)) ≡ pos (bits_of d)
    moved-is = to_z-of_z moved-fits ∙ moved

  pub as_is : lt_z (to_z w32 (of_z w32 d)) (pos 0) ≡ false → to_z w32 (of_z w32 d) ≡ pos (bits_of d)
  unfolding bits_of
  as_is t = let e = not_negative w32 d in-width t in same ∙ e ∙ ap pos (sym (ap bits_of e))

  module _ (z : ℤ) (e : z ≡ pos (bits_of d)) where
    pub field-casts : T (non_neg z) × Fits w32 (nat_abs z)
    field-casts = rw e (tt, record { fits = omega (arith, bits_small d h) })

    pub field_is : (nat_abs z ≡ bits_of d) × (nat_abs z < 268435456)
    field_is = rw e (refl, bits_small d h)
