-- Finite values beside the infinities.
--   all-below          every finite value is smaller than infinity
--   finite-low, low-finite     a bound that may be minus infinity
--   smaller-low        two such bounds by their keys, minus infinity's being 0
--   finite-fits        a finite value is an f64
use Prim.Native.Nat.{◌<◌}
use native.Mathlib.Omega.{arith}
use mathlib.Core.Path.{◌≡◌, refl, sym}
use mathlib.Core.Bool.{true, false}
use lib.Dec.{T, ltb}
use lib.Ieee.{Float, nan, inf, fin, binary64, fits, lt}
use borrow.Author.Tests.{lt-ltb, le-ltb}
use Rattle.order.specs.Order.{finite, low, smaller}
use Rattle.order.proofs.Keys.{key, key-some, smaller-key}

pub all-below : (x : Float) → T (finite x) → smaller x (inf false) ≡ true
unfolding finite lt
all-below nan f = absurd f
all-below (inf s) f = absurd f
all-below (fin s m e) f = refl

pub finite-low : (x : Float) → T (finite x) → T (low x)
unfolding finite
finite-low nan t = absurd t
finite-low (inf s) t = absurd t
finite-low (fin s m e) t = t

pub finite-fits : (x : Float) → T (finite x) → T (fits binary64 x)
unfolding finite
finite-fits nan t = absurd t
finite-fits (inf s) t = absurd t
finite-fits (fin s m e) t = t

pub low-finite : (x : Float) → T (low x) → 0 < key x → T (finite x)
unfolding finite key
low-finite nan l p = absurd l
low-finite (inf s) l p = absurd (omega arith)
low-finite (fin s m e) l p = l

pub smaller-low : (t x : Float) → T (low t) → T (low x) → smaller t x ≡ ltb (key t) (key x)
unfolding finite lt key
smaller-low nan x l f = absurd l
smaller-low (inf false) x l f = absurd l
smaller-low (inf true) nan l f = absurd f
smaller-low (inf true) (inf false) l f = absurd f
smaller-low (inf true) (inf true) l f = refl
smaller-low (inf true) (fin s m e) l f = sym (lt-ltb 0 (key (fin s m e)) (key-some (fin s m e) f))
smaller-low (fin s m e) nan l f = absurd f
smaller-low (fin s m e) (inf false) l f = absurd f
smaller-low (fin s m e) (inf true) l f = sym (le-ltb (key (fin s m e)) 0 (omega arith))
smaller-low (fin s m e) (fin r n d) l f = smaller-key (fin s m e) (fin r n d) l f
