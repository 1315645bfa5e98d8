-- The k largest values of a list, met one by one, for every k.
--   Ranked total rest j ts     of the places from the j-th on the i-th is above v exactly where i values above v are seen: of `total v`, `rest v` are still to come
--   top_start, top-push      at the start, with a value pushed; pushed_more, pushed_all: place after place
--   nth-largest          with nothing to come, the k-th of k places is the k-th largest, with plus zero for either zero
use Prim.Native.Nat.{ℕ, zero, suc, ◌+◌, ◌-◌, ◌≤◌, ◌<◌}
use native.Mathlib.Omega.{arith}
use native.Mathlib.Decide.{dec_lt, dec_le}
use mathlib.Core.Path.{◌≡◌, refl, sym, ap, ◌∙◌, subst}
use mathlib.Core.Logic.{◌↔◌}
use mathlib.Core.Bool.{Bool, true, false, cond}
use mathlib.Core.List.{List, [], ◌∷◌, ◌++◌}
use lib.ListN.{length, get_or, take, drop, set, replicate, length-replicate}
use lib.Dec.{T, ltb}
use lib.Ieee.{Float, inf, nan}
use borrow.Author.Tests.{lt-ltb, le-ltb, ltb-true, ltb-false}
use Rattle.order.specs.Order.{finite, low, smaller, larger, lesser, with_plus_zero}
use Rattle.order.specs.Counting.{bit, count, all}
use Rattle.order.proofs.Booleans.{not-below, and_left, and_right}
use Rattle.order.proofs.Infinities.{finite-low, low-finite, smaller-low}
use Rattle.order.proofs.Keys.{key, key-some, with_plus_zero-same}
use Rattle.order.proofs.Rows.{Finite}
use Rattle.select.specs.Rank.{kth_largest}
use Rattle.select.proofs.Ranks.{Ranks, above, kth_largest-ranks, kth_largest-law}
use Rattle.critical.specs.Internal.{pushed, top_from}

-- ---- counts over keys

-- of the values above v, j or more are seen
abbrev Seen : (ℕ → ℕ) → (ℕ → ℕ) → ℕ → ℕ → Type 0
Seen total rest j x = (v : ℕ) → (v < x) ↔ (j + rest v ≤ total v)

-- the places of a list from the j-th on, each with the rank of its place
abbrev pub Ranked : (ℕ → ℕ) → (ℕ → ℕ) → ℕ → List Float → Type 0
Ranked total rest j [] = Unit {0}
Ranked total rest j (t ∷ ts) = T (low t) × Seen total rest (suc j) (key t) × Ranked total rest (suc j) ts

-- the j-th, a value x lying above: it comes from the (j - 1)-th; x lying above that too: from x
module _ (total rest rest' : ℕ → ℕ) (x : ℕ) (step : (v : ℕ) → rest v ≡ bit (ltb v x) + rest' v) where
  bit-on : (v : ℕ) → v < x → rest v ≡ 1 + rest' v
  bit-on v h = step v ∙ ap (λ (b : Bool). bit b + rest' v) (lt-ltb v x h)

  bit-off : (v : ℕ) → x ≤ v → rest v ≡ rest' v
  bit-off v h = omega (arith, step v, ap bit (le-ltb v x h))

  -- x passes by below: the j-th stays
  stays : (j y : ℕ) → x ≤ y → Seen total rest j y → ((v : ℕ) → rest v ≤ total v) → Seen total rest' j y
  stays j y h s some v = go (dec_lt v x)
    where
      go : Dec (v < x) → (v < y) ↔ (j + rest' v ≤ total v)
      go (yes g) = (λ q. omega (arith, (s v).0 q, bit-on v g), λ q. omega arith)
      go (no g) = (λ q. omega (arith, (s v).0 q, bit-off v (omega (arith, g))), λ q. (s v).1 (omega (arith, bit-off v (omega (arith, g)))))

  -- x comes between the (j - 1)-th and the j-th: it is the j-th
  enters : (j y z : ℕ) → y ≤ x → x ≤ z → Seen total rest (suc j) y → Seen total rest j z → Seen total rest' (suc j) x
  enters j y z h k s p v = go (dec_lt v x)
    where
      go : Dec (v < x) → (v < x) ↔ (suc j + rest' v ≤ total v)
      go (yes g) = (λ q. omega (arith, (p v).0 (omega arith), bit-on v g), λ q. g)
      go (no g) = (λ q. absurd (g q), λ q. absurd (g (omega (arith, (s v).1 (omega (arith, bit-off v (omega (arith, g))))))))

  -- x comes above the (j - 1)-th: that is the j-th now
  moves : (j z : ℕ) → z ≤ x → Seen total rest j z → Seen total rest' (suc j) z
  moves j z h s v = go (dec_lt v x)
    where
      go : Dec (v < x) → (v < z) ↔ (suc j + rest' v ≤ total v)
      go (yes g) = (λ q. omega (arith, (s v).0 q, bit-on v g), λ q. (s v).1 (omega (arith, bit-on v g)))
      go (no g) = (λ q. omega (arith, g), λ q. (s v).1 (omega (arith, bit-off v (omega (arith, g)))))

  -- x comes above the first: it is the first
  leads : (y : ℕ) → y ≤ x → Seen total rest 1 y → ((v : ℕ) → rest v ≤ total v) → Seen total rest' 1 x
  leads y h s some v = go (dec_lt v x)
    where
      go : Dec (v < x) → (v < x) ↔ (1 + rest' v ≤ total v)
      go (yes g) = (λ q. omega (arith, some v, bit-on v g), λ q. g)
      go (no g) = (λ q. absurd (g q), λ q. absurd (g (omega (arith, (s v).1 (omega (arith, bit-off v (omega (arith, g))))))))

-- the j-th falls with j
falls : (total rest : ℕ → ℕ) (j y z : ℕ) → Seen total rest (suc j) y → Seen total rest j z → y ≤ z
falls total rest j y z s p = not-below z y (λ h. let g : z < z = (p z).1 (omega (arith, (s z).0 h)) in omega arith)

-- the larger and the lesser of two by their keys
either-low : (b : Bool) (x y : Float) → T (low x) → T (low y) → T (low (cond b x y))
either-low true x y l m = l
either-low false x y l m = m

larger-key : (b c : Float) → T (low b) → T (low c) → (key b ≤ key c → key (larger b c) ≡ key c) × (key c ≤ key b → key (larger b c) ≡ key b)
larger-key b c l m = go (smaller b c) (smaller-low b c l m)
  where
    go : (t : Bool) → t ≡ ltb (key b) (key c) → (key b ≤ key c → key (cond t c b) ≡ key c) × (key c ≤ key b → key (cond t c b) ≡ key b)
    go true e = (λ h. refl, λ h. omega (arith, ltb-true (key b) (key c) (sym e)))
    go false e = (λ h. omega (arith, ltb-false (key b) (key c) (sym e)), λ h. refl)

lesser-key : (b c : Float) → T (low b) → T (low c) → (key b ≤ key c → key (lesser b c) ≡ key b) × (key c ≤ key b → key (lesser b c) ≡ key c)
lesser-key b c l m = go (smaller b c) (smaller-low b c l m)
  where
    go : (t : Bool) → t ≡ ltb (key b) (key c) → (key b ≤ key c → key (cond t b c) ≡ key b) × (key c ≤ key b → key (cond t b c) ≡ key c)
    go true e = (λ h. refl, λ h. omega (arith, ltb-true (key b) (key c) (sym e)))
    go false e = (λ h. omega (arith, ltb-false (key b) (key c) (sym e)), λ h. refl)

module _ (total rest rest' : ℕ → ℕ) (x : Float) (f : T (finite x)) (step : (v : ℕ) → rest v ≡ bit (ltb v (key x)) + rest' v) (some : (v : ℕ) → rest v ≤ total v) where
  -- what the j-th place, z, gives up: the lesser of z and x
  record Given (z p : Float) : Type 0 where
    lowly : T (low p)
    under : key x ≤ key z → key p ≡ key x
    above-it : key z ≤ key x → key p ≡ key z

  gives-first : (a : Float) → T (low a) → Given a (lesser a x)
  gives-first a l = let k = lesser-key a x l (finite-low x f) in record { lowly = either-low (smaller a x) a x l (finite-low x f); under = k.1; above-it = k.0 }

  gives-next : (z y p : Float) → T (low y) → key y ≤ key z → Given z p → Given y (lesser y p)
  gives-next z y p l h g = let k = lesser-key y p l g.lowly in record {
    lowly = either-low (smaller y p) y p l g.lowly;
    under = λ q. let e = g.under (omega arith) in k.1 (omega arith) ∙ e;
    above-it = λ q. k.0 (over q (dec_le (key x) (key z)));
  }
    where
      over : key y ≤ key x → Dec (key x ≤ key z) → key y ≤ key p
      over q (yes r) = let e = g.under r in omega arith
      over q (no r) = let e = g.above-it (omega (arith, r)) in omega arith

  -- the (j + 1)-th place, y, keeps the larger of its value and what the j-th, z, gives up
  keeps : (j : ℕ) (z y p : Float) → T (low y) → key y ≤ key z → Given z p → Seen total rest (suc j) (key y) → Seen total rest j (key z) → Seen total rest' (suc j) (key (larger y p))
  keeps j z y p l h g s t = go (dec_le (key x) (key y)) (dec_le (key x) (key z))
    where
      k : (key y ≤ key p → key (larger y p) ≡ key p) × (key p ≤ key y → key (larger y p) ≡ key y)
      k = larger-key y p l g.lowly

      go : Dec (key x ≤ key y) → Dec (key x ≤ key z) → Seen total rest' (suc j) (key (larger y p))
      go (yes a) b = let e = g.under (omega arith) in let q : key (larger y p) ≡ key y = k.1 (omega arith) in subst (λ (m : ℕ). Seen total rest' (suc j) m) (sym q) (stays total rest rest' (key x) step (suc j) (key y) a s some)
      go (no a) (yes b) = let e = g.under b in let q : key (larger y p) ≡ key x = k.0 (omega (arith, a)) ∙ e in subst (λ (m : ℕ). Seen total rest' (suc j) m) (sym q) (enters total rest rest' (key x) step j (key y) (key z) (omega (arith, a)) b s t)
      go (no a) (no b) = let e = g.above-it (omega (arith, b)) in let q : key (larger y p) ≡ key z = k.0 (omega arith) ∙ e in subst (λ (m : ℕ). Seen total rest' (suc j) m) (sym q) (moves total rest rest' (key x) step j (key z) (omega (arith, b)) t)

  keeps-first : (a : Float) → T (low a) → Seen total rest 1 (key a) → Seen total rest' 1 (key (larger a x))
  keeps-first a l s = go (dec_le (key x) (key a))
    where
      k : (key a ≤ key x → key (larger a x) ≡ key x) × (key x ≤ key a → key (larger a x) ≡ key a)
      k = larger-key a x l (finite-low x f)

      go : Dec (key x ≤ key a) → Seen total rest' 1 (key (larger a x))
      go (yes b) = subst (λ (m : ℕ). Seen total rest' 1 m) (sym (k.1 b)) (stays total rest rest' (key x) step 1 (key a) b s some)
      go (no b) = subst (λ (m : ℕ). Seen total rest' 1 m) (sym (k.0 (omega (arith, b)))) (leads total rest rest' (key x) step (key a) (omega (arith, b)) s some)

  -- the places after the j-th, z, which gives up p
  push-later : (j : ℕ) (z p : Float) (ts : List Float) → Given z p → Seen total rest j (key z) → Ranked total rest j ts → Ranked total rest' j (pushed ts p)
  unfolding pushed
  push-later j z p [] g s r = tt
  push-later j z p (t ∷ ts) g s r =
      let under = falls total rest j (key t) (key z) r.1 s in
      (either-low (smaller t p) p t g.lowly r.0, keeps j z t p r.0 under g r.1 s, push-later (suc j) t (lesser t p) ts (gives-next z t p r.0 under g) r.1 r.2)

  top-push : (ts : List Float) → Ranked total rest 0 ts → Ranked total rest' 0 (pushed ts x)
  unfolding pushed
  top-push [] r = tt
  top-push (t ∷ ts) r = (either-low (smaller t x) x t (finite-low x f) r.0, keeps-first t r.0 r.1, push-later 1 t (lesser t x) ts (gives-first t r.0) r.1 r.2)

top_start : (total : ℕ → ℕ) (j n : ℕ) → Ranked total total j (replicate n (inf true))
unfolding key
top_start total j zero = tt
top_start total j (suc n) = (tt, λ v. (λ q. absurd (omega arith), λ q. absurd (omega arith)), top_start total (suc j) n)

-- a value pushed, place after place
pub pushed_more : (ts : List Float) (i : ℕ) (x : Float) → i < length ts
    → take (i + 1) (set ts i (larger (get_or ts i nan) x)) ++ pushed (drop (i + 1) (set ts i (larger (get_or ts i nan) x))) (lesser (get_or ts i nan) x) ≡ take i ts ++ pushed (drop i ts) x
unfolding pushed
pushed_more [] i x h = absurd (omega arith)
pushed_more (t ∷ ts) zero x h = refl
pushed_more (t ∷ ts) (suc i) x h = let later : suc i + 1 ≡ suc (i + 1) = omega arith in rw later (ap (λ l. t ∷ l) (pushed_more ts i x (omega arith)))

pub pushed_all : (ts : List Float) (i : ℕ) (x : Float) → length ts ≤ i → take i ts ++ pushed (drop i ts) x ≡ ts
unfolding pushed
pushed_all [] zero x h = refl
pushed_all [] (suc i) x h = refl
pushed_all (t ∷ ts) zero x h = absurd (omega arith)
pushed_all (t ∷ ts) (suc i) x h = ap (λ l. t ∷ l) (pushed_all ts i x (omega arith))

-- ---- a list of values

top-all : (total : ℕ → ℕ) (ts xs : List Float) → Finite xs → ((v : ℕ) → above v xs ≤ total v) → Ranked total (λ v. above v xs) 0 ts → Ranked total (λ v. 0) 0 (top_from ts xs)
unfolding top_from count all
top-all total ts [] fs some r = r
top-all total ts (x ∷ xs) fs some r =
    top-all total (pushed ts x) xs (and_right (finite x) (all finite xs) fs) (λ v. omega (arith, some v)) (top-push total (λ v. above v (x ∷ xs)) (λ v. above v xs) x (and_left (finite x) (all finite xs) fs) (λ v. refl) some ts r)

length-pushed : (ts : List Float) (x : Float) → length (pushed ts x) ≡ length ts
unfolding pushed
length-pushed [] x = refl
length-pushed (t ∷ ts) x = omega (arith, length-pushed ts (lesser t x))

length-top : (ts xs : List Float) → length (top_from ts xs) ≡ length ts
unfolding top_from
length-top ts [] = refl
length-top ts (x ∷ xs) = length-top (pushed ts x) xs ∙ length-pushed ts x

-- the place i
record Nth (total rest : ℕ → ℕ) (k : ℕ) (x : Float) : Type 0 where
  lowly : T (low x)
  seen : Seen total rest k (key x)

nth_seen : (total rest : ℕ → ℕ) (j i k : ℕ) (ts : List Float) → Ranked total rest j ts → i < length ts → suc (j + i) ≡ k → Nth total rest k (get_or ts i nan)
nth_seen total rest j i k [] r h e = absurd (omega arith)
nth_seen total rest j zero k (t ∷ ts) r h e = let z : suc j ≡ k = omega arith in record { lowly = r.0; seen = subst (λ (m : ℕ). Seen total rest m (key t)) z r.1 }
nth_seen total rest j (suc i) k (t ∷ ts) r h e = nth_seen total rest (suc j) i k ts r.2 (omega arith) (omega arith)

module _ (xs : List Float) (k : ℕ) (fs : Finite xs) (pos : 0 < k) (enough : k ≤ length xs) where
  abbrev x : Float
  x = get_or (top_from (replicate k (inf true)) xs) (k - 1) nan

  found : Nth (λ v. above v xs) (λ v. 0) k (get_or (top_from (replicate k (inf true)) xs) (k - 1) nan)
  found =
      nth_seen (λ v. above v xs) (λ v. 0) 0 (k - 1) k (top_from (replicate k (inf true)) xs) (top-all (λ v. above v xs) (replicate k (inf true)) xs fs (λ v. omega arith) (top_start (λ v. above v xs) 0 k))
      (omega (arith, length-top (replicate k (inf true)) xs, length-replicate k (inf true))) (omega arith)

  same_key : key (get_or (top_from (replicate k (inf true)) xs) (k - 1) nan) ≡ key (kth_largest k xs)
  same_key = omega (
    arith,
    not-below (key x) (key (kth_largest k xs)) (λ g. let v = key x in let q : v < v = (found.seen v).1 (omega (arith, (kth_largest-law k xs fs pos enough v).0 g)) in omega arith),
    not-below (key (kth_largest k xs)) (key x) (λ g. let v = key (kth_largest k xs) in let q : v < v = (kth_largest-law k xs fs pos enough v).1 (omega (arith, (found.seen v).0 g)) in omega arith),
  )

  pub nth-largest : with_plus_zero (get_or (top_from (replicate k (inf true)) xs) (k - 1) nan) ≡ kth_largest k xs
  nth-largest =
      with_plus_zero-same x (kth_largest k xs) (low-finite x found.lowly (omega (arith, same_key, key-some (kth_largest k xs) rank.finitely))) rank.finitely same_key ∙ rank.plain
    where
      rank : Ranks k xs (kth_largest k xs)
      rank = kth_largest-ranks k xs fs pos enough
