-- Laws of shape words, by their kind: pairs, or shops without partners.
--   none-two, none_other, in-shops, in_pairs, spare-shops, spare-pairs     what a word holds, as the code finds it by its kind
--   shape-stands, shape-back     a word that was made is a shape word, and is read back as its shape
--   pairs_made, shops-made       the word that the code makes
--   shape-again                  a word made of the shape that is read
use Prim.Native.Nat.{ℕ, ◌≤◌, ◌<◌}
use native.Mathlib.Omega.{arith}
use native.Mathlib.Nat.{div-div-eq-div-mul}
use mathlib.Core.Path.{◌≡◌, refl, sym, ap, ◌∙◌, subst}
use mathlib.Core.Bool.{Bool, true, false, not, cond, ◌&&◌}
use lib.Dec.{T, eqb}
use borrow.Author.Tests.{eq-eqb, ne_eqb, eqb-true}
use Rattle.limits.specs.Limits.{offers_most, pairs_most, shops_most, units_most, tolerance_most}
use Rattle.refusals.specs.Answers.{first_refusal}
use Rattle.refusals.proofs.Answers.{NoneHolds}
use Rattle.refusals.proofs.Limits.{inside}
use Rattle.trial.specs.Designs.{design_checks}
use Rattle.trial.specs.declared.Design.{Design}
use Rattle.trial.specs.declared.Design.TheVariants.{Paired, Unpaired}
use Rattle.trial.specs.declared.Shape.{Shape}
use Rattle.trial.proofs.LaidOut.{layout-known, shops-inside}
use Rattle.words.specs.Words.{kind_of, unused_of, k_of, offers_of, pairs_of, shops_k, shops_offers, shop_count, treated_of, paired_in, unpaired_in, no_shape, spare_of, shape_in, paired_word, unpaired_word, shape_word_of}

-- ---- by the kind, as the code finds it

module _ (w q : ℕ) (e : q ≡ kind_of w) where
  pub none-two : q ≡ 2 → false ≡ no_shape w
  unfolding no_shape
  none-two h = sym (ap (λ (n : ℕ). not (eqb n 2) && not (eqb n 5)) (sym e ∙ h))

  pub none_other : (q ≡ 2 → ⊥) → not (eqb q 5) ≡ no_shape w
  unfolding no_shape
  none_other h = ap (λ (b : Bool). not b && not (eqb q 5)) (sym (ne_eqb q 2 h)) ∙ ap (λ (n : ℕ). not (eqb n 2) && not (eqb n 5)) e

  module _ (h : q ≡ 5) where
    five : eqb (kind_of w) 5 ≡ true
    five = eq-eqb (kind_of w) 5 (sym e ∙ h)

    pub in-shops : unpaired_in w ≡ shape_in w
    unfolding shape_in
    in-shops = ap (λ (b : Bool). cond b (unpaired_in w) (paired_in w)) (sym five)

    pub spare-shops : 0 ≡ spare_of w
    unfolding spare_of
    spare-shops = ap (λ (b : Bool). cond b 0 (unused_of w)) (sym five)

  module _ (h : q ≡ 5 → ⊥) where
    not_five : eqb (kind_of w) 5 ≡ false
    not_five = ne_eqb (kind_of w) 5 (λ k. h (e ∙ k))

    pub in_pairs : paired_in w ≡ shape_in w
    unfolding shape_in
    in_pairs = ap (λ (b : Bool). cond b (unpaired_in w) (paired_in w)) (sym not_five)

    pub spare-pairs : unused_of w ≡ spare_of w
    unfolding spare_of
    spare-pairs = ap (λ (b : Bool). cond b 0 (unused_of w)) (sym not_five)

two-five : (n : ℕ) → n ≡ 2 → n ≡ 5 → ⊥
two-five n h k = absurd (omega arith)

-- ---- the shape of a word that was made

module _ (k n : ℕ) (hk : k ≤ tolerance_most) (hn : n ≤ offers_most) where
  module _ (p : ℕ) (hp : p ≤ pairs_most) where
    pairs-kind : kind_of (paired_word k n p) ≡ 2
    pairs-kind = omega arith

    pairs-unused : unused_of (paired_word k n p) ≡ 0
    pairs-unused = omega arith

    pairs-back : paired_in (paired_word k n p) ≡ record { k = k; offers = n; design = Paired p }
    pairs-back =
        let e : k_of (paired_word k n p) ≡ k = omega arith in
        let f : offers_of (paired_word k n p) ≡ n = omega arith in
        let g : pairs_of (paired_word k n p) ≡ p = omega arith in
        rw (e, f, g)

  module _ (s t : ℕ) (hs : s ≤ shops_most) (ht : t < s) where
    shops-kind : kind_of (unpaired_word k n s t) ≡ 5
    shops-kind = omega arith

    shops-back : unpaired_in (unpaired_word k n s t) ≡ record { k = k; offers = n; design = Unpaired s t }
    shops-back =
        let e : shops_k (unpaired_word k n s t) ≡ k = omega arith in
        let f : shops_offers (unpaired_word k n s t) ≡ n = omega arith in
        let g : shop_count (unpaired_word k n s t) ≡ s = omega arith in
        let i : treated_of (unpaired_word k n s t) ≡ t = omega arith in
        rw (e, f, g, i)

  pub shape-stands : (d : Design) → NoneHolds (design_checks d) → (no_shape (shape_word_of k n d) ≡ false) × (spare_of (shape_word_of k n d) ≡ 0)
  unfolding shape_word_of design_checks
  shape-stands (Paired p) h =
      let w = paired_word k n p in
      let i = inside 1 pairs_most p h.0 in
      let q = pairs-kind p i.1 in
      (sym (none-two w (kind_of w) refl q), sym (spare-pairs w (kind_of w) refl (two-five (kind_of w) q)) ∙ pairs-unused p i.1)
  shape-stands (Unpaired s t) h =
      let w = unpaired_word k n s t in
      let i = shops-inside s t h in
      let q = shops-kind s t i.1 i.3 in
      (sym (none_other w (kind_of w) refl (λ e. two-five (kind_of w) e q)) ∙ ap (λ (m : ℕ). not (eqb m 5)) q, sym (spare-shops w (kind_of w) refl q))

  pub shape-back : (d : Design) → NoneHolds (design_checks d) → shape_in (shape_word_of k n d) ≡ record { k = k; offers = n; design = d }
  unfolding shape_word_of design_checks
  shape-back (Paired p) h = let i = inside 1 pairs_most p h.0 in let w = paired_word k n p in sym (in_pairs w (kind_of w) refl (two-five (kind_of w) (pairs-kind p i.1))) ∙ pairs-back p i.1
  shape-back (Unpaired s t) h = let i = shops-inside s t h in let w = unpaired_word k n s t in sym (in-shops w (kind_of w) refl (shops-kind s t i.1 i.3)) ∙ shops-back s t i.1 i.3

-- ---- the code that makes a shape word

module _ (d : Design) where
  pub pairs_made : (p : ℕ) → d ≡ Paired p → first_refusal (design_checks d) ≡ 0 → (p ≤ units_most) × ((k n : ℕ) → paired_word k n p ≡ shape_word_of k n d)
  unfolding shape_word_of design_checks
  pairs_made p q h = let i = inside 1 pairs_most p (layout-known d (Paired p) q h).0 in (omega arith, λ k n. ap (shape_word_of k n) (sym q))

  pub shops-made : (s t : ℕ) → d ≡ Unpaired s t → first_refusal (design_checks d) ≡ 0 → (s ≤ units_most) × (t ≤ units_most) × ((k n : ℕ) → unpaired_word k n s t ≡ shape_word_of k n d)
  unfolding shape_word_of
  shops-made s t q h = let i = shops-inside s t (layout-known d (Unpaired s t) q h) in (i.1, omega arith, λ k n. ap (shape_word_of k n) (sym q))

-- ---- a word made of the shape that is read

pairs-again : (w : ℕ) → kind_of w ≡ 2 → unused_of w ≡ 0 → paired_word (k_of w) (offers_of w) (pairs_of w) ≡ w
pairs-again w h u = omega (arith, div-div-eq-div-mul w 256 256, div-div-eq-div-mul w 65536 256, div-div-eq-div-mul w 16777216 16)

shops-again : (w : ℕ) → kind_of w ≡ 5 → unpaired_word (shops_k w) (shops_offers w) (shop_count w) (treated_of w) ≡ w
shops-again w h = omega (arith, div-div-eq-div-mul w 256 256, div-div-eq-div-mul w 65536 256, div-div-eq-div-mul w 16777216 16)

-- a shape word made again of its shape
abbrev Again : ℕ → Shape → Type 0
Again w s = shape_word_of s.k s.offers s.design ≡ w

pub shape-again : (w : ℕ) → no_shape w ≡ false → spare_of w ≡ 0 → Again w (shape_in w)
unfolding no_shape shape_word_of
shape-again w h u = go (eqb (kind_of w) 2) refl (eqb (kind_of w) 5) refl h
  where
    go : (a : Bool) → eqb (kind_of w) 2 ≡ a → (b : Bool) → eqb (kind_of w) 5 ≡ b → (not a && not b) ≡ false → Again w (shape_in w)
    go true e b f q =
        let k = eqb-true (kind_of w) 2 e in
        let five = two-five (kind_of w) k in
        subst (Again w) (in_pairs w (kind_of w) refl five) (pairs-again w k (spare-pairs w (kind_of w) refl five ∙ u))
    go false e true f q = let k = eqb-true (kind_of w) 5 f in subst (Again w) (in-shops w (kind_of w) refl k) (shops-again w k)
    go false e false f q = absurd (subst (λ (b : Bool). T b) q tt)
