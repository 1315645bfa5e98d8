-- Sets with columns put back: what is left of the live columns, and some of the rejected ones.
--   within-less, size_less     what K lacks of K' bounds how many more values, and columns, K' has
--   choose-misses     some set of j columns of R lacks at most d of the columns of B, where B has at most j + d
--   choose-some       there is a set of j columns of R
--   choose-sound, choose-member     each set of `choose j R` has j columns, all of R
--   size-put, put_in, put_meets     what is left with columns of R put back: its size, that it is live, and what it shares with a smaller set
--   meet-size, join-meets           what a set shares with another is no larger than that one; with some columns more it shares at most as many more
--   put-lacks, lacks-none           what it lacks of a set of live columns
use Prim.Native.Nat.{ℕ, zero, suc, ◌+◌, ◌≤◌, ◌<◌}
use native.Mathlib.Omega.{arith}
use native.Mathlib.Decide.{dec_le}
use mathlib.Core.Path.{◌≡◌, refl, sym, ap, ◌∙◌}
use mathlib.Core.Bool.{Bool, true, false, not, cond, ◌&&◌, ◌||◌}
use mathlib.Core.List.{List, [], ◌∷◌, map, zip_with}
use lib.ListN.{length, get_or, length-map}
use lib.Dec.{T, eqb, eqb→eq}
use borrow.Author.Tests.{eq-eqb}
use Rattle.order.specs.Counting.{bit, count, all}
use Rattle.order.proofs.Booleans.{true-T, and_left, and_right, and_both, if-holds, then-holds}
use Rattle.order.proofs.Counts.{bit-one, bit-yes, bit_le, count-append, count_map, count-length, all_append, all_map, all_get_d}
use Rattle.columns.specs.Columns.{Columns, size, ◌∪◌, ◌∩◌, ◌∖◌, within, choose}
use Rattle.columns.proofs.Sets.{◌⊆◌, none, more, ⊆-length, size_mono, empty-in, empty-size}

-- ---- what one set lacks of another

-- what K lacks of K' bounds how many more values K' has
pub within-less : {A : Type 0} (p : A → Bool) (K' K : Columns) (row : List A) → length K ≡ length K' → count p (within K' row) ≤ count p (within K row) + size (K' ∖ K)
unfolding count within size ◌∖◌ zip_with
within-less p [] K row h = omega arith
within-less p (a ∷ K') [] row h = absurd (omega arith)
within-less p (a ∷ K') (b ∷ K) [] h = omega arith
within-less p (a ∷ K') (b ∷ K) (x ∷ row) h = go a b (within-less p K' K row (omega arith))
  where
    go : (a b : Bool) → count p (within K' row) ≤ count p (within K row) + size (K' ∖ K)
        → count p (cond a (x ∷ within K' row) (within K' row)) ≤ count p (cond b (x ∷ within K row) (within K row)) + (bit (a && not b) + size (K' ∖ K))
    go true true ih = omega arith
    go true false ih = omega (arith, bit-one (p x))
    go false true ih = omega arith
    go false false ih = omega arith

pub size_less : (K' K : Columns) → length K ≡ length K' → size K' ≤ size K + size (K' ∖ K)
unfolding count size ◌∖◌ zip_with
size_less [] K h = omega arith
size_less (a ∷ K') [] h = absurd (omega arith)
size_less (a ∷ K') (b ∷ K) h = go a b (size_less K' K (omega arith))
  where
    go : (a b : Bool) → size K' ≤ size K + size (K' ∖ K) → bit a + size K' ≤ bit b + size K + (bit (a && not b) + size (K' ∖ K))
    go true true ih = omega arith
    go true false ih = omega arith
    go false true ih = omega arith
    go false false ih = omega arith

-- B without the empty set
whole : {B R : Columns} → B ⊆ R → size (B ∖ map (λ _. false) R) ≤ size B
unfolding count size ◌∖◌ zip_with
whole none = omega arith
whole (more {a = true} f s) = omega (arith, whole s)
whole (more {a = false} f s) = omega (arith, whole s)

pub choose-misses : {B R : Columns} (j d : ℕ) → B ⊆ R → size B ≤ j + d → j ≤ size R → (p : Columns → Bool)
    → ((I : Columns) → length I ≡ length B → size (B ∖ I) ≤ d → T (p I)) → 0 < count p (choose j R)
unfolding size count choose ◌∖◌ zip_with
choose-misses {R = R} zero d s h g p t = omega (arith, bit-yes (p (map (λ _. false) R)) (t _ (length-map R _ ∙ sym (⊆-length s)) (omega (arith, whole s))))
choose-misses (suc j) d none h g p t = omega arith
choose-misses (suc j) d (more {a = true} {b = true} {L = R} f s) h g p t =
    rw (count-append p (map (λ I. true ∷ I) (choose j R)) (map (λ I. false ∷ I) (choose (suc j) R)), count_map (λ I. true ∷ I) p (choose j R))
    (omega (arith, choose-misses j d s (omega arith) (omega arith) (λ I. p (true ∷ I)) (λ I l q. t (true ∷ I) (ap suc l) (omega arith))))
choose-misses (suc j) d (more {a = true} {b = false} f s) h g p t = absurd (f tt)
choose-misses (suc j) d (more {a = false} {b = true} {K = B} {L = R} f s) h g p t =
    rw (count-append p (map (λ I. true ∷ I) (choose j R)) (map (λ I. false ∷ I) (choose (suc j) R)), count_map (λ I. true ∷ I) p (choose j R), count_map (λ I. false ∷ I) p (choose (suc j) R))
    (pick (dec_le (suc j) (size R))
    (λ r. choose-misses j d s (omega (arith, size_mono s)) (omega arith) (λ I. p (true ∷ I)) (λ I l q. t (true ∷ I) (ap suc l) (omega arith)))
    (λ r. choose-misses (suc j) d s (omega arith) r (λ I. p (false ∷ I)) (λ I l q. t (false ∷ I) (ap suc l) (omega arith))))
  where
    pick : {m n : ℕ} → Dec (suc j ≤ size R) → (size R ≤ j → 0 < m) → (suc j ≤ size R → 0 < n) → 0 < m + n
    pick (yes r) f g = omega (arith, g r)
    pick (no r) f g = omega (arith, f (omega (arith, r)))
choose-misses (suc j) d (more {a = false} {b = false} {K = B} {L = R} f s) h g p t =
    rw (count_map (λ I. false ∷ I) p (choose (suc j) R))
    (choose-misses {B = B} {R = R} (suc j) d s (omega arith) (omega arith) (λ I. p (false ∷ I)) (λ I l q. t (false ∷ I) (ap suc l) (omega arith)))

pub choose-some : (j : ℕ) (R : Columns) → j ≤ size R → 0 < length (choose j R)
choose-some j R h = omega (arith, choose-misses j 0 (empty-in R) (omega (arith, empty-size R)) h (λ _. true) (λ I l q. tt), count-length (λ _. true) (choose j R))

pub choose-sound : (j : ℕ) (R : Columns) (p : Columns → Bool) → ((I : Columns) → I ⊆ R → size I ≡ j → T (p I)) → T (all p (choose j R))
unfolding size count choose all
choose-sound zero R p t = and_both (p (map (λ _. false) R)) true (t _ (empty-in R) (empty-size R)) tt
choose-sound (suc j) [] p t = tt
choose-sound (suc j) (true ∷ R) p t =
    all_append p (map (λ I. true ∷ I) (choose j R)) (map (λ I. false ∷ I) (choose (suc j) R))
    (rw (all_map (λ I. true ∷ I) p (choose j R)) (choose-sound j R (λ I. p (true ∷ I)) (λ I s e. t (true ∷ I) (more (λ z. z) s) (omega arith))))
    (rw (all_map (λ I. false ∷ I) p (choose (suc j) R)) (choose-sound (suc j) R (λ I. p (false ∷ I)) (λ I s e. t (false ∷ I) (more (λ z. absurd z) s) (omega arith))))
choose-sound (suc j) (false ∷ R) p t =
    rw (all_map (λ I. false ∷ I) p (choose (suc j) R)) (choose-sound (suc j) R (λ I. p (false ∷ I)) (λ I s e. t (false ∷ I) (more (λ z. z) s) (omega arith)))

-- ---- the sets of j columns, one by one

-- a test of subsets
inside : Columns → Columns → Bool
inside [] [] = true
inside [] (b ∷ L) = false
inside (a ∷ K) [] = false
inside (a ∷ K) (b ∷ L) = (not a || b) && inside K L

inside-⊆ : (K L : Columns) → T (inside K L) → K ⊆ L
unfolding inside
inside-⊆ [] [] t = none
inside-⊆ [] (b ∷ L) t = absurd t
inside-⊆ (a ∷ K) [] t = absurd t
inside-⊆ (a ∷ K) (b ∷ L) t = more (then-holds a b (and_left (not a || b) (inside K L) t)) (inside-⊆ K L (and_right (not a || b) (inside K L) t))

⊆-inside : {K L : Columns} → K ⊆ L → T (inside K L)
unfolding inside
⊆-inside none = tt
⊆-inside (more {a} {b} {K = K} {L = L} f s) = and_both (not a || b) (inside K L) (if-holds a b f) (⊆-inside s)

pub choose-member : (j : ℕ) (R : Columns) (i : ℕ) → i < length (choose j R) → (get_or (choose j R) i [] ⊆ R) × (size (get_or (choose j R) i []) ≡ j)
choose-member j R i h =
    let I = get_or (choose j R) i [] in
    let t : T (inside I R && eqb (size I) j) = all_get_d (λ I. inside I R && eqb (size I) j) (choose j R) i [] h (choose-sound j R (λ I. inside I R && eqb (size I) j) (λ I s e. and_both (inside I R) (eqb (size I) j) (⊆-inside s) (true-T (eqb (size I) j) (eq-eqb (size I) j e)))) in
    (inside-⊆ I R (and_left (inside I R) (eqb (size I) j) t), eqb→eq (size I) j (and_right (inside I R) (eqb (size I) j) t))

-- ---- sets with columns put back

-- what is left, with columns of R put back, has as many columns as both, lies in `live`, and meets an earlier rejected set in columns put back alone
pub size-put : (live : Columns) {I R : Columns} → I ⊆ R → length live ≡ length R → size ((live ∖ R) ∪ I) ≡ size (live ∖ R) + size I
unfolding size count ◌∪◌ ◌∖◌ zip_with
size-put [] none h = refl
size-put [] (more f s) h = absurd (omega arith)
size-put (a ∷ live) none h = absurd (omega arith)
size-put (a ∷ live) (more {a = i} {b = r} f s) h = omega (arith, put-bit a i r f, size-put live s (omega arith))
  where
    put-bit : (a i r : Bool) → (T i → T r) → bit ((a && not r) || i) ≡ bit (a && not r) + bit i
    put-bit true true true f = refl
    put-bit true true false f = absurd (f tt)
    put-bit true false true f = refl
    put-bit true false false f = refl
    put-bit false true r f = refl
    put-bit false false r f = refl

pub put_in : {R I live : Columns} → R ⊆ live → I ⊆ R → ((live ∖ R) ∪ I) ⊆ live
unfolding ◌∪◌ ◌∖◌ zip_with
put_in none none = none
put_in (more {a = r} {b = l} f s) (more {a = i} g t) = more (go i r l f g) (put_in s t)
  where
    go : (i r l : Bool) → (T r → T l) → (T i → T r) → T ((l && not r) || i) → T l
    go i r true f g t = tt
    go i r false f g t = f (g t)

pub put_meets : {Q R I : Columns} (live : Columns) → Q ⊆ R → I ⊆ R → length live ≡ length R → size (((live ∖ R) ∪ I) ∩ Q) ≤ size I
unfolding size count ◌∪◌ ◌∖◌ ◌∩◌ zip_with
put_meets [] none none h = omega arith
put_meets (l ∷ live) none none h = absurd (omega arith)
put_meets [] (more f s) (more g t) h = absurd (omega arith)
put_meets (l ∷ live) (more {a = q} {b = r} f s) (more {a = i} g t) h = omega (arith, bit_le (((l && not r) || i) && q) i (go l r i q f), put_meets live s t (omega arith))
  where
    go : (l r i q : Bool) → (T q → T r) → T (((l && not r) || i) && q) → T i
    go l r true q f t = tt
    go true true false q f t = absurd t
    go true false false true f t = absurd (f tt)
    go true false false false f t = absurd t
    go false r false q f t = absurd t

pub meet-size : (live R : Columns) → size (live ∩ R) ≤ size R
unfolding size count ◌∩◌ zip_with
meet-size [] R = omega arith
meet-size (a ∷ live) [] = omega arith
meet-size (a ∷ live) (r ∷ R) = omega (arith, bit_le (a && r) r (and_right a r), meet-size live R)

pub join-meets : (A I B : Columns) → length A ≡ length I → size ((A ∪ I) ∩ B) ≤ size (A ∩ B) + size I
unfolding ◌∪◌ ◌∩◌ size count
join-meets [] I B h = omega arith
join-meets (a ∷ A) [] B h = absurd (omega arith)
join-meets (a ∷ A) (i ∷ I) [] h = omega arith
join-meets (a ∷ A) (i ∷ I) (b ∷ B) h = omega (arith, join-meets A I B (omega arith), one a i b)
  where
    one : (a i b : Bool) → bit ((a || i) && b) ≤ bit (a && b) + bit i
    one true i b = omega arith
    one false true true = omega arith
    one false true false = omega arith
    one false false b = omega arith

-- what the columns left, with I put back, lack of K': the rejected columns of K' that I lacks
pub put-lacks : (live K' R I : Columns) → K' ⊆ live → length R ≡ length live → length I ≡ length live → size (K' ∖ ((live ∖ R) ∪ I)) ≤ size ((K' ∩ R) ∖ I)
unfolding count size ◌∖◌ ◌∪◌ ◌∩◌ zip_with
put-lacks live K' R I none h i = omega arith
put-lacks live K' [] I (more f s) h i = absurd (omega arith)
put-lacks live K' (r ∷ R) [] (more f s) h i = absurd (omega arith)
put-lacks live K' (r ∷ R) (c ∷ I) (more {a} {b} {K = K} {L = L} f s) h i =
    omega (arith, bit_le (a && not ((b && not r) || c)) ((a && r) && not c) (go a b r c f), put-lacks L K R I s (omega arith) (omega arith))
  where
    go : (a b r c : Bool) → (T a → T b) → T (a && not ((b && not r) || c)) → T ((a && r) && not c)
    go true true true true f t = t
    go true true true false f t = t
    go true true false c f t = absurd t
    go true false r c f t = absurd (f tt)
    go false b r c f t = absurd t

pub lacks-none : {K L : Columns} → K ⊆ L → size (K ∖ L) ≡ 0
unfolding count size ◌∖◌ zip_with
lacks-none none = refl
lacks-none (more {a = true} {b = true} f s) = omega (arith, lacks-none s)
lacks-none (more {a = true} {b = false} f s) = absurd (f tt)
lacks-none (more {a = false} f s) = omega (arith, lacks-none s)
