-- Laws of lists in tables and arrays.
--   get_d_map            a member of a mapped list; both-same: two lists are the same whose members are
--   tabulate-..         the members of a tabulated list; all-tabulate: what holds of each holds of all
--   all_take, all_drop  what holds of all members holds of some
--   part-rows, rows_of-..    the rows of a list: how many, how long, which, what their members pass
--   joined-..          rows that are joined: how many members, and what they pass; rows_of-joined: taken apart again
--   set-padded          an array that is filled from the front
use Prim.Native.Nat.{ℕ, zero, suc, ◌+◌, ◌-◌, ◌*◌, ◌≤◌, ◌<◌}
use native.Mathlib.Omega.{arith}
use native.Mathlib.Numerals.{add-one}
use native.Mathlib.Nat.{suc-mul, zero-mul, mul-le-mul_right}
use mathlib.Core.Path.{◌≡◌, refl, sym, ap, ap₂, ◌∙◌}
use mathlib.Core.Bool.{Bool}
use mathlib.Core.List.{List, [], ◌∷◌, ◌++◌, map, append_assoc}
use lib.ListN.{length, get_or, take, drop, set, replicate, length-append, length-drop, length-replicate}
use lib.Seq.{length-take-le, drop-drop, set_at, take_at, drop_at, get_or-take, get_or-drop}
use lib.Dec.{T, eqb, eqb_refl, eqb→eq}
use Rattle.order.specs.Counting.{all}
use Rattle.order.specs.Lists.{tabulate, rows_of, joined, padded}
use Rattle.order.proofs.Booleans.{and_left, and_right, and_both}
use Rattle.order.proofs.Counts.{all_append}

-- row g of a table lies within it
pub part-rows : (rows columns g : ℕ) → g < rows → g * columns + columns ≤ rows * columns
part-rows rows columns g h = omega (arith, suc-mul g columns, mul-le-mul_right columns h)

pub get_d_map : {A B : Type 0} (f : A → B) (l : List A) (i : ℕ) (d : A) (b : B) → i < length l → get_or (map f l) i b ≡ f (get_or l i d)
get_d_map f [] i d b h = absurd (omega arith)
get_d_map f (x ∷ l) zero d b h = refl
get_d_map f (x ∷ l) (suc i) d b h = get_d_map f l i d b (omega arith)

pub map_more : {A B : Type 0} (g : A → B) (l : List A) (x : A) → map g (l ++ (x ∷ [])) ≡ map g l ++ (g x ∷ [])
map_more g [] x = refl
map_more g (y ∷ l) x = ap (λ m. g y ∷ m) (map_more g l x)

module _ {A : Type 0} where
  -- two lists, member by member
  pub both-same : {a b : A} {xs ys : List A} → a ≡ b → xs ≡ ys → (a ∷ xs) ≡ (b ∷ ys)
  both-same p q = ap₂ (λ (a : A) (xs : List A). a ∷ xs) p q

  -- ---- tabulated lists

  pub tabulate-length : (n : ℕ) (f : ℕ → A) → length (tabulate n f) ≡ n
  unfolding tabulate
  tabulate-length zero f = refl
  tabulate-length (suc n) f = ap suc (tabulate-length n (λ i. f (suc i)))

  pub tabulate-get_d : (n : ℕ) (f : ℕ → A) (i : ℕ) (d : A) → i < n → get_or (tabulate n f) i d ≡ f i
  unfolding tabulate
  tabulate-get_d zero f i d h = absurd (omega arith)
  tabulate-get_d (suc n) f zero d h = refl
  tabulate-get_d (suc n) f (suc i) d h = tabulate-get_d n (λ i. f (suc i)) i d (omega arith)

  pub tabulate-same : (n : ℕ) (f g : ℕ → A) → ((i : ℕ) → i < n → f i ≡ g i) → tabulate n f ≡ tabulate n g
  unfolding tabulate
  tabulate-same zero f g h = refl
  tabulate-same (suc n) f g h = ap₂ (λ (x : A) (l : List A). x ∷ l) (h 0 (omega arith)) (tabulate-same n (λ i. f (suc i)) (λ i. g (suc i)) (λ i l. h (suc i) (omega arith)))

  pub tabulate-more : (n : ℕ) (f : ℕ → A) → tabulate (n + 1) f ≡ tabulate n f ++ (f n ∷ [])
  unfolding tabulate
  tabulate-more n f = ap (λ (m : ℕ). tabulate m f) (add-one n) ∙ snoc n f
    where
      snoc : (n : ℕ) (f : ℕ → A) → tabulate (suc n) f ≡ tabulate n f ++ (f n ∷ [])
      snoc zero f = refl
      snoc (suc n) f = ap (λ l. f 0 ∷ l) (snoc n (λ i. f (suc i)))

  pub all-tabulate : (p : A → Bool) (n : ℕ) (f : ℕ → A) → ((i : ℕ) → T (p (f i))) → T (all p (tabulate n f))
  unfolding tabulate all
  all-tabulate p zero f h = tt
  all-tabulate p (suc n) f h = and_both (p (f 0)) (all p (tabulate n (λ i. f (suc i)))) (h 0) (all-tabulate p n (λ i. f (suc i)) (λ i. h (suc i)))

  pub all_replicate : (p : A → Bool) (n : ℕ) (x : A) → T (p x) → T (all p (replicate n x))
  unfolding all
  all_replicate p zero x h = tt
  all_replicate p (suc n) x h = and_both (p x) (all p (replicate n x)) h (all_replicate p n x h)

  -- ---- parts of a list

  pub all_take : (p : A → Bool) (n : ℕ) (l : List A) → T (all p l) → T (all p (take n l))
  unfolding all
  all_take p zero l t = tt
  all_take p (suc n) [] t = tt
  all_take p (suc n) (x ∷ l) t = and_both (p x) (all p (take n l)) (and_left (p x) (all p l) t) (all_take p n l (and_right (p x) (all p l) t))

  pub all_drop : (p : A → Bool) (n : ℕ) (l : List A) → T (all p l) → T (all p (drop n l))
  unfolding all
  all_drop p zero l t = t
  all_drop p (suc n) [] t = tt
  all_drop p (suc n) (x ∷ l) t = all_drop p n l (and_right (p x) (all p l) t)

  -- ---- rows

  pub rows_of-length : (m n : ℕ) (xs : List A) → length (rows_of m n xs) ≡ m
  unfolding rows_of
  rows_of-length zero n xs = refl
  rows_of-length (suc m) n xs = ap suc (rows_of-length m n (drop n xs))

  pub rows_of-row : (m n : ℕ) (xs : List A) (g : ℕ) → g < m → get_or (rows_of m n xs) g [] ≡ take n (drop (g * n) xs)
  unfolding rows_of
  rows_of-row zero n xs g h = absurd (omega arith)
  rows_of-row (suc m) n xs zero h = rw (zero-mul n)
  rows_of-row (suc m) n xs (suc g) h =
      let e : n + g * n ≡ suc g * n = omega (arith, suc-mul g n) in
      rows_of-row m n (drop n xs) g (omega arith) ∙ ap (take n) (drop-drop (g * n) n xs ∙ ap (λ (i : ℕ). drop i xs) e)

  -- an entry of a row, in the list
  pub row-entry : (xs : List A) (rows columns g j : ℕ) (d : A) → g < rows → j < columns → get_or (get_or (rows_of rows columns xs) g []) j d ≡ get_or xs (g * columns + j) d
  row-entry xs rows columns g j d l m = ap (λ (r : List A). get_or r j d) (rows_of-row rows columns xs g l) ∙ get_or-take columns (drop (g * columns) xs) j d m ∙ get_or-drop (g * columns) xs j d

  pub rows_of-even : (m n : ℕ) (xs : List A) → length xs ≡ m * n → T (all (λ r. eqb (length r) n) (rows_of m n xs))
  unfolding rows_of all
  rows_of-even zero n xs h = tt
  rows_of-even (suc m) n xs h =
      and_both (eqb (length (take n xs)) n) (all (λ r. eqb (length r) n) (rows_of m n (drop n xs)))
      (rw (length-take-le n xs (omega (arith, suc-mul m n))) (eqb_refl n))
      (rows_of-even m n (drop n xs) (simp length-drop (omega (arith, suc-mul m n))))

  pub rows_of-all : (p : A → Bool) (m n : ℕ) (xs : List A) → T (all p xs) → T (all (all p) (rows_of m n xs))
  unfolding rows_of all
  rows_of-all p zero n xs t = tt
  rows_of-all p (suc m) n xs t = and_both (all p (take n xs)) (all (all p) (rows_of m n (drop n xs))) (all_take p n xs t) (rows_of-all p m n (drop n xs) (all_drop p n xs t))

  pub joined-all : (p : A → Bool) (rs : List (List A)) → T (all (all p) rs) → T (all p (joined rs))
  unfolding joined all
  joined-all p [] t = tt
  joined-all p (r ∷ rs) t = all_append p r (joined rs) (and_left (all p r) (all (all p) rs) t) (joined-all p rs (and_right (all p r) (all (all p) rs) t))

  pub joined_length : (n : ℕ) (rs : List (List A)) → T (all (λ r. eqb (length r) n) rs) → length (joined rs) ≡ length rs * n
  unfolding joined all
  joined_length n [] h = omega (arith, zero-mul n)
  joined_length n (r ∷ rs) h =
      let l : length r ≡ n = eqb→eq (length r) n (and_left (eqb (length r) n) (all (λ r. eqb (length r) n) rs) h) in
      length-append r (joined rs) ∙ omega (arith, l, joined_length n rs (and_right (eqb (length r) n) (all (λ r. eqb (length r) n) rs) h), suc-mul (length rs) n)

  pub rows_of-joined : (n : ℕ) (rs : List (List A)) → T (all (λ r. eqb (length r) n) rs) → rows_of (length rs) n (joined rs) ≡ rs
  unfolding rows_of joined all
  rows_of-joined n [] h = refl
  rows_of-joined n (r ∷ rs) h =
      let l : length r ≡ n = eqb→eq (length r) n (and_left (eqb (length r) n) (all (λ r. eqb (length r) n) rs) h) in
      ap₂ (λ (x : List A) (y : List (List A)). x ∷ y) (take_at r (joined rs) n l)
      (ap (rows_of (length rs) n) (drop_at r (joined rs) n l) ∙ rows_of-joined n rs (and_right (eqb (length r) n) (all (λ r. eqb (length r) n) rs) h))

  -- ---- arrays that are filled from the front

  module _ (n : ℕ) (d : A) where
    pub padded-length : (xs : List A) → length xs ≤ n → length (padded n d xs) ≡ n
    padded-length xs h = simp (length-append, length-replicate) (omega arith)

    pub set-padded : (xs : List A) (i : ℕ) (v : A) → length xs ≡ i → i < n → set (padded n d xs) i v ≡ padded n d (xs ++ (v ∷ []))
    set-padded xs i v e h =
        let r : n - length xs ≡ suc (n - length (xs ++ (v ∷ []))) = simp length-append (omega arith) in
        ap (λ (m : ℕ). set (xs ++ replicate m d) i v) r ∙ set_at xs d (replicate (n - length (xs ++ (v ∷ []))) d) v i e ∙ sym (append_assoc xs (v ∷ []) (replicate (n - length (xs ++ (v ∷ []))) d))
