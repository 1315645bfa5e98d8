-- Laws by which the table of shops is made, block by block (document 02, §6). Shops are counted from 0.
--   block_at n t p m     the first row of the block of p and m: its choices of t of n shops have the shops 0 .. p - 1, then none before m, then m
--   block_rows n t p m  how many rows it has
--   more-chosen         with p shops more, all of them chosen, there are as many choices or more
--   at_first, at_next   the blocks of p follow one another, from the end of the rows of p + 1 on
--   block-fits          as many rows stand before a block, and it ends within the table
--   contrast-block      a row of a block is the row that is so many rows before it, less n times what shop m - 1 has more than shop m
--   contrast-first      row 0 has the first t shops
use Prim.Native.Nat.{ℕ, zero, suc, ◌+◌, ◌-◌, ◌*◌, ◌≤◌, ◌<◌}
use native.Mathlib.Omega.{arith}
use native.Mathlib.Nat.{add-mul}
use mathlib.Core.Path.{◌≡◌, refl, sym, ap, ap₂, ◌∙◌}
use mathlib.Core.Bool.{true, false, not}
use mathlib.Core.List.{List, [], ◌∷◌, ◌++◌, map-append, append_assoc}
use lib.ListN.{length, get_or, take, drop, replicate, length-append, length-map, length-replicate}
use lib.IntN.{ℤ, pos, negsuc, neg_ℤ, ◌+ℤ◌, ◌-ℤ◌, ◌*ℤ◌, +ℤ_assoc, +ℤ_comm, +ℤ_idl, +ℤ_invr, neg_ℤ-+ℤ, suc_ℤ-*ℤ, zero-*ℤ}
use Rattle.columns.specs.Columns.{within, choose}
use Rattle.trial.specs.Choices.{Choice, choices, choice_at, rest, sum_of, contrast}
use Rattle.trial.proofs.Choices.{binomial, choices-length, choices-more, choice-with, later-row, first-choice}

-- ---- where the blocks are

abbrev pub block_at : ℕ → ℕ → ℕ → ℕ → ℕ
block_at n t p m = length (choices (n - p) (t - p)) - length (choices (n - m) (t - p))

abbrev pub block_rows : ℕ → ℕ → ℕ → ℕ → ℕ
block_rows n t p m = length (choices (n - m - 1) (t - p - 1))

abbrev rows : ℕ → ℕ → ℕ
rows n t = length (choices n t)

-- fewer shops have fewer choices
fewer-choices : (m n t : ℕ) → m ≤ n → length (choices m t) ≤ length (choices n t)
unfolding binomial
fewer-choices m n zero h = omega (arith, choices-length m 0, choices-length n 0)
fewer-choices zero n (suc t) h = omega (arith, choices-length 0 (suc t))
fewer-choices (suc m) zero (suc t) h = absurd (omega arith)
fewer-choices (suc m) (suc n) (suc t) h = omega (arith, choices-more m t, choices-more n t, fewer-choices m n t (omega arith), fewer-choices m n (suc t) (omega arith))

-- p shops more, and all of them chosen
pub more-chosen : (p n t : ℕ) → length (choices n t) ≤ length (choices (p + n) (p + t))
more-chosen zero n t =
    let e : 0 + n ≡ n = omega arith in
    let f : 0 + t ≡ t = omega arith in
    rw (e, f) (omega arith)
more-chosen (suc p) n t =
    let e : suc p + n ≡ suc (p + n) = omega arith in
    let f : suc p + t ≡ suc (p + t) = omega arith in
    rw (e, f) (omega (arith, choices-more (p + n) (p + t), more-chosen p n t))

-- the choices with shop m next and those without it, at the numbers of a block
both_at : (n t p m : ℕ) → p < t → m < n → rows (n - m) (t - p) ≡ block_rows n t p m + rows (n - (m + 1)) (t - p)
both_at n t p m h k =
    let e : n - m ≡ suc (n - m - 1) = omega arith in
    let f : t - p ≡ suc (t - p - 1) = omega arith in
    let g : n - (m + 1) ≡ n - m - 1 = omega arith in
    cc (choices-more (n - m - 1) (t - p - 1))

pub at_first : (n t p : ℕ) → p < t → t ≤ n → block_at n t p (p + 1) ≡ length (choices (n - (p + 1)) (t - (p + 1)))
at_first n t p h k =
    let e : n - (p + 1) ≡ n - p - 1 = omega arith in
    let f : t - (p + 1) ≡ t - p - 1 = omega arith in
    omega (arith, both_at n t p p h (omega arith), ap₂ rows e f)

module _ (n t p m : ℕ) (h : p < t) (k : t ≤ n) (l : p < m) (r : m < n) where
  pub at_next : block_at n t p m + block_rows n t p m ≡ block_at n t p (m + 1)
  at_next = omega (arith, both_at n t p m h r, fewer-choices (n - m) (n - p) (t - p) (omega arith))

  pub block-fits : (block_rows n t p m ≤ block_at n t p m) × (block_at n t p m + block_rows n t p m ≤ length (choices n t))
  block-fits =
      let e : p + (n - p) ≡ n = omega arith in
      let f : p + (t - p) ≡ t = omega arith in
      omega (
        arith,
        both_at n t p p h (omega arith),
        both_at n t p m h r,
        fewer-choices (n - m) (n - (p + 1)) (t - p) (omega arith),
        fewer-choices (n - m - 1) (n - p - 1) (t - p - 1) (omega arith),
        more-chosen p (n - p) (t - p),
        ap₂ rows e f,
      )

-- ---- the choices of a block

-- the first p shops are chosen: the first rows
chosen-before : (p n t g : ℕ) → g < rows n t → choice_at (p + n) (p + t) g ≡ replicate p true ++ choice_at n t g
chosen-before zero n t g h =
    let e : 0 + n ≡ n = omega arith in
    let f : 0 + t ≡ t = omega arith in
    rw (e, f)
chosen-before (suc p) n t g h =
    let e : suc p + n ≡ suc (p + n) = omega arith in
    let f : suc p + t ≡ suc (p + t) = omega arith in
    rw (e, f) (choice-with (p + n) (p + t) g (omega (arith, more-chosen p n t)) ∙ ap (λ (c : Choice). true ∷ c) (chosen-before p n t g h))

-- the first shop is left out: the last rows
left_out : (n t g : ℕ) → g < rows n t → choice_at (suc n) t (rows (suc n) t - rows n t + g) ≡ false ∷ choice_at n t g
unfolding choices choose binomial
left_out n zero g h = let z : g ≡ 0 = omega (arith, choices-length n 0) in rw z
left_out n (suc t) g h =
    let b = choices-more n t in
    let i : rows (suc n) (suc t) - rows n (suc t) + g ≡ rows n t + g = omega arith in
    let j : rows n t + g - rows n t ≡ g = omega arith in
    ap (choice_at (suc n) (suc t)) i ∙ (later-row n t (rows n t + g) (omega arith) (omega arith)).1 ∙ ap (λ (k : ℕ). false ∷ choice_at n (suc t) k) j

-- the first q shops are left out
none_before : (q n t g : ℕ) → g < rows n t → choice_at (q + n) t (rows (q + n) t - rows n t + g) ≡ replicate q false ++ choice_at n t g
none_before zero n t g h =
    let e : 0 + n ≡ n = omega arith in
    let i : rows n t - rows n t + g ≡ g = omega arith in
    rw (e, i)
none_before (suc q) n t g h =
    let e : suc q + n ≡ suc (q + n) = omega arith in
    let a = fewer-choices n (q + n) t (omega arith) in
    let b = fewer-choices (q + n) (suc (q + n)) t (omega arith) in
    let i : rows (suc (q + n)) t - rows n t + g ≡ rows (suc (q + n)) t - rows (q + n) t + (rows (q + n) t - rows n t + g) = omega arith in
    rw (e, i) (left_out (q + n) t (rows (q + n) t - rows n t + g) (omega arith) ∙ ap (λ (c : Choice). false ∷ c) (none_before q n t g h))

-- p shops that are chosen, and q that are not
abbrev front : ℕ → ℕ → Choice
front p q = replicate p true ++ replicate q false

front_length : (p q : ℕ) → length (front p q) ≡ p + q
front_length p q = length-append (replicate p true) (replicate q false) ∙ ap₂ ◌+◌ (length-replicate p true) (length-replicate q false)

front-before : (p q n t g i : ℕ) → g < rows n t → i + rows n t ≡ rows (q + n) t + g → choice_at (p + (q + n)) (p + t) i ≡ front p q ++ choice_at n t g
front-before p q n t g i h e =
    let a = fewer-choices n (q + n) t (omega arith) in
    let f : i ≡ rows (q + n) t - rows n t + g = omega arith in
    chosen-before p (q + n) t i (omega arith)
    ∙ ap (λ (c : Choice). replicate p true ++ c) (ap (choice_at (q + n) t) f ∙ none_before q n t g h)
    ∙ sym (append_assoc (replicate p true) (replicate q false) (choice_at n t g))

-- row h of a block, and the row that is as many rows before it as the block has
module _ (p q k u h i : ℕ) (l : h < rows k u) (e : i + rows (suc k) (suc u) ≡ rows (q + suc (suc k)) (suc u) + h) where
  choice-block : choice_at (p + (q + suc (suc k))) (p + suc u) i ≡ front p q ++ false ∷ true ∷ choice_at k u h
  choice-block =
      let a = choices-more (suc k) u in
      let b = choices-more k u in
      front-before p q (suc (suc k)) (suc u) (rows (suc (suc k)) (suc u) - rows (suc k) (suc u) + h) i (omega arith) (omega arith)
      ∙ ap (λ (c : Choice). front p q ++ c) (left_out (suc k) (suc u) h (omega arith) ∙ ap (λ (c : Choice). false ∷ c) (choice-with k u h l))

  choice-earlier : choice_at (p + (q + suc (suc k))) (p + suc u) (i - rows k u) ≡ front p q ++ true ∷ false ∷ choice_at k u h
  choice-earlier =
      let a = choices-more (suc k) u in
      let b = fewer-choices k (suc k) u (omega arith) in
      let c = fewer-choices (suc (suc k)) (q + suc (suc k)) (suc u) (omega arith) in
      let g = rows (suc k) u - rows k u + h in
      front-before p q (suc (suc k)) (suc u) g (i - rows k u) (omega arith) (omega arith)
      ∙ ap (λ (c : Choice). front p q ++ c) (choice-with (suc k) u g (omega arith) ∙ ap (λ (c : Choice). true ∷ c) (left_out k u h l))

-- ---- integers

cancel : (x y d : ℤ) → (x +ℤ d) +ℤ (y -ℤ d) ≡ x +ℤ y
cancel x y d =
    ap (λ (z : ℤ). (x +ℤ d) +ℤ z) (+ℤ_comm y (neg_ℤ d)) ∙ +ℤ_assoc x d (neg_ℤ d +ℤ y)
    ∙ ap (λ (z : ℤ). x +ℤ z) (sym (+ℤ_assoc d (neg_ℤ d) y) ∙ ap (λ (z : ℤ). z +ℤ y) (+ℤ_invr d) ∙ +ℤ_idl y)

-- the last two summands change places
last-two : (x y z : ℤ) → (x +ℤ y) +ℤ z ≡ (x +ℤ z) +ℤ y
last-two x y z = +ℤ_assoc x y z ∙ ap (λ (w : ℤ). x +ℤ w) (+ℤ_comm y z) ∙ sym (+ℤ_assoc x z y)

-- d is added to x, and it is taken off with e
less_both : (x y d e : ℤ) → x -ℤ (y +ℤ e) ≡ ((x +ℤ d) -ℤ y) -ℤ (d +ℤ e)
less_both x y d e =
    ap (λ (z : ℤ). x +ℤ z) (neg_ℤ-+ℤ y e) ∙ sym (+ℤ_assoc x (neg_ℤ y) (neg_ℤ e)) ∙ sym (cancel (x -ℤ y) (neg_ℤ e) d)
    ∙ ap₂ ◌+ℤ◌ (last-two x (neg_ℤ y) d) (+ℤ_comm (neg_ℤ e) (neg_ℤ d) ∙ sym (neg_ℤ-+ℤ d e))

times-add : (m : ℕ) (x y : ℤ) → pos m *ℤ (x +ℤ y) ≡ pos m *ℤ x +ℤ pos m *ℤ y
times-add zero x y = zero-*ℤ (x +ℤ y) ∙ sym (ap₂ ◌+ℤ◌ (zero-*ℤ x) (zero-*ℤ y))
times-add (suc m) x y =
    suc_ℤ-*ℤ (pos m) (x +ℤ y) ∙ ap (λ (z : ℤ). z +ℤ (x +ℤ y)) (times-add m x y) ∙ sym (+ℤ_assoc (pos m *ℤ x +ℤ pos m *ℤ y) x y)
    ∙ ap (λ (z : ℤ). z +ℤ y) (last-two (pos m *ℤ x) (pos m *ℤ y) x) ∙ +ℤ_assoc (pos m *ℤ x +ℤ x) (pos m *ℤ y) y
    ∙ sym (ap₂ ◌+ℤ◌ (suc_ℤ-*ℤ (pos m) x) (suc_ℤ-*ℤ (pos m) y))

add_times : (m n : ℕ) (x : ℤ) → pos (m + n) *ℤ x ≡ pos m *ℤ x +ℤ pos n *ℤ x
add_times m n (pos k) = ap pos (add-mul m n k)
add_times m n (negsuc k) = ap (λ (i : ℕ). neg_ℤ (pos i)) (add-mul m n (suc k)) ∙ neg_ℤ-+ℤ (pos (m * suc k)) (pos (n * suc k))

-- ---- the contrasts of a block

-- what a shop has more than the next one
abbrev drops : List ℤ → ℕ → ℤ
drops xs i = get_or xs i (pos 0) -ℤ get_or xs (suc i) (pos 0)

sum-exchanged : (a c : Choice) (xs : List ℤ) → suc (length a) < length xs
    → sum_of (within (a ++ true ∷ false ∷ c) xs) ≡ sum_of (within (a ++ false ∷ true ∷ c) xs) +ℤ drops xs (length a)
unfolding sum_of within
sum-exchanged a c [] h = absurd (omega arith)
sum-exchanged [] c (x ∷ []) h = absurd (omega arith)
sum-exchanged [] c (x ∷ y ∷ xs) h =
    let s = sum_of (within c xs) in
    +ℤ_comm x s ∙ sym (cancel s x y) ∙ ap (λ (z : ℤ). z +ℤ (x -ℤ y)) (+ℤ_comm s y)
sum-exchanged (true ∷ a) c (x ∷ xs) h =
    ap (λ (z : ℤ). x +ℤ z) (sum-exchanged a c xs (omega arith)) ∙ sym (+ℤ_assoc x (sum_of (within (a ++ false ∷ true ∷ c) xs)) (drops xs (length a)))
sum-exchanged (false ∷ a) c (x ∷ xs) h = sum-exchanged a c xs (omega arith)

module _ (a c : Choice) (xs : List ℤ) (h : suc (length a) < length xs) where
  -- the other shops, the other way round
  rest-exchanged : sum_of (within (rest (a ++ false ∷ true ∷ c)) xs) ≡ sum_of (within (rest (a ++ true ∷ false ∷ c)) xs) +ℤ drops xs (length a)
  rest-exchanged =
      let l = length-map a not in
      cc (map-append not a (false ∷ true ∷ c), map-append not a (true ∷ false ∷ c), sum-exchanged (rest a) (rest c) xs (omega arith))

  contrast-exchanged : (n t : ℕ) → t ≤ n → contrast n t (a ++ false ∷ true ∷ c) xs ≡ contrast n t (a ++ true ∷ false ∷ c) xs -ℤ pos n *ℤ drops xs (length a)
  unfolding contrast
  contrast-exchanged n t k =
      let r = n - t in
      let e : n ≡ r + t = omega arith in
      let d = drops xs (length a) in
      let s = sum_of (within (a ++ false ∷ true ∷ c) xs) in
      let o = sum_of (within (rest (a ++ true ∷ false ∷ c)) xs) in
      let f = ap (λ (z : ℤ). pos r *ℤ z) (sum-exchanged a c xs h) ∙ times-add r s d in
      let g = ap (λ (i : ℕ). pos i *ℤ d) e ∙ add_times r t d in
      ap (λ (z : ℤ). pos r *ℤ s -ℤ z) (ap (λ (z : ℤ). pos t *ℤ z) rest-exchanged ∙ times-add t o d)
      ∙ less_both (pos r *ℤ s) (pos t *ℤ o) (pos r *ℤ d) (pos t *ℤ d)
      ∙ sym (ap₂ (λ (x y : ℤ). (x -ℤ pos t *ℤ o) -ℤ y) f g)

-- m - p - 1 shops stand between, and n - m - 1 after m, of which t - p - 1 are chosen
numbers : (n t p m : ℕ) → p < t → t ≤ n → p < m → m < n
    → (n - p ≡ m - p - 1 + suc (suc (n - m - 1))) × (n - m ≡ suc (n - m - 1)) × (t - p ≡ suc (t - p - 1))
    × (p + (n - p) ≡ n) × (p + (t - p) ≡ t) × (p + (m - p - 1) ≡ m - 1) × (suc (m - 1) ≡ m)
numbers n t p m a b c d = omega arith

pub contrast-block : (n t p m h : ℕ) (xs : List ℤ) → p < t → t ≤ n → p < m → m < n → length xs ≡ n → h < block_rows n t p m
    → contrast n t (choice_at n t (block_at n t p m + h)) xs
    ≡ contrast n t (choice_at n t (block_at n t p m + h - block_rows n t p m)) xs -ℤ pos n *ℤ (get_or xs (m - 1) (pos 0) -ℤ get_or xs m (pos 0))
contrast-block n t p m h xs a b c d e l =
    let q = m - p - 1 in
    let k = n - m - 1 in
    let u = t - p - 1 in
    let z = numbers n t p m a b c d in
    let f = front_length p q in
    let r = fewer-choices (n - m) (n - p) (t - p) (omega arith) in
    let i : block_at n t p m + h + rows (suc k) (suc u) ≡ rows (q + suc (suc k)) (suc u) + h = omega (arith, ap₂ rows z.0 z.2, ap₂ rows z.1 z.2) in
    cc (
      choice-block p q k u h (block_at n t p m + h) l i,
      choice-earlier p q k u h (block_at n t p m + h) l i,
      contrast-exchanged (front p q) (choice_at k u h) xs (omega arith) n t b,
    )

-- ---- the first row

within_first : (t r : ℕ) (xs : List ℤ) → within (front t r) xs ≡ take t xs
unfolding within
within_first zero zero xs = refl
within_first zero (suc r) [] = refl
within_first zero (suc r) (x ∷ xs) = within_first zero r xs
within_first (suc t) r [] = refl
within_first (suc t) r (x ∷ xs) = ap (λ (ys : List ℤ). x ∷ ys) (within_first t r xs)

within-last : (t r : ℕ) (xs : List ℤ) → length xs ≡ t + r → within (rest (front t r)) xs ≡ drop t xs
unfolding within
within-last zero zero [] h = refl
within-last zero zero (x ∷ xs) h = absurd (omega arith)
within-last zero (suc r) [] h = refl
within-last zero (suc r) (x ∷ xs) h = ap (λ (ys : List ℤ). x ∷ ys) (within-last zero r xs (omega arith))
within-last (suc t) r [] h = refl
within-last (suc t) r (x ∷ xs) h = within-last t r xs (omega arith)

pub contrast-first : (n t : ℕ) (xs : List ℤ) → t ≤ n → length xs ≡ n → contrast n t (choice_at n t 0) xs ≡ pos (n - t) *ℤ sum_of (take t xs) -ℤ pos t *ℤ sum_of (drop t xs)
unfolding contrast
contrast-first n t xs h l =
    let e : n ≡ t + (n - t) = omega arith in
    ap (λ (c : Choice). contrast n t c xs) (ap (λ (i : ℕ). choice_at i t 0) e ∙ first-choice t (n - t))
    ∙ ap₂ (λ (ys zs : List ℤ). pos (n - t) *ℤ sum_of ys -ℤ pos t *ℤ sum_of zs) (within_first t (n - t) xs) (within-last t (n - t) xs (l ∙ e))
