-- Laws of figures as a run lists them, those of the chosen shops first.
--   chosen_first-length, -size   a listing has as many figures, and a listed choice has as many shops
--   spread c h                   the shops that a choice h of places has in the listing of c
--   spread-length, spread-size   it is a choice of as many shops, and has as many
--   spread-back                  a choice that is listed, and read so, is the same again
--   spread-first                 the first places have the shops of c
--   contrast-listed              a contrast of listed figures is one of the figures in their shops
--   same-figure, own-figure      what passes the test of equal figures
--   level-listed                 figures that are all equal are so in every listing
use Prim.Native.Nat.{ℕ, suc, ◌+◌, ◌-◌}
use native.Mathlib.Omega.{arith}
use mathlib.Core.Path.{◌≡◌, refl, sym, ap, ap₂, ◌∙◌, subst}
use mathlib.Core.Bool.{Bool, true, false, not}
use mathlib.Core.List.{List, [], ◌∷◌, ◌++◌, map-append}
use lib.ListN.{length, get_or, take, drop, replicate, length-map, length-drop, take-append-drop}
use lib.Seq.{take_at, drop_at, length-take-le}
use lib.Dec.{T, eqb, eqb→eq, eqb_refl}
use lib.IntN.{ℤ, pos, negsuc, ◌+ℤ◌, ◌-ℤ◌, ◌*ℤ◌, +ℤ_assoc, +ℤ_comm, +ℤ_idl}
use Rattle.order.specs.Counting.{count, all}
use Rattle.order.proofs.Booleans.{same_test, and_left}
use Rattle.order.proofs.Counts.{count-append, count_map, count-not, all-counted}
use Rattle.columns.specs.Columns.{size, within}
use Rattle.columns.proofs.Sets.{within-length}
use Rattle.columns.proofs.Parts.{within-self}
use Rattle.trial.specs.Choices.{Choice, choice_at, rest, sum_of, contrast, chosen_first}
use Rattle.trial.specs.Designs.{same_figure, alike}
use Rattle.trial.proofs.Choices.{first-choice}

-- shops 2 and 4 of four are named as treated
two-named : chosen_first (false ∷ true ∷ false ∷ true ∷ []) (pos 7 ∷ pos 3 ∷ pos 5 ∷ pos 2 ∷ []) ≡ pos 3 ∷ pos 2 ∷ pos 7 ∷ pos 5 ∷ []
unfolding chosen_first
two-named = refl

-- ---- two lists merged by a choice

-- the places of c take the members of a in order, and the other places those of b
merged : {A : Type 0} → Choice → List A → List A → List A
merged [] a b = a ++ b
merged (true ∷ c) [] b = b
merged (true ∷ c) (x ∷ a) b = x ∷ merged c a b
merged (false ∷ c) a [] = a
merged (false ∷ c) a (y ∷ b) = y ∷ merged c a b

merged-count : {A : Type 0} (p : A → Bool) (c : Choice) (a b : List A) → count p (merged c a b) ≡ count p a + count p b
unfolding merged count
merged-count p [] a b = count-append p a b
merged-count p (true ∷ c) [] b = omega arith
merged-count p (true ∷ c) (x ∷ a) b = omega (arith, merged-count p c a b)
merged-count p (false ∷ c) a [] = omega arith
merged-count p (false ∷ c) a (y ∷ b) = omega (arith, merged-count p c a b)

merged-within : {A : Type 0} (c : Choice) (xs : List A) → length xs ≡ length c → merged c (within c xs) (within (rest c) xs) ≡ xs
unfolding merged within
merged-within [] [] l = refl
merged-within [] (x ∷ xs) l = absurd (omega arith)
merged-within (b ∷ c) [] l = absurd (omega arith)
merged-within (true ∷ c) (x ∷ xs) l = ap (λ ys. x ∷ ys) (merged-within c xs (omega arith))
merged-within (false ∷ c) (x ∷ xs) l = ap (λ ys. x ∷ ys) (merged-within c xs (omega arith))

rest-merged : (c a b : Choice) → rest (merged c a b) ≡ merged c (rest a) (rest b)
unfolding merged
rest-merged [] a b = map-append not a b
rest-merged (true ∷ c) [] b = refl
rest-merged (true ∷ c) (x ∷ a) b = ap (λ (d : Choice). not x ∷ d) (rest-merged c a b)
rest-merged (false ∷ c) a [] = refl
rest-merged (false ∷ c) a (y ∷ b) = ap (λ (d : Choice). not y ∷ d) (rest-merged c a b)

-- lists whose members are counted alike by every test are as long
as_long : {A : Type 0} (xs ys : List A) → ((p : A → Bool) → count p xs ≡ count p ys) → length xs ≡ length ys
as_long xs ys e = omega (arith, count-not (λ _. true) xs, count-not (λ _. true) ys, e (λ _. true), e (λ _. false))

-- ---- listings

module _ {A : Type 0} (c : Choice) (xs : List A) (l : length xs ≡ length c) where
  chosen_first-count : (p : A → Bool) → count p (chosen_first c xs) ≡ count p xs
  unfolding chosen_first
  chosen_first-count p =
      count-append p (within c xs) (within (rest c) xs) ∙ sym (merged-count p c (within c xs) (within (rest c) xs)) ∙ ap (count p) (merged-within c xs l)

  pub chosen_first-length : length (chosen_first c xs) ≡ length xs
  chosen_first-length = as_long (chosen_first c xs) xs chosen_first-count

  chosen_first-all : (p : A → Bool) → all p (chosen_first c xs) ≡ all p xs
  chosen_first-all p =
      sym (all-counted p (chosen_first c xs) (count p xs) (sym (chosen_first-count p))) ∙ ap (eqb (count p xs)) chosen_first-length ∙ all-counted p xs (count p xs) refl

pub chosen_first-size : (c h : Choice) → length h ≡ length c → size (chosen_first c h) ≡ size h
unfolding size
chosen_first-size c h l = chosen_first-count c h l (λ b. b)

-- ---- places of a listing, as shops

pub spread : Choice → Choice → Choice
spread c h = merged c (take (size c) h) (drop (size c) h)

spread-count : (c h : Choice) (p : Bool → Bool) → count p (spread c h) ≡ count p h
unfolding spread
spread-count c h p =
    merged-count p c (take (size c) h) (drop (size c) h) ∙ sym (count-append p (take (size c) h) (drop (size c) h)) ∙ ap (count p) (take-append-drop (size c) h)

pub spread-length : (c h : Choice) → length (spread c h) ≡ length h
spread-length c h = as_long (spread c h) h (spread-count c h)

pub spread-size : (c h : Choice) → size (spread c h) ≡ size h
unfolding size
spread-size c h = spread-count c h (λ b. b)

spread-append : (c a b : Choice) → length a ≡ size c → spread c (a ++ b) ≡ merged c a b
unfolding spread
spread-append c a b l = ap₂ (merged c) (take_at a b (size c) l) (drop_at a b (size c) l)

pub spread-back : (c h : Choice) → length h ≡ length c → spread c (chosen_first c h) ≡ h
unfolding chosen_first
spread-back c h l = spread-append c (within c h) (within (rest c) h) (within-length c h l) ∙ merged-within c h l

-- ---- the first places

size-rest : (c : Choice) → size c + size (rest c) ≡ length c
unfolding size
size-rest c = omega (arith, count_map not (λ b. b) c, count-not (λ b. b) c)

none_left : (c : Choice) → within (rest c) c ≡ replicate (size (rest c)) false
unfolding within size count
none_left [] = refl
none_left (true ∷ c) = let e : 0 + size (rest c) ≡ size (rest c) = omega arith in rw e (none_left c)
none_left (false ∷ c) = let e : 1 + size (rest c) ≡ suc (size (rest c)) = omega arith in rw e (ap (λ (d : Choice). false ∷ d) (none_left c))

pub spread-first : (n t : ℕ) (c : Choice) → length c ≡ n → size c ≡ t → spread c (choice_at n t 0) ≡ c
unfolding chosen_first
spread-first n t c l s =
    ap₂ (λ (m u : ℕ). spread c (choice_at m u 0)) (sym (size-rest c ∙ l)) (sym s)
    ∙ ap (spread c) (first-choice (size c) (size (rest c)) ∙ sym (ap₂ (λ (a b : Choice). a ++ b) (within-self c) (none_left c)))
    ∙ spread-back c c refl

-- ---- sums of listed figures

within-append : {A : Type 0} (a b : Choice) (xs ys : List A) → length a ≡ length xs → within (a ++ b) (xs ++ ys) ≡ within a xs ++ within b ys
unfolding within
within-append [] b [] ys l = refl
within-append [] b (x ∷ xs) ys l = absurd (omega arith)
within-append (z ∷ a) b [] ys l = absurd (omega arith)
within-append (true ∷ a) b (x ∷ xs) ys l = ap (λ zs. x ∷ zs) (within-append a b xs ys (omega arith))
within-append (false ∷ a) b (x ∷ xs) ys l = within-append a b xs ys (omega arith)

sum-append : (xs ys : List ℤ) → sum_of (xs ++ ys) ≡ sum_of xs +ℤ sum_of ys
unfolding sum_of
sum-append [] ys = sym (+ℤ_idl (sum_of ys))
sum-append (x ∷ xs) ys = ap (λ (z : ℤ). x +ℤ z) (sum-append xs ys) ∙ sym (+ℤ_assoc x (sum_of xs) (sum_of ys))

to_front : (s x r : ℤ) → s +ℤ (x +ℤ r) ≡ x +ℤ (s +ℤ r)
to_front s x r = sym (+ℤ_assoc s x r) ∙ ap (λ (z : ℤ). z +ℤ r) (+ℤ_comm s x) ∙ +ℤ_assoc x s r

sum-merged : (c a b : Choice) (xs : List ℤ) → length a ≡ size c → length b ≡ size (rest c) → length xs ≡ length c
    → sum_of (within a (within c xs)) +ℤ sum_of (within b (within (rest c) xs)) ≡ sum_of (within (merged c a b) xs)
unfolding sum_of within merged size count
sum-merged [] [] [] xs l m n = refl
sum-merged [] [] (y ∷ b) xs l m n = absurd (omega arith)
sum-merged [] (z ∷ a) b xs l m n = absurd (omega arith)
sum-merged (true ∷ c) a b [] l m n = absurd (omega arith)
sum-merged (true ∷ c) [] b (x ∷ xs) l m n = absurd (omega arith)
sum-merged (true ∷ c) (true ∷ a) b (x ∷ xs) l m n =
    +ℤ_assoc x (sum_of (within a (within c xs))) (sum_of (within b (within (rest c) xs))) ∙ ap (λ (z : ℤ). x +ℤ z) (sum-merged c a b xs (omega arith) (omega arith) (omega arith))
sum-merged (true ∷ c) (false ∷ a) b (x ∷ xs) l m n = sum-merged c a b xs (omega arith) (omega arith) (omega arith)
sum-merged (false ∷ c) a b [] l m n = absurd (omega arith)
sum-merged (false ∷ c) a [] (x ∷ xs) l m n = absurd (omega arith)
sum-merged (false ∷ c) a (true ∷ b) (x ∷ xs) l m n =
    to_front (sum_of (within a (within c xs))) x (sum_of (within b (within (rest c) xs))) ∙ ap (λ (z : ℤ). x +ℤ z) (sum-merged c a b xs (omega arith) (omega arith) (omega arith))
sum-merged (false ∷ c) a (false ∷ b) (x ∷ xs) l m n = sum-merged c a b xs (omega arith) (omega arith) (omega arith)

module _ (c h : Choice) (l : length h ≡ length c) where
  front_length : length (take (size c) h) ≡ size c
  front_length = length-take-le (size c) h (omega (arith, size-rest c))

  sum-listed : (xs : List ℤ) → length xs ≡ length c → sum_of (within h (chosen_first c xs)) ≡ sum_of (within (spread c h) xs)
  unfolding chosen_first spread
  sum-listed xs m =
      ap (λ (z : Choice). sum_of (within z (within c xs ++ within (rest c) xs))) (sym (take-append-drop (size c) h))
      ∙ ap sum_of (within-append (take (size c) h) (drop (size c) h) (within c xs) (within (rest c) xs) (front_length ∙ sym (within-length c xs m)))
      ∙ sum-append (within (take (size c) h) (within c xs)) (within (drop (size c) h) (within (rest c) xs))
      ∙ sum-merged c (take (size c) h) (drop (size c) h) xs front_length (simp length-drop (omega (arith, size-rest c))) m

  rest-spread : spread c (rest h) ≡ rest (spread c h)
  unfolding spread
  rest-spread =
      ap (λ (z : Choice). spread c (rest z)) (sym (take-append-drop (size c) h))
      ∙ ap (spread c) (map-append not (take (size c) h) (drop (size c) h))
      ∙ spread-append c (rest (take (size c) h)) (rest (drop (size c) h)) (length-map (take (size c) h) not ∙ front_length)
      ∙ sym (rest-merged c (take (size c) h) (drop (size c) h))

pub contrast-listed : (shops treated : ℕ) (c h : Choice) (xs : List ℤ) → length h ≡ length c → length xs ≡ length c
    → contrast shops treated h (chosen_first c xs) ≡ contrast shops treated (spread c h) xs
unfolding contrast
contrast-listed shops treated c h xs l m =
    ap₂ (λ (x y : ℤ). pos (shops - treated) *ℤ x -ℤ pos treated *ℤ y) (sum-listed c h l xs m)
    (sum-listed c (rest h) (length-map h not ∙ l) xs m ∙ ap (λ (z : Choice). sum_of (within z xs)) (rest-spread c h l))

-- ---- figures that are equal

pub same-figure : (x y : ℤ) → T (same_figure x y) → x ≡ y
unfolding same_figure
same-figure (pos m) (pos n) t = ap pos (eqb→eq m n t)
same-figure (pos m) (negsuc n) t = absurd t
same-figure (negsuc m) (pos n) t = absurd t
same-figure (negsuc m) (negsuc n) t = ap negsuc (eqb→eq m n t)

pub own-figure : (x : ℤ) → T (same_figure x x)
unfolding same_figure
own-figure (pos n) = eqb_refl n
own-figure (negsuc n) = eqb_refl n

alike-listed : (z : ℤ) (c : Choice) (xs : List ℤ) → length xs ≡ length c → alike z (chosen_first c xs) ≡ alike z xs
unfolding alike
alike-listed z c xs l = chosen_first-all c xs l (λ x. same_figure x z)

-- figures that all equal one equal the first
level : (z : ℤ) (xs : List ℤ) → T (alike z xs) → T (alike (get_or xs 0 (pos 0)) xs)
unfolding alike all
level z [] t = tt
level z (x ∷ xs) t = subst (λ (y : ℤ). T (alike y (x ∷ xs))) (sym (same-figure x z (and_left (same_figure x z) (alike z xs) t))) t

pub level-listed : (c : Choice) (xs : List ℤ) → length xs ≡ length c → alike (get_or (chosen_first c xs) 0 (pos 0)) (chosen_first c xs) ≡ alike (get_or xs 0 (pos 0)) xs
level-listed c xs l =
    same_test (alike first' ys) (alike first xs) (λ t. level first' xs (rw (alike-listed first' c xs l) at t)) (λ t. level first ys (rw (alike-listed first c xs l) t))
  where
    ys : List ℤ
    ys = chosen_first c xs

    first : ℤ
    first = get_or xs 0 (pos 0)

    first' : ℤ
    first' = get_or ys 0 (pos 0)
