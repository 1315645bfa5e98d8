-- Where run g of a trial finds its rows, by how the trial was laid out: of this crate only Shops, which words the theorem for one case, knows the cases too.
--   moved d h g                          the row of the trial that is row h of run g
--   moved-from d i g                     the row of run g that is row i of the trial
--   moved-lt, moved-from-lt, moved_back  they are rows, and the one undoes the other
--   moved-first                          row 0 of run g is row g
--   entry_listed                         the entry of what run g lists
--   exchanged_by-at                      a listed difference changes its sign exactly where its bit of g is 1
use Prim.Native.Nat.{ℕ, zero, suc, ◌+◌, ◌*◌, ◌/◌, ◌%◌, ◌<◌}
use native.Mathlib.Omega.{arith}
use native.Mathlib.Nat.{div-add-mod', div-one, mod-lt}
use mathlib.Core.Path.{◌≡◌, refl, sym, ap, ap₂, ◌∙◌}
use mathlib.Core.Bool.{Bool}
use mathlib.Core.List.{List, [], ◌∷◌}
use lib.ListN.{length, get_or}
use lib.Dec.{eqb}
use lib.Arith.{bin_ind}
use lib.Bits.{bit_xor, differ, xor_step, xor_shr, xor_mod, xor_self, xor_lt, xor_zero_l}
use lib.IntN.{ℤ, pos}
use Rattle.order.proofs.Booleans.{digit-cases}
use Rattle.columns.specs.Columns.{size, in_set}
use Rattle.columns.proofs.Masks.{in_set-half}
use Rattle.trial.specs.Pairs.{exchanged, exchanged_by}
use Rattle.trial.specs.Choices.{Choice, choices, choice_at, contrast, chosen_first}
use Rattle.trial.specs.Designs.{units_of, row_count, entry_of, listed}
use Rattle.trial.specs.declared.Design.{Design}
use Rattle.trial.specs.declared.Design.TheVariants.{Paired, Unpaired}
use Rattle.trial.proofs.Sums.{signed_sum-exchanged}
use Rattle.trial.proofs.Choices.{choice-length, choice-size, rank, rank_lt, rank-at, at-rank}
use Rattle.trial.proofs.Listed.{chosen_first-length, chosen_first-size, spread, spread-length, spread-size, spread-back, spread-first, contrast-listed}

-- ---- pairs: xor undoes itself

digits-back : (x y : ℕ) → x < 2 → y < 2 → differ (bit_xor x y) y ≡ x
digits-back x y h k =
    digit-cases (λ (a : ℕ). differ (bit_xor a y) y ≡ a)
    (digit-cases (λ (b : ℕ). differ (bit_xor 0 b) b ≡ 0) refl refl y k)
    (digit-cases (λ (b : ℕ). differ (bit_xor 1 b) b ≡ 1) refl refl y k) x h

xor-back : (h g : ℕ) → bit_xor (bit_xor h g) g ≡ h
xor-back =
    bin_ind (λ (n : ℕ). (g : ℕ) → bit_xor (bit_xor n g) g ≡ n) (λ g. xor_self g)
    (λ n ih g.
    xor_step (bit_xor n g) g
    ∙ ap₂ (λ (x y : ℕ). x * 2 + y)
    (ap (λ (z : ℕ). bit_xor z (g / 2)) (xor_shr n g 1) ∙ ih (g / 2))
    (ap (λ (z : ℕ). differ z (g % 2)) (xor_mod n g 1) ∙ digits-back (n % 2) (g % 2) (mod-lt n (omega arith)) (mod-lt g (omega arith)))
    ∙ div-add-mod' n 2)

pub exchanged_by-at : (g : ℕ) (ds : List ℤ) (j : ℕ) → j < length ds → get_or (exchanged_by g ds) j (pos 0) ≡ exchanged (in_set g j) (get_or ds j (pos 0))
unfolding exchanged_by
exchanged_by-at g [] j h = absurd (omega arith)
exchanged_by-at g (d ∷ ds) zero h = ap (λ (n : ℕ). exchanged (eqb (n % 2) 1) d) (sym (div-one g))
exchanged_by-at g (d ∷ ds) (suc j) h = exchanged_by-at (g / 2) ds j (omega arith) ∙ ap (λ (b : Bool). exchanged b (get_or ds j (pos 0))) (in_set-half g j)

-- ---- shops: the places of a listing are read as shops, and a choice that is listed is read as itself

module _ (n t g h : ℕ) (l : g < length (choices n t)) (m : h < length (choices n t)) where
  abbrev c : Choice
  c = choice_at n t g

  abbrev d : Choice
  d = choice_at n t h

  alike-long : length d ≡ length c
  alike-long = choice-length n t h m ∙ sym (choice-length n t g l)

  -- a choice of as many shops, with as many, stands in its row
  in_row : (e : Choice) → length e ≡ length d → size e ≡ size d → (rank t e < length (choices n t)) × (choice_at n t (rank t e) ≡ e)
  in_row e p q =
      let u = p ∙ choice-length n t h m in
      let v = q ∙ choice-size n t h m in
      (rank_lt n t e u v, rank-at n t e u v)

  spread_row : (rank t (spread c d) < length (choices n t)) × (choice_at n t (rank t (spread c d)) ≡ spread c d)
  spread_row = in_row (spread c d) (spread-length c d) (spread-size c d)

  chosen-row : (rank t (chosen_first c d) < length (choices n t)) × (choice_at n t (rank t (chosen_first c d)) ≡ chosen_first c d)
  chosen-row = in_row (chosen_first c d) (chosen_first-length c d alike-long) (chosen_first-size c d alike-long)

-- ---- by cases

pub moved : Design → ℕ → ℕ → ℕ
moved (Paired pairs) h g = bit_xor h g
moved (Unpaired shops treated) h g = rank treated (spread (choice_at shops treated g) (choice_at shops treated h))

pub moved-from : Design → ℕ → ℕ → ℕ
moved-from (Paired pairs) i g = bit_xor i g
moved-from (Unpaired shops treated) i g = rank treated (chosen_first (choice_at shops treated g) (choice_at shops treated i))

pub moved-lt : (d : Design) (h g : ℕ) → h < row_count d → g < row_count d → moved d h g < row_count d
unfolding moved row_count
moved-lt (Paired pairs) h g l m = xor_lt pairs h g l m
moved-lt (Unpaired shops treated) h g l m = (spread_row shops treated g h m l).0

pub moved-from-lt : (d : Design) (i g : ℕ) → i < row_count d → g < row_count d → moved-from d i g < row_count d
unfolding moved-from row_count
moved-from-lt (Paired pairs) i g l m = xor_lt pairs i g l m
moved-from-lt (Unpaired shops treated) i g l m = (chosen-row shops treated g i m l).0

pub moved_back : (d : Design) (i g : ℕ) → i < row_count d → g < row_count d → moved d (moved-from d i g) g ≡ i
unfolding moved moved-from row_count
moved_back (Paired pairs) i g l m = xor-back i g
moved_back (Unpaired shops treated) i g l m =
    ap (λ (c : Choice). rank treated (spread (choice_at shops treated g) c)) (chosen-row shops treated g i m l).1
    ∙ ap (rank treated) (spread-back (choice_at shops treated g) (choice_at shops treated i) (alike-long shops treated g i m l))
    ∙ at-rank shops treated i l

pub moved-first : (d : Design) (g : ℕ) → g < row_count d → moved d 0 g ≡ g
unfolding moved row_count
moved-first (Paired pairs) g m = xor_zero_l g
moved-first (Unpaired shops treated) g m =
    ap (rank treated) (spread-first shops treated (choice_at shops treated g) (choice-length shops treated g m) (choice-size shops treated g m)) ∙ at-rank shops treated g m

pub entry_listed : (d : Design) (h g : ℕ) (xs : List ℤ) → h < row_count d → g < row_count d → length xs ≡ units_of d → entry_of d h (listed d g xs) ≡ entry_of d (moved d h g) xs
unfolding moved row_count units_of entry_of listed
entry_listed (Paired pairs) h g xs l m e = signed_sum-exchanged h g xs
entry_listed (Unpaired shops treated) h g xs l m e =
    contrast-listed shops treated (choice_at shops treated g) (choice_at shops treated h) xs (alike-long shops treated g h m l) (e ∙ sym (choice-length shops treated g m))
    ∙ ap (λ (c : Choice). contrast shops treated c xs) (sym (spread_row shops treated g h m l).1)
