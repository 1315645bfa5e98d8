-- Pairs of shops: what an exchange does to differences. Definitions only.
--   exchanged b d        a difference, with its sign changed where the shops of its pair are exchanged
--   signed_sum g ds      the sum of differences, that of pair j (from 0) exchanged where bit j of g is 1
--   exchanged_by g ds    the differences, each exchanged where its bit of g is 1
use Rattle.std.specs.Prelude.{ℕ, ◌/◌, ◌%◌, Bool, true, false, List, [], ◌∷◌, eqb, ℤ, pos, neg_ℤ, ◌+ℤ◌}

abbrev pub exchanged : Bool → ℤ → ℤ
exchanged true d = neg_ℤ d
exchanged false d = d

unfoldable pub signed_sum : ℕ → List ℤ → ℤ
signed_sum g [] = pos 0
signed_sum g (d ∷ ds) = exchanged (eqb (g % 2) 1) d +ℤ signed_sum (g / 2) ds

unfoldable pub exchanged_by : ℕ → List ℤ → List ℤ
exchanged_by g [] = []
exchanged_by g (d ∷ ds) = exchanged (eqb (g % 2) 1) d ∷ exchanged_by (g / 2) ds
