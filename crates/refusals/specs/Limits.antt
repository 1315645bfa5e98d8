-- Conditions that tables and trials share, and e. Definitions only.
--   outside low high n      n is not from low to high
--   bad_columns n columns k          the condition of 4 with at most n columns (offers): their count or k outside its range, or k above it
--   bad_sizes m n rows columns k     that of a table with at most m rows and n columns
--   bad_level a b           the condition of 3
--   allowance M a b         e: of M rows, the number floor(M × a / b) that may lie above a critical value
use Rattle.std.specs.Prelude.{ℕ, ◌*◌, ◌/◌, Bool, ◌||◌, ltb, leb, eqb}
use Rattle.limits.specs.Limits.{tolerance_most, level_most}

abbrev pub outside : ℕ → ℕ → ℕ → Bool
outside low high n = ltb n low || ltb high n

unfoldable pub bad_columns : ℕ → ℕ → ℕ → Bool
bad_columns n columns k = outside 1 n columns || (outside 1 tolerance_most k || ltb columns k)

unfoldable pub bad_sizes : ℕ → ℕ → ℕ → ℕ → ℕ → Bool
unfolding bad_columns
bad_sizes m n rows columns k = outside 1 m rows || bad_columns n columns k

unfoldable pub bad_level : ℕ → ℕ → Bool
bad_level a b = eqb a 0 || (eqb b 0 || (leb b a || ltb level_most b))

unfoldable pub allowance : ℕ → ℕ → ℕ → ℕ
allowance M a b = M * a / b
