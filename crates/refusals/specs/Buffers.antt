-- Lent buffers: an accepted call writes the first places, and those beyond are unchanged. Definitions only.
--   too_short places needed  12, the last of every list: a lent buffer has fewer places than are needed
--   written xs buf     the buffer with xs in its first places
--   cleared m work     the work buffer after a call over m rows: its first m places hold plus zero
use Rattle.std.specs.Prelude.{ℕ, List, [], ◌∷◌, ◌++◌, length, drop, replicate, ltb, Float}
use Rattle.order.specs.Order.{plus_zero}
use Rattle.refusals.specs.Answers.{Checks, r12}

abbrev pub too_short : ℕ → ℕ → Checks
too_short places needed = (ltb places needed, r12) ∷ []

abbrev pub written : {A : Type 0} → List A → List A → List A
written xs buf = xs ++ drop (length xs) buf

abbrev pub cleared : ℕ → List Float → List Float
cleared m work = replicate m plus_zero ++ drop m work
