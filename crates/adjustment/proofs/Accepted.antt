-- What a table is known to be whose figures are told.
--   Accepted, accepted     what it is to pass the checks: those of a table but that of a level
--   levelled               a table that is accepted with a level is accepted
--   accepted-..            its rows are sound, and what the core requires of it
--   call-..                the same for the call, with its work buffer
use Prim.Native.Nat.{ℕ, ◌*◌, ◌≤◌, ◌<◌}
use mathlib.Core.Path.{◌≡◌}
use mathlib.Core.List.{List}
use lib.ListN.{length}
use lib.Ieee.{Float}
use borrow.Author.Tests.{ltb-false, leb-false}
use Rattle.order.specs.Lists.{rows_of}
use Rattle.order.proofs.Rows.{Finite, Sound, rows_of-sound}
use Rattle.refusals.specs.Answers.{first_refusal}
use Rattle.refusals.specs.Buffers.{too_short}
use Rattle.refusals.proofs.Answers.{none-holds, both-pass}
use Rattle.masks.specs.Internal.{CheckedTable}
use Rattle.stepdown.specs.Refusals.{table_refusal}
use Rattle.stepdown.proofs.Accepted.{Shape, shape, checked, full-length, all-finite}
use Rattle.stepdown.proofs.Accepted as tables
use Rattle.adjustment.specs.Answers.{adjustment_checks, adjustment_call_refusal}

pub record Accepted (t : List Float) (rows columns k observed : ℕ) : Type 0 where
  pub shaped : Shape rows columns k
  pub full : length t ≡ rows * columns
  pub seen : observed < rows
  pub finitely : Finite t

module _ (t : List Float) (rows columns k observed : ℕ) where
  pub accepted : first_refusal (adjustment_checks t rows columns k observed) ≡ 0 → Accepted t rows columns k observed
  unfolding adjustment_checks
  accepted h =
      let f = none-holds (adjustment_checks t rows columns k observed) h in
      record { shaped = shape rows columns k f.0; full = full-length t (rows * columns) f.1.0; seen = leb-false rows observed f.1.1.0; finitely = all-finite t f.1.1.1.0 }

  pub levelled : (a b : ℕ) → table_refusal t rows columns k a b observed ≡ 0 → Accepted t rows columns k observed
  levelled a b h = let g = tables.accepted t rows columns k a b observed h in record { shaped = g.shaped; full = g.full; seen = g.seen; finitely = g.finitely }

  module _ (acc : Accepted t rows columns k observed) where
    pub accepted-sound : Sound columns (rows_of rows columns t)
    accepted-sound = rows_of-sound rows columns t acc.full acc.finitely

    pub accepted-checked : CheckedTable t rows columns k
    accepted-checked = checked t rows columns k acc.shaped acc.full acc.finitely

  -- ---- with a work buffer

  module _ (places : ℕ) (h : adjustment_call_refusal t rows columns k observed places ≡ 0) where
    passed : (first_refusal (adjustment_checks t rows columns k observed) ≡ 0) × (first_refusal (too_short places rows) ≡ 0)
    unfolding adjustment_call_refusal
    passed = both-pass (adjustment_checks t rows columns k observed) (too_short places rows) h

    pub call-accepted : Accepted t rows columns k observed
    call-accepted = accepted passed.0

    pub call-room : rows ≤ places
    call-room = ltb-false places rows (none-holds (too_short places rows) passed.1).0
