-- Laws of the call for a trial's table.
--   total_is, total-fits             how many places the table needs, of a size that is answered
--   fill-allowed, fill_done          what the code fills: it may, and that is the table
--   record-refused                   the record is turned away: that decides the call
--   buffer-decides                   else the buffer's places do
--   buffer-kept, buffer-written      what the buffer holds after either answer
use Prim.Native.Nat.{ℕ, ◌*◌, ◌≤◌}
use native.Mathlib.Omega.{arith}
use native.Mathlib.Nat.{mul-le-mul}
use mathlib.Core.Path.{◌≡◌, sym, ap, ◌∙◌}
use mathlib.Core.List.{List}
use lib.Dec.{ltb}
use lib.ListN.{length}
use lib.Ieee.{Float}
use Rattle.std.proofs.Common.{Result, Ok, Err}
use Rattle.refusals.specs.Answers.{outcome, refused_where, r12}
use Rattle.refusals.specs.declared.refusal.Refusal.{Refusal}
use Rattle.refusals.proofs.Answers.{none_first, ok-append, err-append, ok_answer, err_answer}
use Rattle.refusals.specs.Buffers.{too_short, written}
use Rattle.limits.specs.Limits.{figures_most, trial_table_most}
use Rattle.trial.specs.Designs.{design_checks, units_of}
use Rattle.trial.specs.Exchange.{row_total, table_of}
use Rattle.trial.specs.Refusals.{trial_checks}
use Rattle.trial.specs.Lent.{full_size, size_of, table_call_checks, table_buffer}
use Rattle.trial.specs.declared.TableSize.{TableSize}
use Rattle.trial.specs.declared.Trial.{Trial}
use Rattle.trial.proofs.Calls.{size_known, total-most}
use Rattle.trialtable.specs.Internal.{table_for, Fillable}
use Rattle.trialtable.proofs.Filled.{table_of-is, figures-ranged}

module _ (t : Trial) (s : TableSize) (h : Ok s ≡ size_of t) where
  columns_are : s.columns ≡ t.shape.offers
  columns_are = ap (λ (z : TableSize). z.columns) (size_known t s (sym h)).1

  pub total_is : s.rows * s.columns ≡ row_total t * t.shape.offers
  total_is = ap (λ (z : TableSize). z.rows * z.columns) (size_known t s (sym h)).1

  pub total-fits : s.rows * s.columns ≤ trial_table_most
  total-fits = omega (arith, total_is, total-most t (size_known t s (sym h)).0)

  pub fill-allowed : length t.figures ≡ figures_most → (places : ℕ) → s.rows * s.columns ≤ places → Fillable t.shape.design s.columns t.figures places
  unfolding row_total
  fill-allowed l places k =
      let d = t.shape.design in
      let acc = (size_known t s (sym h)).0 in
      let n : t.shape.offers * units_of d ≤ figures_most = mul-le-mul acc.offers-most acc.laid.units-most in
      rw columns_are (record {
        offers-most = acc.offers-most;
        layout-good = none_first (design_checks d) acc.layout-good;
        held = omega arith;
        ranged = figures-ranged t acc (omega arith);
        room = omega (arith, k, total_is);
      })

  pub fill_done : (buf out : List Float) → out ≡ written (table_for t.shape.design s.columns t.figures) buf → out ≡ written (table_of t) buf
  fill_done buf out e = e ∙ ap (λ (xs : List Float). written xs buf) (ap (λ (m : ℕ). table_for t.shape.design m t.figures) columns_are ∙ sym (table_of-is t))

module _ (t : Trial) (buf : List Float) where
  abbrev Decided : Result (Unit {0}) Refusal → Type 0
  Decided x = x ≡ outcome (table_call_checks t (length buf)) tt

  pub record-refused : (r : Refusal) → Err r ≡ size_of t → Decided (Err r)
  unfolding size_of table_call_checks
  record-refused r h = sym (err-append (trial_checks t) (too_short (length buf) (row_total t * t.shape.offers)) (full_size t) tt r (sym h))

  pub buffer-decides : (s : TableSize) → Ok s ≡ size_of t → (x : Result (Unit {0}) Refusal) → x ≡ refused_where (ltb (length buf) (s.rows * s.columns)) r12 → Decided x
  unfolding size_of table_call_checks
  buffer-decides s h x e =
      e ∙ ap (λ (n : ℕ). refused_where (ltb (length buf) n) r12) (total_is t s h)
      ∙ sym (ok-append (trial_checks t) (too_short (length buf) (row_total t * t.shape.offers)) (full_size t) s tt (sym h))

  pub buffer-kept : (r : Refusal) → Decided (Err r) → buf ≡ table_buffer t buf
  unfolding table_buffer
  buffer-kept r h = sym (err_answer (table_call_checks t (length buf)) tt r (written (table_of t) buf) (λ _. buf) (sym h))

  pub buffer-written : Decided (Ok tt) → (out : List Float) → out ≡ written (table_of t) buf → out ≡ table_buffer t buf
  unfolding table_buffer
  buffer-written h out e = e ∙ sym (ok_answer (table_call_checks t (length buf)) tt tt (written (table_of t) buf) (λ _. buf) (sym h))
