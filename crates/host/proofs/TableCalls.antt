-- Laws of every call on a table, with a work buffer and another: conditions of its own, then 12 for either.
--   TableGiven               a result and both buffers are what such a call gives
--   table-early, table_short     they are, where nothing is lent out: a refusal before the other buffer's, and that one
--   table-cramped            they are, where the other buffer is too short and the call with no work place is refused
--   table-refused, table_done     they are, where the call is refused otherwise, and where it is accepted
use Prim.Native.Nat.{ℕ, ◌+◌, ◌≤◌, ◌<◌}
use mathlib.Core.Path.{◌≡◌, refl, sym, ap, ◌∙◌}
use mathlib.Core.List.{List, [], ◌++◌}
use lib.ListN.{length}
use lib.Ieee.{Float}
use Rattle.refusals.specs.Answers.{Checks, number, answer, first_refusal, afterwards}
use Rattle.refusals.specs.declared.refusal.Refusal.{Refusal}
use Rattle.refusals.specs.Buffers.{too_short, written, cleared}
use Rattle.refusals.proofs.Answers.{accepted, refused}
use Rattle.host.proofs.Lent.{number-refuses, given_by, given-refused, given-short, given-done, cramped-number}

module _ (own : Checks) (rows columns v : ℕ) (xs : List ℕ) (work : List Float) (buf : List ℕ) where
  abbrev with_work : ℕ → Checks
  with_work places = own ++ too_short places rows

  abbrev checks : Checks
  checks = with_work (length work) ++ too_short (length buf) columns

  abbrev pub TableGiven : ℕ → List Float → List ℕ → Type 0
  TableGiven r w out = (r ≡ answer checks v (λ n. 100 + n)) × ((w ≡ afterwards checks (cleared rows work) work) × (out ≡ afterwards checks (written xs buf) buf))

  -- the call with no work place has left nothing in it
  pub table-cramped : (first_refusal own ≡ 0 → 0 < rows) → length buf < columns → (r : Refusal) → number r ≡ first_refusal (with_work 0) → (front : List Float) → front ≡ afterwards (with_work 0) (cleared rows []) [] → TableGiven (100 + number r) (front ++ work) buf
  table-cramped some h r e front p =
      let n = number r in
      let d = given_by checks v xs buf (cleared rows work) work n (e ∙ cramped-number own rows some columns (length work) (length buf) h) (number-refuses r) in
      let none : front ≡ [] = p ∙ sym (refused (cleared rows []) (λ _. []) (with_work 0) n e (number-refuses r)) in
      (d.0, (ap (λ (l : List Float). l ++ work) none ∙ d.2, d.1))

  pub table-early : (r : Refusal) → number r ≡ first_refusal (with_work (length work)) → TableGiven (100 + number r) work buf
  table-early r e = let d = given-refused (with_work (length work)) columns v xs buf (cleared rows work) work r e in (d.0, (d.2, d.1))

  pub table-refused : (r : Refusal) → number r ≡ first_refusal (with_work (length work)) → (w : List Float) → w ≡ afterwards (with_work (length work)) (cleared rows work) work → TableGiven (100 + number r) w buf
  table-refused r e w p =
      let d = table-early r e in
      (d.0, (p ∙ sym (refused (cleared rows work) (λ _. work) (with_work (length work)) (number r) e (number-refuses r)) ∙ d.1.0, d.1.1))

  module _ (z : first_refusal (with_work (length work)) ≡ 0) where
    pub table_short : length buf < columns → TableGiven 112 work buf
    table_short h = let d = given-short (with_work (length work)) columns v xs buf (cleared rows work) work z h in (d.0, (d.2, d.1))

    pub table_done : (w : List Float) → w ≡ afterwards (with_work (length work)) (cleared rows work) work → columns ≤ length buf → (r : ℕ) → r ≡ v → (out : List ℕ) → out ≡ written xs buf → TableGiven r w out
    table_done w p h r q out o =
        let d = given-done (with_work (length work)) columns v xs buf (cleared rows work) work z h r q out o w (p ∙ sym (accepted (cleared rows work) (λ _. work) (with_work (length work)) 0 (sym z) refl)) in
        (d.0, (d.2, d.1))
