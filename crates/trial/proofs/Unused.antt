-- Places that the counts of a record don't use change nothing: every definition is one of the contents, and two records of the same trial have the same
--   contents-filled, same-trimmed    a record holds the contents that it is filled with; a trial with zero in its unused places is the same trial
--   checks-same, refusal-same        checks, and the refusal that comes of them
--   table_same, rows_same            table
--   live_same                        offers that take part
--   size_same                        size
--   call_same, buffer-same           answer of a call for the table, and buffer after it
use Prim.Native.Nat.{ℕ, ◌-◌, ◌*◌}
use native.Mathlib.Omega.{arith}
use mathlib.Core.Path.{◌≡◌, refl, sym, ap, ap₂, ◌∙◌}
use mathlib.Core.Bool.{not}
use mathlib.Core.List.{List, ◌++◌, map}
use lib.ListN.{length, take, replicate}
use lib.Seq.{take_at, length-take-le}
use lib.IntN.{pos}
use lib.Ieee.{Float, binary64, of_int}
use Rattle.limits.specs.Limits.{offers_most, figures_most}
use Rattle.order.specs.Lists.{tabulate, rows_of, joined, padded}
use Rattle.columns.specs.Columns.{mask_of}
use Rattle.refusals.specs.Answers.{Checks, outcome, first_refusal, afterwards}
use Rattle.refusals.specs.Buffers.{too_short, written}
use Rattle.trial.specs.Designs.{units_of, row_count, entry_of, untested}
use Rattle.trial.specs.Record.{ArrayLengths, figure_count, Contents, contents, filled, trimmed, Same}
use Rattle.trial.specs.Exchange.{by_offer, row_total, row_of, trial_rows, table_of}
use Rattle.trial.specs.Aside.{live_offers, live_mask}
use Rattle.trial.specs.Refusals.{content_checks, trial_checks, trial_refusal}
use Rattle.trial.specs.Lent.{size_of, table_call_checks, table_call_refusal, table_buffer}
use Rattle.trial.specs.declared.Trial.{Trial}
use Rattle.trial.proofs.LaidOut.{count_most}
use Rattle.trial.proofs.Accepted.{accepted}

-- the table of contents
table_from : Contents → List Float
unfolding joined tabulate rows_of
table_from c =
    let s = c.setting.shape in
    joined (tabulate (row_count s.design) (λ g. map (λ xs. of_int binary64 (entry_of s.design g xs)) (rows_of s.offers (units_of s.design) c.figures)))

table_of-contents : (t : Trial) → table_of t ≡ table_from (contents t)
unfolding table_of trial_rows row_total row_of by_offer table_from
table_of-contents t = refl

-- the offers of contents that take part
live_from : Contents → ℕ
unfolding mask_of rows_of untested
live_from c = let s = c.setting.shape in mask_of (map (λ xs. not (untested s.design xs)) (rows_of s.offers (units_of s.design) c.figures))

live-contents : (t : Trial) → live_mask t ≡ live_from (contents t)
unfolding live_mask live_offers by_offer live_from
live-contents t = refl

-- a record holds the contents that it is filled with
padded-take : {A : Type 0} (n m : ℕ) (d : A) (xs : List A) → length xs ≡ m → take m (padded n d xs) ≡ xs
padded-take n m d xs l = take_at xs (replicate (n - length xs) d) m l

pub contents-filled : (c : Contents) → let s = c.setting.shape in
    length c.setting.codes ≡ s.offers → length c.setting.digits ≡ s.offers → length c.figures ≡ figure_count s → contents (filled c) ≡ c
contents-filled c h k l =
    let s = c.setting.shape in
    rw (padded-take offers_most s.offers 0 c.setting.codes h, padded-take offers_most s.offers 0 c.setting.digits k, padded-take figures_most (figure_count s) (pos 0) c.figures l)

-- so a trial is the same trial with its unused places zero
pub same-trimmed : (t : Trial) → ArrayLengths t → trial_refusal t ≡ 0 → Same t (trimmed t)
unfolding trimmed figure_count
same-trimmed t ty h =
    let acc = accepted t h in
    let n = t.shape.offers in
    sym (contents-filled (contents t)
    (length-take-le n t.labels.codes (omega (arith, ty.codes-length, acc.offers-most))) (length-take-le n t.labels.digits (omega (arith, ty.digits-length, acc.offers-most)))
    (length-take-le (figure_count t.shape) t.figures (omega (arith, ty.figures-length, count_most t.shape (units_of t.shape.design) acc.offers-most acc.laid.units-most refl))))

module _ (t u : Trial) (s : Same t u) where
  pub offers-same : t.shape.offers ≡ u.shape.offers
  offers-same = ap (λ (c : Contents). c.setting.shape.offers) s

  pub checks-same : trial_checks t ≡ trial_checks u
  unfolding trial_checks
  checks-same = ap content_checks s

  pub refusal-same : trial_refusal t ≡ trial_refusal u
  unfolding trial_refusal
  refusal-same = ap first_refusal checks-same

  pub table_same : table_of t ≡ table_of u
  table_same = table_of-contents t ∙ ap table_from s ∙ sym (table_of-contents u)

  pub rows_same : row_total t ≡ row_total u
  unfolding row_total
  rows_same = ap (λ (c : Contents). row_count c.setting.shape.design) s

  pub live_same : live_mask t ≡ live_mask u
  live_same = live-contents t ∙ ap live_from s ∙ sym (live-contents u)

  pub size_same : size_of t ≡ size_of u
  unfolding size_of row_total trial_checks live_mask live_offers by_offer live_from
  size_same =
      ap (λ (c : Contents). outcome (content_checks c) (record { rows = row_count c.setting.shape.design; columns = c.setting.shape.offers; live = live_from c })) s

  calls_same : (places : ℕ) → table_call_checks t places ≡ table_call_checks u places
  unfolding table_call_checks
  calls_same places = ap₂ (λ (cs : Checks) (n : ℕ). cs ++ too_short places n) checks-same (ap₂ ◌*◌ rows_same offers-same)

  pub call_same : (places : ℕ) → table_call_refusal t places ≡ table_call_refusal u places
  unfolding table_call_refusal
  call_same places = ap first_refusal (calls_same places)

  pub buffer-same : (buf : List Float) → table_buffer t buf ≡ table_buffer u buf
  unfolding table_buffer
  buffer-same buf = ap₂ (λ (cs : Checks) (xs : List Float). afterwards cs (written xs buf) buf) (calls_same (length buf)) table_same
