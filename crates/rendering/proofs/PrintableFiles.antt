-- What is known of an accepted file, so that its text fits and nothing is cut off.
--   whole_cents x        the value is a whole number, of cents or a rank, within what f64 holds exactly
--   PrintableRun run     the full run of every accepted trial can be printed; plain-printable, balanced-printable: that of its plain run and of its balanced one
--   printed-cents, printed-ranks     the printed number is the critical value
--   trial-printable      an accepted trial with its full run can be printed
--   printable-file       what the full run of an accepted file answers can be printed
use Prim.Native.Nat.{ℕ, ◌-◌, ◌^◌, ◌≤◌, ◌<◌}
use native.Mathlib.Omega.{arith}
use mathlib.Core.Path.{◌≡◌, sym, ap, ◌∙◌, subst}
use mathlib.Core.Bool.{Bool, ◌&&◌}
use mathlib.Core.List.{List}
use lib.ListN.{length, get_or, length-map, replicate, get_or-append}
use lib.Dec.{T, le→leb, lt→ltb}
use lib.IntN.{ℤ, pos, negsuc, nat_abs}
use lib.Ieee.{Float, nan, binary64, fits, in_signed, in_float, of_int}
use lib.Ieee.Fits.{of_int-fits}
use lib.Ieee.Back.{positive_back, negative_back}
use Rattle.limits.specs.Limits.{steps_most, trial_rows_most}
use Rattle.order.specs.Order.{plus_zero}
use Rattle.order.specs.Counting.{all}
use Rattle.order.proofs.Booleans.{and_both, and_left, and_right}
use Rattle.order.proofs.Counts.{all_get_d}
use Rattle.order.proofs.Lists.{all-tabulate}
use Rattle.std.proofs.Common.{IfOk}
use Rattle.refusals.proofs.Answers.{none_first, ok-each}
use Rattle.runs.specs.Stepdown.{Outcome, steps_of, full_run}
use Rattle.runs.specs.FullRuns.{no_record, accepted_run}
use Rattle.runs.specs.declared.Record.{Record}
use Rattle.runs.specs.declared.State.{State}
use Rattle.runs.specs.declared.Step.{Step}
use Rattle.runs.proofs.Termination.{steps-few}
use Rattle.trial.specs.Exchange.{row_total, row_of, trial_rows}
use Rattle.trial.specs.Refusals.{trial_refusal}
use Rattle.trial.specs.declared.Trial.{Trial}
use Rattle.trial.proofs.Accepted.{Accepted, accepted}
use Rattle.trial.proofs.Tables.{row_of-all, trial_rows-length}
use Rattle.words.specs.Words.{words_of}
use Rattle.trialfile.specs.Files.{trial_of, file_checks, file_refusal}
use Rattle.trialfile.proofs.Taken.{read-accepted}
use Rattle.balance.specs.Balance.{balanced_rows}
use Rattle.balance.proofs.Balanced.{balanced-all}
use Rattle.trialrun.specs.TrialRuns.{trial_start, trial_run}
use Rattle.trialrun.proofs.Bars.{plain-offer}
use Rattle.trialbalance.specs.TrialBalance.{trial_balanced_run}
use Rattle.trialbalance.proofs.Calls.{balanced-offer}
use Rattle.trialrun.specs.FileRuns.{accepted_by, file_by}
use Rattle.text.specs.Text.{cents}
use Rattle.rendering.specs.Reports.{record_at}
use Rattle.rendering.specs.Internal.{Printable, PrintableFile}
use Rattle.text.proofs.Cents.{cents-exact}
use Rattle.rendering.proofs.Values.{records-hold}

-- ---- critical values are whole numbers

whole_cents : Float → Bool
whole_cents x = fits binary64 x && in_signed binary64 63 x

of_int-whole : (z : ℤ) → nat_abs z ≤ 2 ^ 53 → T (whole_cents (of_int binary64 z))
unfolding whole_cents in_float
of_int-whole (pos n) h = and_both (fits binary64 (of_int binary64 (pos n))) (in_signed binary64 63 (of_int binary64 (pos n))) (of_int-fits binary64 (pos n)) (positive_back binary64 63 n (le→leb _ _ h) (omega arith)).0
of_int-whole (negsuc n) h = and_both (fits binary64 (of_int binary64 (negsuc n))) (in_signed binary64 63 (of_int binary64 (negsuc n))) (of_int-fits binary64 (negsuc n)) (negative_back binary64 63 n (lt→ltb _ _ h) (omega arith)).0

zero-whole : T (whole_cents plus_zero)
unfolding whole_cents of_int
zero-whole = of_int-whole (pos 0) (omega arith)

-- the rows of an accepted trial's table hold whole numbers, and are few
rows_whole : (t : Trial) → Accepted t → T (all (all whole_cents) (trial_rows t))
unfolding trial_rows
rows_whole t acc = all-tabulate (all whole_cents) (row_total t) (λ g. row_of t g) (λ g. row_of-all whole_cents of_int-whole t g acc)

rows_few : (t : Trial) → Accepted t → row_total t ≤ trial_rows_most
unfolding row_total
rows_few t acc = acc.laid.rows-most

-- ---- a run over rows whose values are whole numbers

module _ (X : List (List Float)) (r : State) where
  records-few : length (full_run X r).records ≤ steps_most
  unfolding full_run
  records-few = omega (arith, length-map (steps_of X r) (λ (x : Step). x.logged), steps-few X r)

  module _ (wholes : T (all (all whole_cents) X)) (n : ℕ)
      (named : (i : ℕ) → i < length (full_run X r).records → (d : Record) → (0 < (get_or (full_run X r).records i d).offer) × ((get_or (full_run X r).records i d).offer ≤ n)) where
    abbrev blank : Record
    blank = record { step = 0; critical = nan; row = 0; offer = 0 }

    record-there : (i : ℕ) → i < length (full_run X r).records → record_at (accepted_run (full_run X r)) i ≡ get_or (full_run X r).records i blank
    unfolding accepted_run
    record-there i h = let rs = (full_run X r).records in get_or-append rs (replicate (steps_most - length rs) no_record) blank i h

    abbrev critical_at : ℕ → Float
    critical_at i = (record_at (accepted_run (full_run X r)) i).critical

    record-whole : (i : ℕ) → i < length (full_run X r).records → T (whole_cents (record_at (accepted_run (full_run X r)) i).critical)
    record-whole i h =
        subst (λ (m : Record). T (whole_cents m.critical)) (sym (record-there i h)) (all_get_d (λ m. whole_cents m.critical) (full_run X r).records i blank h (records-hold whole_cents zero-whole X wholes r))

    run-printable : Printable n (accepted_run (full_run X r))
    unfolding accepted_run whole_cents
    run-printable = record {
      few-steps = records-few;
      whole = λ i h. and_right (fits binary64 (critical_at i)) (in_signed binary64 63 (critical_at i)) (record-whole i h);
      held = λ i h. and_left (fits binary64 (critical_at i)) (in_signed binary64 63 (critical_at i)) (record-whole i h);
      named = λ i h. subst (λ (m : Record). (0 < m.offer) × (m.offer ≤ n)) (sym (record-there i h)) (named i h blank);
    }

-- ---- the runs of an accepted trial

abbrev pub PrintableRun : (Trial → Outcome) → Type 0
PrintableRun run = (t : Trial) → trial_refusal t ≡ 0 → Printable t.shape.offers (accepted_run (run t))

pub plain-printable : PrintableRun trial_run
unfolding trial_run
plain-printable t h = run-printable (trial_rows t) (trial_start t) (rows_whole t (accepted t h)) t.shape.offers (λ i l d. let o = plain-offer t h i l d in (o.offer-some, o.offer-most))

pub balanced-printable : PrintableRun trial_balanced_run
unfolding trial_balanced_run
balanced-printable t h = run-printable (balanced_rows (trial_rows t)) (trial_start t)
    (balanced-all (trial_rows t) whole_cents (λ m l. of_int-whole (pos m) (omega (arith, trial_rows-length t, rows_few t (accepted t h))))) t.shape.offers
    (λ i l d. let o = balanced-offer t h i l d in (o.offer-some, o.offer-most))

-- the printed number is the critical value: nothing is cut off
module _ (run : Trial → Outcome) (p : PrintableRun run) where
  cents-by : (t : Trial) → trial_refusal t ≡ 0 → (i : ℕ) → i < length (run t).records → let c = (record_at (accepted_run (run t)) i).critical in of_int binary64 (cents c) ≡ c
  unfolding accepted_run
  cents-by t h i l = let q = p t h in cents-exact (record_at (accepted_run (run t)) i).critical (q.held i l) (q.whole i l)

pub printed-cents : (t : Trial) → trial_refusal t ≡ 0 → (i : ℕ) → i < length (trial_run t).records → let c = (record_at (accepted_run (trial_run t)) i).critical in of_int binary64 (cents c) ≡ c
printed-cents = cents-by trial_run plain-printable

pub printed-ranks : (t : Trial) → trial_refusal t ≡ 0 → (i : ℕ) → i < length (trial_balanced_run t).records → let c = (record_at (accepted_run (trial_balanced_run t)) i).critical in of_int binary64 (cents c) ≡ c
printed-ranks = cents-by trial_balanced_run balanced-printable

-- ---- the file

module _ (run : Trial → Outcome) (p : PrintableRun run) where
  pub trial-printable : (t : Trial) → trial_refusal t ≡ 0 → PrintableFile (accepted_by run t)
  trial-printable t h = let acc = accepted t h in let q = p t h in record {
    offers-most = acc.offers-most;
    run-printable = record { few-steps = q.few-steps; whole = q.whole; held = q.held; named = λ i l. let o = q.named i l in (o.0, omega (arith, o.1, acc.offers-most)) };
  }

  pub printable-file : (bytes : List ℕ) → IfOk (file_by run bytes) PrintableFile
  unfolding file_refusal
  printable-file bytes = ok-each (file_checks bytes) (accepted_by run (trial_of (words_of bytes))) PrintableFile (λ h. trial-printable (trial_of (words_of bytes)) (read-accepted bytes (none_first (file_checks bytes) h)))
