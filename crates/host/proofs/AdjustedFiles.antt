-- Laws of the call for the adjusted figures of a file.
--   figured-known            an accepted file has at most 32 offers, no figure is above 4096, and M is not
--   figured-refused, figured-short, figured-done     each answer with the lent places: the file is turned away, 12, the figures and M are written
use Prim.Native.Nat.{ℕ, ◌+◌, ◌≤◌, ◌<◌}
use native.Mathlib.Omega.{arith}
use mathlib.Core.Path.{◌≡◌, refl, ap, ◌∙◌}
use mathlib.Core.List.{List}
use lib.ListN.{length, get_or, take}
use Rattle.std.proofs.Common.{Ok, Err}
use Rattle.refusals.specs.Answers.{number, first_refusal}
use Rattle.refusals.specs.declared.refusal.Refusal.{Refusal}
use Rattle.refusals.specs.Buffers.{written}
use Rattle.trial.specs.Exchange.{row_total}
use Rattle.trial.specs.declared.Trial.{Trial}
use Rattle.trial.proofs.Accepted.{Accepted}
use Rattle.words.specs.Words.{words_of}
use Rattle.trialfile.specs.Files.{trial_of, file_checks, file_refusal}
use Rattle.trialfile.proofs.Taken.{read-accepted}
use Rattle.trialadjustment.specs.TrialFigures.{trial_figures}
use Rattle.trialadjustment.specs.FileFigures.{accepted_file, file_figures}
use Rattle.trialadjustment.specs.declared.FileFigures.{FileFigures}
use Rattle.trialadjustment.proofs.Trials.{trial-length, trial-most}
use Rattle.host.specs.Calls.{file_offers}
use Rattle.host.specs.AdjustedCalls.{trial_adjusted_answer, trial_adjusted_buffer, trial_adjusted_rows}
use Rattle.host.proofs.FigureAnswers.{figures-first, figures-most}
use Rattle.host.proofs.Lent.{refused-by, passed, taken, given-refused, given-short, given-done}
use Rattle.trial.proofs.Accepted as trials

module _ (bytes : List ℕ) where
  abbrev read : Trial
  read = trial_of (words_of bytes)

  module _ (f : FileFigures) (e : Ok f ≡ file_figures bytes) where
    passes : first_refusal (file_checks bytes) ≡ 0
    unfolding file_figures
    passes = passed (file_checks bytes) (accepted_file read) f e

    is_done : f ≡ accepted_file read
    unfolding file_figures
    is_done = taken (file_checks bytes) (accepted_file read) f e

    offers-are : f.trial.shape.offers ≡ file_offers bytes
    offers-are = ap (λ (x : FileFigures). x.trial.shape.offers) is_done

    rows_are : f.adjusted.rows ≡ row_total read
    rows_are = ap (λ (x : FileFigures). x.adjusted.rows) is_done

    known : Accepted read
    unfolding file_refusal
    known = trials.accepted read (read-accepted bytes passes)

    rows-most : row_total read ≤ 4096
    unfolding row_total
    rows-most = omega (arith, known.laid.rows-most)

    pub figured-known : (f.trial.shape.offers ≤ 32) × ((j : ℕ) → get_or f.adjusted.figures j 0 ≤ 4096) × (f.adjusted.rows ≤ 4096)
    figured-known = (
      omega (arith, offers-are, known.offers-most),
      λ j. omega (arith, rows-most, figures-most (row_total read) (trial_figures read) f.adjusted (ap (λ (x : FileFigures). x.adjusted) is_done) (file_offers bytes) (trial-length read) (trial-most read) j),
      omega (arith, rows_are, rows-most),
    )

    first : take f.trial.shape.offers f.adjusted.figures ≡ trial_figures read
    first = ap (λ (n : ℕ). take n f.adjusted.figures) offers-are ∙ figures-first (row_total read) (trial_figures read) f.adjusted (ap (λ (x : FileFigures). x.adjusted) is_done) (file_offers bytes) (trial-length read)

  -- ---- the answers

  module _ (buf : List ℕ) (old : ℕ) where
    abbrev Done : ℕ → List ℕ → ℕ → Type 0
    Done r out rows = (r ≡ trial_adjusted_answer bytes (length buf)) × ((out ≡ trial_adjusted_buffer bytes buf) × (rows ≡ trial_adjusted_rows bytes (length buf) old))

    pub figured-refused : (r : Refusal) → Err r ≡ file_figures bytes → Done (100 + number r) buf old
    unfolding file_figures trial_adjusted_answer trial_adjusted_buffer trial_adjusted_rows
    figured-refused r e = let d = given-refused (file_checks bytes) (file_offers bytes) 0 (trial_figures read) buf (row_total read) old r (refused-by (file_checks bytes) (accepted_file read) r e) in (d.0, (d.1, d.2))

    module _ (f : FileFigures) (e : Ok f ≡ file_figures bytes) where
      pub figured-short : length buf < f.trial.shape.offers → Done 112 buf old
      unfolding trial_adjusted_answer trial_adjusted_buffer trial_adjusted_rows
      figured-short h = let d = given-short (file_checks bytes) (file_offers bytes) 0 (trial_figures read) buf (row_total read) old (passes f e) (omega (arith, offers-are f e)) in (d.0, (d.1, d.2))

      pub figured-done : f.trial.shape.offers ≤ length buf → (all : List ℕ) → all ≡ f.adjusted.figures → (out : List ℕ) → out ≡ written (take f.trial.shape.offers all) buf → Done 0 out f.adjusted.rows
      unfolding trial_adjusted_answer trial_adjusted_buffer trial_adjusted_rows
      figured-done h all m out p =
          let d = given-done (file_checks bytes) (file_offers bytes) 0 (trial_figures read) buf (row_total read) old (passes f e) (omega (arith, offers-are f e))
          0 refl out (p ∙ ap (λ (l : List ℕ). written l buf) (ap (take f.trial.shape.offers) m ∙ first f e)) f.adjusted.rows (rows_are f e) in
          (d.0, (d.1, d.2))
