-- Laws for reading: what an accepted file's shape fits into, and the answer.
--   shape-fits, file-long     the counts of an accepted file's shape, and that its words are there
--   trial-read       the trial made of its parts
--   read-refusal     the number in what reading answers is that of the file's refusal
--   read_taken       reading an accepted file answers its trial
--   file_accepted    a file that is not refused is accepted
--   read_known       what an answer with a trial tells
--   read-accepted    the trial of an accepted file is accepted
--   read-lengths     and its arrays have their lengths
use Prim.Native.Nat.{ℕ, ◌+◌, ◌*◌, ◌≤◌}
use native.Mathlib.Omega.{arith}
use mathlib.Core.Path.{◌≡◌, refl, sym, ap, ap₂, ◌∙◌, subst}
use mathlib.Core.List.{List}
use lib.ListN.{length}
use lib.IntN.{ℤ, pos}
use Rattle.limits.specs.Limits.{offers_most, units_most, figures_most}
use Rattle.order.specs.Lists.{tabulate, padded}
use Rattle.std.proofs.Common.{Ok}
use Rattle.refusals.specs.Answers.{outcome, refusal_in}
use Rattle.refusals.proofs.Answers.{none-holds, none_first, outcome_number, outcome-ok, ok-none, ok-for}
use Rattle.refusals.proofs.Limits.{fitting}
use Rattle.trial.specs.Designs.{units_of}
use Rattle.trial.specs.Record.{ArrayLengths, figure_count}
use Rattle.trial.specs.Refusals.{trial_refusal}
use Rattle.trial.specs.declared.Level.{Level}
use Rattle.trial.specs.declared.Shape.{Shape}
use Rattle.trial.specs.declared.Trial.{Trial}
use Rattle.trial.proofs.LaidOut.{laid_out}
use Rattle.words.specs.Words.{words_of, word}
use Rattle.layouts.specs.Layouts.{level_at, shape_at, layout_of}
use Rattle.words.specs.Words.{level_in, shape_in}
use Rattle.trialfile.specs.Files.{code_in, digits_in, figure_in, contents_in, trial_of, file_checks, file_refusal, reading_of}
use Rattle.layouts.specs.declared.Layout.{Layout}
use Rattle.words.proofs.Words.{words_of-length}
use Rattle.trialfile.proofs.Passed.{trial-accepted, trial-lengths, file-passed}

pub shape-fits : (bs : List ℕ) → file_refusal bs ≡ 0 → (v : ℕ) (s : Shape) → v ≡ word (words_of bs) shape_at → s ≡ shape_in v → (s.offers ≤ offers_most) × (units_of s.design ≤ units_most)
shape-fits bs h v s e f =
    let p = (file-passed bs h).words-good in
    let w = word (words_of bs) shape_at in
    subst (λ (x : Shape). (x.offers ≤ offers_most) × (units_of x.design ≤ units_most)) (sym (f ∙ ap shape_in e))
    ((fitting offers_most (shape_in w).offers (shape_in w).k p.counts).columns-most, (laid_out (shape_in w).design p.laid).units-most)

-- an accepted file has all its words
pub file-long : (bs : List ℕ) → file_refusal bs ≡ 0 → (v : ℕ) (s : Shape) (l : Layout) → v ≡ word (words_of bs) shape_at → s ≡ shape_in v → l ≡ layout_of s → 4 * (l.end + 1) ≤ length bs
file-long bs h v s l e f g =
    subst (λ (x : Layout). 4 * (x.end + 1) ≤ length bs) (sym (g ∙ ap layout_of (f ∙ ap shape_in e))) (omega (arith, (file-passed bs h).words-good.many, words_of-length bs))

-- a trial of a level, a shape and words
trial_by : List ℕ → Level → Shape → Trial
unfolding tabulate layout_of figure_count
trial_by ws v s = record {
  level = v;
  shape = s;
  labels = record { codes = padded offers_most 0 (tabulate s.offers (code_in ws (layout_of s))); digits = padded offers_most 0 (tabulate s.offers (digits_in ws (layout_of s))) };
  figures = padded figures_most (pos 0) (tabulate (figure_count s) (figure_in ws (layout_of s)));
}

trial_of-by : (ws : List ℕ) → trial_of ws ≡ trial_by ws (level_in (word ws level_at)) (shape_in (word ws shape_at))
unfolding trial_of contents_in trial_by
trial_of-by ws = refl

made_by : (ws : List ℕ) (n : ℕ) (a : Level) (s : Shape) (l : Layout) (cs ds : List ℕ) (xs : List ℤ) → l ≡ layout_of s → n ≡ figure_count s
    → cs ≡ padded offers_most 0 (tabulate s.offers (code_in ws l)) → ds ≡ padded offers_most 0 (tabulate s.offers (digits_in ws l)) → xs ≡ padded figures_most (pos 0) (tabulate n (figure_in ws l))
    → record { level = a; shape = s; labels = record { codes = cs; digits = ds }; figures = xs } ≡ trial_by ws a s
unfolding trial_by
made_by ws n a s l cs ds xs e4 e5 ec ed ex = rw (ec, ed, ex, e4, e5)

pub trial-read : (ws : List ℕ) (w v n : ℕ) (a : Level) (s : Shape) (l : Layout) (cs ds : List ℕ) (xs : List ℤ)
    → w ≡ word ws level_at → a ≡ level_in w → v ≡ word ws shape_at → s ≡ shape_in v → l ≡ layout_of s → n ≡ figure_count s
    → cs ≡ padded offers_most 0 (tabulate s.offers (code_in ws l)) → ds ≡ padded offers_most 0 (tabulate s.offers (digits_in ws l)) → xs ≡ padded figures_most (pos 0) (tabulate n (figure_in ws l))
    → record { level = a; shape = s; labels = record { codes = cs; digits = ds }; figures = xs } ≡ trial_of ws
trial-read ws w v n a s l cs ds xs e0 e1 e2 e3 e4 e5 ec ed ex =
    made_by ws n a s l cs ds xs e4 e5 ec ed ex ∙ ap₂ (trial_by ws) (e1 ∙ ap level_in e0) (e3 ∙ ap shape_in e2) ∙ sym (trial_of-by ws)

-- the number in the answer is that of the file's refusal
pub read-refusal : (bytes : List ℕ) → refusal_in (reading_of bytes) ≡ file_refusal bytes
unfolding reading_of file_refusal
read-refusal bytes = outcome_number (file_checks bytes) (trial_of (words_of bytes))

-- an accepted file's answer is its trial
pub read_taken : (bytes : List ℕ) → file_refusal bytes ≡ 0 → reading_of bytes ≡ Ok (trial_of (words_of bytes))
unfolding reading_of file_refusal
read_taken bytes h = outcome-ok (file_checks bytes) (trial_of (words_of bytes)) (none-holds (file_checks bytes) h)

-- a file that is not refused is accepted
pub file_accepted : {A : Type 0} (bytes : List ℕ) (a : A) {x : A} → outcome (file_checks bytes) a ≡ Ok x → file_refusal bytes ≡ 0
unfolding file_refusal
file_accepted bytes a h = none_first (file_checks bytes) (ok-none (file_checks bytes) a _ h)

pub read_known : (bytes : List ℕ) (t : Trial) → reading_of bytes ≡ Ok t → (file_refusal bytes ≡ 0) × (t ≡ trial_of (words_of bytes))
unfolding reading_of
read_known bytes t h =
    let e : Ok t ≡ Ok (trial_of (words_of bytes)) = sym h ∙ ok-for (file_checks bytes) (trial_of (words_of bytes)) t (trial_of (words_of bytes)) h in
    (file_accepted bytes (trial_of (words_of bytes)) h, cc)

module _ (bytes : List ℕ) (h : file_refusal bytes ≡ 0) where
  pub read-accepted : trial_refusal (trial_of (words_of bytes)) ≡ 0
  read-accepted = trial-accepted (words_of bytes) (file-passed bytes h).words-good

  pub read-lengths : ArrayLengths (trial_of (words_of bytes))
  read-lengths = trial-lengths (words_of bytes) (file-passed bytes h).words-good
