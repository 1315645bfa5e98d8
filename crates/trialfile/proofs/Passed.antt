-- What the words of an accepted file are known to be.
--   Passed, passed       what holds at each place
--   contents-read        the contents of their trial
--   codes_at, digits-at, figures-at     its parts, place by place
--   trial-accepted       their trial is accepted
--   trial-lengths        its arrays have their lengths
--   file-passed          an accepted file has a good length, and its words pass
use Prim.Native.Nat.{ℕ, ◌+◌, ◌%◌, ◌<◌}
use native.Mathlib.Omega.{arith}
use native.Mathlib.Decide.{dec_lt}
use mathlib.Core.Path.{◌≡◌, sym, ap, ◌∙◌, subst}
use mathlib.Core.Bool.{false, not, ◌||◌}
use mathlib.Core.List.{List, [], ◌∷◌, ◌++◌}
use lib.ListN.{length, get_or, get_or-eq_default}
use lib.Dec.{ltb, eqb}
use lib.IntN.{pos}
use borrow.Author.Tests.{ltb-false, eqb-true, not-false}
use Rattle.limits.specs.Limits.{offers_most, figures_most, longest_file}
use Rattle.order.specs.Lists.{tabulate}
use Rattle.order.proofs.Lists.{tabulate-length, tabulate-get_d, padded-length}
use Rattle.refusals.specs.Answers.{r3, places_from}
use Rattle.refusals.specs.Limits.{bad_columns, bad_level}
use Rattle.refusals.proofs.Answers.{NoneHolds, none-holds, none_first, none-append, none-join}
use Rattle.refusals.proofs.Places.{places-each, places-none}
use Rattle.refusals.proofs.Limits.{or-none, fitting}
use Rattle.trial.specs.Designs.{design_checks}
use Rattle.trial.specs.Record.{ArrayLengths, figure_count, Contents, contents}
use Rattle.trial.specs.Refusals.{bad_difference, heading_checks, offer_checks, figure_checks, nth, content_checks, trial_checks, trial_refusal}
use Rattle.trial.specs.declared.Shape.{Shape}
use Rattle.trial.proofs.Conditions.{offer-same}
use Rattle.trial.proofs.LaidOut.{laid_out}
use Rattle.trial.proofs.Unused.{contents-filled}
use Rattle.words.specs.Words.{words_of, word, kind_of, count_of}
use Rattle.layouts.specs.Layouts.{level_at, shape_at, layout_of, word_total}
use Rattle.words.specs.Words.{level_in, no_shape, spare_of, shape_in}
use Rattle.trialfile.specs.Files.{code_in, digits_in, figure_in, contents_in, trial_of, bad_length, other_kind, offer_place, figure_place, end_place, body_places, place_checks, file_checks, file_refusal}
use Rattle.layouts.specs.declared.Layout.{Layout}
use Rattle.layouts.proofs.Layouts.{count_most}

pub right-kind : (kind w : ℕ) → other_kind kind w ≡ false → kind_of w ≡ kind
right-kind kind w h = eqb-true (kind_of w) kind (not-false (eqb (kind_of w) kind) h)

-- a word of a kind above 0 is there
there : (ws : List ℕ) (i k : ℕ) → 0 < k → kind_of (word ws i) ≡ k → i < length ws
there ws i k p h = go (dec_lt i (length ws))
  where
    go : Dec (i < length ws) → i < length ws
    go (yes q) = q
    go (no q) = let z : word ws i ≡ 0 = get_or-eq_default ws 0 (omega (arith, q)) in absurd (omega arith)

module _ (ws : List ℕ) where
  abbrev s : Shape
  s = shape_in (word ws shape_at)

  abbrev l : Layout
  l = layout_of (shape_in (word ws shape_at))

-- what is known of the words of an accepted file
pub record Passed (ws : List ℕ) : Type 0 where
  pub level-stands : kind_of (word ws level_at) ≡ 1
  pub level-good : bad_level (level_in (word ws level_at)).a (level_in (word ws level_at)).b ≡ false
  pub shape-stands : no_shape (word ws shape_at) ≡ false
  pub counts : bad_columns offers_most (s ws).offers (s ws).k ≡ false
  pub spare : spare_of (word ws shape_at) ≡ 0
  pub laid : NoneHolds (design_checks (s ws).design)
  pub offers : (i : ℕ) → i < (s ws).offers → NoneHolds (offer_place ws (l ws) i)
  pub figures : (i : ℕ) → i < figure_count (s ws) → NoneHolds (figure_place ws (l ws) i)
  pub end-stands : kind_of (word ws (l ws).end) ≡ 15
  pub counted : count_of (word ws (l ws).end) ≡ (l ws).end
  pub many : length ws ≡ word_total (s ws)

passed : (ws : List ℕ) → NoneHolds (place_checks ws) → Passed ws
unfolding place_checks body_places
passed ws h =
    let c = or-none (bad_columns offers_most (s ws).offers (s ws).k) (not (eqb (spare_of (word ws shape_at)) 0)) h.1.1.1.0 in
    let os = places_from (offer_place ws (l ws)) 0 (s ws).offers in
    let fs = places_from (figure_place ws (l ws)) 0 (figure_count (s ws)) in
    let b = none-append (design_checks (s ws).design) (os ++ (fs ++ end_place ws (l ws).end)) h.1.1.1.1 in
    let o = none-append os (fs ++ end_place ws (l ws).end) b.1 in
    let d = none-append fs (end_place ws (l ws).end) o.1 in
    let e = or-none (not (eqb (count_of (word ws (l ws).end)) (l ws).end)) (ltb ((l ws).end + 1) (length ws)) d.1.1.0 in
    let k = right-kind 15 (word ws (l ws).end) d.1.0 in
    record {
      level-stands = right-kind 1 (word ws level_at) h.0;
      level-good = h.1.0;
      shape-stands = h.1.1.0;
      counts = c.0;
      spare = eqb-true (spare_of (word ws shape_at)) 0 (not-false (eqb (spare_of (word ws shape_at)) 0) c.1);
      laid = b.0;
      offers = places-each (offer_place ws (l ws)) (s ws).offers o.0;
      figures = places-each (figure_place ws (l ws)) (figure_count (s ws)) d.0;
      end-stands = k;
      counted = eqb-true (count_of (word ws (l ws).end)) (l ws).end (not-false (eqb (count_of (word ws (l ws).end)) (l ws).end) e.0);
      many = omega (arith, there ws (l ws).end 15 (omega arith) k, ltb-false ((l ws).end + 1) (length ws) e.1);
    }

-- ---- the trial of words

pub contents-read : (ws : List ℕ) → contents (trial_of ws) ≡ contents_in ws
unfolding trial_of contents_in
contents-read ws =
    contents-filled (contents_in ws) (tabulate-length (s ws).offers (code_in ws (l ws))) (tabulate-length (s ws).offers (digits_in ws (l ws))) (tabulate-length (figure_count (s ws)) (figure_in ws (l ws)))

module _ (ws : List ℕ) (p : Passed ws) where
  pub codes_at : (i : ℕ) → i < (s ws).offers → get_or (contents_in ws).setting.codes i 0 ≡ code_in ws (l ws) i
  unfolding contents_in
  codes_at i h = tabulate-get_d (s ws).offers (code_in ws (l ws)) i 0 h

  pub digits-at : (i : ℕ) → i < (s ws).offers → get_or (contents_in ws).setting.digits i 0 ≡ digits_in ws (l ws) i
  unfolding contents_in
  digits-at i h = tabulate-get_d (s ws).offers (digits_in ws (l ws)) i 0 h

  pub figures-at : (i : ℕ) → i < figure_count (s ws) → get_or (contents_in ws).figures i (pos 0) ≡ figure_in ws (l ws) i
  unfolding contents_in
  figures-at i h = tabulate-get_d (figure_count (s ws)) (figure_in ws (l ws)) i (pos 0) h

  offers-accepted : (i : ℕ) → i < (s ws).offers → NoneHolds (offer_checks (nth (contents_in ws).setting.codes 0) (nth (contents_in ws).setting.digits 0) i)
  offers-accepted i h =
      subst NoneHolds (sym (offer-same (nth (contents_in ws).setting.codes 0) (code_in ws (l ws)) (nth (contents_in ws).setting.digits 0) (digits_in ws (l ws)) (s ws).offers codes_at digits-at i h)) (p.offers i h).1

  figures-accepted : (i : ℕ) → i < figure_count (s ws) → NoneHolds (figure_checks (nth (contents_in ws).figures (pos 0)) i)
  figures-accepted i h = (ap bad_difference (figures-at i h) ∙ (p.figures i h).1.0, tt)

  heading-accepted : NoneHolds (heading_checks (level_in (word ws level_at)) (s ws))
  unfolding heading_checks
  heading-accepted = (p.counts, none-join (design_checks (s ws).design) ((bad_level (level_in (word ws level_at)).a (level_in (word ws level_at)).b, r3) ∷ []) p.laid (p.level-good, tt))

  all-accepted : NoneHolds (content_checks (contents_in ws))
  unfolding content_checks contents_in
  all-accepted =
      let offer = offer_checks (nth (contents_in ws).setting.codes 0) (nth (contents_in ws).setting.digits 0) in
      let figure = figure_checks (nth (contents_in ws).figures (pos 0)) in
      none-join (heading_checks (level_in (word ws level_at)) (s ws)) (places_from offer 0 (s ws).offers ++ places_from figure 0 (figure_count (s ws))) heading-accepted
      (none-join (places_from offer 0 (s ws).offers) (places_from figure 0 (figure_count (s ws))) (places-none offer (s ws).offers offers-accepted) (places-none figure (figure_count (s ws)) figures-accepted))

  pub trial-accepted : trial_refusal (trial_of ws) ≡ 0
  unfolding trial_refusal trial_checks
  trial-accepted = none_first (content_checks (contents (trial_of ws))) (subst (λ (x : Contents). NoneHolds (content_checks x)) (sym (contents-read ws)) all-accepted)

  pub trial-lengths : ArrayLengths (trial_of ws)
  unfolding trial_of contents_in
  trial-lengths =
      let f = fitting offers_most (s ws).offers (s ws).k p.counts in
      let u = (laid_out (s ws).design p.laid).units-most in
      record {
        codes-length = padded-length offers_most 0 (tabulate (s ws).offers (code_in ws (l ws))) (omega (arith, f.columns-most, tabulate-length (s ws).offers (code_in ws (l ws))));
        digits-length = padded-length offers_most 0 (tabulate (s ws).offers (digits_in ws (l ws))) (omega (arith, f.columns-most, tabulate-length (s ws).offers (digits_in ws (l ws))));
        figures-length = padded-length figures_most (pos 0) (tabulate (figure_count (s ws)) (figure_in ws (l ws))) (omega (arith, count_most (s ws) f.columns-most u, tabulate-length (figure_count (s ws)) (figure_in ws (l ws))));
      }

-- ---- the whole file

pub record Accepts (bytes : List ℕ) : Type 0 where
  pub length-good : bad_length bytes ≡ false
  pub words-good : Passed (words_of bytes)

pub file-passed : (bytes : List ℕ) → file_refusal bytes ≡ 0 → Accepts bytes
unfolding file_refusal file_checks
file-passed bytes h = let f = none-holds (file_checks bytes) h in record { length-good = f.0; words-good = passed (words_of bytes) f.1 }

module _ (bytes : List ℕ) (h : file_refusal bytes ≡ 0) where
  pub lengths : (not (eqb (length bytes % 4) 0) ≡ false) × (ltb longest_file (length bytes) ≡ false)
  unfolding bad_length
  lengths = or-none (not (eqb (length bytes % 4) 0)) (ltb longest_file (length bytes)) (or-none (eqb (length bytes) 0) (not (eqb (length bytes % 4) 0) || ltb longest_file (length bytes)) (file-passed bytes h).length-good).1
