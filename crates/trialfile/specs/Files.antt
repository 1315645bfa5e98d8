-- Reading a trial file. What a file is turned away for is judged place by place; its trial is read off by position. Definitions only.
--   code_in, digits_in, figure_in   number and printed digits of offer i, and figure i, in words with a layout
--   contents_in, trial_of  the contents and the trial that words hold, by position
--   bad_length bytes       the condition of 1
--   other_kind kind w      the condition of 2: the word is missing or of another kind
--   level_place, shape_place         the level: 2, 3; the shape: 2, 4, and what its layout adds (15 of shops)
--   offer_place, figure_place        an offer: 2, 5, 6; a figure: 2, 7
--   end_place              the end: 2, 8
--   body_places            the words after the shape: offers, figures, end
--   place_checks ws        all words, from the start
--   file_checks bytes      all conditions of a file, in order
--   file_refusal bytes     the number of the first that holds, or 0
--   reading_of bytes        what reading a file answers: its trial, or its refusal
use Rattle.std.specs.Prelude.{ℕ, ◌+◌, ◌%◌, Bool, not, ◌||◌, List, [], ◌∷◌, ◌++◌, length, ltb, eqb, ℤ, Result}
use Rattle.limits.specs.Limits.{offers_most, longest_file}
use Rattle.order.specs.Lists.{tabulate}
use Rattle.refusals.specs.Answers.{r1, r2, r3, r4, r8, Checks, places_from, outcome, first_refusal}
use Rattle.refusals.specs.declared.refusal.Refusal.{Refusal}
use Rattle.refusals.specs.Limits.{bad_columns, bad_level}
use Rattle.trial.specs.Designs.{design_checks}
use Rattle.trial.specs.Record.{figure_count, Contents, filled}
use Rattle.trial.specs.Refusals.{bad_digits, among, bad_difference, earlier, offer_checks, figure_checks}
use Rattle.trial.specs.declared.Shape.{Shape}
use Rattle.trial.specs.declared.Trial.{Trial}
use Rattle.words.specs.Words.{words_of, word, kind_of, level_kind, offer_kind, difference_kind, end_kind, a_of, b_of, level_in, no_shape, spare_of, shape_in, digits_of, code_of, difference_of, count_of}
use Rattle.layouts.specs.Layouts.{level_at, shape_at, layout_of, offer_at, figure_at}
use Rattle.layouts.specs.declared.Layout.{Layout}

-- ---- the trial

abbrev pub code_in : List ℕ → Layout → ℕ → ℕ
code_in ws l i = code_of (word ws (offer_at l i))

abbrev pub digits_in : List ℕ → Layout → ℕ → ℕ
digits_in ws l i = digits_of (word ws (offer_at l i))

abbrev pub figure_in : List ℕ → Layout → ℕ → ℤ
figure_in ws l i = difference_of (word ws (figure_at l i))

unfoldable pub contents_in : List ℕ → Contents
unfolding tabulate layout_of figure_count shape_in
contents_in ws =
    let s = shape_in (word ws shape_at) in
    let l = layout_of s in
    record {
      setting = record { level = level_in (word ws level_at); shape = s; codes = tabulate s.offers (code_in ws l); digits = tabulate s.offers (digits_in ws l) };
      figures = tabulate (figure_count s) (figure_in ws l);
    }

unfoldable pub trial_of : List ℕ → Trial
unfolding contents_in
trial_of ws = filled (contents_in ws)

-- ---- the refusal

unfoldable pub bad_length : List ℕ → Bool
bad_length bytes = eqb (length bytes) 0 || (not (eqb (length bytes % 4) 0) || ltb longest_file (length bytes))

abbrev pub other_kind : ℕ → ℕ → Bool
other_kind kind w = not (eqb (kind_of w) kind)

abbrev pub level_place : ℕ → Checks
level_place w = (other_kind level_kind w, r2) ∷ (bad_level (a_of w) (b_of w), r3) ∷ []

abbrev pub shape_place : ℕ → Checks
shape_place w =
    let s = shape_in w in
    (no_shape w, r2) ∷ (bad_columns offers_most s.offers s.k || not (eqb (spare_of w) 0), r4) ∷ design_checks s.design

abbrev pub offer_place : List ℕ → Layout → ℕ → Checks
offer_place ws l i = (other_kind offer_kind (word ws (offer_at l i)), r2) ∷ offer_checks (code_in ws l) (digits_in ws l) i

abbrev pub figure_place : List ℕ → Layout → ℕ → Checks
figure_place ws l i = (other_kind difference_kind (word ws (figure_at l i)), r2) ∷ figure_checks (figure_in ws l) i

abbrev pub end_place : List ℕ → ℕ → Checks
end_place ws n = (other_kind end_kind (word ws n), r2) ∷ (not (eqb (count_of (word ws n)) n) || ltb (n + 1) (length ws), r8) ∷ []

-- the words after the shape
unfoldable pub body_places : List ℕ → Shape → Checks
unfolding places_from bad_digits among earlier bad_difference layout_of figure_count
body_places ws s =
    let l = layout_of s in
    places_from (offer_place ws l) 0 s.offers ++ (places_from (figure_place ws l) 0 (figure_count s) ++ end_place ws l.end)

unfoldable pub place_checks : List ℕ → Checks
unfolding bad_level no_shape shape_in spare_of bad_columns design_checks body_places
place_checks ws = level_place (word ws level_at) ++ (shape_place (word ws shape_at) ++ body_places ws (shape_in (word ws shape_at)))

unfoldable pub file_checks : List ℕ → Checks
unfolding bad_length words_of place_checks
file_checks bytes = (bad_length bytes, r1) ∷ place_checks (words_of bytes)

unfoldable pub file_refusal : List ℕ → ℕ
unfolding first_refusal file_checks
file_refusal bytes = first_refusal (file_checks bytes)

-- ---- the answer

unfoldable pub reading_of : List ℕ → Result Trial Refusal
unfolding file_checks trial_of words_of
reading_of bytes = outcome (file_checks bytes) (trial_of (words_of bytes))
