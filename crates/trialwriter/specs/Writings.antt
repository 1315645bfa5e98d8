-- Writing a trial into a lent byte buffer. Definitions only.
--   offer_words, figure_words   the words of n offers, and of n figures
--   content_words c        the words of a trial's contents, in the order of the layout
--   file_words t           the words of an accepted trial's file: level, shape, offers, figures, end
--   file_of t              its bytes
--   file_length t          how many bytes these are
--   write_checks t places  of writing t into so many places: what the record is turned away for, then 12
--   write_refusal t places  the number of the first that holds, or 0
--   writing_of t places    what writing answers: the length of the file, or its refusal
--   after_writing t buf    the buffer after it: the file in its first places, or unchanged where the call is refused
use Rattle.std.specs.Prelude.{ℕ, ◌*◌, List, [], ◌∷◌, ◌++◌, length, ℤ, pos, Result}
use Rattle.order.specs.Lists.{tabulate}
use Rattle.refusals.specs.Answers.{Checks, answer, outcome, first_refusal, afterwards}
use Rattle.refusals.specs.declared.refusal.Refusal.{Refusal}
use Rattle.refusals.specs.Buffers.{too_short, written}
use Rattle.trial.specs.Record.{figure_count, Contents, contents}
use Rattle.trial.specs.Refusals.{nth, trial_checks}
use Rattle.trial.specs.declared.Trial.{Trial}
use Rattle.words.specs.Words.{bytes_of, level_word, shape_word_of, offer_word, bits_of, difference_word, end_word}
use Rattle.layouts.specs.Layouts.{layout_of, word_total}

abbrev pub offer_words : (ℕ → ℕ) → (ℕ → ℕ) → ℕ → List ℕ
offer_words code digits n = tabulate n (λ i. offer_word (code i) (digits i))

abbrev pub figure_words : (ℕ → ℤ) → ℕ → List ℕ
figure_words figure n = tabulate n (λ i. difference_word (figure i))

unfoldable pub content_words : Contents → List ℕ
unfolding tabulate shape_word_of bits_of layout_of figure_count
content_words c =
    let s = c.setting.shape in
    level_word c.setting.level.a c.setting.level.b
    ∷ shape_word_of s.k s.offers s.design
    ∷ (offer_words (nth c.setting.codes 0) (nth c.setting.digits 0) s.offers
    ++ (figure_words (nth c.figures (pos 0)) (figure_count s)
    ++ (end_word (layout_of s).end ∷ [])))

unfoldable pub file_words : Trial → List ℕ
unfolding content_words figure_count
file_words t = content_words (contents t)

unfoldable pub file_of : Trial → List ℕ
unfolding bytes_of file_words
file_of t = bytes_of (file_words t)

abbrev pub file_length : Trial → ℕ
file_length t = 4 * word_total t.shape

unfoldable pub write_checks : Trial → ℕ → Checks
unfolding trial_checks layout_of
write_checks t places = trial_checks t ++ too_short places (file_length t)

unfoldable pub write_refusal : Trial → ℕ → ℕ
unfolding first_refusal write_checks
write_refusal t places = first_refusal (write_checks t places)

unfoldable pub writing_of : Trial → ℕ → Result ℕ Refusal
unfolding write_checks
writing_of t places = outcome (write_checks t places) (file_length t)

unfoldable pub after_writing : Trial → List ℕ → List ℕ
unfolding answer write_checks file_of
after_writing t buf = afterwards (write_checks t (length buf)) (written (file_of t) buf) buf
