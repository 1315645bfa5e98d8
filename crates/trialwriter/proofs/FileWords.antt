-- The words of a trial's contents, by place.
--   words-length                             how many there are
--   word-level .. word_end                   the word at each place of the layout
use Prim.Native.Nat.{ℕ, suc, ◌+◌, ◌<◌}
use native.Mathlib.Omega.{arith}
use mathlib.Core.Path.{◌≡◌, refl, sym, ap, ◌∙◌}
use mathlib.Core.List.{List, [], ◌∷◌, ◌++◌}
use lib.ListN.{length, get_or, length-append, get_or-append}
use lib.Seq.{get_or-append-add}
use lib.IntN.{pos}
use Rattle.order.proofs.Lists.{tabulate-length, tabulate-get_d}
use Rattle.trial.specs.Record.{figure_count, Contents}
use Rattle.trial.specs.Refusals.{nth}
use Rattle.trial.specs.declared.Shape.{Shape}
use Rattle.words.specs.Words.{word, level_word, offer_word, difference_word, end_word}
use Rattle.layouts.specs.Layouts.{level_at, shape_at, layout_of, offer_at, figure_at, word_total}
use Rattle.words.specs.Words.{shape_word_of}
use Rattle.trialwriter.specs.Writings.{offer_words, figure_words, content_words}

module _ (c : Contents) where
  abbrev s : Shape
  s = c.setting.shape

  abbrev offers : List ℕ
  offers = offer_words (nth c.setting.codes 0) (nth c.setting.digits 0) s.offers

  abbrev figures : List ℕ
  figures = figure_words (nth c.figures (pos 0)) (figure_count s)

  abbrev end : List ℕ
  end = end_word (layout_of s).end ∷ []

  offers-length : length offers ≡ s.offers
  offers-length = tabulate-length s.offers _

  figures-length : length figures ≡ figure_count s
  figures-length = tabulate-length (figure_count s) _

  pub words-length : length (content_words c) ≡ word_total s
  unfolding content_words layout_of
  words-length = omega (arith, length-append offers (figures ++ end), length-append figures end, offers-length, figures-length)

  -- past the level and the shape
  past_two : (j : ℕ) → word (content_words c) (2 + j) ≡ word (offers ++ (figures ++ end)) j
  unfolding content_words
  past_two j = let e : 2 + j ≡ suc (suc j) = omega arith in ap (word (content_words c)) e

  past-offers : (m : ℕ) → word (content_words c) (2 + (s.offers + m)) ≡ word (figures ++ end) m
  past-offers m = past_two (s.offers + m) ∙ ap (λ (n : ℕ). word (offers ++ (figures ++ end)) (n + m)) (sym offers-length) ∙ get_or-append-add offers (figures ++ end) m 0

  pub word-level : word (content_words c) level_at ≡ level_word c.setting.level.a c.setting.level.b
  unfolding content_words
  word-level = refl

  pub word-shape : word (content_words c) shape_at ≡ shape_word_of s.k s.offers s.design
  unfolding content_words
  word-shape = refl

  pub word-offer : (i : ℕ) → i < s.offers → word (content_words c) (offer_at (layout_of s) i) ≡ offer_word (get_or c.setting.codes i 0) (get_or c.setting.digits i 0)
  unfolding layout_of
  word-offer i h =
      let e : offer_at (layout_of s) i ≡ 2 + i = omega arith in
      ap (word (content_words c)) e ∙ past_two i
      ∙ get_or-append offers (figures ++ end) 0 i (omega (arith, offers-length))
      ∙ tabulate-get_d s.offers (λ j. offer_word (get_or c.setting.codes j 0) (get_or c.setting.digits j 0)) i 0 h

  pub word-figure : (i : ℕ) → i < figure_count s → word (content_words c) (figure_at (layout_of s) i) ≡ difference_word (get_or c.figures i (pos 0))
  unfolding layout_of
  word-figure i h =
      let e : figure_at (layout_of s) i ≡ 2 + (s.offers + i) = omega arith in
      ap (word (content_words c)) e ∙ past-offers i
      ∙ get_or-append figures end 0 i (omega (arith, figures-length))
      ∙ tabulate-get_d (figure_count s) (λ j. difference_word (get_or c.figures j (pos 0))) i 0 h

  pub word_end : word (content_words c) (layout_of s).end ≡ end_word (layout_of s).end
  unfolding layout_of
  word_end =
      let e : (layout_of s).end ≡ 2 + (s.offers + figure_count s) = omega arith in
      let z : figure_count s ≡ length figures + 0 = omega (arith, figures-length) in
      ap (word (content_words c)) e ∙ past-offers (figure_count s) ∙ ap (word (figures ++ end)) z ∙ get_or-append-add figures end 0 0
