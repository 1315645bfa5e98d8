-- The words of an accepted file are those of its trial.
--   words-again          the trial makes the same words
use Prim.Native.Nat.{ℕ, ◌<◌}
use native.Mathlib.Omega.{arith}
use mathlib.Core.Path.{◌≡◌, sym, ap, ap₂, ◌∙◌}
use mathlib.Core.List.{List}
use lib.Seq.{ext_get_or}
use Rattle.trial.specs.declared.Shape.{Shape}
use Rattle.words.specs.Words.{word, shape_in, offer_word, difference_word}
use Rattle.layouts.specs.Layouts.{level_at, shape_at, layout_of, offer_at, figure_at, word_total}
use Rattle.trialfile.specs.Files.{contents_in, trial_of}
use Rattle.layouts.specs.declared.Layout.{Layout}
use Rattle.trialwriter.specs.Writings.{content_words, file_words}
use Rattle.words.proofs.Fields.{level-again, offer-again, difference-again, end-again}
use Rattle.words.proofs.Shapes.{shape-again}
use Rattle.layouts.proofs.Layouts.{place-cases}
use Rattle.trialfile.proofs.Passed.{right-kind, Passed, contents-read, codes_at, digits-at, figures-at}
use Rattle.trialwriter.proofs.FileWords.{words-length, word-level, word-shape, word-offer, word-figure, word_end}

module _ (ws : List ℕ) (p : Passed ws) where
  abbrev s : Shape
  s = shape_in (word ws shape_at)

  abbrev l : Layout
  l = layout_of (shape_in (word ws shape_at))

  word-again : (i : ℕ) → i < word_total s → word (content_words (contents_in ws)) i ≡ word ws i
  unfolding contents_in
  word-again =
      place-cases s (λ i. word (content_words (contents_in ws)) i ≡ word ws i)
      (word-level (contents_in ws) ∙ level-again (word ws level_at) p.level-stands)
      (word-shape (contents_in ws) ∙ shape-again (word ws shape_at) p.shape-stands p.spare)
      (λ i h. word-offer (contents_in ws) i h ∙ ap₂ offer_word (codes_at ws p i h) (digits-at ws p i h) ∙ offer-again (word ws (offer_at l i)) (right-kind 3 (word ws (offer_at l i)) (p.offers i h).0))
      (λ i h. word-figure (contents_in ws) i h ∙ ap difference_word (figures-at ws p i h) ∙ difference-again (word ws (figure_at l i)) (right-kind 4 (word ws (figure_at l i)) (p.figures i h).0))
      (word_end (contents_in ws) ∙ end-again (word ws l.end) l.end p.end-stands p.counted)

  pub words-again : file_words (trial_of ws) ≡ ws
  unfolding file_words contents_in
  words-again = ap content_words (contents-read ws) ∙ ext_get_or 0 (content_words (contents_in ws)) ws (words-length (contents_in ws) ∙ sym p.many) (λ i h. word-again i (omega (arith, words-length (contents_in ws))))
