-- The file of an accepted trial: how long it is, that it passes at every place, and that its words hold the trial.
--   in-range                                 what it is for a figure to pass 7
--   file_length-is, file_length-most         its bytes, at most the longest file
--   words-hold                               its words hold the trial, with unused places zero
--   file-accepted                            it is accepted
use Prim.Native.Nat.{ℕ, ◌+◌, ◌*◌, ◌%◌, ◌≤◌, ◌<◌}
use native.Mathlib.Omega.{arith}
use mathlib.Core.Path.{◌≡◌, sym, ap, ap₂, ◌∙◌, subst}
use mathlib.Core.Bool.{false, not}
use mathlib.Core.List.{List, ◌++◌}
use lib.ListN.{length, get_or}
use lib.Seq.{ext_get_or, length-take-le}
use lib.Dec.{eqb}
use lib.IntN.{ℤ, pos, nat_abs}
use borrow.Author.Tests.{ltb-false, le-ltb, ne_eqb, eq-eqb}
use Rattle.limits.specs.Limits.{offers_most, figures_most, digits_most, difference_most, level_most, longest_file}
use Rattle.order.specs.Lists.{tabulate}
use Rattle.order.proofs.Lists.{tabulate-length, tabulate-get_d, tabulate-same}
use Rattle.refusals.specs.Answers.{places_from}
use Rattle.refusals.specs.Limits.{bad_columns, bad_level}
use Rattle.refusals.proofs.Answers.{NoneHolds, none_first, none-join}
use Rattle.refusals.proofs.Places.{places-none}
use Rattle.refusals.proofs.Limits.{neither}
use Rattle.trial.specs.Designs.{design_checks}
use Rattle.trial.specs.Record.{ArrayLengths, figure_count, Contents, contents, filled, trimmed}
use Rattle.trial.specs.Refusals.{bad_difference, nth, trial_refusal}
use Rattle.trial.specs.declared.Level.{Level}
use Rattle.trial.specs.declared.Shape.{Shape}
use Rattle.trial.specs.declared.Trial.{Trial}
use Rattle.trial.proofs.Accepted.{Accepted, accepted}
use Rattle.trial.proofs.Conditions.{offer-same}
use Rattle.words.specs.Words.{word, kind_of, no_shape, spare_of, digits_of, code_of, difference_of, count_of}
use Rattle.layouts.specs.Layouts.{level_at, shape_at, layout_of, offer_at, figure_at}
use Rattle.words.specs.Words.{level_in, shape_in}
use Rattle.trialfile.specs.Files.{code_in, digits_in, figure_in, contents_in, trial_of, bad_length, other_kind, level_place, shape_place, offer_place, figure_place, end_place, body_places, place_checks, file_checks, file_refusal}
use Rattle.trialwriter.specs.Writings.{content_words, file_words, file_of, file_length}
use Rattle.layouts.specs.declared.Layout.{Layout}
use Rattle.words.proofs.Words.{words-bytes, bytes_of-length}
use Rattle.words.proofs.Fields.{level-kind, level-back, offer-kind, offer-digits, offer-code, difference-kind, difference-back, end-kind, end-count}
use Rattle.words.proofs.Shapes.{shape-stands, shape-back}
use Rattle.trialfile.proofs.Inputs.{printed}
use Rattle.layouts.proofs.Layouts.{count_most, words-most}
use Rattle.trialwriter.proofs.FileWords.{words-length, word-level, word-shape, word-offer, word-figure, word_end}

no_other : (kind w : ℕ) → kind_of w ≡ kind → other_kind kind w ≡ false
no_other kind w h = ap not (eq-eqb (kind_of w) kind h)

pub in-range : (d : ℤ) → bad_difference d ≡ false → nat_abs d ≤ difference_most
unfolding bad_difference
in-range d h = ltb-false difference_most (nat_abs d) h

-- a list by its members
members : {A : Type 0} (d : A) (xs : List A) (n : ℕ) (f : ℕ → A) → length xs ≡ n → ((i : ℕ) → i < n → f i ≡ get_or xs i d) → tabulate n f ≡ xs
members d xs n f l h =
    tabulate-same n f (nth xs d) h
    ∙ ext_get_or d (tabulate n (nth xs d)) xs (tabulate-length n (nth xs d) ∙ sym l) (λ i k. tabulate-get_d n (nth xs d) i d (omega (arith, tabulate-length n (nth xs d))))

-- contents of parts
abbrev made : Level → Shape → List ℕ → List ℕ → List ℤ → Contents
made v s cs ds xs = record { setting = record { level = v; shape = s; codes = cs; digits = ds }; figures = xs }

contents_by : List ℕ → Level → Shape → Contents
unfolding tabulate layout_of figure_count
contents_by ws v s = made v s (tabulate s.offers (code_in ws (layout_of s))) (tabulate s.offers (digits_in ws (layout_of s))) (tabulate (figure_count s) (figure_in ws (layout_of s)))

module _ (t : Trial) (ty : ArrayLengths t) (h : trial_refusal t ≡ 0) where
  abbrev s : Shape
  s = t.shape

  abbrev l : Layout
  l = layout_of t.shape

  acc : Accepted t
  acc = accepted t h

  pub many : figure_count s ≤ figures_most
  many = count_most s acc.offers-most acc.laid.units-most

  abbrev c : Contents
  c = contents t

  -- ---- what stands at each place

  pub offer-ok : (i : ℕ) → i < s.offers → (get_or c.setting.codes i 0 < 16777216) × (get_or c.setting.digits i 0 ≤ digits_most)
  offer-ok i k = printed (get_or c.setting.codes i 0) (get_or c.setting.digits i 0) (acc.labels-pass i k).0

  pub figure-ok : (i : ℕ) → i < figure_count s → nat_abs (get_or c.figures i (pos 0)) ≤ difference_most
  figure-ok i k = in-range (get_or c.figures i (pos 0)) (acc.figures-pass i k).0

  code-back : (i : ℕ) → i < s.offers → code_in (content_words c) l i ≡ get_or c.setting.codes i 0
  code-back i k = let p = offer-ok i k in ap code_of (word-offer c i k) ∙ offer-code (get_or c.setting.codes i 0) (get_or c.setting.digits i 0) p.0 p.1

  digits-back : (i : ℕ) → i < s.offers → digits_in (content_words c) l i ≡ get_or c.setting.digits i 0
  digits-back i k = let p = offer-ok i k in ap digits_of (word-offer c i k) ∙ offer-digits (get_or c.setting.codes i 0) (get_or c.setting.digits i 0) p.0 p.1

  figure-back : (i : ℕ) → i < figure_count s → figure_in (content_words c) l i ≡ get_or c.figures i (pos 0)
  figure-back i k = ap difference_of (word-figure c i k) ∙ difference-back (get_or c.figures i (pos 0)) (figure-ok i k)

  shape_is : shape_in (word (content_words c) shape_at) ≡ s
  shape_is = ap shape_in (word-shape c) ∙ shape-back s.k s.offers acc.k-most acc.offers-most s.design acc.layout-good

  less : t.level.a ≤ level_most
  less = omega (arith, acc.levelled.proper, acc.levelled.b-most)

  level-is : level_in (word (content_words c) level_at) ≡ t.level
  level-is = ap level_in (word-level c) ∙ level-back t.level.a t.level.b less acc.levelled.b-most

  -- ---- its words hold it

  contents-back : contents_in (content_words c) ≡ c
  unfolding contents_in contents_by
  contents-back =
      ap₂ (contents_by (content_words c)) level-is shape_is
      ∙ ap₂ (λ (cs ds : List ℕ). made t.level s cs ds (tabulate (figure_count s) (figure_in (content_words c) l)))
      (members 0 c.setting.codes s.offers (code_in (content_words c) l) (length-take-le s.offers t.labels.codes (omega (arith, ty.codes-length, acc.offers-most))) code-back)
      (members 0 c.setting.digits s.offers (digits_in (content_words c) l) (length-take-le s.offers t.labels.digits (omega (arith, ty.digits-length, acc.offers-most))) digits-back)
      ∙ ap (made t.level s c.setting.codes c.setting.digits)
      (members (pos 0) c.figures (figure_count s) (figure_in (content_words c) l) (length-take-le (figure_count s) t.figures (omega (arith, ty.figures-length, many))) figure-back)

  pub words-hold : trial_of (file_words t) ≡ trimmed t
  unfolding trial_of file_words trimmed
  words-hold = ap filled contents-back

  -- ---- how long it is

  pub file_length-is : length (file_of t) ≡ file_length t
  unfolding file_of file_words
  file_length-is = bytes_of-length (content_words c) ∙ ap (λ (n : ℕ). 4 * n) (words-length c)

  pub file_length-most : file_length t ≤ longest_file
  file_length-most = words-most s acc.offers-most acc.laid.units-most

  length-good : bad_length (file_of t) ≡ false
  unfolding bad_length
  length-good =
      let e = file_length-is in
      let m = file_length-most in
      let some : eqb (length (file_of t)) 0 ≡ false = ne_eqb (length (file_of t)) 0 (λ z. omega (arith, e)) in
      let whole : length (file_of t) % 4 ≡ 0 = omega (arith, e) in
      rw (some, eq-eqb (length (file_of t) % 4) 0 whole, le-ltb longest_file (length (file_of t)) (omega (arith, e, m)))

  -- ---- it passes at every place

  level-passes : NoneHolds (level_place (word (content_words c) level_at))
  level-passes = (
    no_other 1 (word (content_words c) level_at) (ap kind_of (word-level c) ∙ level-kind t.level.a t.level.b less acc.levelled.b-most),
    (ap (λ (x : Level). bad_level x.a x.b) level-is ∙ acc.level-good, tt),
  )

  shape-passes : NoneHolds (shape_place (word (content_words c) shape_at))
  shape-passes =
      let w = word (content_words c) shape_at in
      let k = shape-stands s.k s.offers acc.k-most acc.offers-most s.design acc.layout-good in (
        ap no_shape (word-shape c) ∙ k.0,
        (
          neither (ap (λ (x : Shape). bad_columns offers_most x.offers x.k) shape_is ∙ acc.counts-good) (ap not (eq-eqb (spare_of w) 0 (ap spare_of (word-shape c) ∙ k.1))),
          subst (λ (x : Shape). NoneHolds (design_checks x.design)) (sym shape_is) acc.layout-good,
        ),
      )

  offers-pass : (i : ℕ) → i < s.offers → NoneHolds (offer_place (content_words c) l i)
  offers-pass i k =
      let p = offer-ok i k in (
        no_other 3 (word (content_words c) (offer_at l i)) (ap kind_of (word-offer c i k) ∙ offer-kind (get_or c.setting.codes i 0) (get_or c.setting.digits i 0) p.0 p.1),
        subst NoneHolds (sym (offer-same (code_in (content_words c) l) (nth c.setting.codes 0) (digits_in (content_words c) l) (nth c.setting.digits 0) s.offers code-back digits-back i k)) (acc.labels-pass i k),
      )

  figures-pass : (i : ℕ) → i < figure_count s → NoneHolds (figure_place (content_words c) l i)
  figures-pass i k = (
    no_other 4 (word (content_words c) (figure_at l i)) (ap kind_of (word-figure c i k) ∙ difference-kind (get_or c.figures i (pos 0)) (figure-ok i k)),
    (ap bad_difference (figure-back i k) ∙ (acc.figures-pass i k).0, tt),
  )

  end-passes : NoneHolds (end_place (content_words c) l.end)
  end-passes =
      let n : l.end < 268435456 = omega (arith, file_length-most) in (
        no_other 15 (word (content_words c) l.end) (ap kind_of (word_end c) ∙ end-kind l.end n),
        (neither (ap not (eq-eqb (count_of (word (content_words c) l.end)) l.end (ap count_of (word_end c) ∙ end-count l.end n))) (le-ltb (l.end + 1) (length (content_words c)) (omega (arith, words-length c))), tt),
      )

  body-passes : NoneHolds (body_places (content_words c) s)
  unfolding body_places
  body-passes =
      let os = places_from (offer_place (content_words c) l) 0 s.offers in
      let fs = places_from (figure_place (content_words c) l) 0 (figure_count s) in
      none-join os (fs ++ end_place (content_words c) l.end) (places-none (offer_place (content_words c) l) s.offers offers-pass)
      (none-join fs (end_place (content_words c) l.end) (places-none (figure_place (content_words c) l) (figure_count s) figures-pass) end-passes)

  words-pass : NoneHolds (place_checks (content_words c))
  unfolding place_checks
  words-pass =
      let w = word (content_words c) shape_at in
      none-join (level_place (word (content_words c) level_at)) (shape_place w ++ body_places (content_words c) (shape_in w)) level-passes
      (none-join (shape_place w) (body_places (content_words c) (shape_in w)) shape-passes (subst (λ (x : Shape). NoneHolds (body_places (content_words c) x)) (sym shape_is) body-passes))

  pub file-accepted : file_refusal (file_of t) ≡ 0
  unfolding file_refusal file_checks file_of file_words
  file-accepted = none_first (file_checks (file_of t)) (length-good, subst (λ (ws : List ℕ). NoneHolds (place_checks ws)) (sym (words-bytes (content_words c))) words-pass)
