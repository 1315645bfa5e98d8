-- Laws for judging a file: the tests of a place as the code makes them, and one part after another.
--   offer_placed, figure_value                   an offer by the labels that were read; a figure by its bits
--   word_count                                   how many words a file has
--   offers_err, figures_err, end_left            the words after the shape
--   shape_most                                   the counts of a shape that passes
--   length_err, level_err, shape_err, body_left  the whole file
use Prim.Native.Nat.{ℕ, ◌-◌, ◌/◌, ◌%◌, ◌≤◌, ◌<◌}
use native.Mathlib.Omega.{arith}
use mathlib.Core.Path.{◌≡◌, sym, ap, ap₂, ◌∙◌, subst}
use mathlib.Core.Bool.{Bool, true, false, not, cond}
use mathlib.Core.List.{List, ◌∷◌, ◌++◌}
use lib.ListN.{length, get_or, replicate, get_or-append}
use lib.Dec.{eqb}
use lib.IntN.{ℤ}
use mir.Syntax.{w32}
use mir.Val.{to_z, of_z}
use Rattle.std.proofs.Common.{Result, Ok, Err}
use Rattle.limits.specs.Limits.{offers_most, units_most}
use Rattle.order.specs.Lists.{tabulate, padded}
use Rattle.order.proofs.Lists.{tabulate-length, tabulate-get_d}
use Rattle.refusals.specs.Answers.{r2, Checks, places_from, outcome, refused_where}
use Rattle.refusals.specs.declared.refusal.Refusal.{Refusal}
use Rattle.refusals.specs.declared.refusal.Refusal.TheVariants.{FileLength}
use Rattle.refusals.specs.Limits.{bad_columns}
use Rattle.refusals.proofs.Answers.{ok-none, ok-append, err-append}
use Rattle.refusals.proofs.Limits.{or-none, fitting}
use Rattle.trial.specs.Designs.{units_of}
use Rattle.trial.specs.Record.{figure_count}
use Rattle.trial.specs.Refusals.{bad_difference, offer_checks, nth}
use Rattle.trial.specs.declared.Shape.{Shape}
use Rattle.trial.proofs.Conditions.{offer-same}
use Rattle.trial.proofs.LaidOut.{laid_out}
use Rattle.words.specs.Words.{words_of, word, difference_of, spare_of, shape_in}
use Rattle.words.proofs.Signed.{field-kept}
use Rattle.words.proofs.Words.{words_of-length}
use Rattle.layouts.specs.Layouts.{level_at, shape_at, layout_of, offer_at}
use Rattle.layouts.specs.declared.Layout.{Layout}
use Rattle.trialfile.specs.Files.{code_in, digits_in, bad_length, other_kind, level_place, shape_place, offer_place, figure_place, end_place, body_places, place_checks, file_checks}

-- with labels that were read from the file
filled_at : (f : ℕ → ℕ) (n i : ℕ) (xs : List ℕ) → xs ≡ padded offers_most 0 (tabulate n f) → i < n → get_or xs i 0 ≡ f i
filled_at f n i xs e h =
    ap (λ (l : List ℕ). get_or l i 0) e ∙ get_or-append (tabulate n f) (replicate (offers_most - length (tabulate n f)) 0) 0 i (omega (arith, tabulate-length n f)) ∙ tabulate-get_d n f i 0 h

pub offer_placed : (ws : List ℕ) (l : Layout) (n i w : ℕ) (codes digits : List ℕ) → i < n → codes ≡ padded offers_most 0 (tabulate n (code_in ws l)) → digits ≡ padded offers_most 0 (tabulate n (digits_in ws l))
    → w ≡ word ws (offer_at l i) → outcome ((other_kind 3 w, r2) ∷ offer_checks (nth codes 0) (nth digits 0) i) (tt {0}) ≡ outcome (offer_place ws l i) (tt {0})
offer_placed ws l n i w codes digits h c d e =
    ap₂ (λ (k : ℕ) (cs : Checks). outcome ((other_kind 3 k, r2) ∷ cs) (tt {0})) e
    (offer-same (nth codes 0) (code_in ws l) (nth digits 0) (digits_in ws l) n (λ j m. filled_at (code_in ws l) n j codes c m) (λ j m. filled_at (digits_in ws l) n j digits d m) i h)

-- a figure's value, as it is read from its bits
pub figure_value : (w v : ℕ) (z : ℤ) → z ≡ difference_of w → w ≡ v → bad_difference (to_z w32 (of_z w32 z)) ≡ bad_difference (difference_of v)
figure_value w v z d e = ap bad_difference (field-kept (w % 268435456) z (omega arith) d ∙ ap difference_of e)

-- a file's words are its bytes by four
pub word_count : (bs : List ℕ) → length bs / 4 ≡ length (words_of bs)
word_count bs = sym (words_of-length bs)

-- ---- the words after the shape

module _ (ws : List ℕ) (s : Shape) (l : Layout) (at : l ≡ layout_of s) (a b : Unit {0}) where
  abbrev offers_part : Layout → Checks
  offers_part l = places_from (offer_place ws l) 0 s.offers

  abbrev figures_part : Layout → Checks
  figures_part l = places_from (figure_place ws l) 0 (figure_count s)

  body_is : outcome (body_places ws s) b ≡ outcome (offers_part l ++ (figures_part l ++ end_place ws l.end)) b
  unfolding body_places
  body_is = ap (λ (m : Layout). outcome (offers_part m ++ (figures_part m ++ end_place ws m.end)) b) (sym at)

  pub offers_err : (r : Refusal) → outcome (offers_part l) a ≡ Err r → outcome (body_places ws s) b ≡ Err r
  offers_err r e = body_is ∙ err-append (offers_part l) (figures_part l ++ end_place ws l.end) a b r e

  module _ (x : Unit {0}) (e : outcome (offers_part l) a ≡ Ok x) (n : ℕ) (q : n ≡ figure_count s) where
    past_offers : outcome (body_places ws s) b ≡ outcome (figures_part l ++ end_place ws l.end) b
    past_offers = body_is ∙ ok-append (offers_part l) (figures_part l ++ end_place ws l.end) a x b e

    figured : {c : Result (Unit {0}) Refusal} → outcome (places_from (figure_place ws l) 0 n) a ≡ c → outcome (figures_part l) a ≡ c
    figured g = ap (λ (m : ℕ). outcome (places_from (figure_place ws l) 0 m) a) (sym q) ∙ g

    pub figures_err : (r : Refusal) → outcome (places_from (figure_place ws l) 0 n) a ≡ Err r → outcome (body_places ws s) b ≡ Err r
    figures_err r g = past_offers ∙ err-append (figures_part l) (end_place ws l.end) a b r (figured g)

    pub end_left : outcome (places_from (figure_place ws l) 0 n) a ≡ Ok x → outcome (body_places ws s) b ≡ outcome (end_place ws l.end) b
    end_left g = past_offers ∙ ok-append (figures_part l) (end_place ws l.end) a x b (figured g)

-- ---- the whole file

-- the counts of a shape that passes
pub shape_most : (w : ℕ) (s : Shape) → outcome (shape_place w) (tt {0}) ≡ Ok tt → s ≡ shape_in w → (s.offers ≤ offers_most) × (units_of s.design ≤ units_most)
shape_most w s f e =
    let h = ok-none (shape_place w) tt tt f in
    let c = or-none (bad_columns offers_most (shape_in w).offers (shape_in w).k) (not (eqb (spare_of w) 0)) h.1.0 in
    subst (λ (x : Shape). (x.offers ≤ offers_most) × (units_of x.design ≤ units_most)) (sym e) ((fitting offers_most (shape_in w).offers (shape_in w).k c.0).columns-most, (laid_out (shape_in w).design h.1.1).units-most)

module _ (bs : List ℕ) (a b : Unit {0}) where
  abbrev ws : List ℕ
  ws = words_of bs

  abbrev body : Checks
  body = body_places ws (shape_in (word ws shape_at))

  pub length_err : (r : Refusal) → Err r ≡ refused_where (bad_length bs) FileLength → outcome (file_checks bs) b ≡ Err r
  unfolding file_checks
  length_err r e = go (bad_length bs) e
    where
      go : (q : Bool) → Err r ≡ refused_where q FileLength → cond q (Err FileLength) (outcome (place_checks ws) b) ≡ Err r
      go true h = cc
      go false h = cc

  module _ (h : bad_length bs ≡ false) (w : ℕ) (at : w ≡ word (words_of bs) level_at) where
    to_words : outcome (file_checks bs) b ≡ outcome (level_place (word ws level_at) ++ (shape_place (word ws shape_at) ++ body)) b
    unfolding file_checks place_checks
    to_words = ap (λ (q : Bool). cond q (Err FileLength) (outcome (place_checks ws) b)) h

    levelled : {c : Result (Unit {0}) Refusal} → outcome (level_place w) a ≡ c → outcome (level_place (word ws level_at)) a ≡ c
    levelled e = ap (λ (x : ℕ). outcome (level_place x) a) (sym at) ∙ e

    pub level_err : (r : Refusal) → outcome (level_place w) a ≡ Err r → outcome (file_checks bs) b ≡ Err r
    level_err r e = to_words ∙ err-append (level_place (word ws level_at)) (shape_place (word ws shape_at) ++ body) a b r (levelled e)

    module _ (x : Unit {0}) (e : outcome (level_place w) a ≡ Ok x) (v : ℕ) (there : v ≡ word (words_of bs) shape_at) where
      past_level : outcome (file_checks bs) b ≡ outcome (shape_place (word ws shape_at) ++ body) b
      past_level = to_words ∙ ok-append (level_place (word ws level_at)) (shape_place (word ws shape_at) ++ body) a x b (levelled e)

      shaped : {c : Result (Unit {0}) Refusal} → outcome (shape_place v) a ≡ c → outcome (shape_place (word ws shape_at)) a ≡ c
      shaped f = ap (λ (y : ℕ). outcome (shape_place y) a) (sym there) ∙ f

      pub shape_err : (r : Refusal) → outcome (shape_place v) a ≡ Err r → outcome (file_checks bs) b ≡ Err r
      shape_err r f = past_level ∙ err-append (shape_place (word ws shape_at)) body a b r (shaped f)

      pub body_left : outcome (shape_place v) a ≡ Ok x → (s : Shape) → s ≡ shape_in v → outcome (file_checks bs) b ≡ outcome (body_places ws s) b
      body_left f s g = past_level ∙ ok-append (shape_place (word ws shape_at)) body a x b (shaped f) ∙ ap (λ (u : Shape). outcome (body_places ws u) b) (sym (g ∙ ap shape_in there))
