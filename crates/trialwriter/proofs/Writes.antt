-- Laws for writing: what the parts of an accepted trial fit into, the words one after the other, and the answer.
--   Writable, writable             what the writer knows of an accepted trial and its layout
--   all-stored                     level, shape, offers, figures and end, stored one after the other, are the file
--   record_err, room_judged        the answer: the record is turned away, or else 12 decides
--   unchanged, all_written         the buffer after it
use Prim.Native.Nat.{ℕ, ◌+◌, ◌*◌, ◌≤◌, ◌<◌}
use native.Mathlib.Omega.{arith}
use mathlib.Core.Path.{◌≡◌, refl, sym, ap, ap₂, ◌∙◌}
use mathlib.Core.List.{List, [], ◌∷◌, ◌++◌, append-nil, append_assoc}
use lib.ListN.{length, get_or, length-append}
use lib.Seq.{sets, get_or-take}
use lib.IntN.{pos, nat_abs}
use Rattle.limits.specs.Limits.{offers_most, figures_most, tolerance_most, digits_most, difference_most, level_most}
use Rattle.order.proofs.Lists.{tabulate-length, tabulate-same}
use lib.Dec.{ltb}
use mathlib.Core.Bool.{Bool, cond}
use Rattle.std.proofs.Common.{Result, Ok, Err}
use Rattle.refusals.specs.Answers.{outcome, first_refusal}
use Rattle.refusals.specs.declared.refusal.Refusal.{Refusal}
use Rattle.refusals.specs.declared.refusal.Refusal.TheVariants.{Buffer}
use Rattle.refusals.proofs.Answers.{none_first, ok_answer, err_answer, ok-append, err-append}
use Rattle.refusals.specs.Buffers.{too_short, written}
use Rattle.trial.specs.Designs.{design_checks}
use Rattle.trial.specs.Record.{ArrayLengths, figure_count, contents}
use Rattle.trial.specs.Refusals.{nth, trial_checks, trial_refusal}
use Rattle.trial.specs.declared.Trial.{Trial}
use Rattle.trial.proofs.Accepted.{accepted}
use Rattle.words.specs.Words.{word_bytes, bytes_of, level_word, offer_word, difference_word, end_word}
use Rattle.layouts.specs.Layouts.{layout_of}
use Rattle.words.specs.Words.{shape_word_of}
use Rattle.trialwriter.specs.Writings.{offer_words, figure_words, content_words, file_words, file_of, file_length, write_checks, writing_of, after_writing}
use Rattle.layouts.specs.declared.Layout.{Layout}
use Rattle.words.proofs.Words.{bytes_of-length, bytes_of-append}
use Rattle.layouts.proofs.Layouts.{Stands, stands}
use Rattle.trialwriter.proofs.Stored.{sets-append, sets-all}
use Rattle.trialwriter.proofs.Written.{offer-ok, figure-ok, many}

-- ---- an accepted trial and its layout

pub record Writable (t : Trial) (l : Layout) : Type 0 where
  pub laid : l ≡ layout_of t.shape
  pub placed : Stands t.shape l
  pub k-most : t.shape.k ≤ tolerance_most
  pub offers-most : t.shape.offers ≤ offers_most
  pub layout-good : first_refusal (design_checks t.shape.design) ≡ 0
  pub figures-most : figure_count t.shape ≤ figures_most
  pub a-most : t.level.a ≤ level_most
  pub b-most : t.level.b ≤ level_most
  pub labels-ok : (i : ℕ) → i < t.shape.offers → (get_or t.labels.codes i 0 < 16777216) × (get_or t.labels.digits i 0 ≤ digits_most)
  pub figures-ok : (i : ℕ) → i < figure_count t.shape → nat_abs (get_or t.figures i (pos 0)) ≤ difference_most
  pub all_words : file_length t ≡ 4 * (l.end + 1)

pub writable : (t : Trial) (l : Layout) → ArrayLengths t → trial_refusal t ≡ 0 → l ≡ layout_of t.shape → Writable t l
writable t l ty h e =
    let acc = accepted t h in
    let n = t.shape.offers in
    record {
      laid = e;
      placed = stands t.shape l e;
      k-most = acc.k-most;
      offers-most = acc.offers-most;
      layout-good = none_first (design_checks t.shape.design) acc.layout-good;
      figures-most = many t ty h;
      a-most = omega (arith, acc.levelled.proper, acc.levelled.b-most);
      b-most = acc.levelled.b-most;
      labels-ok = λ i k. rw (← get_or-take n t.labels.codes i 0 k, ← get_or-take n t.labels.digits i 0 k) (offer-ok t ty h i k);
      figures-ok = λ i k. rw (← get_or-take (figure_count t.shape) t.figures i (pos 0) k) (figure-ok t ty h i k);
      all_words = ap (λ (x : Layout). 4 * (x.end + 1)) (sym e);
    }

-- ---- one part after another

next : (buf xs ys : List ℕ) (at : ℕ) (o p : List ℕ) → o ≡ sets buf 0 xs → at ≡ length xs → p ≡ sets o at ys → p ≡ sets buf 0 (xs ++ ys)
next buf xs ys at o p e f g = let z : at ≡ 0 + length xs = omega arith in g ∙ ap₂ (λ (q : List ℕ) (n : ℕ). sets q n ys) e z ∙ sets-append buf xs ys 0

-- the bytes of words that stand part by part
parts-bytes : (v w e : ℕ) (os fs : List ℕ) → (((word_bytes v ++ word_bytes w) ++ bytes_of os) ++ bytes_of fs) ++ word_bytes e ≡ bytes_of (v ∷ w ∷ (os ++ (fs ++ (e ∷ []))))
unfolding bytes_of
parts-bytes v w e os fs =
    append_assoc ((word_bytes v ++ word_bytes w) ++ bytes_of os) (bytes_of fs) (word_bytes e)
    ∙ append_assoc (word_bytes v ++ word_bytes w) (bytes_of os) (bytes_of fs ++ word_bytes e)
    ∙ ap (λ (b : List ℕ). (word_bytes v ++ word_bytes w) ++ b)
    (ap (λ (b : List ℕ). bytes_of os ++ (bytes_of fs ++ b)) (sym (append-nil (word_bytes e))) ∙ ap (λ (b : List ℕ). bytes_of os ++ b) (sym (bytes_of-append fs (e ∷ []))) ∙ sym (bytes_of-append os (fs ++ (e ∷ []))))

module _ (t : Trial) (l : Layout) (able : Writable t l) where
  abbrev os : List ℕ
  os = offer_words (nth t.labels.codes 0) (nth t.labels.digits 0) t.shape.offers

  abbrev fs : List ℕ
  fs = figure_words (nth t.figures (pos 0)) (figure_count t.shape)

  words_are : content_words (contents t) ≡ level_word t.level.a t.level.b ∷ shape_word_of t.shape.k t.shape.offers t.shape.design ∷ (os ++ (fs ++ (end_word l.end ∷ [])))
  unfolding content_words
  words_are =
      let n = t.shape.offers in
      let v = level_word t.level.a t.level.b in
      let w = shape_word_of t.shape.k t.shape.offers t.shape.design in
      ap₂ (λ (xs ys : List ℕ). v ∷ w ∷ (xs ++ (ys ++ (end_word (layout_of t.shape).end ∷ []))))
      (tabulate-same n _ _ (λ i h. ap₂ offer_word (get_or-take n t.labels.codes i 0 h) (get_or-take n t.labels.digits i 0 h)))
      (tabulate-same (figure_count t.shape) _ _ (λ i h. ap difference_word (get_or-take (figure_count t.shape) t.figures i (pos 0) h)))
      ∙ ap (λ (x : Layout). v ∷ w ∷ (os ++ (fs ++ (end_word x.end ∷ [])))) (sym able.laid)

  pub all-stored : (buf o1 o2 o3 o4 o5 : List ℕ) (n v w e : ℕ) → length (file_of t) ≤ length buf → n ≡ figure_count t.shape
      → v ≡ level_word t.level.a t.level.b → o1 ≡ sets buf 0 (word_bytes v)
      → w ≡ shape_word_of t.shape.k t.shape.offers t.shape.design → o2 ≡ sets o1 4 (word_bytes w)
      → o3 ≡ sets o2 (4 * l.offers) (bytes_of os)
      → o4 ≡ sets o3 (4 * l.figures) (bytes_of (figure_words (nth t.figures (pos 0)) n))
      → e ≡ end_word l.end → o5 ≡ sets o4 (4 * l.end) (word_bytes e)
      → o5 ≡ written (file_of t) buf
  unfolding file_of file_words
  all-stored buf o1 o2 o3 o4 o5 n v w e room q ev h1 ew h2 h3 h4 ee h5 =
      let p = able.placed in
      let head = word_bytes v ++ word_bytes w in
      let lo : length (bytes_of os) ≡ 4 * t.shape.offers = bytes_of-length os ∙ ap (λ (k : ℕ). 4 * k) (tabulate-length t.shape.offers _) in
      let lf : length (bytes_of fs) ≡ 4 * figure_count t.shape = bytes_of-length fs ∙ ap (λ (k : ℕ). 4 * k) (tabulate-length (figure_count t.shape) _) in
      let s2 = next buf (word_bytes v) (word_bytes w) 4 o1 o2 h1 refl h2 in
      let s3 = next buf head (bytes_of os) (4 * l.offers) o2 o3 s2 (omega (arith, p.offers-at)) h3 in
      let s4 = next buf (head ++ bytes_of os) (bytes_of fs) (4 * l.figures) o3 o4 s3 (omega (arith, p.figures-at, lo, length-append head (bytes_of os))) (h4 ∙ ap (λ (k : ℕ). sets o3 (4 * l.figures) (bytes_of (figure_words (nth t.figures (pos 0)) k))) q) in
      let s5 = next buf ((head ++ bytes_of os) ++ bytes_of fs) (word_bytes e) (4 * l.end) o4 o5 s4 (omega (arith, p.end-at, lo, lf, length-append head (bytes_of os), length-append (head ++ bytes_of os) (bytes_of fs))) h5 in
      s5
      ∙ ap (sets buf 0) (parts-bytes v w e os fs ∙ ap bytes_of (ap₂ (λ (x y : ℕ). x ∷ y ∷ (os ++ (fs ++ (e ∷ [])))) ev ew ∙ ap (λ (z : ℕ). level_word t.level.a t.level.b ∷ shape_word_of t.shape.k t.shape.offers t.shape.design ∷ (os ++ (fs ++ (z ∷ [])))) ee ∙ sym words_are))
      ∙ sets-all buf (bytes_of (content_words (contents t))) room

-- ---- the answer

module _ (t : Trial) (buf : List ℕ) where
  abbrev Told : Result ℕ Refusal → Type 0
  Told a = writing_of t (length buf) ≡ a

  pub record_err : (r : Refusal) → outcome (trial_checks t) (tt {0}) ≡ Err r → Told (Err r)
  unfolding writing_of write_checks
  record_err r h = err-append (trial_checks t) (too_short (length buf) (file_length t)) tt (file_length t) r h

  pub room_judged : {x : Unit {0}} → outcome (trial_checks t) (tt {0}) ≡ Ok x → (n : ℕ) → n ≡ file_length t → (b : Bool) → ltb (length buf) n ≡ b → Told (cond b (Err Buffer) (Ok n))
  unfolding writing_of write_checks
  room_judged h n w b e =
      ok-append (trial_checks t) (too_short (length buf) (file_length t)) tt _ (file_length t) h
      ∙ ap (λ (k : ℕ). cond (ltb (length buf) k) (Err Buffer) (Ok k)) (sym w) ∙ ap (λ (q : Bool). cond q (Err Buffer) (Ok n)) e

  pub unchanged : (r : Refusal) → Told (Err r) → buf ≡ after_writing t buf
  unfolding writing_of after_writing
  unchanged r h = sym (err_answer (write_checks t (length buf)) (file_length t) r (written (file_of t) buf) (λ _. buf) h)

  pub all_written : (n : ℕ) → Told (Ok n) → (out : List ℕ) → out ≡ written (file_of t) buf → out ≡ after_writing t buf
  unfolding writing_of after_writing
  all_written n h out w = w ∙ sym (ok_answer (write_checks t (length buf)) (file_length t) n (written (file_of t) buf) (λ _. buf) h)
