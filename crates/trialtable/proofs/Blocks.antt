-- Laws by which rows are made of those straight before them.
--   first-room, first_more  row 0: what it has room in, and one more entry of it
--   taken_more, taken-before     one more of the numbers that are taken off
--   cut-length, cut-taken   the row of j, as the code cuts it out
--   offer-cut               an offer's figures, as the code cuts them out
--   lowered_turn            one more entry of a row that is made from an earlier one
--   blocked_turn            one more row of a block
--   block-places, block_room, block-rows     where the two rows lie, and how far a block goes
--   extends                 the buffer then holds so many more rows of the table
--   rows-..                 a buffer that holds the table's first rows: what it holds, at the start, more of them, all
use Prim.Native.Nat.{ℕ, zero, suc, ◌+◌, ◌-◌, ◌*◌, ◌^◌, ◌≤◌, ◌<◌}
use native.Mathlib.Numerals.{add-one}
use native.Mathlib.Omega.{arith}
use native.Mathlib.Nat.{add-mul, one-mul, zero-mul, mul-le-mul_right}
use mathlib.Core.Path.{◌≡◌, refl, sym, ap, ◌∙◌}
use mathlib.Core.List.{List}
use lib.ListN.{length, get_or, take, drop, set, length-drop}
use lib.Seq.{length-take-le, get_or-take, get_or-drop, get_or-set_other, get_or-set_same}
use lib.IntN.{ℤ, pos, nat_abs}
use lib.Ieee.{Float, nan, binary64, of_int, sub}
use borrow.Author.Count.{below_more}
use Rattle.limits.specs.Limits.{offers_most, units_most, figures_most, trial_rows_most}
use Rattle.order.proofs.Lists.{part-rows}
use Rattle.refusals.specs.Buffers.{written}
use Rattle.refusals.proofs.Answers.{none-holds}
use Rattle.trial.specs.Designs.{design_checks, units_of, row_count, entry_of}
use Rattle.trial.specs.Internal.{Ranged}
use Rattle.trial.specs.declared.Design.{Design}
use Rattle.trial.proofs.LaidOut.{LaidOut, laid_out, entry-small}
use Rattle.trialtable.specs.Internal.{table_for, Fillable, begun, taken_off, TakenOff, Steps, lowered, blocked}
use Rattle.trialtable.proofs.Cases.{taken-small}
use Rattle.trialtable.proofs.Places.{table_for-length, table_for-place, begun_more, begun_all, begun-again, begun-at}
use Rattle.trialtable.proofs.Subtraction.{sub-rounds}

-- where a figure stands
offer-place : (offers n i j : ℕ) → i < offers → j < n → i * n + j < offers * n
offer-place offers n i j h k = omega (arith, part-rows offers n i h)

module _ (d : Design) (offers : ℕ) (xs : List ℤ) (places : ℕ) (ok : Fillable d offers xs places) where
  abbrev n : ℕ
  n = units_of d

  abbrev T : List Float
  T = table_for d offers xs

  laid : LaidOut d
  laid = laid_out d (none-holds (design_checks d) ok.layout-good)

  module _ (i : ℕ) (l : i < offers) where
    abbrev ys : List ℤ
    ys = take n (drop (i * n) xs)

    ys-length : length ys ≡ n
    ys-length = length-take-le n (drop (i * n) xs) (simp length-drop (omega (arith, part-rows offers n i l, ok.held)))

    ys-ranged : Ranged (length ys) ys
    ys-ranged j h =
        let k : j < n = omega (arith, ys-length) in
        rw (get_or-take n (drop (i * n) xs) j (pos 0) k, get_or-drop (i * n) xs j (pos 0)) (ok.ranged (i * n + j) (offer-place offers n i j l k))

    small : (g : ℕ) → nat_abs (entry_of d g ys) ≤ 2 ^ 53
    small g = entry-small d g ys (none-holds (design_checks d) ok.layout-good) (omega (arith, ys-length)) ys-ranged

    -- an entry of a row is that of an earlier row less what is taken off, as an f64 too
    entry-steps : (at rows j h : ℕ) → Steps d at rows j → h < rows
        → get_or T ((at + h) * offers + i) nan ≡ sub binary64 (get_or T ((at + h - rows) * offers + i) nan) (of_int binary64 (taken_off d j ys))
    entry-steps at rows j h s k =
        table_for-place d offers xs (at + h) i (omega (arith, s.inside)) l
        ∙ ap (of_int binary64) (s.entries h ys k ys-length)
        ∙ sym (sub-rounds binary64 (entry_of d (at + h - rows) ys) (taken_off d j ys) (small (at + h - rows)) (taken-small d j ys laid.units-most ys-length s.reached ys-ranged))
        ∙ ap (λ (x : Float). sub binary64 x (of_int binary64 (taken_off d j ys))) (sym (table_for-place d offers xs (at + h - rows) i (omega (arith, s.inside, s.before)) l))

  -- rows of a block are rows of the table, of which there are not many
  pub block-rows : (at rows j : ℕ) → Steps d at rows j → at + rows ≤ trial_rows_most
  block-rows at rows j s = omega (arith, s.inside, laid.rows-most)

  -- ---- row 0

  pub first-held : offers ≤ length T
  first-held =
      let m : 1 * offers ≤ row_count d * offers = mul-le-mul_right offers laid.rows-some in
      omega (arith, one-mul offers, table_for-length d offers xs)

  pub first-room : (i : ℕ) → i < offers → (i * n + n ≤ offers * n) × (i < row_count d * offers)
  first-room i h =
      let m : 1 * offers ≤ row_count d * offers = mul-le-mul_right offers laid.rows-some in
      (part-rows offers n i h, omega (arith, one-mul offers))

  pub first_more : (i : ℕ) → i < offers → (buf out : List Float) → i < length buf → out ≡ begun i T buf → (v : Float) → v ≡ of_int binary64 (entry_of d 0 (take n (drop (i * n) xs))) → set out i v ≡ begun (i + 1) T buf
  first_more i h buf out k e v q =
      let r = first-room i h in
      let m = table_for-length d offers xs in
      let z : 0 * offers + i ≡ i = omega (arith, zero-mul offers) in
      begun_more T buf i nan v out (omega arith) k e (q ∙ sym (table_for-place d offers xs 0 i laid.rows-some h) ∙ ap (λ (p : ℕ). get_or T p nan) z)

-- ---- what is taken off, offer by offer

-- one more of a row
pub taken_more : (f : ℕ → Float) (off : List Float) (base i : ℕ) (v : Float) → base + i < length off → ((k : ℕ) → k < i → get_or off (base + k) nan ≡ f k) → v ≡ f i
    → (k : ℕ) → k < i + 1 → get_or (set off (base + i) v) (base + k) nan ≡ f k
taken_more f off base i v l h e =
    below_more (λ k. get_or (set off (base + i) v) (base + k) nan ≡ f k) i (λ k m. get_or-set_other off (base + i) (base + k) v nan (λ q. omega arith) ∙ h k m) (get_or-set_same off (base + i) v nan l ∙ e)

pub taken-before : (off : List Float) (q p : ℕ) (v : Float) → p < q → get_or (set off q v) p nan ≡ get_or off p nan
taken-before off q p v h = get_or-set_other off q p v nan (λ e. omega arith)

-- the row of j, as the code cuts it out
module _ (off row : List Float) (j : ℕ) (e : row ≡ take offers_most (drop (offers_most * j) off)) where
  pub cut-length : j < units_most → length off ≡ figures_most → length row ≡ offers_most
  cut-length h l = ap length e ∙ length-take-le offers_most (drop (offers_most * j) off) (simp length-drop (omega arith))

  pub cut-taken : (d : Design) (offers : ℕ) (xs : List ℤ) → offers ≤ offers_most → TakenOff d offers xs off j
      → (i : ℕ) → i < offers → get_or row i nan ≡ of_int binary64 (taken_off d j (take (units_of d) (drop (i * units_of d) xs)))
  cut-taken d offers xs h t i l =
      ap (λ (r : List Float). get_or r i nan) e ∙ get_or-take offers_most (drop (offers_most * j) off) i nan (omega arith) ∙ get_or-drop (offers_most * j) off i nan ∙ t i l

-- an offer's figures, as the code cuts them out
pub offer-cut : (xs : List ℤ) (m n i : ℕ) → m ≡ n → take (i * m + m - i * m) (drop (i * m) xs) ≡ take n (drop (i * n) xs)
offer-cut xs m n i e =
    let z : i * n + n - i * n ≡ n = omega arith in
    ap (λ (k : ℕ). take (i * k + k - i * k) (drop (i * k) xs)) e ∙ ap (λ (k : ℕ). take k (drop (i * n) xs)) z

-- ---- a row in the buffer

-- one entry more: an earlier place is unchanged
lowered-before : (n : ℕ) (off : List Float) (from at : ℕ) (buf : List Float) (p : ℕ) → p < at → get_or (lowered n off from at buf) p nan ≡ get_or buf p nan
unfolding lowered
lowered-before zero off from at buf p h = refl
lowered-before (suc n) off from at buf p h =
    get_or-set_other (lowered n off from at buf) (at + n) p _ nan (λ e. omega arith) ∙ lowered-before n off from at buf p h

module _ (n : ℕ) (off : List Float) (from at : ℕ) (buf out : List Float) where
  pub lowered_turn : from + n < at → out ≡ lowered n off from at buf → set out (at + n) (sub binary64 (get_or out (from + n) nan) (get_or off n nan)) ≡ lowered (n + 1) off from at buf
  unfolding lowered
  lowered_turn h e = rw (e, add-one) (ap (λ (x : Float). set (lowered n off from at buf) (at + n) (sub binary64 x (get_or off n nan))) (lowered-before n off from at buf (from + n) h))

-- the earlier row is in the part that the buffer holds already
lowered-begun : (n : ℕ) (off xs buf : List Float) (from at : ℕ) → from + n ≤ at → at + n ≤ length xs → at + n ≤ length buf
    → ((i : ℕ) → i < n → get_or xs (at + i) nan ≡ sub binary64 (get_or xs (from + i) nan) (get_or off i nan))
    → lowered n off from at (begun at xs buf) ≡ begun (at + n) xs buf
unfolding lowered
lowered-begun zero off xs buf from at h k l e = let z : at + 0 ≡ at = omega arith in sym (ap (λ (p : ℕ). begun p xs buf) z)
lowered-begun (suc n) off xs buf from at h k l e =
    let s : at + n + 1 ≡ at + suc n = omega arith in
    begun_more xs buf (at + n) nan _ _ (omega arith) (omega arith)
    (lowered-begun n off xs buf from at (omega arith) (omega arith) (omega arith) (λ i j. e i (omega arith)))
    (ap (λ (x : Float). sub binary64 x (get_or off n nan)) (begun-at xs buf at (from + n) nan (omega arith) (omega arith)) ∙ sym (e n (omega arith)))
    ∙ ap (λ (p : ℕ). begun p xs buf) s

-- ---- a block in the buffer

pub blocked_turn : (n rows offers : ℕ) (off : List Float) (at : ℕ) (buf out next : List Float) → out ≡ blocked n rows offers off at buf
    → next ≡ lowered offers off ((at + n - rows) * offers) ((at + n) * offers) out → next ≡ blocked (n + 1) rows offers off at buf
unfolding blocked
blocked_turn n rows offers off at buf out next e f = rw add-one (f ∙ ap (lowered offers off ((at + n - rows) * offers) ((at + n) * offers)) e)

-- the earlier row lies before the row that is made of it, and that one within the buffer
pub block-places : (offers at rows h : ℕ) → rows ≤ at → h < rows
    → ((at + h - rows) * offers + offers ≤ (at + h) * offers) × ((at + h) * offers + offers ≤ (at + rows) * offers)
block-places offers at rows h k l =
    (part-rows (at + h) offers (at + h - rows) (omega arith), part-rows (at + rows) offers (at + h) (omega arith))

pub block_room : (d : Design) (offers at rows j : ℕ) → Steps d at rows j → (at + rows) * offers ≤ row_count d * offers
block_room d offers at rows j s = mul-le-mul_right offers s.inside

module _ (d : Design) (offers : ℕ) (xs : List ℤ) (buf : List Float) (ok : Fillable d offers xs (length buf)) (at rows j : ℕ) (s : Steps d at rows j) (off : List Float)
    (taken : (i : ℕ) → i < offers → get_or off i nan ≡ of_int binary64 (taken_off d j (take (units_of d) (drop (i * units_of d) xs)))) where
  rows_more : (h : ℕ) → h ≤ rows → blocked h rows offers off at (begun (at * offers) (table_for d offers xs) buf) ≡ begun ((at + h) * offers) (table_for d offers xs) buf
  unfolding blocked
  rows_more zero k = let z : at * offers ≡ (at + 0) * offers = ap (λ (m : ℕ). m * offers) (omega arith) in ap (λ (p : ℕ). begun p (table_for d offers xs) buf) z
  rows_more (suc h) k =
      let p = block-places offers at rows h s.before (omega arith) in
      let m = table_for-length d offers xs in
      let room = block_room d offers at rows j s in
      let z : (at + h) * offers + offers ≡ (at + suc h) * offers = omega (arith, add-mul at h offers, add-mul at (suc h) offers, add-mul h 1 offers, one-mul offers) in
      ap (lowered offers off ((at + h - rows) * offers) ((at + h) * offers)) (rows_more h (omega arith))
      ∙ lowered-begun offers off (table_for d offers xs) buf ((at + h - rows) * offers) ((at + h) * offers) p.0 (omega (arith, room)) (omega (arith, room, ok.room))
      (λ i u. entry-steps d offers xs (length buf) ok i u at rows j h s (omega arith) ∙ ap (λ (x : Float). sub binary64 (get_or (table_for d offers xs) ((at + h - rows) * offers + i) nan) x) (sym (taken i u)))
      ∙ ap (λ (r : ℕ). begun r (table_for d offers xs) buf) z

  pub extends : (out next : List Float) → out ≡ begun (at * offers) (table_for d offers xs) buf → next ≡ blocked rows rows offers off at out → next ≡ begun ((at + rows) * offers) (table_for d offers xs) buf
  extends out next e f = f ∙ ap (blocked rows rows offers off at) e ∙ rows_more rows (omega arith)

-- ---- a buffer that holds the table's first rows

module _ (t : List Float) (offers : ℕ) where
  pub held : (p : ℕ) → p ≤ length t → (buf out : List Float) → out ≡ begun p t buf → out ≡ begun p t out
  held p h buf out e = e ∙ sym (begun-again t buf p p (omega arith) h) ∙ ap (begun p t) (sym e)

  pub rows-held : (r : ℕ) → r * offers ≤ length t → (buf out : List Float) → out ≡ begun (r * offers) t buf → out ≡ begun (r * offers) t out
  rows-held r h buf out e = held (r * offers) h buf out e

  pub rows-begin : (r : ℕ) → r ≡ 1 → (out : List Float) → out ≡ begun offers t out → out ≡ begun (r * offers) t out
  rows-begin r q out e = e ∙ ap (λ (n : ℕ). begun n t out) (sym (ap (λ (n : ℕ). n * offers) q ∙ one-mul offers))

  pub rows_on : (r s : ℕ) → r ≤ s → r * offers ≤ length t → (buf out next : List Float) → out ≡ begun (r * offers) t buf → next ≡ begun (s * offers) t out → next ≡ begun (s * offers) t buf
  rows_on r s h k buf out next e q =
      let m : r * offers ≤ s * offers = mul-le-mul_right offers h in
      q ∙ ap (begun (s * offers) t) e ∙ begun-again t buf (r * offers) (s * offers) m k

  pub rows_all : offers ≤ length t → (buf first out : List Float) → first ≡ begun offers t buf → out ≡ written t first → out ≡ written t buf
  rows_all h buf first out e q =
      let n = length t in
      q ∙ sym (begun_all t first n refl) ∙ ap (begun n t) e ∙ begun-again t buf offers n h (omega arith) ∙ begun_all t buf n refl
