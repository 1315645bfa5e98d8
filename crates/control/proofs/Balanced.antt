-- The general form for balanced tables: a balanced row shows at the idle columns what its own table's idle columns tell, and nothing else.
--   balanced-member     run g over the balanced tables
--   balanced-family     all the runs
use Prim.Native.Nat.{ℕ, zero, suc, ◌^◌, ◌≤◌, ◌<◌}
use native.Mathlib.Omega.{arith}
use mathlib.Core.Path.{◌≡◌, refl, sym, ap, ap₂, fun_ext, ◌∙◌}
use mathlib.Core.Bool.{Bool, true, false, not}
use mathlib.Core.List.{List, [], ◌∷◌, map}
use lib.ListN.{length, get_or, length-map}
use lib.Dec.{T, leb}
use lib.Ieee.{Float, nan}
use Rattle.order.specs.Order.{finite}
use Rattle.order.specs.Counting.{count, all}
use Rattle.order.specs.Lists.{tabulate}
use Rattle.order.proofs.Booleans.{and_left, and_right}
use Rattle.order.proofs.Counts.{all_get_d, count_map, count-not, count_same}
use Rattle.order.proofs.Keys.{key}
use Rattle.order.proofs.Lists.{tabulate-length}
use Rattle.order.proofs.Rows.{Finite, Sound, sound_row, sound-length, sound-finite}
use Rattle.columns.specs.Columns.{Columns, within}
use Rattle.columns.proofs.Sets.{has, has-length}
use Rattle.balance.specs.Balance.{rank, whole, balanced_row, balanced_rows}
use Rattle.balance.proofs.Balanced.{rank-keys, balanced_rows-row, balanced_rows-length, balanced-sound}
use Rattle.control.proofs.General.{keys_at, Member, Family}

-- ---- by position among the columns of a set

-- how many columns of K stand before column c
place : Columns → ℕ → ℕ
place [] c = 0
place (b ∷ K) zero = 0
place (true ∷ K) (suc c) = suc (place K c)
place (false ∷ K) (suc c) = place K c

key-at : (K : Columns) (row : List Float) (c : ℕ) → T (has K c) → c < length row → get_or (keys_at K row) (place K c) 0 ≡ key (get_or row c nan)
unfolding place within
key-at [] row c t h = absurd t
key-at (b ∷ K) [] c t h = absurd (omega arith)
key-at (true ∷ K) (x ∷ row) zero t h = refl
key-at (false ∷ K) (x ∷ row) zero t h = absurd t
key-at (true ∷ K) (x ∷ row) (suc c) t h = key-at K row c t (omega arith)
key-at (false ∷ K) (x ∷ row) (suc c) t h = key-at K row c t (omega arith)

-- each key replaced by that of its rank, where R i v is the rank of the key v at position i
ranked : (ℕ → ℕ → ℕ) → List ℕ → List ℕ
ranked R [] = []
ranked R (v ∷ ks) = key (whole (R 0 v)) ∷ ranked (λ i. R (suc i)) ks

-- where R tells the ranks S of the columns of K
keys-ranked : (K : Columns) (row : List Float) (R : ℕ → ℕ → ℕ) (S : ℕ → Float → ℕ) → Finite row → ((c : ℕ) → T (has K c) → (v : Float) → T (finite v) → S c v ≡ R (place K c) (key v))
    → keys_at K (tabulate (length row) (λ c. whole (S c (get_or row c nan)))) ≡ ranked R (keys_at K row)
unfolding place ranked within tabulate all
keys-ranked [] row R S f h = refl
keys-ranked (b ∷ K) [] R S f h = refl
keys-ranked (true ∷ K) (x ∷ row) R S f h =
    ap₂ (λ (m : ℕ) (ks : List ℕ). key (whole m) ∷ ks) (h 0 tt x (and_left (finite x) (all finite row) f))
    (keys-ranked K row (λ i. R (suc i)) (λ c. S (suc c)) (and_right (finite x) (all finite row) f) (λ c t. h (suc c) t))
keys-ranked (false ∷ K) (x ∷ row) R S f h = keys-ranked K row R (λ c. S (suc c)) (and_right (finite x) (all finite row) f) (λ c t. h (suc c) t)

-- ---- the balanced rows

-- the ranks at position i, of rows by their keys
ranks : List (List ℕ) → ℕ → ℕ → ℕ
ranks ls i v = count (λ ks. leb (get_or ks i 0) v) ls

module _ (n : ℕ) (X : List (List Float)) (sound : Sound n X) (idle : ℕ → Bool) where
  abbrev K : Columns
  K = tabulate n idle

  abbrev told : List (List ℕ)
  told = map (keys_at K) X

  rank-told : (c : ℕ) → T (has K c) → (v : Float) → T (finite v) → rank X c v ≡ ranks told (place K c) (key v)
  unfolding ranks
  rank-told c t v f =
      let l : c < n = omega (arith, has-length K c t, tabulate-length n idle) in
      rank-keys n X sound c l v f
      ∙ count_same (sound_row n) _ _ X (λ row s. ap (λ (m : ℕ). leb m (key v)) (sym (key-at K row c t (omega (arith, sound-length n row s))))) sound
      ∙ sym (count_map (keys_at K) (λ ks. leb (get_or ks (place K c) 0) (key v)) X)

  keys-balanced : (row : List Float) → T (sound_row n row) → keys_at K (balanced_row X row) ≡ ranked (ranks told) (keys_at K row)
  unfolding balanced_row
  keys-balanced row s = keys-ranked K row (ranks told) (rank X) (sound-finite n row s) rank-told

  count-balanced : (p : List ℕ → Bool) → count p (map (keys_at K) (balanced_rows X)) ≡ count (λ ks. p (ranked (ranks told) ks)) told
  unfolding balanced_rows
  count-balanced p =
      count_map (keys_at K) p (balanced_rows X)
      ∙ count_map (λ row. balanced_row X row) (λ row. p (keys_at K row)) X
      ∙ count_same (sound_row n) _ _ X (λ row s. ap p (keys-balanced row s)) sound
      ∙ sym (count_map (keys_at K) (λ ks. p (ranked (ranks told) ks)) X)

  row-balanced : (g : ℕ) → g < length X → keys_at K (get_or (balanced_rows X) g []) ≡ ranked (ranks told) (keys_at K (get_or X g []))
  row-balanced g l = ap (keys_at K) (balanced_rows-row X g l) ∙ keys-balanced (get_or X g []) (all_get_d (sound_row n) X g [] l sound)

-- ---- the runs

-- lists of one length of which no test finds more in the first have the same ranks
same-ranks : (ls ms : List (List ℕ)) → length ls ≡ length ms → ((p : List ℕ → Bool) → count p ls ≤ count p ms) → ranks ls ≡ ranks ms
unfolding ranks
same-ranks ls ms h f = fun_ext (λ i. fun_ext (λ v.
    let p : List ℕ → Bool = λ ks. leb (get_or ks i 0) v in
    omega (arith, f p, f (λ ks. not (p ks)), count-not p ls, count-not p ms)))

module _ {n : ℕ} {X : List (List Float)} {idle : ℕ → Bool} (sound : Sound n X) (few : length X ≤ 2 ^ 53) where
  pub balanced-member : {live : ℕ} {Y : List (List Float)} {o g : ℕ} → g < length X → Member n X idle live Y o g → Member n (balanced_rows X) idle live (balanced_rows Y) o g
  balanced-member {live} {Y} {o} {g} l m = record {
    sound = balanced-sound n Y m.sound (omega (arith, m.tall));
    tall = balanced_rows-length Y ∙ m.tall ∙ sym (balanced_rows-length X);
    lives = m.lives;
    seen = omega (arith, m.seen, balanced_rows-length Y);
    rows = λ p. omega (
      arith,
      count-balanced n X sound idle p,
      m.rows (λ ks. p (ranked (ranks (told n X sound idle)) ks)),
      ap (λ (R : ℕ → ℕ → ℕ). count (λ ks. p (ranked R ks)) (told n Y m.sound idle)) same,
      count-balanced n Y m.sound idle p,
    );
    row = row-balanced n Y m.sound idle o m.seen ∙ ap₂ ranked (sym same) m.row ∙ sym (row-balanced n X sound idle g l);
  }
    where
      same : ranks (told n X sound idle) ≡ ranks (told n Y m.sound idle)
      same = same-ranks (told n X sound idle) (told n Y m.sound idle) (length-map X _ ∙ sym m.tall ∙ sym (length-map Y _)) m.rows

pub balanced-family : {n k e M : ℕ} {X : List (List Float)} {idle : ℕ → Bool} {live : ℕ → ℕ} {Y : ℕ → List (List Float)} {o : ℕ → ℕ} → M ≤ 2 ^ 53
    → Family n k e M X idle live Y o → Family n k e M (balanced_rows X) idle live (λ g. balanced_rows (Y g)) o
balanced-family {n} {X = X} few f = record {
  sound = balanced-sound n X f.sound (omega (arith, f.tall));
  tall = balanced_rows-length X ∙ f.tall;
  tolerance = f.tolerance;
  rare = f.rare;
  member = λ g l. balanced-member f.sound (omega (arith, f.tall)) (omega (arith, f.tall)) (f.member g l);
}
