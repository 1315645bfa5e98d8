-- The general form of demand 3. X is a table, and for each of its rows g there is a run over a table Y g of its own, in which the
-- idle columns of Y g have the rows of X in some order and the observed row shows the idle values of X's row g.
-- Then k or more idle columns are rejected in at most e of the runs.
--   keys_at K row       the values of a row at K, as numbers
--   Member, Family      what is asked of run g, and of X and all the runs
--   general             the theorem, where the idle columns are live
--   counted-by, counted     the bound, for runs that reject no more idle columns, and for those that show the same verdicts
--   general-aside       the theorem, where idle columns may be set aside, each in all runs or in none
use Prim.Native.Nat.{ℕ, ◌≤◌, ◌<◌}
use native.Mathlib.Omega.{arith}
use native.Mathlib.Decide.{dec_le}
use mathlib.Core.Path.{◌≡◌, refl, sym, ap, ◌∙◌, subst}
use mathlib.Core.Logic.{◌↔◌}
use mathlib.Core.Bool.{Bool, false, ◌&&◌}
use mathlib.Core.List.{List, [], map}
use lib.ListN.{length, get_or}
use lib.Dec.{ltb, leb, T, ltb→lt, lt→ltb, leb→le, le→leb}
use lib.Ieee.{Float}
use Rattle.order.specs.Order.{plus_zero}
use Rattle.order.specs.Counting.{count, count_below}
use Rattle.order.specs.Lists.{tabulate}
use Rattle.order.proofs.Booleans.{same_test, and_left, and_right, and_both, not-below}
use Rattle.order.proofs.Keys.{key}
use Rattle.order.proofs.Counts.{count_map, count_same, count_below-le, count_below-none, count_below-list, all_get_d}
use Rattle.order.proofs.Lists.{tabulate-length, tabulate-get_d}
use Rattle.order.proofs.Rows.{Sound, sound_row, sound-length}
use Rattle.columns.specs.Columns.{Columns, size, ◌∩◌, within, in_set, columns_of}
use Rattle.columns.proofs.Sets.{has, ◌⊆◌, ⊆-by, length-∩, has-∩, size-test}
use Rattle.method.specs.Method.{k_max, critical_value}
use Rattle.method.proofs.Critical.{k_max-law, critical_value-law}
use Rattle.runs.specs.Stepdown.{live_set, rejected_set, first_state, steps_of, verdict_of, full_run}
use Rattle.runs.specs.FullRuns.{is_rejected}
use Rattle.runs.specs.declared.State.{State}
use Rattle.runs.specs.declared.Verdict.{Verdict}
use Rattle.runs.specs.declared.Verdict.TheVariants.{Kept}
use Rattle.runs.proofs.Steps.{rejected-length}
use Rattle.runs.proofs.Start.{first-empty}
use Rattle.runs.proofs.ToldColumns.{verdicts-length, rejected-told}
use Rattle.control.proofs.OneRun.{above_key, above_key-length, rejected-above, Held}
use Rattle.control.specs.Statements.{rejected_among, runs_that_reject}

-- ---- one run, counted

-- no more columns are rejected than a set has that holds them
rejected-within : (n : ℕ) (idle : ℕ → Bool) (vs : List Verdict) (B : Columns) → length vs ≡ n → length B ≡ n
    → ((j : ℕ) → j < n → T (idle j) → T (is_rejected (get_or vs j (Kept plus_zero))) → T (has B j)) → rejected_among idle vs ≤ size B
unfolding rejected_among size
rejected-within n idle vs B l m h =
    omega (
      arith,
      count_below-le (length vs) (λ j. idle j && is_rejected (get_or vs j (Kept plus_zero))) (λ j. has B j)
          (λ j i t. h j (omega arith) (and_left (idle j) (is_rejected (get_or vs j (Kept plus_zero))) t) (and_right (idle j) (is_rejected (get_or vs j (Kept plus_zero))) t)),
      ap (λ (i : ℕ). count_below i (λ j. has B j)) (l ∙ sym m),
      count_below-list (λ b. b) B false,
    )

above-size : (K : Columns) (v : ℕ) (row : List Float) → size (K ∩ above_key v row) ≡ count (λ x. ltb v (key x)) (within K row)
above-size K v row = size-test (λ x. ltb v (key x)) K row

-- the verdicts of the full run of a table Y of n columns, whatever rows the state tells
abbrev verdicts : ℕ → ℕ → ℕ → List (List Float) → ℕ → ℕ → ℕ → List Verdict
verdicts m n live Y k e o = (full_run Y (first_state m n k e o live)).verdicts

module _ (n : ℕ) (idle : ℕ → Bool) where
  -- the idle columns as a set
  abbrev K : Columns
  K = tabulate n idle

  in-K : (j : ℕ) → j < n → T (idle j) → T (has K j)
  in-K j h t = subst (λ (c : Bool). T c) (sym (tabulate-get_d n idle j false h)) t

  K-length : length K ≡ n
  K-length = tabulate-length n idle

  module _ (m live : ℕ) (Y : List (List Float)) (k e o : ℕ) where
    abbrev start : State
    start = first_state m n k e o live

    -- no more idle columns are rejected than there are
    few-idle : rejected_among idle (verdicts m n live Y k e o) ≤ size K
    few-idle = rejected-within n idle (verdicts m n live Y k e o) K (verdicts-length Y start) K-length (λ j h t u. in-K j h t)

    module _ (sound : Sound n Y) (sub : K ⊆ live_set start) (pos : 0 < k) (seen : o < length Y)
        (rare : e < length Y) (wide : k ≤ size K) (v : ℕ) (low : v ≤ key (critical_value k e Y K)) where
      abbrev obs : List Float
      obs = get_or Y o []

      row : T (sound_row n obs)
      row = all_get_d (sound_row n) Y o [] seen sound

      even : length K ≡ length (above_key v obs)
      even = K-length ∙ sym (above_key-length v obs ∙ sound-length n obs row)

      -- before step 1 nothing is rejected
      held : size (K ∩ above_key v obs) < k → Held Y K v obs start
      held few = record { sound = sound; seen = seen; same_row = refl; lives = sub; tolerance = pos; rare = rare; wide = wide; low = low; few = few; inside = nothing; many = λ _ p. absurd (omega arith) }
        where
          short : length K ≡ length (rejected_set start)
          short = K-length ∙ sym (rejected-length start)

          nothing : (K ∩ rejected_set start) ⊆ (K ∩ above_key v obs)
          nothing = ⊆-by (K ∩ rejected_set start) (K ∩ above_key v obs) (length-∩ K (rejected_set start) short ∙ sym (length-∩ K (above_key v obs) even))
              (λ j t. absurd (subst (λ (c : Bool). T c) (first-empty m n k e o live j) (and_right (has K j) (has (rejected_set start) j) (subst (λ (c : Bool). T c) (has-∩ K (rejected_set start) short j) t))))

      told-right : (j : ℕ) → j < n → T (is_rejected (get_or (verdicts m n live Y k e o) j (Kept plus_zero))) → T (is_rejected (verdict_of (steps_of Y start) j))
      told-right j h u = and_right (in_set live j) (is_rejected (verdict_of (steps_of Y start) j)) (subst (λ (c : Bool). T c) (rejected-told Y start j h (Kept plus_zero)) u)

      above-all : size (K ∩ above_key v obs) < k → rejected_among idle (verdicts m n live Y k e o) ≤ size (K ∩ above_key v obs)
      above-all few = rejected-within n idle (verdicts m n live Y k e o) (K ∩ above_key v obs) (verdicts-length Y start) (length-∩ K (above_key v obs) even ∙ K-length)
          (λ j h t u. rejected-above Y K v obs start (held few) j (in-K j h t) (told-right j h u))

      -- where k or more idle columns are rejected, k idle values of the observed row are above v
      bad-above : k ≤ rejected_among idle (verdicts m n live Y k e o) → k ≤ count (λ x. ltb v (key x)) (within K (get_or Y o []))
      bad-above bad = go (dec_le k (size (K ∩ above_key v obs)))
        where
          go : Dec (k ≤ size (K ∩ above_key v obs)) → k ≤ count (λ x. ltb v (key x)) (within K obs)
          go (yes h) = omega (arith, above-size K v obs)
          go (no h) = absurd (let f : size (K ∩ above_key v obs) < k = omega (arith, h) in omega (arith, above-all f))

-- ---- rows, by the keys of their values at a set

abbrev pub keys_at : Columns → List Float → List ℕ
keys_at K row = map key (within K row)

-- k values or more are above v
many-above : ℕ → ℕ → List ℕ → Bool
many-above k v ks = leb k (count (ltb v) ks)

above-keys : (k v : ℕ) (K : Columns) (row : List Float) → many-above k v (keys_at K row) ≡ leb k (count (λ x. ltb v (key x)) (within K row))
unfolding many-above
above-keys k v K row = ap (leb k) (count_map key (ltb v) (within K row))

module _ (n k e : ℕ) (K : Columns) (len : length K ≡ n) (pos : 0 < k) (wide : k ≤ size K) where
  -- c(K) is above v exactly where more than e rows have k values of K above v
  critical-keys : (X : List (List Float)) → Sound n X → e < length X → (v : ℕ) → (v < key (critical_value k e X K)) ↔ (e < count (many-above k v) (map (keys_at K) X))
  critical-keys X s rare v = (λ h. omega (arith, law.0 h, same), λ h. law.1 (omega (arith, same)))
    where
      law : (v < key (critical_value k e X K)) ↔ (e < count (λ row. ltb v (key (k_max k K row))) X)
      law = critical_value-law n k e X s pos rare K v

      at_row : (row : List Float) → T (sound_row n row) → ltb v (key (k_max k K row)) ≡ many-above k v (keys_at K row)
      at_row row t =
          let l = k_max-law k K row (subst (λ (m : ℕ). T (sound_row m row)) (sym len) t) pos wide v in
          same_test (ltb v (key (k_max k K row))) (many-above k v (keys_at K row))
          (λ u. subst (λ (b : Bool). T b) (sym (above-keys k v K row)) (le→leb k (count (λ x. ltb v (key x)) (within K row)) (l.0 (ltb→lt v (key (k_max k K row)) u))))
          (λ u. lt→ltb v (key (k_max k K row)) (l.1 (leb→le k (count (λ x. ltb v (key x)) (within K row)) (subst (λ (b : Bool). T b) (above-keys k v K row) u))))

      same : count (λ row. ltb v (key (k_max k K row))) X ≡ count (many-above k v) (map (keys_at K) X)
      same = count_same (sound_row n) (λ row. ltb v (key (k_max k K row))) (λ row. many-above k v (keys_at K row)) X at_row s ∙ sym (count_map (keys_at K) (many-above k v) X)

  -- at most e rows lie above the critical value
  few-rows : (X : List (List Float)) → Sound n X → e < length X → count (many-above k (key (critical_value k e X K))) (map (keys_at K) X) ≤ e
  few-rows X s rare =
      let v = key (critical_value k e X K) in
      not-below e (count (many-above k v) (map (keys_at K) X)) (λ g. let b : v < v = (critical-keys X s rare v).1 g in omega arith)

  -- c(K) turns on the values at K alone, as numbers, and on the rows' order not at all
  rows_bound : (X Y : List (List Float)) → Sound n X → Sound n Y → e < length X → e < length Y
      → ((p : List ℕ → Bool) → count p (map (keys_at K) X) ≤ count p (map (keys_at K) Y)) → key (critical_value k e X K) ≤ key (critical_value k e Y K)
  rows_bound X Y s t rare rare' h = not-below (key (critical_value k e Y K)) (key (critical_value k e X K)) (λ g.
      let v = key (critical_value k e Y K) in
      let b : v < v = (critical-keys Y t rare' v).1 (omega (arith, (critical-keys X s rare v).0 g, h (many-above k v))) in
      omega arith)

-- ---- the theorem

-- run g of a family over the table X: its own table has the idle rows of X in some order, and its observed row those of row g
pub record Member (n : ℕ) (X : List (List Float)) (idle : ℕ → Bool) (live : ℕ) (Y : List (List Float)) (o g : ℕ) : Type 0 where
  pub sound : Sound n Y
  pub tall : length Y ≡ length X
  pub lives : tabulate n idle ⊆ columns_of n live
  pub seen : o < length Y
  pub rows : (p : List ℕ → Bool) → count p (map (keys_at (tabulate n idle)) X) ≤ count p (map (keys_at (tabulate n idle)) Y)
  pub row : keys_at (tabulate n idle) (get_or Y o []) ≡ keys_at (tabulate n idle) (get_or X g [])

-- X has M rows of n columns, and each of them its run
pub record Family (n k e M : ℕ) (X : List (List Float)) (idle : ℕ → Bool) (live : ℕ → ℕ) (Y : ℕ → List (List Float)) (o : ℕ → ℕ) : Type 0 where
  pub sound : Sound n X
  pub tall : length X ≡ M
  pub tolerance : 0 < k
  pub rare : e < M
  pub member : (g : ℕ) → g < M → Member n X idle (live g) (Y g) (o g) g

module _ {n k e M : ℕ} {X : List (List Float)} {idle : ℕ → Bool} {live : ℕ → ℕ} {Y : ℕ → List (List Float)} {o : ℕ → ℕ} (f : Family n k e M X idle live Y o) where
  v : ℕ
  v = key (critical_value k e X (K n idle))

  bad : ℕ → Bool
  bad g = leb k (rejected_among idle (verdicts M n (live g) (Y g) k e (o g)))

  rare : e < length X
  rare = omega (arith, f.tall, f.rare)

  -- a run that rejects k or more idle columns observes a row with k idle values above c of the idle columns
  bad-row : k ≤ size (K n idle) → (g : ℕ) → g < length X → T (bad g) → T (many-above k v (keys_at (K n idle) (get_or X g [])))
  unfolding bad v
  bad-row wide g l t =
      subst (λ (ks : List ℕ). T (many-above k v ks)) q.row (subst (λ (b : Bool). T b) (sym (above-keys k v (K n idle) (get_or (Y g) (o g) [])))
      (le→leb k (count (λ x. ltb v (key x)) (within (K n idle) (get_or (Y g) (o g) [])))
      (bad-above n idle M (live g) (Y g) k e (o g) q.sound q.lives f.tolerance q.seen (omega (arith, rare, q.tall)) wide v
      (rows_bound n k e (K n idle) (K-length n idle) f.tolerance wide X (Y g) f.sound q.sound rare (omega (arith, rare, q.tall)) q.rows)
      (leb→le k (rejected_among idle (verdicts M n (live g) (Y g) k e (o g))) t))))
    where
      q : Member n X idle (live g) (Y g) (o g) g
      q = f.member g (omega (arith, f.tall))

  pub general : runs_that_reject k M idle (λ g. (full_run (Y g) (first_state M n k e (o g) (live g))).verdicts) ≤ e
  unfolding runs_that_reject bad v
  general = subst (λ (m : ℕ). count_below m bad ≤ e) f.tall (go (dec_le k (size (K n idle))))
    where
      go : Dec (k ≤ size (K n idle)) → count_below (length X) bad ≤ e
      go (yes wide) =
          omega (
            arith,
            count_below-le (length X) bad (λ g. many-above k v (keys_at (K n idle) (get_or X g []))) (bad-row wide),
            count_below-list (λ row. many-above k v (keys_at (K n idle) row)) X [],
            count_map (keys_at (K n idle)) (many-above k v) X,
            few-rows n k e (K n idle) (K-length n idle) f.tolerance wide X f.sound rare,
          )
      go (no narrow) =
          omega (
            arith,
            count_below-le (length X) bad (λ _. false)
                (λ g l t. absurd (omega (arith, narrow, leb→le k (rejected_among idle (verdicts M n (live g) (Y g) k e (o g))) t, few-idle n idle M (live g) (Y g) k e (o g)))),
            count_below-none (length X),
          )

-- runs that reject no more idle columns are counted no more
pub counted-by : (k n e : ℕ) (idle idle' : ℕ → Bool) (vs ws : ℕ → List Verdict) → ((g : ℕ) → g < n → rejected_among idle (vs g) ≤ rejected_among idle' (ws g)) → runs_that_reject k n idle' ws ≤ e → runs_that_reject k n idle vs ≤ e
unfolding runs_that_reject
counted-by k n e idle idle' vs ws h bound =
    omega (
      arith,
      count_below-le n (λ g. leb k (rejected_among idle (vs g))) (λ g. leb k (rejected_among idle' (ws g)))
          (λ g l t. le→leb k (rejected_among idle' (ws g)) (omega (arith, leb→le k (rejected_among idle (vs g)) t, h g l))),
    )

-- so are those that show the same verdicts
pub counted : (k n e : ℕ) (idle : ℕ → Bool) (vs ws : ℕ → List Verdict) → ((g : ℕ) → g < n → vs g ≡ ws g) → runs_that_reject k n idle ws ≤ e → runs_that_reject k n idle vs ≤ e
counted k n e idle vs ws h = counted-by k n e idle idle vs ws (λ g l. omega (arith, ap (rejected_among idle) (h g l)))

-- ---- idle columns that are set aside

-- what is rejected is live, so that only the idle columns that are live count
live-only : (m n live : ℕ) (Y : List (List Float)) (k e o : ℕ) (idle tested : ℕ → Bool) → ((j : ℕ) → j < n → T (idle j) → T (in_set live j) → T (tested j))
    → rejected_among idle (verdicts m n live Y k e o) ≤ rejected_among (λ j. idle j && tested j) (verdicts m n live Y k e o)
unfolding rejected_among
live-only m n live Y k e o idle tested h =
    let s = first_state m n k e o live in
    let vs = verdicts m n live Y k e o in
    let rejected : ℕ → Bool = λ j. is_rejected (get_or vs j (Kept plus_zero)) in
    count_below-le (length vs) (λ j. idle j && rejected j) (λ j. (idle j && tested j) && rejected j)
    (λ j l t. let i = and_left (idle j) (rejected j) t in
    let u = and_right (idle j) (rejected j) t in
    let q : j < n = omega (arith, verdicts-length Y s) in
    and_both (idle j && tested j) (rejected j)
    (and_both (idle j) (tested j) i (h j q i (and_left (in_set live j) (is_rejected (verdict_of (steps_of Y s) j)) (subst (λ (c : Bool). T c) (rejected-told Y s j q (Kept plus_zero)) u)))) u)

pub general-aside : {n k e M : ℕ} {X : List (List Float)} {live : ℕ → ℕ} {Y : ℕ → List (List Float)} {o : ℕ → ℕ} (idle tested : ℕ → Bool)
    → ((g : ℕ) → g < M → (j : ℕ) → j < n → T (idle j) → T (in_set (live g) j) → T (tested j)) → Family n k e M X (λ j. idle j && tested j) live Y o
    → runs_that_reject k M idle (λ g. (full_run (Y g) (first_state M n k e (o g) (live g))).verdicts) ≤ e
general-aside {n} {k} {e} {M} {live = live} {Y = Y} {o = o} idle tested h f =
    counted-by k M e idle (λ j. idle j && tested j) _ _ (λ g l. live-only M n (live g) (Y g) k e (o g) idle tested (h g l)) (general f)
