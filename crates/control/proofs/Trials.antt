-- Demand 3 for trials: on the idle offers, row h of run g is the row of the trial that `moved` tells. An idle offer is set aside in all runs or in none, and
-- what is set aside is never rejected; the other offers may be set aside in some runs and not in others.
--   idle-alike          an idle offer is set aside in run g exactly where it is in the trial
--   same_total          trials that keep all but the figures have as many rows
--   trials              for full runs of trials whose idle offers are listed
--   balanced-trials     for balanced full runs of such trials
use Prim.Native.Nat.{ℕ, ◌^◌, ◌≤◌, ◌<◌}
use native.Mathlib.Omega.{arith}
use mathlib.Core.Path.{◌≡◌, refl, sym, ap, ap₂, ◌∙◌, subst}
use mathlib.Core.Bool.{Bool, false, not, ◌&&◌}
use mathlib.Core.List.{List, []}
use lib.ListN.{length, get_or}
use lib.Dec.{T}
use lib.IntN.{ℤ}
use lib.Ieee.{Float, nan, binary64, of_int}
use Rattle.order.specs.Lists.{tabulate}
use Rattle.order.proofs.Booleans.{and_left, and_right}
use Rattle.order.proofs.Keys.{key}
use Rattle.order.proofs.Lists.{get_d_map, tabulate-length, tabulate-get_d}
use Rattle.order.proofs.Rows.{Sound}
use Rattle.refusals.specs.Limits.{allowance}
use Rattle.refusals.proofs.Limits.{allowance-lt}
use Rattle.columns.specs.Columns.{in_set, columns_of}
use Rattle.columns.proofs.Sets.{has, has-length, ◌⊆◌, ⊆-by}
use Rattle.columns.proofs.Masks.{columns_of-length, has-columns_of}
use Rattle.runs.specs.Stepdown.{first_state, Outcome, full_run}
use Rattle.trial.specs.Aside.{live_offers, live_mask}
use Rattle.trial.specs.Designs.{units_of, row_count, entry_of, untested}
use Rattle.trial.specs.Record.{ArrayLengths, Setting, Keeps}
use Rattle.trial.specs.Exchange.{by_offer, figures_at, row_total, row_of, trial_rows}
use Rattle.trial.specs.Refusals.{trial_refusal}
use Rattle.trial.specs.declared.Design.{Design}
use Rattle.trial.specs.declared.Shape.{Shape}
use Rattle.trial.specs.declared.Trial.{Trial}
use Rattle.trial.proofs.Accepted.{Accepted, accepted}
use Rattle.trial.proofs.Aside.{untested-listed, live_at, live-bit, figures_at-length}
use Rattle.trial.proofs.Tables.{by_offer-length, row_of-length, trial_rows-length, trial_rows-row, trial_rows-sound, row_total-some}
use Rattle.trialrun.specs.TrialRuns.{trial_start, trial_run}
use Rattle.balance.specs.Balance.{balanced_rows}
use Rattle.trialbalance.specs.TrialBalance.{trial_balanced_run}
use Rattle.control.proofs.General.{keys_at, Member, Family, counted, general-aside}
use Rattle.control.proofs.Balanced.{balanced-family}
use Rattle.control.proofs.Listings.{moved, moved-from, moved-lt, moved-from-lt, moved_back, moved-first, entry_listed}
use Rattle.control.proofs.Reorder.{keys-same, reordered}
use Rattle.control.specs.Statements.{runs_that_reject, ListedOn}

-- ---- an offer of a trial

row_at : (t : Trial) (h i : ℕ) → i < t.shape.offers → get_or (row_of t h) i nan ≡ of_int binary64 (entry_of t.shape.design h (figures_at t i))
unfolding row_of
row_at t h i l =
    let d = t.shape.design in
    get_d_map (λ xs. of_int binary64 (entry_of d h xs)) (by_offer t) i [] nan (omega (arith, by_offer-length t))

-- ---- run g of a family of trials

module _ (t u : Trial) (g : ℕ) (idle : ℕ → Bool) (ty : ArrayLengths t) (ok : trial_refusal t ≡ 0) (row : g < row_total t) (keeps : Keeps t u) (listing : ListedOn idle g t u) where
  shape-kept : u.shape ≡ t.shape
  shape-kept = ap (λ (s : Setting). s.shape) keeps

  design-kept : u.shape.design ≡ t.shape.design
  design-kept = ap (λ (s : Shape). s.design) shape-kept

  offers-kept : u.shape.offers ≡ t.shape.offers
  offers-kept = ap (λ (s : Shape). s.offers) shape-kept

  full : (i : ℕ) → i < t.shape.offers → length (figures_at t i) ≡ units_of t.shape.design
  full i l = figures_at-length t ty (accepted t ok) i l

  idle-row : (h : ℕ) → h < row_total t → keys_at (tabulate t.shape.offers idle) (row_of u h) ≡ keys_at (tabulate t.shape.offers idle) (row_of t (moved t.shape.design h g))
  unfolding row_total
  idle-row h p =
      let d = t.shape.design in
      let r = moved d h g in
      keys-same (tabulate t.shape.offers idle) (row_of u h) (row_of t r) (row_of-length u h ∙ offers-kept ∙ sym (row_of-length t r))
      (λ i l q. let m : i < t.shape.offers = omega (arith, row_of-length u h, offers-kept) in
      ap key (row_at u h i (omega (arith, row_of-length u h))
      ∙ ap (of_int binary64) (ap₂ (λ (e : Design) (xs : List ℤ). entry_of e h xs) design-kept (listing i m (subst (λ (b : Bool). T b) (tabulate-get_d t.shape.offers idle i false m) q)) ∙ entry_listed d h g (figures_at t i) p row (full i m))
      ∙ sym (row_at t r i m)))

  -- an idle offer is set aside in run g exactly where it is in the trial
  pub idle-alike : (i : ℕ) → i < t.shape.offers → T (idle i) → untested u.shape.design (figures_at u i) ≡ untested t.shape.design (figures_at t i)
  unfolding row_total
  idle-alike i l q = ap₂ (λ (d : Design) (xs : List ℤ). untested d xs) design-kept (listing i l q) ∙ untested-listed t.shape.design g (figures_at t i) row (full i l)

  idle-bit : (i : ℕ) → i < t.shape.offers → T (idle i) → in_set (live_mask u) i ≡ has (live_offers t) i
  idle-bit i l q = let m : i < u.shape.offers = omega (arith, offers-kept) in live-bit u i m ∙ ap not (idle-alike i l q) ∙ sym (live_at t i l)

-- ---- the theorem

pub same_total : (t u : Trial) → Keeps t u → row_total u ≡ row_total t
unfolding row_total
same_total t u keeps = ap (λ (s : Setting). row_count s.shape.design) keeps

-- its first state is that of a trial that it agrees with, but for its own live offers
same_start : (t u : Trial) → Keeps t u → trial_start u ≡ first_state (row_total t) t.shape.offers t.shape.k (allowance (row_total t) t.level.a t.level.b) 0 (live_mask u)
unfolding row_total
same_start t u keeps = ap (λ (s : Setting). first_state (row_count s.shape.design) s.shape.offers s.shape.k (allowance (row_count s.shape.design) s.level.a s.level.b) 0 (live_mask u)) keeps

module _ (t : Trial) (idle : ℕ → Bool) (runs : ℕ → Trial) (ty : ArrayLengths t) (ok : trial_refusal t ≡ 0)
    (oks : (g : ℕ) → g < row_total t → trial_refusal (runs g) ≡ 0)
    (keeps : (g : ℕ) → g < row_total t → Keeps t (runs g))
    (listing : (g : ℕ) → g < row_total t → ListedOn idle g t (runs g)) where
  abbrev d : Design
  d = t.shape.design

  abbrev e : ℕ
  e = allowance (row_total t) t.level.a t.level.b

  acc : Accepted t
  acc = accepted t ok

  tall : length (trial_rows t) ≡ row_total t
  tall = trial_rows-length t

  some : 0 < row_total t
  some = row_total-some t acc

  -- the idle offers that are not set aside: the same in all runs
  tested : ℕ → Bool
  tested i = has (live_offers t) i

  abbrev idle' : ℕ → Bool
  idle' i = idle i && tested i

  still-idle : (g : ℕ) → g < row_total t → ListedOn idle' g t (runs g)
  still-idle g m i l q = listing g m i l (and_left (idle i) (tested i) q)

  -- an idle offer that is live in run g is live in the trial
  live-in-all : (g : ℕ) → g < row_total t → (i : ℕ) → i < t.shape.offers → T (idle i) → T (in_set (live_mask (runs g)) i) → T (tested i)
  unfolding tested
  live-in-all g m i l q r = subst (λ (b : Bool). T b) (idle-bit t (runs g) g idle ty ok m (keeps g m) (listing g m) i l q) r

  live-in-run : (g : ℕ) → g < row_total t → tabulate t.shape.offers idle' ⊆ columns_of t.shape.offers (live_mask (runs g))
  unfolding tested
  live-in-run g m =
      let n = t.shape.offers in
      let K = tabulate n idle' in
      ⊆-by K (columns_of n (live_mask (runs g))) (tabulate-length n idle' ∙ sym (columns_of-length n (live_mask (runs g))))
      (λ i r. let l : i < n = omega (arith, has-length K i r, tabulate-length n idle') in
      let q = subst (λ (b : Bool). T b) (tabulate-get_d n idle' i false l) r in
      subst (λ (b : Bool). T b)
      (sym (has-columns_of n (live_mask (runs g)) i l ∙ idle-bit t (runs g) g idle ty ok m (keeps g m) (listing g m) i l (and_left (idle i) (tested i) q)))
      (and_right (idle i) (tested i) q))

  trial-member : (g : ℕ) → g < row_total t → Member t.shape.offers (trial_rows t) idle' (live_mask (runs g)) (trial_rows (runs g)) 0 g
  unfolding row_total
  trial-member g m = record {
    sound = subst (λ (n : ℕ). Sound n (trial_rows u)) (ap (λ (s : Setting). s.shape.offers) (keeps g m)) (trial_rows-sound u (accepted u (oks g m)));
    tall = own ∙ sym tall;
    lives = live-in-run g m;
    seen = omega (arith, own, some);
    rows = reordered (trial_rows t) (trial_rows u) (tabulate t.shape.offers idle') (λ h. moved d h g) (λ i. moved-from d i g) (own ∙ sym tall)
        (λ i r. omega (arith, tall, moved-from-lt d i g (omega (arith, tall)) m)) (λ i r. moved_back d i g (omega (arith, tall)) m) (λ h r. at_row h (omega (arith, tall)));
    row = at_row 0 some ∙ ap (λ (h : ℕ). keys_at (tabulate t.shape.offers idle') (get_or (trial_rows t) h [])) (moved-first d g m);
  }
    where
      u : Trial
      u = runs g

      own : length (trial_rows u) ≡ row_total t
      own = trial_rows-length u ∙ same_total t u (keeps g m)

      at_row : (h : ℕ) → h < row_total t → keys_at (tabulate t.shape.offers idle') (get_or (trial_rows u) h []) ≡ keys_at (tabulate t.shape.offers idle') (get_or (trial_rows t) (moved d h g) [])
      at_row h r =
          ap (keys_at (tabulate t.shape.offers idle')) (trial_rows-row u h (omega (arith, same_total t u (keeps g m))))
          ∙ idle-row t u g idle' ty ok m (keeps g m) (still-idle g m) h r
          ∙ ap (keys_at (tabulate t.shape.offers idle')) (sym (trial_rows-row t (moved d h g) (moved-lt d h g r m)))

  trial-family : Family t.shape.offers t.shape.k e (row_total t) (trial_rows t) idle' (λ g. live_mask (runs g)) (λ g. trial_rows (runs g)) (λ _. 0)
  trial-family = record {
    sound = trial_rows-sound t acc;
    tall = tall;
    tolerance = acc.k-some;
    rare = allowance-lt (row_total t) t.level.a t.level.b some acc.levelled.proper;
    member = trial-member;
  }

  few : row_total t ≤ 2 ^ 53
  unfolding row_total
  few = omega (arith, acc.laid.rows-most)

  -- runs of trials, by their rows
  by_rows : (B : List (List Float) → List (List Float)) (out : Trial → Outcome) → ((u : Trial) → out u ≡ full_run (B (trial_rows u)) (trial_start u))
      → Family t.shape.offers t.shape.k e (row_total t) (B (trial_rows t)) idle' (λ g. live_mask (runs g)) (λ g. B (trial_rows (runs g))) (λ _. 0)
      → runs_that_reject t.shape.k (row_total t) idle (λ g. (out (runs g)).verdicts) ≤ e
  by_rows B out is family =
      counted t.shape.k (row_total t) e idle _ _ (λ g l. ap (λ (r : Outcome). r.verdicts) (is (runs g) ∙ ap (full_run (B (trial_rows (runs g)))) (same_start t (runs g) (keeps g l))))
      (general-aside idle tested live-in-all family)

  pub trials : runs_that_reject t.shape.k (row_total t) idle (λ g. (trial_run (runs g)).verdicts) ≤ e
  unfolding trial_run
  trials = by_rows (λ X. X) trial_run (λ _. refl) trial-family

  pub balanced-trials : runs_that_reject t.shape.k (row_total t) idle (λ g. (trial_balanced_run (runs g)).verdicts) ≤ e
  unfolding trial_balanced_run
  balanced-trials = by_rows balanced_rows trial_balanced_run (λ _. refl) (balanced-family few trial-family)
