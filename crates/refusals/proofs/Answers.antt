-- Laws of answers. Every call is `answer checks accepted refused`, so each law here is one of every call.
--   answered              the one theorem: accepted exactly where no condition holds, and else refused by the number of the first that holds
--   number-some, number_short, first_short    a refusal number is above 0 and has two digits at most
--   NoneHolds, none-holds, none_first    no condition holds; that is where nothing is refused
--   none-append, none-join               of two lists, one after the other
--   accepted, refused     an accepted answer, and one that is refused by n
--   answer-map, answer-all     what is read off an answer, and what holds of every answer
--   judged, judged-last   a condition that is judged before others, and one that is the last
--   outcome_number, outcome-first      the number of a Result is that of the first condition to hold
--   outcome-ok, ok-none   an outcome is `Ok` where none holds, and only there
--   ok-value, passed-ok, value-passed     the value that it is `Ok` of; both, by the number
--   ok-for, err-for       what the outcome of one value is `Ok` or `Err` of, that of another is
--   ok_answer, err_answer      what an answer is, by the outcome
--   ok-append, err-append, append-ok  two lists, one after the other
--   ok-each               what holds of the value where no condition holds is so of what the outcome is `Ok` of
--   outcome-answer        what is read off an outcome, where a refusal tells its number alone
--   answer-append, first-decides, first_passes, both-pass     two lists, one after the other
use Prim.Native.Nat.{ℕ, zero, suc, ◌≤◌, ◌<◌}
use native.Mathlib.Omega.{arith}
use mathlib.Core.Path.{◌≡◌, refl, sym, ap, ap₂, ◌∙◌}
use mathlib.Core.Logic.{◌↔◌}
use mathlib.Core.Bool.{Bool, true, false, cond, false≢true}
use mathlib.Core.List.{[], ◌∷◌, ◌++◌}
use lib.ListN.{get_or}
use Rattle.std.proofs.Common.{Result, Ok, Err, IfOk}
use Rattle.refusals.specs.Answers.{r1, number, Checks, answer, outcome, refusal_in, value_or, first_refusal, condition, FirstAt, First}
use Rattle.refusals.specs.declared.refusal.Refusal.{Refusal}
use Rattle.refusals.specs.declared.refusal.Refusal.TheVariants.{FileLength, WordKind, Level, Sizes, Digits, Repeated, Figure, End, Length, Observed, Value, Buffer, Ended, Spoiled, Shops}

-- ---- refusal numbers

pub number-some : (r : Refusal) → 0 < number r
number-some FileLength = omega arith
number-some WordKind = omega arith
number-some Level = omega arith
number-some Sizes = omega arith
number-some Digits = omega arith
number-some Repeated = omega arith
number-some Figure = omega arith
number-some End = omega arith
number-some Length = omega arith
number-some Observed = omega arith
number-some Value = omega arith
number-some Buffer = omega arith
number-some Ended = omega arith
number-some Spoiled = omega arith
number-some Shops = omega arith

pub number_short : (r : Refusal) → number r ≤ 99
number_short FileLength = omega arith
number_short WordKind = omega arith
number_short Level = omega arith
number_short Sizes = omega arith
number_short Digits = omega arith
number_short Repeated = omega arith
number_short Figure = omega arith
number_short End = omega arith
number_short Length = omega arith
number_short Observed = omega arith
number_short Value = omega arith
number_short Buffer = omega arith
number_short Ended = omega arith
number_short Spoiled = omega arith
number_short Shops = omega arith

-- ---- no condition holds

abbrev pub NoneHolds : Checks → Type 0
NoneHolds [] = Unit {0}
NoneHolds (c ∷ cs) = (c.0 ≡ false) × NoneHolds cs

pub none-holds : (cs : Checks) → first_refusal cs ≡ 0 → NoneHolds cs
unfolding first_refusal
none-holds [] h = tt
none-holds (c ∷ cs) h = go c.0 (number-some c.1) (none-holds cs) h
  where
    go : (b : Bool) → 0 < number c.1 → (first_refusal cs ≡ 0 → NoneHolds cs) → cond b (number c.1) (first_refusal cs) ≡ 0 → (b ≡ false) × NoneHolds cs
    go true p on h = absurd (omega arith)
    go false p on h = (refl, on h)

pub none-append : (s t : Checks) → NoneHolds (s ++ t) → NoneHolds s × NoneHolds t
none-append [] t h = (tt, h)
none-append (c ∷ s) t h = let f = none-append s t h.1 in ((h.0, f.0), f.1)

pub none-join : (s t : Checks) → NoneHolds s → NoneHolds t → NoneHolds (s ++ t)
none-join [] t h k = k
none-join (c ∷ s) t h k = (h.0, none-join s t h.1 k)

none_each : (cs : Checks) → NoneHolds cs → (i : ℕ) → condition cs i ≡ false
none_each [] h i = refl
none_each (c ∷ cs) h zero = h.0
none_each (c ∷ cs) h (suc i) = none_each cs h.1 i

none-all : (cs : Checks) → ((i : ℕ) → condition cs i ≡ false) → NoneHolds cs
none-all [] f = tt
none-all (c ∷ cs) f = (f 0, none-all cs (λ i. f (suc i)))

-- ---- what a call gives

module _ {A : Type 0} (done : A) (refusing : ℕ → A) where
  answer-none : (cs : Checks) → NoneHolds cs → answer cs done refusing ≡ done
  unfolding answer
  answer-none [] h = refl
  answer-none (c ∷ cs) h = ap (λ (b : Bool). cond b (refusing (number c.1)) (answer cs done refusing)) h.0 ∙ answer-none cs h.1

  -- where the number is above 0 it is that of the answer
  answer-number : (cs : Checks) → (first_refusal cs ≡ 0 → ⊥) → answer cs done refusing ≡ refusing (first_refusal cs)
  unfolding first_refusal
  answer-number [] f = absurd (f refl)
  answer-number (c ∷ cs) f = go c.0 (answer-number cs) f
    where
      go : (b : Bool) → ((first_refusal cs ≡ 0 → ⊥) → answer cs done refusing ≡ refusing (first_refusal cs)) → (cond b (number c.1) (first_refusal cs) ≡ 0 → ⊥)
          → cond b (refusing (number c.1)) (answer cs done refusing) ≡ refusing (cond b (number c.1) (first_refusal cs))
      go true on f = refl
      go false on f = on f

  module _ (cs : Checks) (n : ℕ) (e : n ≡ first_refusal cs) where
    pub accepted : n ≡ 0 → done ≡ answer cs done refusing
    accepted z = sym (answer-none cs (none-holds cs (sym e ∙ z)))

    pub refused : (n ≡ 0 → ⊥) → refusing n ≡ answer cs done refusing
    refused f = ap refusing e ∙ sym (answer-number cs (λ z. f (e ∙ z)))

pub none_first : (cs : Checks) → NoneHolds cs → first_refusal cs ≡ 0
unfolding first_refusal
none_first cs h = answer-none 0 (λ n. n) cs h

pub first_short : (cs : Checks) → first_refusal cs ≤ 99
unfolding first_refusal
first_short [] = omega arith
first_short (c ∷ cs) = go c.0 (first_short cs)
  where
    go : (b : Bool) → first_refusal cs ≤ 99 → cond b (number c.1) (first_refusal cs) ≤ 99
    go true later = number_short c.1
    go false later = later

-- ---- the first condition to hold

first-at : {A : Type 0} (done : A) (refusing : ℕ → A) (cs : Checks) (i : ℕ) → FirstAt cs i → answer cs done refusing ≡ refusing (number (get_or cs i (false, r1)).1)
unfolding answer
first-at done refusing [] i f = absurd (false≢true f.here)
first-at done refusing (c ∷ cs) zero f = ap (λ (b : Bool). cond b (refusing (number c.1)) (answer cs done refusing)) f.here
first-at done refusing (c ∷ cs) (suc i) f =
    ap (λ (b : Bool). cond b (refusing (number c.1)) (answer cs done refusing)) (f.earlier 0 (omega arith))
    ∙ first-at done refusing cs i (record { here = f.here; earlier = λ j h. f.earlier (suc j) (omega arith) })

decided : (cs : Checks) (n : ℕ) → first_refusal cs ≡ n → 0 < n → First cs n
unfolding first_refusal
decided [] n e h = absurd (omega arith)
decided (c ∷ cs) n e h = go c.0 refl e (λ q. decided cs n q h)
  where
    later : c.0 ≡ false → First cs n → First (c ∷ cs) n
    later z f = record { place = suc f.place; first = record { here = f.first.here; earlier = before }; numbered = f.numbered }
      where
        before : (j : ℕ) → j < suc f.place → condition (c ∷ cs) j ≡ false
        before zero h = z
        before (suc j) h = f.first.earlier j (omega arith)

    go : (b : Bool) → c.0 ≡ b → cond b (number c.1) (first_refusal cs) ≡ n → (first_refusal cs ≡ n → First cs n) → First (c ∷ cs) n
    go true t q on = record { place = 0; first = record { here = t; earlier = λ j l. absurd (omega arith) }; numbered = q }
    go false t q on = later t (on q)

-- what is promised of every call with these conditions
pub record Answered {A : Type 0} (cs : Checks) (done : A) (refusing : ℕ → A) : Type 0 where
  -- its number is n exactly where a condition with that number is the first to hold, and 0 exactly where none holds
  pub numbered : (n : ℕ) → 0 < n → (first_refusal cs ≡ n) ↔ First cs n
  pub unnumbered : (first_refusal cs ≡ 0) ↔ ((i : ℕ) → condition cs i ≡ false)
  -- with the number 0 it gives what is accepted, and else what goes with the number
  pub gives : first_refusal cs ≡ 0 → answer cs done refusing ≡ done
  pub refuses : (n : ℕ) → First cs n → answer cs done refusing ≡ refusing n

pub answered : {A : Type 0} (cs : Checks) (done : A) (refusing : ℕ → A) → Answered cs done refusing
unfolding first_refusal
answered cs done refusing = record {
  numbered = λ n h. (λ e. decided cs n e h, λ f. first-at 0 (λ n. n) cs f.place f.first ∙ f.numbered);
  unnumbered = (λ e. none_each cs (none-holds cs e), λ f. none_first cs (none-all cs f));
  gives = λ e. answer-none done refusing cs (none-holds cs e);
  refuses = λ n f. first-at done refusing cs f.place f.first ∙ ap refusing f.numbered;
}

-- ---- a condition, or else the refusal after it

module _ (b p : Bool) (n : Refusal) (r : ℕ) (e : b ≡ p) where
  pub judged : (cs : Checks) (s : ℕ) → s ≡ first_refusal cs → r ≡ cond b (number n) s → r ≡ first_refusal ((p, n) ∷ cs)
  unfolding first_refusal
  judged cs s f g = g ∙ ap₂ (λ (x : Bool) (m : ℕ). cond x (number n) m) e f

  pub judged-last : r ≡ cond b (number n) 0 → r ≡ first_refusal ((p, n) ∷ [])
  unfolding first_refusal
  judged-last = judged [] 0 refl

-- ---- what is read off an answer

pub answer-map : {A B : Type 0} (f : A → B) (cs : Checks) (done : A) (refusing : ℕ → A) → f (answer cs done refusing) ≡ answer cs (f done) (λ n. f (refusing n))
unfolding answer
answer-map f [] done refusing = refl
answer-map f (c ∷ cs) done refusing = go c.0 (answer-map f cs done refusing)
  where
    go : (b : Bool) → f (answer cs done refusing) ≡ answer cs (f done) (λ n. f (refusing n)) → f (cond b (refusing (number c.1)) (answer cs done refusing)) ≡ cond b (f (refusing (number c.1))) (answer cs (f done) (λ n. f (refusing n)))
    go true ih = refl
    go false ih = ih

-- what holds of the accepted answer and of every refused one holds of the answer
pub answer-all : {A : Type 0} (P : A → Type 0) (cs : Checks) (done : A) (refusing : ℕ → A) → P done → ((n : ℕ) → P (refusing n)) → P (answer cs done refusing)
unfolding answer
answer-all P [] done refusing p q = p
answer-all P (c ∷ cs) done refusing p q = go c.0 (answer-all P cs done refusing p q)
  where
    go : (b : Bool) → P (answer cs done refusing) → P (cond b (refusing (number c.1)) (answer cs done refusing))
    go true later = q (number c.1)
    go false later = later

-- ---- two lists, one after the other

pub answer-append : {A : Type 0} (s t : Checks) (done : A) (refusing : ℕ → A) → answer (s ++ t) done refusing ≡ answer s (answer t done refusing) refusing
unfolding answer
answer-append [] t done refusing = refl
answer-append (c ∷ s) t done refusing = ap (λ x. cond c.0 (refusing (number c.1)) x) (answer-append s t done refusing)

module _ (s t : Checks) where
  module _ (r : ℕ) (e : r ≡ first_refusal s) where
    pub first-decides : (r ≡ 0 → ⊥) → first_refusal (s ++ t) ≡ r
    unfolding first_refusal
    first-decides z = answer-append s t 0 (λ n. n) ∙ sym (refused (answer t 0 (λ n. n)) (λ n. n) s r e z)

    pub first_passes : r ≡ 0 → first_refusal (s ++ t) ≡ first_refusal t
    unfolding first_refusal
    first_passes z = answer-append s t 0 (λ n. n) ∙ sym (accepted (answer t 0 (λ n. n)) (λ n. n) s r e z)

  pub both-pass : first_refusal (s ++ t) ≡ 0 → (first_refusal s ≡ 0) × (first_refusal t ≡ 0)
  both-pass h = let f = none-append s t (none-holds (s ++ t) h) in (none_first s f.0, none_first t f.1)

-- ---- outcomes

module _ {A : Type 0} where
  pub outcome_number : (cs : Checks) (a : A) → refusal_in (outcome cs a) ≡ first_refusal cs
  unfolding first_refusal
  outcome_number [] a = refl
  outcome_number (c ∷ cs) a = go c.0 (outcome_number cs a)
    where
      go : (b : Bool) → refusal_in (outcome cs a) ≡ first_refusal cs → refusal_in (cond b (Err c.1) (outcome cs a)) ≡ cond b (number c.1) (first_refusal cs)
      go true on = refl
      go false on = on

  pub outcome-ok : (cs : Checks) (a : A) → NoneHolds cs → outcome cs a ≡ Ok a
  outcome-ok [] a h = refl
  outcome-ok (c ∷ cs) a h = ap (λ (b : Bool). cond b (Err c.1) (outcome cs a)) h.0 ∙ outcome-ok cs a h.1

  pub ok-none : (cs : Checks) (a x : A) → outcome cs a ≡ Ok x → NoneHolds cs
  ok-none cs a x h = none-holds cs (sym (outcome_number cs a) ∙ ap refusal_in h)

  pub outcome-first : (cs : Checks) (a : A) (r : Refusal) → outcome cs a ≡ Err r → first_refusal cs ≡ number r
  outcome-first cs a r h = sym (outcome_number cs a) ∙ ap refusal_in h

  pub ok-value : (cs : Checks) (a x : A) → outcome cs a ≡ Ok x → x ≡ a
  ok-value cs a x h = ap (value_or x) (sym h ∙ outcome-ok cs a (ok-none cs a x h))

  pub passed-ok : (cs : Checks) (a : A) → first_refusal cs ≡ 0 → outcome cs a ≡ Ok a
  passed-ok cs a h = outcome-ok cs a (none-holds cs h)

  pub value-passed : (cs : Checks) (a d : A) → first_refusal cs ≡ 0 → value_or d (outcome cs a) ≡ a
  value-passed cs a d h = ap (value_or d) (passed-ok cs a h)

module _ {A B : Type 0} where
  pub ok-for : (cs : Checks) (a x : A) (b : B) → outcome cs a ≡ Ok x → outcome cs b ≡ Ok b
  ok-for cs a x b h = outcome-ok cs b (ok-none cs a x h)

  pub err-for : (cs : Checks) (a : A) (b : B) (r : Refusal) → outcome cs a ≡ Err r → outcome cs b ≡ Err r
  err-for [] a b r h = cc
  err-for (c ∷ cs) a b r h = go c.0 (err-for cs a b r) h
    where
      go : (q : Bool) → (outcome cs a ≡ Err r → outcome cs b ≡ Err r) → cond q (Err c.1) (outcome cs a) ≡ Err r → cond q (Err c.1) (outcome cs b) ≡ Err r
      go true on h = cc
      go false on h = on h

  pub ok_answer : (cs : Checks) (a x : A) (done : B) (refusing : ℕ → B) → outcome cs a ≡ Ok x → answer cs done refusing ≡ done
  ok_answer cs a x done refusing h = answer-none done refusing cs (ok-none cs a x h)

  pub err_answer : (cs : Checks) (a : A) (r : Refusal) (done : B) (refusing : ℕ → B) → outcome cs a ≡ Err r → answer cs done refusing ≡ refusing (number r)
  err_answer cs a r done refusing h =
      let e = outcome-first cs a r h in
      sym (refused done refusing cs (number r) (sym e) (λ z. omega (arith, number-some r)))

  pub ok-append : (s t : Checks) (a x : A) (b : B) → outcome s a ≡ Ok x → outcome (s ++ t) b ≡ outcome t b
  ok-append [] t a x b h = refl
  ok-append (c ∷ s) t a x b h = let f = ok-none (c ∷ s) a x h in ap (λ (q : Bool). cond q (Err c.1) (outcome (s ++ t) b)) f.0 ∙ ok-append s t a a b (outcome-ok s a f.1)

  pub err-append : (s t : Checks) (a : A) (b : B) (r : Refusal) → outcome s a ≡ Err r → outcome (s ++ t) b ≡ Err r
  err-append [] t a b r h = cc
  err-append (c ∷ s) t a b r h = go c.0 (err-append s t a b r) h
    where
      go : (q : Bool) → (outcome s a ≡ Err r → outcome (s ++ t) b ≡ Err r) → cond q (Err c.1) (outcome s a) ≡ Err r → cond q (Err c.1) (outcome (s ++ t) b) ≡ Err r
      go true on h = cc
      go false on h = on h

  pub append-ok : (s t : Checks) (a x : A) (b y : B) → outcome s a ≡ Ok x → outcome t b ≡ Ok y → outcome (s ++ t) b ≡ Ok b
  append-ok s t a x b y h k = ok-append s t a x b h ∙ outcome-ok t b (ok-none t b y k)

-- what is read off an outcome, where a refusal tells its number alone
pub outcome-answer : {A B : Type 0} (f : Result A Refusal → B) (refusing : ℕ → B) → ((r : Refusal) → f (Err r) ≡ refusing (number r)) → (cs : Checks) (a : A) → f (outcome cs a) ≡ answer cs (f (Ok a)) refusing
unfolding answer
outcome-answer f refusing e [] a = refl
outcome-answer f refusing e (c ∷ cs) a = go c.0 (outcome-answer f refusing e cs a)
  where
    go : (b : Bool) → f (outcome cs a) ≡ answer cs (f (Ok a)) refusing → f (cond b (Err c.1) (outcome cs a)) ≡ cond b (refusing (number c.1)) (answer cs (f (Ok a)) refusing)
    go true on = e c.1
    go false on = on

pub ok-each : {A : Type 0} (cs : Checks) (a : A) (P : A → Type 0) → (NoneHolds cs → P a) → IfOk (outcome cs a) P
ok-each [] a P h = h tt
ok-each (c ∷ cs) a P h = go c.0 (λ z k. h (z, k)) refl (λ k. ok-each cs a P k)
  where
    go : (b : Bool) → (c.0 ≡ false → NoneHolds cs → P a) → c.0 ≡ b → ((NoneHolds cs → P a) → IfOk (outcome cs a) P) → IfOk (cond b (Err c.1) (outcome cs a)) P
    go true h e on = tt
    go false h e on = on (h e)
