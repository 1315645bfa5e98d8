-- The form of every answer: a call is refused by the first condition that holds, in the stated order, and accepted where none does. Definitions only.
--   number r, r1 to r15    the number of a refusal; the refusals by their numbers
--   Checks                 conditions with their refusals, in order
--   places_from p i n      of n places from i on, the conditions p of each in turn
--   answer cs accepted refused     what a call gives: `accepted`, or what goes with the number of the first condition that holds
--   first_refusal cs       that number, and 0 where none holds
--   outcome cs accepted    the same as a Result: `Ok accepted`, or `Err` of the refusal whose condition is the first to hold
--   refused_where c r      that of one condition
--   refusal_in answer      the number of a Result: 0 for `Ok`
--   value_or other answer  what a Result holds; `other` where it is refused
--   afterwards cs new old  what a lent buffer holds after the call: `new`, or `old` where it is refused
--   condition cs i, FirstAt cs i     the condition at place i holds; it is the first to hold
--   First cs n             a condition with the number n is the first to hold
use Rattle.std.specs.Prelude.{ℕ, zero, suc, ◌<◌, ◌≡◌, Bool, true, false, cond, List, [], ◌∷◌, ◌++◌, get_or, Result, Ok, Err}
use Rattle.refusals.specs.declared.refusal.Refusal.{Refusal}
use Rattle.refusals.specs.declared.refusal.Refusal.TheVariants.{FileLength, WordKind, Level, Sizes, Digits, Repeated, Figure, End, Length, Observed, Value, Buffer, Ended, Spoiled, Shops}

-- ---- the refusals by their numbers

abbrev pub number : Refusal → ℕ
number FileLength = 1
number WordKind = 2
number Level = 3
number Sizes = 4
number Digits = 5
number Repeated = 6
number Figure = 7
number End = 8
number Length = 9
number Observed = 10
number Value = 11
number Buffer = 12
number Ended = 13
number Spoiled = 14
number Shops = 15

-- because of the input
abbrev pub r1 : Refusal
r1 = FileLength

abbrev pub r2 : Refusal
r2 = WordKind

abbrev pub r3 : Refusal
r3 = Level

abbrev pub r4 : Refusal
r4 = Sizes

abbrev pub r5 : Refusal
r5 = Digits

abbrev pub r6 : Refusal
r6 = Repeated

abbrev pub r7 : Refusal
r7 = Figure

abbrev pub r8 : Refusal
r8 = End

abbrev pub r9 : Refusal
r9 = Length

abbrev pub r10 : Refusal
r10 = Observed

abbrev pub r11 : Refusal
r11 = Value

-- because of the state
abbrev pub r12 : Refusal
r12 = Buffer

abbrev pub r13 : Refusal
r13 = Ended

abbrev pub r14 : Refusal
r14 = Spoiled

-- because of the input: shops without partners
abbrev pub r15 : Refusal
r15 = Shops

abbrev pub Checks : Type 0
Checks = List (Bool × Refusal)

unfoldable pub places_from : (ℕ → Checks) → ℕ → ℕ → Checks
places_from p i zero = []
places_from p i (suc n) = p i ++ places_from p (suc i) n

unfoldable pub answer : {A : Type 0} → Checks → A → (ℕ → A) → A
answer [] accepted refused = accepted
answer (c ∷ cs) accepted refused = cond c.0 (refused (number c.1)) (answer cs accepted refused)

abbrev pub outcome : {A : Type 0} → Checks → A → Result A Refusal
outcome [] accepted = Ok accepted
outcome (c ∷ cs) accepted = cond c.0 (Err c.1) (outcome cs accepted)

abbrev pub refused_where : Bool → Refusal → Result (Unit {0}) Refusal
refused_where c r = cond c (Err r) (Ok tt)

abbrev pub refusal_in : {A : Type 0} → Result A Refusal → ℕ
refusal_in (Ok a) = 0
refusal_in (Err r) = number r

abbrev pub value_or : {A : Type 0} → A → Result A Refusal → A
value_or other (Ok a) = a
value_or other (Err r) = other

unfoldable pub first_refusal : Checks → ℕ
unfolding answer
first_refusal cs = answer cs 0 (λ n. n)

abbrev pub afterwards : {A : Type 0} → Checks → A → A → A
afterwards cs new old = answer cs new (λ _. old)

-- ---- what demand 1 says of an ordered list

abbrev pub condition : Checks → ℕ → Bool
condition cs i = (get_or cs i (false, r1)).0

pub record FirstAt (cs : Checks) (i : ℕ) : Type 0 where
  pub here : condition cs i ≡ true
  pub earlier : (j : ℕ) → j < i → condition cs j ≡ false

pub record First (cs : Checks) (n : ℕ) : Type 0 where
  pub place : ℕ
  pub first : FirstAt cs place
  pub numbered : number (get_or cs place (false, r1)).1 ≡ n
