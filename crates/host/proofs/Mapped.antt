-- Laws of `map` of an array.
--   served      the function may be called at each member, where it may be at each index
--   mapped      where each call gives h of its argument, what comes of it is h of each member
use Prim.Native.Nat.{ℕ, ◌<◌}
use native.Mathlib.Omega.{arith}
use mathlib.Core.Path.{◌≡◌, refl, sym, ap, ◌∙◌, subst}
use mathlib.Core.List.{List, [], ◌∷◌, ◌++◌, map}
use lib.ListN.{length, get_or, length-map, length-append}
use denote.Param.Members.{Mut}
use Rattle.std.specs.Fn.{Called}
use Rattle.std.specs.Iterator.{Yields, CallableAtEachTurn}
use Rattle.std.specs.Array.{IsMapOf, list_steps}
use Rattle.std.proofs.lemmas.List.{same_lists, get_or-map}

module _ {A : Type 0} where
  at-end : (xs : List A) (x : A) (u : List A) (d : A) → get_or (xs ++ (x ∷ u)) (length xs) d ≡ x
  at-end [] x u d = refl
  at-end (y ∷ xs) x u d = at-end xs x u d

  yielded : (s xs t : List A) → Yields list_steps s xs t → s ≡ xs ++ t
  yielded s [] t e = e
  yielded s (x ∷ xs) t y = y.1 ∙ ap (λ (l : List A). x ∷ l) (yielded y.0 xs t y.2)

  pub served : {P : Type 0} (R : P → A → P → Type 0) (Q : P → A → Type 0) (s : List A) (p : P) → ((i : ℕ) (d : A) (q : P) → i < length s → Q q (get_or s i d)) → CallableAtEachTurn list_steps R Q s p
  served {P} R Q s p h = record {
    at = λ xs t q x u y f l.
        let e : s ≡ xs ++ (x ∷ u) = yielded s xs t y ∙ ap (λ (k : List A). xs ++ k) l in
        subst (Q q) (ap (λ (k : List A). get_or k (length xs) x) e ∙ at-end xs x u x) (h (length xs) x q (omega (arith, ap length e, length-append xs (x ∷ u))));
  }

module _ {F A B : Type 0} (g : Mut F (A × Unit {0}) B) (h : A → B) (calls : (p : F) (x : A) (y : B) (q : F) → Called g p (x, tt) y q → y ≡ h x) where
  pub mapped : (f : F) (xs : List A) (ys : List B) (n : ℕ) → length xs ≡ n → IsMapOf g f xs ys n → ys ≡ map h xs
  mapped f [] ys n e m = same_lists ys [] (m.long ∙ sym e) (λ k d l. absurd (omega (arith, m.long, e, l)))
  mapped f (x ∷ xs) ys n e m = same_lists ys (map h (x ∷ xs)) (m.long ∙ sym e ∙ sym (length-map (x ∷ xs) h)) (λ k d l.
      let c = m.at k x d (omega (arith, m.long, l)) in
      calls c.0 _ _ c.1 c.2 ∙ sym (get_or-map h (x ∷ xs) k x d (omega (arith, m.long, e, l))))
