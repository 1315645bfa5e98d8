-- Laws of `map` of an array.
--   mapped      where each call gives h of its argument, what comes of it is h of each member
use Prim.Native.Nat.{ℕ}
use native.Mathlib.Omega.{arith}
use mathlib.Core.Path.{◌≡◌, sym, ◌∙◌}
use mathlib.Core.List.{List, [], ◌∷◌, map}
use lib.ListN.{length, length-map}
use denote.Param.Members.{Mut}
use Rattle.std.specs.Fn.{Called}
use Rattle.std.specs.Array.{IsMapOf}
use Rattle.std.proofs.lemmas.List.{same_lists, get_or-map}

module _ {F A B : Type 0} (g : Mut F (A × Unit {0}) B) (h : A → B) (calls : (p : F) (x : A) (y : B) (q : F) → Called g p (x, tt) y q → y ≡ h x) where
  pub mapped : (f : F) (xs : List A) (ys : List B) (n : ℕ) → length xs ≡ n → IsMapOf g f xs ys n → ys ≡ map h xs
  mapped f [] ys n e m = same_lists ys [] (m.long ∙ sym e) (λ k d l. absurd (omega (arith, m.long, e, l)))
  mapped f (x ∷ xs) ys n e m = same_lists ys (map h (x ∷ xs)) (m.long ∙ sym e ∙ sym (length-map (x ∷ xs) h)) (λ k d l.
      let c = m.at k x d (omega (arith, m.long, l)) in
      calls c.0 _ _ c.1 c.2 ∙ sym (get_or-map h (x ∷ xs) k x d (omega (arith, m.long, e, l))))
