-- `any` of a chain over a list is that of the definitions, from the front and from the back. Assumes nothing.
use Rattle.std.proofs.Common.{Bool, ◌||◌, List, [], ◌∷◌, ◌≡◌, refl, sym, ap, ◌∙◌, reverse}
use Rattle.std.proofs.lemmas.List.Sorted.{list_any-IsPermutation, IsPermutation-reverse}
use Rattle.std.specs.List.{list_any}
use Rattle.words.proofs.Members.{any_cons}
use Rattle.words.specs.Lists.{any}

module _ {A : Type 0} (f : A → Bool) where
  pub any_listed : (xs : List A) → list_any f xs ≡ any f xs
  any_listed [] = refl
  any_listed (x ∷ xs) = ap (λ (b : Bool). f x || b) (any_listed xs) ∙ sym (any_cons f x xs)

  pub any_reversed : (xs : List A) → list_any f (reverse xs) ≡ any f xs
  any_reversed xs = sym (list_any-IsPermutation f xs (reverse xs) (IsPermutation-reverse xs)) ∙ any_listed xs
