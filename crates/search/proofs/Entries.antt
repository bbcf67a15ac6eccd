-- Entries of one key, and lists in which each entry comes before all later ones. Assumes nothing.
use mathlib.Core.Bool.{Bool, true}
use mathlib.Core.List.Memᴰ.{append_cases}
use mathlib.Core.List.Memᴰ.{cases_cons}
use mathlib.Core.List.Memᴰ.{cast}
use mathlib.Core.List.Memᴰ.{head}
use mathlib.Core.List.Memᴰ.{map as mem_map}
use mathlib.Core.List.Memᴰ.{not-nil}
use mathlib.Core.List.Memᴰ.{tail}
use mathlib.Core.List.{List, [], ◌∷◌, ◌++◌, map, Memᴰ as Mem}
use mathlib.Core.Logic.{◌⊎◌, inl, inr, ⊎_elim}
use mathlib.Core.Path.{◌≡◌, refl, sym, ap, ◌∙◌}
use Rattle.words.specs.Lists.{Distinct}

-- ---- where no key stands twice, entries with one key are one

pub one_key : {A B : Type 0} (key : A → B) (xs : List A) → Distinct (map key xs) → (x y : A) → Mem x xs → Mem y xs → key x ≡ key y → x ≡ y
one_key key [] d x y h k e = absurd (not-nil h)
one_key key (z ∷ xs) d x y h k e = go (cases_cons h) (cases_cons k) (λ h k. one_key key xs d.1 x y h k e)
  where
    go : (x ≡ z) ⊎ Mem x xs → (y ≡ z) ⊎ Mem y xs → (Mem x xs → Mem y xs → x ≡ y) → x ≡ y
    go (inl f) (inl g) later = f ∙ sym g
    go (inl f) (inr k) later = absurd (d.0 (cast (sym (ap key f) ∙ e) (mem_map key k)))
    go (inr h) (inl g) later = absurd (d.0 (cast (sym (ap key g) ∙ sym e) (mem_map key h)))
    go (inr h) (inr k) later = later h k

-- ---- each entry before all later ones

module _ {A : Type 0} where
  -- each entry passes the test with every later one
  abbrev pub Sorted : (A → A → Bool) → List A → Type 0
  Sorted r [] = Unit {0}
  Sorted r (x ∷ xs) = ((y : A) → Mem y xs → r x y ≡ true) × Sorted r xs

  pub sorted_append : (r : A → A → Bool) (xs ys : List A) → Sorted r xs → Sorted r ys → ((x y : A) → Mem x xs → Mem y ys → r x y ≡ true) → Sorted r (xs ++ ys)
  sorted_append r [] ys s t across = t
  sorted_append r (x ∷ xs) ys s t across =
      (λ y h. ⊎_elim (s.0 y) (across x y (head refl)) (append_cases xs h), sorted_append r xs ys s.1 t (λ x y h k. across x y (tail h) k))

  -- by another test, which passes among the entries where the first does
  pub sorted_by : (r t : A → A → Bool) (xs : List A) → ((x y : A) → Mem x xs → Mem y xs → r x y ≡ true → t x y ≡ true) → Sorted r xs → Sorted t xs
  sorted_by r t [] f s = tt
  sorted_by r t (x ∷ xs) f s = (λ y h. f x y (head refl) (tail h) (s.0 y h), sorted_by r t xs (λ x y h k. f x y (tail h) (tail k)) s.1)

  pub sorted_later : (r : A → A → Bool) (before after : List A) (x y : A) → Sorted r (before ++ x ∷ after) → Mem y after → r x y ≡ true
  sorted_later r [] after x y s h = s.0 y h
  sorted_later r (z ∷ before) after x y s h = sorted_later r before after x y s.1 h
