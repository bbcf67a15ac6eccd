-- Lists: tests over them, each of which stops at the first entry that decides it; a list written over another; the numbers that are gone
-- through; when entries are distinct.
use Rattle.std.specs.Prelude.{ℕ, zero, suc, Bool, true, false, length, drop, List, [], ◌∷◌, ◌++◌}
use mathlib.Core.List.{Memᴰ as Mem}

module _ {A : Type 0} where
  -- some entry passes
  abbrev pub any : (A → Bool) → List A → Bool
  any f [] = false
  any f (x ∷ xs) = elim (f x) [ true ↦ true | false ↦ any f xs ]

  -- every entry passes
  abbrev pub all : (A → Bool) → List A → Bool
  all f [] = true
  all f (x ∷ xs) = elim (f x) [ true ↦ all f xs | false ↦ false ]

  -- the entries that pass, in order
  abbrev pub pick : (A → Bool) → List A → List A
  pick f [] = []
  pick f (x ∷ xs) = elim (f x) [ true ↦ x ∷ pick f xs | false ↦ pick f xs ]

  -- xs in the first places of ys, whose other places are as they were
  abbrev pub over : List A → List A → List A
  over xs ys = xs ++ drop (length xs) ys

-- 0, 1, 2 and so on: n numbers
unfoldable pub below : ℕ → List ℕ
below zero = []
below (suc n) = below n ++ (n ∷ [])

-- no entry stands twice
abbrev pub Distinct : {A : Type 0} → List A → Type 0
Distinct [] = Unit {0}
Distinct (x ∷ xs) = (Mem x xs → ⊥) × Distinct xs
