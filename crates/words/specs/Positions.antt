-- Sets of positions, each a word: position i is bit i, from 0. A word of 64 bits holds the positions below 64.
use Rattle.std.specs.Prelude.{ℕ, ◌+◌, ◌/◌, ◌%◌, ◌^◌, Bool, not, cond, ◌&&◌, ◌||◌, List, [], ◌∷◌, eqb}
use Rattle.words.specs.Lists.{all, below}

-- position i is in the set w
unfoldable pub has : ℕ → ℕ → Bool
has w i = eqb (w / 2 ^ i % 2) 1

-- every position of a is one of b
unfoldable pub within : ℕ → ℕ → Bool
within a b = all (λ i. not (has a i) || has b i) (below 64)

-- every position of a is one of b, and not every position of b is one of a
unfoldable pub strictly_within : ℕ → ℕ → Bool
strictly_within a b = within a b && not (within b a)

-- the set w and position i
unfoldable pub adding : ℕ → ℕ → ℕ
adding w i = cond (has w i) w (w + 2 ^ i)

-- the set of the positions in a list
unfoldable pub set_of : List ℕ → ℕ
set_of [] = 0
set_of (i ∷ is) = adding (set_of is) i
