-- Models of a sheet, their parts, which of them are optimal, and the reading order. Quotations are of document 01.
use Rattle.std.specs.Prelude.{ℕ, ◌-◌, Bool, true, false, not, cond, ◌≡◌, length, get_or}
use Rattle.std.specs.Bool.{beq}
use mathlib.Core.List.{List, [], ◌∷◌, ◌++◌, map, Memᴰ as Mem}
use Rattle.sheet.specs.Literals.{Lit, pos, neg, complement}
use Rattle.sheet.specs.Order.{valued, readings}
use Rattle.sheet.specs.Reading.{Sheet}
use Rattle.words.specs.Lists.{any, all, pick, below}
use Rattle.words.specs.Positions.{has, adding, set_of, strictly_within}

-- ---- models

-- the value of atom a under m, a word in which atom a is position a - 1
unfoldable pub value : ℕ → ℕ → Bool
value m a = has m (a - 1)

-- the literal is true under the values m
abbrev pub holds : ℕ → Lit → Bool
holds m (pos a) = value m a
holds m (neg a) = not (value m a)

-- "A model satisfies at least one literal of each clause; an empty clause has no model."
unfoldable pub satisfies : List (List Lit) → ℕ → Bool
satisfies clauses m = all (λ c. any (holds m) c) clauses

-- every way to give values to some atoms
unfoldable pub valuations : List ℕ → List ℕ
valuations [] = 0 ∷ []
valuations (a ∷ atoms) = map (λ m. adding m (a - 1)) (valuations atoms) ++ valuations atoms

-- "it takes a model to be a value for every atom 1 to n that the sheet declares"
unfoldable pub models : Sheet → List ℕ
models x = pick (satisfies x.clauses) (valuations (valued x))

-- "An affirming model satisfies q; a denying model satisfies its complement."
abbrev pub affirming : Sheet → Lit → List ℕ
affirming x q = pick (λ m. holds m q) (models x)

abbrev pub denying : Sheet → Lit → List ℕ
denying x q = affirming x (complement q)

-- ---- parts, and optimal models

-- "The part of a model is the set of objective positions whose literal it satisfies." (`pos 0` would stand past the last
-- objective; no position goes there.)
unfoldable pub part : List Lit → ℕ → ℕ
part objectives m = set_of (pick (λ i. holds m (get_or objectives i (pos 0))) (below (length objectives)))

-- How parts are compared, `worse p q` where q is the better part, and which of the objectives a test keeps.
pub record Preference : Type 0 where
  pub worse : ℕ → ℕ → Bool
  pub kept : List Lit → List Lit

-- one part is better than another if it strictly contains it; every objective is kept
abbrev pub containment : Preference
containment = record { worse = strictly_within; kept = λ objectives. objectives }

-- "A model is optimal if no model has a part that strictly contains its own."
pub record Optimal (p : Preference) (x : Sheet) (m : ℕ) : Type 0 where
  pub model : Mem m (models x)
  pub unbeaten : (u : ℕ) → Mem u (models x) → p.worse (part x.objectives m) (part x.objectives u) ≡ true → ⊥

-- ---- the reading order

-- m comes before u as far as these literals go: "at the first that differs, the one with true comes first"
unfoldable pub before : List Lit → ℕ → ℕ → Bool
before [] m u = false
before (l ∷ ls) m u = cond (beq (holds m l) (holds u l)) (before ls m u) (holds m l)

-- "Of two models, look at objective positions from 0: at the first where satisfaction differs, the satisfying model comes first. If none
-- differs, look at atoms from 1: at the first that differs, the one with true comes first."
unfoldable pub earlier : Sheet → ℕ → ℕ → Bool
earlier x m u = before (readings x) m u
