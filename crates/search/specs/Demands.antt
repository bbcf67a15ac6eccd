-- Demands 2 and 3 of what is told of a question q on a sheet x: a code and the counts of the walk. Quotations are of the brief.
use Rattle.std.specs.Prelude.{ℕ, ◌≤◌, true, ◌⊎◌, ◌↔◌, ◌≡◌, length}
use mathlib.Core.List.{[], ◌∷◌, Memᴰ as Mem}
use Rattle.search.specs.Maximal.{maximal_parts}
use Rattle.search.specs.Models.{holds, affirming, denying, Preference, Optimal, earlier}
use Rattle.sheet.specs.Literals.{Lit}
use Rattle.sheet.specs.Reading.{Sheet}

-- the walk was not cut off
abbrev pub Finished : ℕ → Type 0
Finished code = (code ≡ 18 → ⊥) × (code ≡ 19 → ⊥)

module _ (p : Preference) (x : Sheet) (q : Lit) where
  -- "some optimal model satisfies the question"
  abbrev pub Possible : Type 0
  Possible = (m : ℕ) × Optimal p x m × (holds m q ≡ true)

  -- m is "the first such model in reading order"
  pub record First (m : ℕ) : Type 0 where
    pub optimal : Optimal p x m
    pub affirms : holds m q ≡ true
    pub first : (u : ℕ) → Optimal p x u → holds u q ≡ true → (u ≡ m) ⊎ (earlier x m u ≡ true)

  -- Demand 2. "yes exactly if some optimal model satisfies the question, shown by the first such model in reading order; no exactly if there is
  -- none. Refusals 18 and 19 come exactly where the defined walk meets them." `Shows m`: the model shown is m.
  pub record Demand2 (allowance places code steps stored : ℕ) (Shows : ℕ → Type 0) : Type 0 where
    pub codes : Mem code (1 ∷ 2 ∷ 18 ∷ 19 ∷ [])
    pub affirmed : Finished code → (code ≡ 1) ↔ Possible
    pub denied : Finished code → (code ≡ 2) ↔ (Possible → ⊥)
    pub shown : code ≡ 1 → (m : ℕ) × First m × Shows m
    pub allowed : steps ≤ allowance
    pub cut_there : code ≡ 18 → steps ≡ allowance
    pub full_there : code ≡ 19 → stored ≡ places

  -- Demand 3. "the tests begun are no more than the distinct maximal parts among models that satisfy the question, and the parts stored no more
  -- than the distinct maximal parts among models that do not. So a store with that second number of places is never refused for places."
  pub record Demand3 (places code tests stored : ℕ) : Type 0 where
    pub few_tests : tests ≤ length (maximal_parts p x (affirming x q))
    pub few_stored : stored ≤ length (maximal_parts p x (denying x q))
    pub enough : length (maximal_parts p x (denying x q)) ≤ places → code ≡ 19 → ⊥
