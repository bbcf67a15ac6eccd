-- The numbers of demand 3: distinct maximal parts among some models. Quotations are of the brief.
use Rattle.std.specs.Prelude.{ℕ, Bool, true, false, not, List, [], ◌∷◌, map, eqb}
use Rattle.search.specs.Models.{part, Preference}
use Rattle.sheet.specs.Reading.{Sheet}
use Rattle.words.specs.Lists.{any, pick}

-- the list without the entries that stand again later in it
abbrev pub distinct : List ℕ → List ℕ
distinct [] = []
distinct (x ∷ xs) = elim (any (eqb x) xs) [ true ↦ distinct xs | false ↦ x ∷ distinct xs ]

-- the parts than which no part of the list is better
abbrev pub topmost : (ℕ → ℕ → Bool) → List ℕ → List ℕ
topmost worse ps = pick (λ p. not (any (worse p) ps)) ps

-- "the distinct maximal parts among models": of the models ms
unfoldable pub maximal_parts : Preference → Sheet → List ℕ → List ℕ
maximal_parts p x ms = distinct (topmost p.worse (map (part x.objectives) ms))
