-- What the calls from other languages answer and write.
use Rattle.std.specs.Prelude.{ℕ, List, [], ◌∷◌, length, get_or}
use Rattle.query.specs.Query.{Numbers, reply_of}
use Rattle.sheet.specs.Reading.{Reading, refused, understood}

-- "that call answers 10 to 15, or n, m and k": the number, or 0
abbrev pub check_code : Reading → ℕ
check_code (refused c) = c
check_code (understood x) = 0

-- the three lent words afterwards: n, m and k, or what they were
abbrev pub sizes_of : Reading → List ℕ → List ℕ
sizes_of (refused c) before = before
sizes_of (understood x) before = x.atoms ∷ length x.clauses ∷ length x.objectives ∷ []

-- "steps, tests, stored": the three lent words afterwards
abbrev pub counts_of : Numbers → List ℕ
counts_of r = r.steps ∷ r.tests ∷ r.stored ∷ []

-- the reply that a code and those words are
abbrev pub reply_in : ℕ → List ℕ → Numbers
reply_in code words = reply_of code (get_or words 0 0) (get_or words 1 0) (get_or words 2 0)
