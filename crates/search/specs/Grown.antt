-- The trees of a sheet and a question. Quotations are of document 01.
use Rattle.std.specs.Prelude.{ℕ, Bool, true, false, List, [], ◌∷◌, ◌++◌, map, eqb}
use Rattle.search.specs.Models.{holds, part, Preference, containment}
use Rattle.search.specs.Search.{Game}
use Rattle.search.specs.Tree.{Tree, closed, full, fork}
use Rattle.sheet.specs.Literals.{Lit, pos, neg, complement, plains}
use Rattle.sheet.specs.Order.{branch}
use Rattle.sheet.specs.Reading.{Sheet}
use Rattle.words.specs.Lists.{any, all, pick}

abbrev pub same_lit : Lit → Lit → Bool
same_lit (pos a) (pos b) = eqb a b
same_lit (pos a) (neg b) = false
same_lit (neg a) (pos b) = false
same_lit (neg a) (neg b) = eqb a b

-- "A node is a prefix of the branch order with values": the literals that it makes true, in that order
abbrev pub Node : Type 0
Node = List Lit

-- the literal is false at the node: its complement is made true there
abbrev pub false_at : Node → Lit → Bool
false_at w l = any (same_lit (complement l)) w

-- a rule that closes nodes, by the clauses of a walk
abbrev pub Rule : Type 0
Rule = List (List Lit) → Node → Bool

-- "A node is closed if every literal of some clause is false there."
unfoldable pub falsified : Rule
falsified clauses w = any (λ c. all (false_at w) c) clauses

-- the tree below the node w, where the literals of a branch order are still to be tried, each made true first. "An open node of depth n is a
-- full node"; it is the model in which the atoms that it makes true are true.
unfoldable pub grow : (Node → Bool) → List Lit → Node → Tree ℕ
grow closes [] w = elim (closes w) [ true ↦ closed | false ↦ full (plains w) ]
grow closes (l ∷ ls) w =
    elim (closes w) [ true ↦ closed | false ↦ fork (grow closes ls (w ++ (l ∷ []))) (grow closes ls (w ++ (complement l ∷ []))) ]

-- a literal as a clause of its own: a node where it is false is closed
abbrev pub unit : Lit → List Lit
unit l = l ∷ []

-- "Candidate walk. Also closed if q is false."
abbrev pub candidate_clauses : Sheet → Lit → List (List Lit)
candidate_clauses x q = unit q ∷ x.clauses

-- "Test. .. Also closed if q is true, or if an objective that the candidate satisfies is false."
abbrev pub test_clauses : Preference → Sheet → Lit → ℕ → List (List Lit)
test_clauses p x q m = unit (complement q) ∷ map unit (pick (holds m) (p.kept x.objectives)) ++ x.clauses

-- what is searched for the question q
unfoldable pub game : Rule → Preference → Sheet → Lit → Game
game rule p x q =
    record {
      part = part x.objectives;
      worse = p.worse;
      candidates = grow (rule (candidate_clauses x q)) (branch x) [];
      rivals = λ m. grow (rule (test_clauses p x q m)) (branch x) [];
    }

-- the question q posed on the sheet x, by the rules of this document
abbrev pub posed : Sheet → Lit → Game
posed = game falsified containment
