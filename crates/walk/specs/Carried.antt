-- How the code carries the search: its words for nodes and conditions, its enums and structs for the ends of a walk. No promise to an outside
-- caller rests on this file; it links the code's own functions.
use Rattle.std.specs.Prelude.{ℕ, ◌≤◌, Bool, true, false, List, [], ◌∷◌, ◌++◌, map, ◌≡◌, length, take, drop, Option, Some, None}
use Rattle.prepare.specs.Carried.{sets_of, Placed, Clauses, Prepared}
use Rattle.prepare.specs.declared.clauses.Literals.{Literals}
use Rattle.prepare.specs.declared.network.Network.{Network}
use Rattle.search.specs.Grown.{falsified, unit, grow, candidate_clauses, posed}
use Rattle.search.specs.Models.{part}
use Rattle.search.specs.Search.{State, start, Answer, Yes, Cut, NoPlace, Stop, spent, found, visit, visit_candidate, settle, judge, search as searched, answered}
use Rattle.search.specs.Tree.{Run, on, off, walk}
use Rattle.sheet.specs.Enums.{lit}
use Rattle.sheet.specs.Literals.{Lit, complement, literal}
use Rattle.sheet.specs.Reading.{Sheet}
use Rattle.sheet.specs.declared.literal.Literal.{Literal}
use Rattle.walk.specs.declared.candidates.Ending.TheVariants.{Affirmed, Exhausted, Full}
use Rattle.walk.specs.declared.candidates.Ending.{Ending}
use Rattle.walk.specs.declared.candidates.Search.{Search}
use Rattle.walk.specs.declared.candidates.Walked.{Walked}
use Rattle.walk.specs.declared.test.Test.{Test}
use Rattle.walk.specs.declared.test.Tried.TheVariants.{Missed, Found, Spent}
use Rattle.walk.specs.declared.test.Tried.{Tried}
use Rattle.words.specs.Positions.{strictly_within}

-- ---- a node

-- the clauses cs, the literals us that must hold and the node w, as the code's words: its ban has the complements of us
pub record Stand (cs : List (List Lit)) (us w : List Lit) (sets : List Literals) (ban node : Literals) : Type 0 where
  pub clauses : Clauses cs sets
  pub banned : ban ≡ sets_of (map complement us)
  pub conditions : Placed us
  pub made : node ≡ sets_of w
  pub decided : Placed w

-- whatever the words stand for, b tells whether the node is closed
abbrev pub TellsClosed : List Literals → (ban node : Literals) → Bool → Type 0
TellsClosed sets ban node b = (cs : List (List Lit)) (us w : List Lit) → Stand cs us w sets ban node → b ≡ falsified (map unit us ++ cs) w

-- ---- a test

-- a full node of the test of a candidate with the part p
unfoldable pub meet_part : List Lit → ℕ → ℕ → ℕ → Run ℕ Stop
meet_part os p m n = elim (strictly_within p (part os m)) [ true ↦ off n (found (part os m)) | false ↦ on n ]

-- the test of a candidate with the part p, below the node w, where the literals us must hold
abbrev pub test_below : (cs : List (List Lit)) (us os order w : List Lit) (p allowance : ℕ) → ℕ → Run ℕ Stop
test_below cs us os order w p allowance = walk (visit spent allowance) (meet_part os p) (grow (falsified (map unit us ++ cs)) order w)

-- how a test ended, in the document's terms
abbrev pub told : Tried → Run ℕ Stop
told (Missed n) = on n
told (Found n p) = off n (found p)
told (Spent n) = off n spent

-- the steps so far
abbrev pub steps_of : Tried → ℕ
steps_of (Missed n) = n
steps_of (Found n p) = n
steps_of (Spent n) = n

-- the literals of the order from a depth on
abbrev pub order_from : ℕ → Network → List Lit
order_from depth n = map literal (drop depth n.order.bytes.now)

-- whatever the words stand for, r tells the test t below the node, where the order is tried from a depth on
abbrev pub TellsTest : (t : Test) (depth : ℕ) (node : Literals) (steps : ℕ) → Tried → Type 0
TellsTest t depth node steps r =
    (cs : List (List Lit)) (us w : List Lit) → Stand cs us w t.network.clauses.now t.ban node
    → told r ≡ test_below cs us (map literal t.network.objectives.bytes.now) (order_from depth t.network) w t.candidate t.allowance steps

-- ---- the candidate walk

-- the parts stored stand in the first places of the store
abbrev pub parts_in : ℕ → List ℕ → List ℕ
parts_in count store = take count store

abbrev pub state_of : Walked → List ℕ → State
state_of w store = record { steps = w.steps; tests = w.tests; stored = parts_in w.stored store }

abbrev pub ended_as : Option Ending → State → Run State Answer
ended_as None s = on s
ended_as (Some (Affirmed m)) s = off s (Yes m)
ended_as (Some Exhausted) s = off s Cut
ended_as (Some Full) s = off s NoPlace

-- the answer that an ending comes to, or that there is none, whatever the state
abbrev pub answer_of : Option Ending → Answer
answer_of e = answered (ended_as e start)

-- how far the candidate walk is, in the document's terms
abbrev pub run_of : Walked → List ℕ → Run State Answer
run_of w store = ended_as w.ending (state_of w store)

-- what the counts of a walk keep to
pub record InBounds (w : Walked) (store : List ℕ) : Type 0 where
  pub fewer : w.tests ≤ w.steps
  pub room : w.stored ≤ length store

-- r comes after a walk with so many parts stored: none of them goes, and the places after the stored ones stay as they were
pub record Onward (stored : ℕ) (r : Walked) (before after : List ℕ) : Type 0 where
  pub bounded : InBounds r after
  pub grown : stored ≤ r.stored
  pub rest : drop r.stored after ≡ drop r.stored before

-- r tells how the walk w, in which the test of a model is counted, goes on after that test
abbrev pub TellsSettled : Tried → (model : ℕ) (w r : Walked) → (before after : List ℕ) → Type 0
TellsSettled tried model w r before after =
    (s : State) → s.tests ≡ w.tests → s.stored ≡ parts_in w.stored before → run_of r after ≡ settle (length before) model s (told tried)

-- whatever sheet the search s is of, r tells what the walk w comes to by the candidate `model`
abbrev pub TellsJudged : (s : Search) (model : ℕ) (w r : Walked) (before after : List ℕ) → Type 0
TellsJudged s model w r before after =
    (x : Sheet) → Prepared x s.network
    → run_of r after ≡ judge (posed x (lit s.question)) s.allowance (length before) model (state_of w before)

-- the candidate walk below the node w, where the literals ls are still to be tried
abbrev pub candidates_below : (x : Sheet) (q : Lit) (allowance places : ℕ) (ls w : List Lit) → State → Run State Answer
candidates_below x q allowance places ls w =
    walk (visit_candidate allowance) (judge (posed x q) allowance places) (grow (falsified (candidate_clauses x q)) ls w)

-- whatever sheet and node the search s is of, r tells what the walk w comes to below the node, where the order is tried from a depth on
abbrev pub TellsRoamed : (s : Search) (depth : ℕ) (node : Literals) (w r : Walked) (before after : List ℕ) → Type 0
TellsRoamed s depth node w r before after =
    (x : Sheet) (v : List Lit) → Prepared x s.network → Stand x.clauses (lit s.question ∷ []) v s.network.clauses.now s.ban node
    → run_of r after ≡ candidates_below x (lit s.question) s.allowance (length before) (order_from depth s.network) v (state_of w before)

-- whatever sheet the network is of, r tells the search of it for the question
abbrev pub TellsSearched : (n : Network) (question : Literal) (allowance : ℕ) → Walked → (before after : List ℕ) → Type 0
TellsSearched n question allowance r before after =
    (x : Sheet) → Prepared x n → run_of r after ≡ searched (posed x (lit question)) allowance (length before)
