-- The candidate walk and its tests, over a tree of candidates and a tree of rivals for each of them. Quotations are of document 01.
use Rattle.std.specs.Prelude.{ℕ, ◌+◌, Bool, true, false, List, [], ◌∷◌, ◌++◌, ltb, length}
use Rattle.search.specs.Tree.{Tree, Run, on, off, walk}
use Rattle.words.specs.Lists.{any}

-- What is searched. `worse p q`: the part q is better than the part p.
pub record Game : Type 0 where
  pub part : ℕ → ℕ
  pub worse : ℕ → ℕ → Bool
  pub candidates : Tree ℕ
  pub rivals : ℕ → Tree ℕ

-- "Steps count visits of both walks. Tests counts those begun." and the parts stored, in the order found
pub record State : Type 0 where
  pub steps : ℕ
  pub tests : ℕ
  pub stored : List ℕ

-- how the search ends
pub data Answer : Type 0 where
  Yes : ℕ → Answer
  No Cut NoPlace : Answer

-- why a test ends before its last visit: the steps are spent, or it found a part
pub data Stop : Type 0 where
  spent : Stop
  found : ℕ → Stop

-- "another visit is due and steps equal the allowance": a visit is made while the steps are below the allowance, and they never pass it
unfoldable pub visit : {A : Type 0} → A → ℕ → ℕ → Run ℕ A
visit cut allowance steps = elim (ltb steps allowance) [ true ↦ on (steps + 1) | false ↦ off steps cut ]

abbrev pub with_steps : State → ℕ → State
with_steps s n = record { steps = n; tests = s.tests; stored = s.stored }

abbrev pub with_test : State → State
with_test s = record { steps = s.steps; tests = s.tests + 1; stored = s.stored }

abbrev pub with_part : State → ℕ → State
with_part s p = record { steps = s.steps; tests = s.tests; stored = s.stored ++ (p ∷ []) }

abbrev pub start : State
start = record { steps = 0; tests = 0; stored = [] }

-- a run that counts steps, as a run of the state s
abbrev pub from : {A : Type 0} → State → Run ℕ A → Run State A
from s (on n) = on (with_steps s n)
from s (off n a) = off (with_steps s n) a

-- a visit of the candidate walk
abbrev pub visit_candidate : ℕ → State → Run State Answer
visit_candidate allowance s = from s (visit Cut allowance s.steps)

-- 19: "a test finds a part and no store place is free"; otherwise "that part is stored"
unfoldable pub store : ℕ → ℕ → State → Run State Answer
store places p s = elim (ltb (length s.stored) places) [ true ↦ on (with_part s p) | false ↦ off s NoPlace ]

-- how the candidate walk goes on after the test of m: "If it finds none, the answer is yes with the candidate. If it finds one, that part is
-- stored and the candidate walk goes on."
abbrev pub settle : ℕ → ℕ → State → Run ℕ Stop → Run State Answer
settle places m s (on n) = off (with_steps s n) (Yes m)
settle places m s (off n spent) = off (with_steps s n) Cut
settle places m s (off n (found p)) = store places p (with_steps s n)

module _ (g : Game) where
  -- a full node of the test of c: "It finds the first full node whose part strictly contains the candidate's, and stops there."
  unfoldable pub meet : ℕ → ℕ → ℕ → Run ℕ Stop
  meet c m n = elim (g.worse (g.part c) (g.part m)) [ true ↦ off n (found (g.part m)) | false ↦ on n ]

  module _ (allowance : ℕ) where
    -- "Test. A walk of its own from the root."
    unfoldable pub test : ℕ → ℕ → Run ℕ Stop
    test c = walk (visit spent allowance) (meet c) (g.rivals c)

    module _ (places : ℕ) where
      -- "Each full node is a candidate. If its part lies strictly within a stored part it is passed over. Otherwise a test begins."
      unfoldable pub judge : ℕ → State → Run State Answer
      judge m s =
          elim (any (g.worse (g.part m)) s.stored)
          [ true ↦ on s | false ↦ settle places m (with_test s) (test m s.steps) ]

      unfoldable pub search : Run State Answer
      search = walk (visit_candidate allowance) judge g.candidates start

-- "The candidate walk ending without a yes gives no."
abbrev pub answered : Run State Answer → Answer
answered (on s) = No
answered (off s a) = a

-- "yes", "no", "another visit is due and steps equal the allowance", "a test finds a part and no store place is free"
abbrev pub code_of : Answer → ℕ
code_of (Yes m) = 1
code_of No = 2
code_of Cut = 18
code_of NoPlace = 19

-- the state in which it ended
abbrev pub ended : Run State Answer → State
ended (on s) = s
ended (off s a) = s
