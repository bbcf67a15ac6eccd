-- The steps of a search stay within its allowance, a cut spends all of it, and an allowance for every visit is never spent. Assumes nothing.
use Prim.Native.Nat.{ℕ, ◌+◌, ◌≤◌, ◌<◌}
use mathlib.Core.Path.{◌≡◌, refl, subst}
use native.Mathlib.Omega.{arith}
use Rattle.search.proofs.Actions.{visit_holds, meet_holds, candidate_holds, Settled, judge_holds, finished}
use Rattle.search.proofs.Walking.{Holds, holds_map, due, walk_holds}
use Rattle.search.specs.Search.{Game, State, Answer, Yes, No, Cut, NoPlace, Stop, spent, found, with_test, test, judge, search, start, answered, ended}
use Rattle.search.specs.Tree.{Tree, closed, full, fork}

-- the visits of a walk of the tree, and `more m` of them besides at each full node m
abbrev pub visits : (ℕ → ℕ) → Tree ℕ → ℕ
visits more closed = 1
visits more (full m) = 1 + more m
visits more (fork first second) = 1 + (visits more first + visits more second)

-- the visits of a test that goes to the end
abbrev pub test_visits : Game → ℕ → ℕ
test_visits g c = visits (λ u. 0) (g.rivals c)

-- the visits of a search in which every candidate is tested to the end
abbrev pub visits_of : Game → ℕ
visits_of g = visits (test_visits g) g.candidates

-- counted by the walk, the visits that are due are those of the tree
visits_due : (more : ℕ → ℕ) (t : Tree ℕ) (k : ℕ) → due (λ k. 1 + k) (λ m k. more m + k) t k ≡ visits more t + k
visits_due more closed k = refl
visits_due more (full m) k = omega arith
visits_due more (fork first second) k =
    omega (arith, visits_due more second k, visits_due more first (due (λ k. 1 + k) (λ m k. more m + k) second k))

module _ (g : Game) (allowance places : ℕ) where
  -- n steps are taken, and k visits may still be due
  abbrev Going : ℕ → ℕ → Type 0
  Going k n = (n ≤ allowance) × (n + k ≤ visits_of g)

  -- where the steps are spent one more visit is due, so that fewer than all visits are made
  abbrev Spent : ℕ → Type 0
  Spent n = (n ≡ allowance) × (n < visits_of g)

  abbrev Stopped : ℕ → ℕ → Stop → Type 0
  Stopped k n spent = Spent n
  Stopped k n (found p) = Going k n

  test_holds : (c k n : ℕ) → Going (test_visits g c + k) n → Holds (Going k) (Stopped k) (test g allowance c n)
  unfolding test
  test_holds c k n h =
      holds_map (λ n h. omega arith) (λ n x h. h)
      (walk_holds {P = λ j. Going (j + k)} (λ j. 1 + j) (λ m j. 0 + j)
      (λ j n h. visit_holds spent allowance n (λ l. omega arith) (λ l. omega arith))
      (λ m j n h. meet_holds g c m n (λ e. omega arith) (λ e. omega arith))
      (g.rivals c) 0 n (omega (arith, visits_due (λ u. 0) (g.rivals c) 0)))

  -- what a cut says besides
  abbrev IfCut : ℕ → Answer → Type 0
  IfCut n (Yes m) = Unit {0}
  IfCut n No = Unit {0}
  IfCut n Cut = Spent n
  IfCut n NoPlace = Unit {0}

  abbrev Ended : State → Answer → Type 0
  Ended s x = (s.steps ≤ allowance) × IfCut s.steps x

  judge_steps : (m k : ℕ) (s : State) → Going (test_visits g m + k) s.steps
      → Holds (λ t. Going k t.steps) Ended (judge g allowance places m s)
  judge_steps m k s h =
      judge_holds places m g allowance s (λ e. omega arith)
      (λ e. holds_map (λ n l. (l.0, tt)) stopped (test_holds m k s.steps h))
    where
      stopped : (n : ℕ) (x : Stop) → Stopped k n x → Settled (λ t. Going k t.steps) Ended places (with_test s) n x
      stopped n spent l = omega arith
      stopped n (found p) l = (λ _. l, λ _. (l.0, tt))

  search_ends : Ended (ended (search g allowance places)) (answered (search g allowance places))
  unfolding search
  search_ends =
      finished (holds_map (λ s h. (h.0, tt)) (λ s x h. h)
      (walk_holds {P = λ k s. Going k s.steps} (λ k. 1 + k) (λ m k. test_visits g m + k)
      (λ k s h. candidate_holds allowance s (λ l. omega arith) (λ l. omega arith))
      judge_steps g.candidates 0 start (omega (arith, visits_due (test_visits g) g.candidates 0))))

  pub steps_within : (ended (search g allowance places)).steps ≤ allowance
  steps_within = search_ends.0

  cut_spent : answered (search g allowance places) ≡ Cut → Spent (ended (search g allowance places)).steps
  cut_spent e = subst (IfCut (ended (search g allowance places)).steps) e search_ends.1

  pub cut_at_allowance : answered (search g allowance places) ≡ Cut → (ended (search g allowance places)).steps ≡ allowance
  cut_at_allowance e = (cut_spent e).0

  pub never_cut : visits_of g ≤ allowance → answered (search g allowance places) ≡ Cut → ⊥
  never_cut h e = let s : Spent (ended (search g allowance places)).steps = cut_spent e in omega arith
