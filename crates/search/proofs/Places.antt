-- No more parts are stored than there are places, and a search that is refused for places has filled them all. Assumes nothing.
use Prim.Native.Nat.{ℕ, ◌≤◌}
use mathlib.Core.List.{[], ◌∷◌}
use mathlib.Core.Path.{◌≡◌, subst}
use native.Mathlib.Omega.{arith}
use lib.ListN.{length, length-append}
use Rattle.search.proofs.Actions.{candidate_holds, Settled, judge_holds, finished}
use Rattle.search.proofs.Walking.{Holds, going, gone, holds_map, walk_holds}
use Rattle.search.specs.Search.{Game, State, Answer, Yes, No, Cut, NoPlace, Stop, spent, found, with_test, judge, search, start, answered, ended}
use Rattle.search.specs.Tree.{Run, on, off}

module _ (g : Game) (allowance places : ℕ) where
  abbrev Fits : State → Type 0
  Fits s = length s.stored ≤ places

  abbrev IfFull : State → Answer → Type 0
  IfFull s (Yes m) = Unit {0}
  IfFull s No = Unit {0}
  IfFull s Cut = Unit {0}
  IfFull s NoPlace = length s.stored ≡ places

  abbrev Ended : State → Answer → Type 0
  Ended s x = Fits s × IfFull s x

  -- how a test runs makes no difference to the places
  anyhow : (r : Run ℕ Stop) → Holds (λ n. Unit {0}) (λ n x. Unit {0}) r
  anyhow (on n) = going tt
  anyhow (off n x) = gone tt

  judge_fits : (m : ℕ) (s : State) → Fits s → Holds Fits Ended (judge g allowance places m s)
  judge_fits m s h = judge_holds places m g allowance s (λ e. h) (λ e. holds_map (λ n u. (h, tt)) stopped (anyhow _))
    where
      stopped : (n : ℕ) (x : Stop) → Unit {0} → Settled Fits Ended places (with_test s) n x
      stopped n spent u = (h, tt)
      stopped n (found p) u = (λ l. omega (arith, length-append s.stored (p ∷ [])), λ l. (h, omega arith))

  search_ends : Ended (ended (search g allowance places)) (answered (search g allowance places))
  unfolding search
  search_ends =
      finished (holds_map (λ s h. (h, tt)) (λ s x h. h)
      (walk_holds {P = λ (i : Unit {0}). Fits} (λ i. i) (λ m i. i) (λ i s h. candidate_holds allowance s (λ l. h) (λ l. (h, tt))) (λ m i. judge_fits m)
      g.candidates tt start (omega arith)))

  pub places_full : answered (search g allowance places) ≡ NoPlace → length (ended (search g allowance places)).stored ≡ places
  places_full e = subst (IfFull (ended (search g allowance places))) e search_ends.1
