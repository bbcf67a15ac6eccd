-- `words::within`: after i turns what is left is the test of the positions from i on.
use Rattle.std.proofs.Common.{◌≡◌, not, ◌||◌, drop}
use Rattle.words.proofs.within.Given as goal
use Rattle.words.specs.Lists.{all, below}
use Rattle.words.specs.Positions.{has, within}

abbrev pub invariant-loop-i : goal.invariant-loop-i
invariant-loop-i l = within l.a l.b ≡ all (λ j. not (has l.a j) || has l.b j) (drop l.i (below 64))
