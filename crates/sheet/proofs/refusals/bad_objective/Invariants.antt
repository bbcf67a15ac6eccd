-- `sheet::refusals::bad_objective`: in either loop what is left is the test of the positions from there on, and nothing bad was found before.
use Rattle.std.proofs.Common.{◌≡◌, false, length, drop}
use Rattle.sheet.proofs.refusals.bad_objective.Given as goal
use Rattle.sheet.specs.Reading.{same, bad_at}
use Rattle.words.specs.Lists.{any, below}

abbrev pub invariant-loop-earlier : goal.invariant-loop-earlier
invariant-loop-earlier l = (l.bad ≡ false) × (any (same l.bytes l.i) (below l.i) ≡ any (same l.bytes l.i) (drop l.earlier-index (below l.i)))

abbrev pub invariant-all : goal.invariant-all
invariant-all l = (l.bad ≡ false) × (any (bad_at l.n l.bytes) (below (length l.bytes)) ≡ any (bad_at l.n l.bytes) (drop l.i (below (length l.bytes))))
