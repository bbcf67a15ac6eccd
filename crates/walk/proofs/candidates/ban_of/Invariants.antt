-- `walk::candidates::ban_of`: going back from the end, the sets hold the complements of the objectives behind those that are left, where the model satisfies them.
use Rattle.std.proofs.Common.{ℕ, List, ◌++◌, ◌≡◌}
use Rattle.prepare.specs.Carried.{sets_of}
use Rattle.walk.proofs.Judging.{banned}
use Rattle.walk.proofs.candidates.ban_of.Given as goal

abbrev pub invariant-loop-b : goal.invariant-loop-b
invariant-loop-b l = (done : List ℕ) × (l.objectives.bytes.now ≡ l.b-iterator.iter.rest.now ++ done) × (l.ban ≡ sets_of (banned done l.model))
