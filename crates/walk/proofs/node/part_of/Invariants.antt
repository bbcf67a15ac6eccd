-- `walk::node::part_of`: going back from the end, the word so far is the part of the objectives behind those that are left.
use Rattle.std.proofs.Common.{ℕ, List, ◌++◌, ◌≡◌, length}
use Rattle.walk.proofs.Parts.{part_from}
use Rattle.walk.proofs.node.part_of.Given as goal

abbrev pub invariant-loop-i : goal.invariant-loop-i
invariant-loop-i l =
    (done : List ℕ) × (l.objectives.bytes.now ≡ l.i-iterator.iter.iter.rest.now ++ done) × (l.i-iterator.iter.count ≡ 0)
    × (l.part ≡ part_from l.objectives.bytes.now l.model (length l.i-iterator.iter.iter.rest.now))
