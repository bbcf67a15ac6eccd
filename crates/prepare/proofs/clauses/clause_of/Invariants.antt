-- `prepare::clauses::clause_of`: going back from the end, the clause so far is that of the bytes behind those that are left.
use Rattle.std.proofs.Common.{◌≡◌, ◌++◌, List, ℕ, map}
use Rattle.prepare.proofs.clauses.clause_of.Given as goal
use Rattle.prepare.specs.Carried.{sets_of}
use Rattle.sheet.specs.Literals.{literal}

abbrev pub invariant-loop-b : goal.invariant-loop-b
invariant-loop-b l = (done : List ℕ) × (l.bytes.bytes.now ≡ l.b-iterator.iter.rest.now ++ done) × (l.clause ≡ sets_of (map literal done))
