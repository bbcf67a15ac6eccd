-- `query::write_values`: after i turns the first i bytes are the values of the first i atoms, and the others what they were.
use Rattle.std.proofs.Common.{◌≡◌}
use Rattle.query.proofs.write_values.Given as goal
use Rattle.query.specs.Query.{values_of}
use Rattle.words.specs.Lists.{over}

abbrev pub invariant-loop-i : goal.invariant-loop-i
invariant-loop-i l = l.witness ≡ over (values_of l.i l.model) l.fn.witness
