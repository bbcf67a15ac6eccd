-- `prepare::clauses::clauses_into`: before clause i the first i places are filled, and the start is that of clause i.
use Rattle.std.proofs.Common.{◌≡◌}
use Rattle.prepare.proofs.SetLaws.{first_sets}
use Rattle.prepare.proofs.clauses.clauses_into.Given as goal
use Rattle.sheet.specs.Layout.{clause_start}
use Rattle.words.specs.Lists.{over}

abbrev pub invariant-loop-i : goal.invariant-loop-i
invariant-loop-i l =
    record {
      started : l.start ≡ clause_start l.sheet.bytes.now l.i;
      filled : l.clause-items ≡ over (first_sets l.sheet.bytes.now l.i) l.initial.clause-items;
    }
