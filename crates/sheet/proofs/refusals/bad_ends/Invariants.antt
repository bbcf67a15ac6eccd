-- `sheet::refusals::bad_ends`: after i turns the start is that of clause i, and what is left is the test of the clauses from i on.
use Rattle.std.proofs.Common.{◌≡◌, drop}
use Rattle.sheet.proofs.refusals.bad_ends.Given as goal
use Rattle.sheet.specs.Layout.{clause_count, clause_start}
use Rattle.sheet.specs.Reading.{falls}
use Rattle.words.specs.Lists.{any, below}

abbrev pub invariant-loop-i : goal.invariant-loop-i
invariant-loop-i l =
    record {
      at_start : l.start ≡ clause_start l.sheet.bytes.now l.i;
      left : any (falls l.sheet.bytes.now) (below (clause_count l.sheet.bytes.now)) ≡ any (falls l.sheet.bytes.now) (drop l.i (below (clause_count l.sheet.bytes.now)));
    }
