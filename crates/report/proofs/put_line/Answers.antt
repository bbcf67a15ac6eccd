-- `report::put_line`: the four pieces of the line, one behind the other. Assumes nothing.
use Rattle.std.proofs.Common.{◌≤◌, length, arith}
use Rattle.report.proofs.put_line.Goals as goal
use Rattle.report.specs.Lines.{line}
use Rattle.text.proofs.Written.{added_behind}

pub returns-clause-adds : goal.returns-clause-adds
unfolding line
returns-clause-adds c =
    let room : c.args.out.now.end ≤ length c.args.out.now.bytes.now = omega (arith, c.requires.1) in
    added_behind room (added_behind room (added_behind room c.put_decimal.ensures c.put_literal.ensures.adds) c.put_verdict.ensures.adds) c.put_counts.ensures.adds
