-- `report::put_counts`: three numbers and the end of the line, one behind the other. Assumes nothing.
use Rattle.std.proofs.Common.{◌≤◌, length, arith}
use Rattle.report.proofs.put_counts.Goals as goal
use Rattle.text.proofs.Written.{added_behind}

pub returns-clause-adds : goal.returns-clause-adds
returns-clause-adds c =
    let room : c.args.out.now.end ≤ length c.args.out.now.bytes.now = omega (arith, c.requires) in
    added_behind room (added_behind room (added_behind room c.put_number.ensures.adds c.put_number-2.ensures.adds) c.put_number-3.ensures.adds) c.put.ensures
