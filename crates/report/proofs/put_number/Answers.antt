-- `report::put_number`: a blank, and the number behind it. Assumes nothing.
use Rattle.std.proofs.Common.{arith}
use Rattle.report.proofs.put_number.Goals as goal
use Rattle.text.proofs.Written.{added_behind}

pub returns-clause-adds : goal.returns-clause-adds
returns-clause-adds c = added_behind (omega (arith, c.requires)) c.put.ensures c.put_decimal.ensures
