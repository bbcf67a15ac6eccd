-- `suspects::print`: the tables of a sheet that is not refused stand in the first places of the room. Assumes nothing.
use Rattle.std.proofs.Common.{arith}
use Rattle.prepare.proofs.Preparing.{read_tables}
use Rattle.sheet.proofs.Answered.{Sized, checked_sizes, sizes_small}
use Rattle.suspects.proofs.print.Goals as goal
use Rattle.suspects.proofs.print.Goals.{In-Ok}

sized : (c : In-Ok) → Sized c.args.sheet.now c.in-Ok.sizes
sized c = checked_sizes _ c.heading-opening.ensures.checked c.in-Ok.is

pub ready-requires-clause-room : goal.ready-requires-clause-room
ready-requires-clause-room c =
    let small = sizes_small (sized (goal.at.ready-requires-clause-room c).In-Ok) in
    (omega (arith, small.1), omega (arith, small.0))

pub ready-requires-clause-tables : goal.ready-requires-clause-tables
ready-requires-clause-tables c =
    let e = c.heading-opening.ensures in
    read_tables _ _ (sized (goal.at.ready-requires-clause-tables c).In-Ok) e.clauses e.order
