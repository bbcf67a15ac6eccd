-- `jarvulpe::jarvulpe_check`: an accepted sheet's numbers of clauses and objectives are small. Assumes nothing.
use Rattle.std.proofs.Common.{arith}
use Rattle.jarvulpe.proofs.jarvulpe_check.Goals as goal
use Rattle.sheet.proofs.Answered.{answered_accepted, sizes_small}

pub overflow_cast-sizes : goal.overflow_cast-sizes
overflow_cast-sizes c = let h = sizes_small (answered_accepted c.args.sheet.now c.in-Ok.ensures) in record { fits = omega (arith, h.1, h.2) }

pub overflow_cast-sizes-in-Ok : goal.overflow_cast-sizes-in-Ok
overflow_cast-sizes-in-Ok c = let h = sizes_small (answered_accepted c.args.sheet.now c.in-Ok.ensures) in record { fits = omega (arith, h.1, h.2) }
