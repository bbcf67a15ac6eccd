-- `prepare::ready::Ready::network`: the branch order is of literals, and there are at most 64 objectives. Assumes nothing.
use Rattle.std.proofs.Common.{length, ap, arith}
use Rattle.prepare.proofs.Preparing.{order_literals, few_objectives}
use Rattle.prepare.proofs.ready.Ready.network.Goals as goal

pub invariant_of-result : goal.invariant_of-result
invariant_of-result c = record { literals = order_literals c.args.self.tables }

pub invariant_of-result-2 : goal.invariant_of-result-2
invariant_of-result-2 c = record { few = omega (arith, ap length c.objectives.ensures, few_objectives _ c.args.self.tables.accepted) }
