-- `prepare::ready::Ready::objectives`: the objectives of an accepted sheet are literals. Assumes nothing.
use Rattle.std.proofs.Common.{◌≡◌, true}
use Rattle.prepare.proofs.ready.Ready.objectives.Goals as goal
use Rattle.sheet.proofs.Atoms.{objectives_literals}
use Rattle.sheet.specs.Layout.{objective_bytes}
use Rattle.sheet.specs.Literals.{is_literal}
use Rattle.words.specs.Lists.{all}

pub invariant_of-result : goal.invariant_of-result
invariant_of-result c =
    let s = c.args.self.sheet.bytes.now in
    let known : all (is_literal 64) (objective_bytes s) ≡ true = objectives_literals s c.args.self.tables.accepted in
    record { literals = cc }
