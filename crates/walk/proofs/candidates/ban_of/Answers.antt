-- `walk::candidates::ban_of`: at first nothing was taken; what the loop keeps, the check finds. Assumes nothing.
use Rattle.std.proofs.Common.{[], ◌≡◌}
use Rattle.prepare.proofs.SetLaws.{no_literals}
use Rattle.sheet.proofs.Backwards.{none_taken, is_one}
use Rattle.walk.proofs.candidates.ban_of.Goals as goal

pub loop-b-init : goal.loop-b-init
loop-b-init c =
    let each : c.into_iter-b-iterator.result.iter.rest.now ≡ c.args.objectives.bytes.now = cc in
    ([], none_taken each, no_literals c.default-ban.ensures.0 c.default-ban.ensures.1)

pub of-l-requires : goal.of-l-requires
of-l-requires c =
    let i = c.loop-b.invariant in
    is_one c.next.new.self.iter.rest.now i.0 c.in-Some.field-0.now c.in-Some.ensures.steps i.1 c.args.objectives.literals
