-- `walk::test::Test::meet`: the test of the code is that of the definition. Assumes nothing.
use Rattle.std.proofs.Common.{refl, sym, ◌∙◌}
use Rattle.walk.proofs.Parts.{meet_hit, meet_miss}
use Rattle.walk.proofs.test.Test.meet.Goals as goal

pub returns-then-strictly_within : goal.returns-then-strictly_within
returns-then-strictly_within c =
    (sym (meet_hit _ _ _ _ c.part_of-found.ensures (sym c.strictly_within.ensures ∙ c.if-strictly_within.true)), refl)

pub returns : goal.returns
returns c =
    (sym (meet_miss _ _ _ _ c.part_of-found.ensures (sym c.strictly_within.ensures ∙ c.if-strictly_within.false)), refl)
