-- `walk::test::Test::seek` calls itself one literal further in the order.
use Rattle.std.proofs.Common.{◌-◌, length}
use Rattle.walk.proofs.test.Test.+seek.Given as goal

abbrev pub decreases-seek : goal.decreases-seek
decreases-seek l = length l.self.now.network.order.bytes.now - l.depth
