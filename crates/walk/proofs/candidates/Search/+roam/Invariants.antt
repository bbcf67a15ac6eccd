use Rattle.std.proofs.Common.{◌-◌, length}
use Rattle.walk.proofs.candidates.Search.+roam.Given as goal

-- The literals of the order that are still to be tried.
abbrev pub decreases-roam : goal.decreases-roam
decreases-roam l = length l.self.now.network.order.bytes.now - l.depth
