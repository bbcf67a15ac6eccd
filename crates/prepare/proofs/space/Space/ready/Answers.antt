-- `prepare::space::Space::ready`: an accepted sheet is as long as its counts make it. Assumes nothing.
use Rattle.prepare.proofs.space.Space.ready.Goals as goal
use Rattle.sheet.proofs.Understood.{passed}

pub invariant_of-result : goal.invariant_of-result
invariant_of-result c = record { whole = (passed _ c.requires.tables.accepted).sized }
