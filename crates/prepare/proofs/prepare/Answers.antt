-- `prepare::prepare`: a refused sheet leaves the tables as they were, an accepted one is written over them. Assumes nothing.
use Rattle.std.proofs.Common.{List, ◌≡◌, sym, ap, ◌∙◌}
use Rattle.prepare.proofs.prepare.Goals as goal
use Rattle.prepare.specs.Carried.{tabled}
use Rattle.sheet.proofs.Answered.{checked_sizes}
use Rattle.sheet.proofs.Understood.{passed}
use Rattle.sheet.specs.Reading.{Sheet, Reading}

-- what is known of the sheet is known of its tables
once_read : {A : Type 0} {v w : Reading} → v ≡ w → (f : Sheet → List A) (before : List A) → tabled f w before ≡ tabled f v before
once_read e f before = ap (λ (x : Reading). tabled f x before) (sym e)

pub invariant_of-accepted : goal.invariant_of-accepted
invariant_of-accepted c = record { whole = (passed _ (checked_sizes c.args.sheet.now c.check.ensures c.in_ok-sizes.was).accepted).sized }

pub clauses_into-requires-clause-accepted : goal.clauses_into-requires-clause-accepted
clauses_into-requires-clause-accepted c = (checked_sizes c.args.sheet.now c.check.ensures c.in_ok-sizes.was).accepted

pub branch_order-requires-clause-accepted : goal.branch_order-requires-clause-accepted
branch_order-requires-clause-accepted c = (checked_sizes c.args.sheet.now c.check.ensures c.in_ok-sizes.was).accepted

pub returns-clause-clauses : goal.returns-clause-clauses
returns-clause-clauses c = c.clauses_into.ensures ∙ once_read (checked_sizes c.args.sheet.now c.check.ensures c.in_ok-sizes.was).accepted _ _

pub returns-clause-order : goal.returns-clause-order
returns-clause-order c = c.branch_order.ensures ∙ once_read (checked_sizes c.args.sheet.now c.check.ensures c.in_ok-sizes.was).accepted _ _
