-- Each return is a case of the definition. Assumes nothing.
use Rattle.std.proofs.Common.{sym, ap, ◌∙◌, length}
use Rattle.search.specs.Search.{settle}
use Rattle.walk.proofs.Judging.{settle_stored, settle_full}
use Rattle.walk.proofs.candidates.settle.Goals as goal
use Rattle.walk.specs.Carried.{told}
use Rattle.walk.specs.declared.test.Tried.{Tried}

pub returns-then-w-store-clause-tells_settled : goal.returns-then-w-store-clause-tells_settled
returns-then-w-store-clause-tells_settled c s et es =
    settle_stored c.args.model c.in-Found.steps c.args.w.stored c.args.store.now s et es c.in-Found.part c.if-w-store.true
    ∙ ap (λ (r : Tried). settle (length c.args.store.now) c.args.model s (told r)) (sym c.in-Found.is)

pub returns-else-w-store-clause-tells_settled : goal.returns-else-w-store-clause-tells_settled
returns-else-w-store-clause-tells_settled c s et es =
    settle_full c.args.model c.in-Found.steps c.args.w.stored c.args.store.now s et es c.in-Found.part c.if-w-store.false c.requires.1
    ∙ ap (λ (r : Tried). settle (length c.args.store.now) c.args.model s (told r)) (sym c.in-Found.is)
