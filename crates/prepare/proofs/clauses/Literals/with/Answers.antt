-- `prepare::clauses::Literals::with`: the atom goes into the set of the literal's sign. Assumes nothing.
use Rattle.std.proofs.Common.{ap, ◌∙◌}
use Rattle.prepare.proofs.SetLaws.{with_plain, with_negated}
use Rattle.prepare.proofs.clauses.Literals.with.Goals as goal
use Rattle.sheet.proofs.LiteralBytes.{lit_plain}
use Rattle.sheet.specs.Enums.{lit}
use Rattle.words.specs.Positions.{adding}

pub returns-then-l : goal.returns-then-l
returns-then-l c =
    let l = c.args.l in
    λ ls e. with_plain ls e (lit l) (lit_plain l ∙ c.if-l.true) (c.adding.ensures ∙ ap (adding c.args.self.plains) c.place.ensures)

pub returns-else-l : goal.returns-else-l
returns-else-l c =
    let l = c.args.l in
    λ ls e. with_negated ls e (lit l) (lit_plain l ∙ c.if-l.false) (c.adding-else-l.ensures ∙ ap (adding c.args.self.negated) c.place-else-l.ensures)
