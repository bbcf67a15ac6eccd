-- `words::strictly_within`: the two tests of its definition. Assumes nothing.
use Rattle.std.proofs.Common.{Bool, not, ◌&&◌, ap, ◌∙◌, sym}
use Rattle.words.proofs.strictly_within.Goals as goal
use Rattle.words.specs.Positions.{within, strictly_within}

pub returns-then-within : goal.returns-then-within
unfolding strictly_within
returns-then-within c = ap not c.within-then-within.ensures ∙ ap (λ (x : Bool). x && not (within c.args.b c.args.a)) (sym c.if-within.true ∙ c.within.ensures)

pub returns-else-within : goal.returns-else-within
unfolding strictly_within
returns-else-within c = c.if-within.false ∙ ap (λ (x : Bool). x && not (within c.args.b c.args.a)) (sym c.if-within.false ∙ c.within.ensures)
