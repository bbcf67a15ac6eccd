-- `walk::node::clause_false`: every literal of a clause is false exactly if its plain atoms are made false and its negated ones true. Assumes nothing.
use Rattle.std.proofs.Common.{Bool, ◌&&◌, sym, ap, ap₂, ◌∙◌, eq-eqb, ne_eqb, arith}
use Rattle.walk.proofs.node.clause_false.Goals as goal
use Rattle.words.proofs.Containment.{within_and}
use Rattle.words.specs.Positions.{within}

pub returns-then-clause-node : goal.returns-then-clause-node
returns-then-clause-node c =
    let a = c.args in
    sym (ap₂ ◌&&◌ (within_and a.clause.plains a.node.negated (omega arith) ∙ eq-eqb _ _ c.if-clause-node.true)
    (within_and a.clause.negated a.node.plains (omega arith)))

pub returns-else-clause-node : goal.returns-else-clause-node
returns-else-clause-node c =
    let a = c.args in
    let no = ne_eqb _ _ c.if-clause-node.false in
    no ∙ ap (λ (x : Bool). x && within a.clause.negated a.node.plains) (sym (within_and a.clause.plains a.node.negated (omega arith) ∙ no))
