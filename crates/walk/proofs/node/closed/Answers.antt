-- `walk::node::closed`: a unit clause is false exactly if the complement of its literal is made true; the other clauses as they stand. Assumes nothing.
use Rattle.std.proofs.Common.{Bool, ◌||◌, ◌≡◌, sym, ap, ◌∙◌, rules, tests}
use Rattle.std.proofs.lemmas.Iterator.Search.{any_from_yields_List}
use Rattle.std.proofs.lemmas.Iterator.{YieldsList-from_slice}
use Rattle.walk.proofs.Listed.{any_listed}
use Rattle.walk.proofs.Sets.{all_false, met, met_plain, met_else, closed_by}
use Rattle.walk.proofs.node.closed.Goals as goal
use Rattle.walk.proofs.node.closed.Goals.{then-ban-node-ne0, else-ban-node-ne0}
use Rattle.words.specs.Lists.{any}

pub returns-then-ban-node-ne0-2 : goal.returns-then-ban-node-ne0-2
returns-then-ban-node-ne0-2 c cs us w st =
    let a = c.args in
    let is : c.if-ban-node-ne0.value ≡ met a.ban a.node = elim c.if-ban-node-ne0.branch [
      | then-ban-node-ne0 b ↦ met_plain a.ban a.node b.if-ban-node-ne0.true b.value-is
      | else-ban-node-ne0 b ↦ met_else a.ban a.node b.if-ban-node-ne0.false b.value-is
    ] in
    c.if-ban-node-ne0-2.true ∙ ap (λ (v : Bool). v || any (all_false a.node) a.clauses.now) (sym c.if-ban-node-ne0-2.true) ∙ closed_by st is

pub returns-else-ban-node-ne0-2 : goal.returns-else-ban-node-ne0-2
returns-else-ban-node-ne0-2 c cs us w st =
    let a = c.args in
    let is : c.if-ban-node-ne0.value ≡ met a.ban a.node = elim c.if-ban-node-ne0.branch [
      | then-ban-node-ne0 b ↦ met_plain a.ban a.node b.if-ban-node-ne0.true b.value-is
      | else-ban-node-ne0 b ↦ met_else a.ban a.node b.if-ban-node-ne0.false b.value-is
    ] in
    any_from_yields_List (all_false a.node) _ _ c.any.result c.any.ensures.ran (YieldsList-from_slice a.clauses.now cc) (λ x b q k. search (rules, tests))
    ∙ any_listed (all_false a.node) a.clauses.now
    ∙ ap (λ (v : Bool). v || any (all_false a.node) a.clauses.now) (sym c.if-ban-node-ne0-2.false)
    ∙ closed_by st is
