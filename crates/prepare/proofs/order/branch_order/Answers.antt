-- `prepare::order::branch_order`: the objectives first, then the atoms, and all of it in the lent bytes. Assumes nothing.
use Rattle.std.proofs.Common.{List, [], map, refl, ap, ◌∙◌, arith}
use Rattle.prepare.proofs.OrderLaws.{nothing_ordered, branch_is}
use Rattle.prepare.proofs.order.branch_order.Goals as goal
use Rattle.sheet.proofs.Atoms.{objectives_literals}
use Rattle.sheet.specs.Literals.{Lit, is_literal, byte_of}
use Rattle.words.specs.Lists.{all, over}

pub invariant_of-take_all : goal.invariant_of-take_all
invariant_of-take_all c = record { literals = ap (all (is_literal 64)) c.objectives-bytes.ensures ∙ objectives_literals _ c.requires.accepted }

pub returns : goal.returns
returns c =
    let s = c.args.sheet.bytes.now in
    let before = c.args.order.now in
    let lent = c.take_atoms.ensures.lent ∙ c.take_all.ensures.grown.lent in
    let ordered = c.take_atoms.ensures.order _ before (c.take_all.ensures.grown.order [] before (nothing_ordered _ refl refl)) in
    let whole = ordered.written ∙ ap (λ (so : List Lit). over (map byte_of so) before) (branch_is s c.objectives-bytes.ensures refl) in
    grind (arith, lent, whole)
