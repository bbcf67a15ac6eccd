-- `walk::node::part_of`: the part has the position of the objective that is taken exactly if it holds. Assumes nothing.
use Rattle.std.proofs.Common.{[], ◌∷◌, ◌≡◌, length, sym, ap, ◌∙◌, arith}
use Rattle.search.specs.Models.{holds}
use Rattle.sheet.proofs.Backwards.{none_taken, moved, is_one}
use Rattle.walk.proofs.Parts.{part_from, part_none, part_whole, part_taken}
use Rattle.walk.proofs.node.part_of.Goals as goal
use Rattle.words.specs.Positions.{adding}

pub loop-i-init : goal.loop-i-init
loop-i-init c =
    let a = c.args in
    let each : c.into_iter-i-iterator.result.iter.iter.rest.now ≡ a.objectives.bytes.now = cc in
    let first : c.into_iter-i-iterator.result.iter.count ≡ 0 = cc in
    ([], none_taken each, first, part_none a.objectives.bytes.now a.model ∙ sym (ap (λ l. part_from a.objectives.bytes.now a.model (length l)) each))

pub of-requires : goal.of-requires
of-requires c =
    let i = c.loop-i.invariant in
    is_one c.next.new.self.iter.iter.rest.now i.0 c.in-Some.field-0-1.now c.in-Some.ensures.steps.1.0 i.1 c.args.objectives.literals

pub loop-i-preserved-then-holds : goal.loop-i-preserved-then-holds
loop-i-preserved-then-holds c =
    let a = c.args in
    let i = c.loop-i.invariant in
    let s = c.in-Some.ensures.steps in
    let rest = c.next.new.self.iter.iter.rest.now in
    let b = c.in-Some.field-0-1.now in
    let at : c.in-Some.i ≡ length rest = omega arith in (
      b ∷ i.0,
      moved rest i.0 b s.1.0 i.1,
      s.0 ∙ i.2,
      c.adding-part.ensures ∙ (λ j. adding (i.3 j) (at j))
          ∙ sym (part_taken a.objectives.bytes.now a.model rest i.0 b s.1.0 i.1 (sym (ap (holds a.model) c.of.ensures) ∙ sym c.if-holds.ensures)),
    )

pub loop-i-preserved : goal.loop-i-preserved
loop-i-preserved c =
    let a = c.args in
    let i = c.loop-i.invariant in
    let s = c.in-Some.ensures.steps in
    let rest = c.next.new.self.iter.iter.rest.now in
    let b = c.in-Some.field-0-1.now in (
      b ∷ i.0,
      moved rest i.0 b s.1.0 i.1,
      s.0 ∙ i.2,
      i.3 ∙ sym (part_taken a.objectives.bytes.now a.model rest i.0 b s.1.0 i.1 (sym (ap (holds a.model) c.of.ensures) ∙ sym c.if-holds.ensures)),
    )

pub returns : goal.returns
returns c =
    let a = c.args in
    c.loop-i.invariant.3 ∙ ap (part_from a.objectives.bytes.now a.model) c.in-None.ensures.steps.1.0 ∙ part_whole a.objectives.bytes.now a.model
