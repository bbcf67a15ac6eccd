-- `words::within`: a step of the loop is a step of the test over the positions. Assumes nothing.
use Rattle.std.proofs.Common.{Bool, true, not, ◌||◌, refl, sym, ap, ap₂, ◌∙◌}
use Rattle.words.proofs.Lists.{all_number, all_numbers_end}
use Rattle.words.proofs.within.Goals as goal
use Rattle.words.proofs.within.Goals.{else-has-via-then-has+else-not-has, else-has-via-else-has}
use Rattle.words.specs.Positions.{has, within}

pub loop-i-init : goal.loop-i-init
unfolding within
loop-i-init c = refl

pub returns-then-not-has : goal.returns-then-not-has
returns-then-not-has c =
    sym
    (c.loop-i.invariant
    ∙ all_number (λ j. not (has c.args.a j) || has c.args.b j) 64 c.loop-i.i c.loop-i-test.true
    (ap₂ (λ (x y : Bool). not x || y) (sym c.if-has.ensures) (sym c.if-not-has.ensures)))

pub loop-i-preserved : goal.loop-i-preserved
loop-i-preserved c =
    let next = all_number (λ j. not (has c.args.a j) || has c.args.b j) 64 c.loop-i.i {b = true} c.loop-i-test.true in
    c.loop-i.invariant
    ∙ elim c.else-has.branch [
      | else-has-via-then-has+else-not-has w ↦ next (ap₂ (λ (x y : Bool). not x || y) (sym w.if-has.ensures) (sym w.if-not-has.ensures))
      | else-has-via-else-has w ↦ next (ap (λ (x : Bool). not x || has c.args.b c.loop-i.i) (sym w.if-has.ensures))
    ]

pub returns : goal.returns
returns c = sym (c.loop-i.invariant ∙ all_numbers_end (λ j. not (has c.args.a j) || has c.args.b j) 64 c.loop-i.i c.loop-i-test.false)
