-- `sheet::literal::Literal::of`: the number's sign and its distance from zero are the literal's. Assumes nothing.
use Rattle.std.proofs.Common.{◌≡◌, to_z, of_z, w8, ◌∙◌}
use Rattle.std.proofs.lemmas.Int.{to_z-of_z}
use Rattle.sheet.proofs.Numbers.{Away, below, above, kept_number, near_fits, away_placed, away_fits, away_is}
use Rattle.sheet.proofs.literal.Literal.of.Goals as goal
use Rattle.sheet.proofs.literal.Literal.of.Goals.{Joined-number-lt0, then-number-lt0, else-number-lt0}
use Rattle.sheet.specs.Literals.{signed}

pub overflow_sub-result : goal.overflow_sub-result
overflow_sub-result c =
    near_fits c.args.b c.requires (kept_number c.args.b c.ranges.b.fits (record { sfits = c.cast_signed-number.type_inv }) c.cast_signed-number.ensures)

-- the number as the code has it, and the distance by both ways in which it was found
number : (c : Joined-number-lt0) → to_z w8 (of_z w8 c.cast_signed-number.result) ≡ signed c.args.b
number c = kept_number c.args.b c.ranges.b.fits (record { sfits = c.cast_signed-number.type_inv }) c.cast_signed-number.ensures

away : (c : Joined-number-lt0) → Away (to_z w8 (of_z w8 c.cast_signed-number.result)) (to_z w8 c.if-number-lt0.result-bits)
away c =
    elim c.if-number-lt0.branch [
      | then-number-lt0 w ↦ below w.if-number-lt0.true (w.result-is ∙ to_z-of_z w8 _ (near_fits c.args.b c.requires (number c)))
      | else-number-lt0 w ↦ above w.if-number-lt0.false w.result-is
    ]

pub overflow_cast-result : goal.overflow_cast-result
overflow_cast-result c = away_fits c.args.b c.requires (number c) (to_z w8 c.if-number-lt0.result-bits) (away c)

pub invariant_of-result : goal.invariant_of-result
invariant_of-result c =
    let j = (goal.at.invariant_of-result c).Joined-number-lt0 in
    record { placed = away_placed c.args.b c.requires (number j) (to_z w8 c.if-number-lt0.result-bits) (away j) }

pub returns : goal.returns
returns c =
    let j = (goal.at.returns c).Joined-number-lt0 in
    away_is c.args.b c.requires (number j) (to_z w8 c.if-number-lt0.result-bits) (away j)
