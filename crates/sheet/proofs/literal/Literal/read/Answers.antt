-- `sheet::literal::Literal::read`: each number is too far from zero or too near, or its sign and its distance are the literal's. Assumes nothing.
use Rattle.std.proofs.Common.{◌≡◌, to_z, of_z, w8, nat_abs, ⊎_elim, ◌∙◌, arith}
use Rattle.std.proofs.lemmas.Int.{ints}
use Rattle.sheet.proofs.Numbers.{below, above, number_signed, kept_number, least_far, away_atom, found, too_near, too_far}
use Rattle.sheet.proofs.literal.Literal.read.Goals as goal
use Rattle.sheet.proofs.literal.Literal.read.Goals.{Joined-v-lt0, then-v-lt0, else-v-lt0}
use Rattle.sheet.specs.Literals.{atom, signed, of_number}

pub returns-then-v : goal.returns-then-v
returns-then-v c =
    let far = least_far c.cast_signed-v.result c.if-v.true in
    too_far c.args.n c.args.b c.requires c.ranges.b.fits (c.cast_signed-v.ensures ∙ number_signed _ c.ranges.b.fits) (omega arith)

-- the number as the code has it, and the distance by both ways in which it was found
number : (c : Joined-v-lt0) → to_z w8 (of_z w8 c.cast_signed-v.result) ≡ signed c.args.b
number c = kept_number c.args.b c.ranges.b.fits (record { sfits = c.cast_signed-v.type_inv }) c.cast_signed-v.ensures

distance : (c : Joined-v-lt0) → atom (of_number (to_z w8 (of_z w8 c.cast_signed-v.result))) ≡ nat_abs (to_z w8 c.if-v-lt0.distance-bits)
distance c =
    away_atom (to_z w8 (of_z w8 c.cast_signed-v.result)) (to_z w8 c.if-v-lt0.distance-bits)
    (elim c.if-v-lt0.branch [
      | then-v-lt0 w ↦ below w.if-v-lt0.true (omega (arith, ints, w.distance-is, c.if-v.false))
      | else-v-lt0 w ↦ above w.if-v-lt0.false w.distance-is
    ])

pub returns-then-distance-eq0 : goal.returns-then-distance-eq0
returns-then-distance-eq0 c =
    let j = (goal.at.returns-then-distance-eq0 c).Joined-v-lt0 in
    let e = distance j in
    ⊎_elim (λ h. too_near c.args.n c.args.b c.requires c.ranges.b.fits (number j) (omega arith))
    (λ h. too_far c.args.n c.args.b c.requires c.ranges.b.fits (number j) (omega arith))
    c.then-distance-eq0.either

pub returns : goal.returns
returns c =
    let j = (goal.at.returns c).Joined-v-lt0 in
    found c.args.n c.args.b c.requires c.ranges.b.fits (number j) (to_z w8 c.if-v-lt0.distance-bits) (distance j) c.if-distance-eq0.false c.if-n-distance.false
