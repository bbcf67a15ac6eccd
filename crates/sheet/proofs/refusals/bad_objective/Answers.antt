-- `sheet::refusals::bad_objective`: a step of a loop is a step of the test over the positions. Assumes nothing.
use Rattle.std.proofs.Common.{ℕ, List, Bool, true, false, ◌≡◌, ◌<◌, ◌≤◌, ◌+◌, take, get_or-take, length-take-le, not, ◌||◌, length, drop, get_or, refl, sym, ap₂, ◌∙◌, arith, eq-eqb, ne_eqb}
use Rattle.sheet.proofs.refusals.bad_objective.Goals as goal
use Rattle.sheet.proofs.refusals.bad_objective.Goals.{In-loop-earlier}
use Rattle.sheet.specs.Layout.{byte, atom_count, objective_bytes}
use Rattle.sheet.specs.Literals.{is_literal}
use Rattle.sheet.specs.Reading.{same, bad_at, bad_objective}
use Rattle.words.proofs.Lists.{any_number, any_numbers_end}
use Rattle.words.specs.Lists.{any, below}

-- what is found of the bytes and the number that were read is found of the sheet's
read : {b : Bool} {n : ℕ} {os : List ℕ} (s : List ℕ) → n ≡ atom_count s → os ≡ objective_bytes s → b ≡ bad_objective n os → b ≡ bad_objective (atom_count s) (objective_bytes s)
read s en eo e = e ∙ ap₂ bad_objective en eo

-- one position further, as the test of its byte says and that of the positions before it
next : {t u : Bool} (n : ℕ) (os : List ℕ) (i : ℕ) → i < length os → t ≡ is_literal n (byte os i) → any (same os i) (below i) ≡ u
    → any (bad_at n os) (drop i (below (length os))) ≡ elim (not t || u) [ true ↦ true | false ↦ any (bad_at n os) (drop (i + 1) (below (length os))) ]
next n os i h et eu = any_number (bad_at n os) (length os) i h (ap₂ (λ (x y : Bool). not x || y) (sym et) eu)

-- a position of the bytes before i, as the inner loop sees it
module _ (os : List ℕ) (i j : ℕ) (in_os : i < length os) where
  before : j < length (take i os) → j < i
  before h = omega (arith, length-take-le i os (omega arith))

  all_before : length (take i os) ≤ j → i ≤ j
  all_before h = omega (arith, length-take-le i os (omega arith))

  its_byte : j < i → get_or (take i os) j 0 ≡ byte os j
  its_byte h = get_or-take i os j 0 h

is_before : (c : In-loop-earlier) → c.loop-earlier.earlier-index < c.all.i
is_before c = before c.objectives-bytes.result.now c.all.i c.loop-earlier.earlier-index c.all-test.true c.loop-earlier-test.true

pub loop-earlier-preserved : goal.loop-earlier-preserved
loop-earlier-preserved c =
    let os = c.objectives-bytes.result.now in
    let lt = is_before (goal.at.loop-earlier-preserved c).In-loop-earlier in (
      c.loop-earlier.invariant.0,
      c.loop-earlier.invariant.1
          ∙ any_number (same os c.all.i) c.all.i c.loop-earlier.earlier-index lt
          (ne_eqb _ _ (λ e. c.if-earlier-b.false (its_byte os c.all.i c.loop-earlier.earlier-index c.all-test.true lt ∙ e))),
    )

pub all-preserved : goal.all-preserved
all-preserved c =
    let os = c.objectives-bytes.result.now in (
      c.loop-earlier.invariant.0,
      c.all.invariant.1
          ∙ next c.atoms-n.result os c.all.i c.all-test.true c.if-not-is_literal.ensures
          (c.loop-earlier.invariant.1
          ∙ any_numbers_end (same os c.all.i) c.all.i c.loop-earlier.earlier-index
          (all_before os c.all.i c.loop-earlier.earlier-index c.all-test.true c.loop-earlier-test.false)),
    )

pub returns-after-all : goal.returns-after-all
unfolding bad_objective
returns-after-all c =
    read c.args.sheet.bytes.now c.atoms-n.ensures c.objectives-bytes.ensures
    (c.all.invariant.0
    ∙ sym (c.all.invariant.1 ∙ any_numbers_end (bad_at c.atoms-n.result c.objectives-bytes.result.now) (length c.objectives-bytes.result.now) c.all.i c.all-test.false))

pub returns-then-not-is_literal : goal.returns-then-not-is_literal
unfolding bad_objective
returns-then-not-is_literal c =
    read c.args.sheet.bytes.now c.atoms-n.ensures c.objectives-bytes.ensures
    (sym (c.all.invariant.1 ∙ next c.atoms-n.result c.objectives-bytes.result.now c.all.i c.all-test.true c.if-not-is_literal.ensures refl))

pub returns-then-earlier-b : goal.returns-then-earlier-b
unfolding bad_objective
returns-then-earlier-b c =
    read c.args.sheet.bytes.now c.atoms-n.ensures c.objectives-bytes.ensures
    (let os = c.objectives-bytes.result.now in
    let lt = is_before (goal.at.returns-then-earlier-b c).In-loop-earlier in
    sym
    (c.all.invariant.1
    ∙ next c.atoms-n.result os c.all.i c.all-test.true c.if-not-is_literal.ensures
    (c.loop-earlier.invariant.1
    ∙ any_number (same os c.all.i) c.all.i c.loop-earlier.earlier-index lt
    (eq-eqb _ _ (sym (its_byte os c.all.i c.loop-earlier.earlier-index c.all-test.true lt) ∙ c.if-earlier-b.true)))))
