-- `prepare::clauses::clauses_into`: what an accepted sheet's clause ends keep to, and the next place of the table. Assumes nothing.
use Rattle.std.proofs.Common.{ℕ, List, ◌≡◌, ◌≤◌, map, refl, sym, ap, ◌∙◌, arith, set, take, length, length-take-le}
use Rattle.prepare.proofs.SetLaws.{first_sets, no_sets, length_sets, next_set, filled_part, Part, part_of}
use Rattle.prepare.proofs.clauses.clauses_into.Goals as goal
use Rattle.prepare.proofs.clauses.clauses_into.Goals.{After-clause_end-end}
use Rattle.prepare.specs.Carried.{sets_of}
use Rattle.prepare.specs.declared.clauses.Literals.{Literals}
use Rattle.sheet.proofs.Table.{start_next}
use Rattle.sheet.specs.Layout.{clause_count}
use Rattle.sheet.specs.Literals.{literal}
use Rattle.sheet.specs.Reading.{sheet_of}
use Rattle.words.specs.Lists.{over}

pub loop-i-init : goal.loop-i-init
loop-i-init c = record { started = refl; filled = ap (λ (l : List Literals). over l (take c.clauses.result c.args.clauses.now)) (sym (no_sets c.args.sheet.bytes.now)) }

-- the table has a place for each clause
pub slice_bounds-clause-items-end : goal.slice_bounds-clause-items-end
slice_bounds-clause-items-end c = omega (arith, c.clauses.ensures, c.requires.room)

its_places : {m : ℕ} (s : List ℕ) (d : List Literals) → m ≡ clause_count s → clause_count s ≤ length d → length (take m d) ≡ clause_count s
its_places s d e room = length-take-le _ d (omega (arith, e, room)) ∙ e

-- what is known of the clause that the loop is at
its_part : (c : After-clause_end-end) → Part c.args.sheet.bytes.now c.literals-literals.result.now c.loop-i.i c.loop-i.start c.clause_end-end.result
its_part c =
    part_of c.args.sheet.bytes.now c.loop-i.i c.requires.accepted
    (omega (arith, c.loop-i-test.true, its_places c.args.sheet.bytes.now c.args.clauses.now c.clauses.ensures c.requires.room)) c.literals-literals.ensures c.loop-i.invariant.started c.clause_end-end.ensures

pub slice_bounds-bytes-count : goal.slice_bounds-bytes-count
slice_bounds-bytes-count c = (its_part (goal.at.slice_bounds-bytes-count c).After-clause_end-end).rises

pub slice_bounds-bytes-start : goal.slice_bounds-bytes-start
slice_bounds-bytes-start c = (its_part (goal.at.slice_bounds-bytes-start c).After-clause_end-end).rises

pub slice_bounds-bytes-end : goal.slice_bounds-bytes-end
slice_bounds-bytes-end c = (its_part (goal.at.slice_bounds-bytes-end c).After-clause_end-end).within

pub invariant_of-clause_of : goal.invariant_of-clause_of
invariant_of-clause_of c = record { literals = (its_part (goal.at.invariant_of-clause_of c).After-clause_end-end).literals }

pub loop-i-preserved : goal.loop-i-preserved
loop-i-preserved c =
    let s = c.args.sheet.bytes.now in
    let l = c.loop-i in
    let n = its_part (goal.at.loop-i-preserved c).After-clause_end-end in
    record {
      started = c.clause_end-end.ensures ∙ sym (start_next s l.i);
      filled =
          ap (λ (xs : List Literals). set xs l.i c.clause_of.result) l.invariant.filled
          ∙ next_set s (take c.clauses.result c.args.clauses.now) l.i c.clause_of.result (c.clause_of.ensures ∙ ap (λ (bs : List ℕ). sets_of (map literal bs)) n.part)
          c.loop-i-test.true;
    }

pub returns : goal.returns
unfolding sheet_of
returns c =
    let s = c.args.sheet.bytes.now in
    let d = c.args.clauses.now in
    let places = its_places s d c.clauses.ensures c.requires.room in
    let all : c.loop-i.i ≡ clause_count s = omega (arith, c.loop-i-test.false, c.loop-i.auto.i-end, places) in
    filled_part (first_sets s c.loop-i.i) d (length_sets s c.loop-i.i ∙ all ∙ sym c.clauses.ensures) (omega (arith, c.clauses.ensures, c.requires.room)) c.loop-i.invariant.filled
    ∙ ap (λ (i : ℕ). over (first_sets s i) d) all
