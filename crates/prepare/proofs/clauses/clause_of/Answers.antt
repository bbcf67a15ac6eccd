-- `prepare::clauses::clause_of`: no atom is in the empty sets, and the byte that the loop goes back to stands in front of those behind it. Assumes nothing.
use Rattle.std.proofs.Common.{ℕ, List, [], ◌∷◌, ◌++◌, map, ◌≡◌, sym, ap, ◌∙◌}
use Rattle.std.proofs.lemmas.List.{nil_from_length}
use Rattle.prepare.proofs.SetLaws.{no_literals}
use Rattle.prepare.proofs.clauses.clause_of.Goals as goal
use Rattle.prepare.specs.Carried.{sets_of}
use Rattle.sheet.proofs.Backwards.{none_taken, moved, is_one}
use Rattle.sheet.specs.Literals.{Lit, literal}

pub of-requires : goal.of-requires
of-requires c =
    let i = c.loop-b.invariant in
    let rest = c.next.new.self.iter.rest.now in
    is_one rest i.0 c.in-Some.field-0.now c.in-Some.ensures.steps i.1 c.args.bytes.literals

pub loop-b-init : goal.loop-b-init
loop-b-init c =
    let none = c.default-clause.ensures in
    let all_left : c.into_iter-b-iterator.result.iter.rest.now ≡ c.args.bytes.bytes.now = cc in
    ([], none_taken all_left, no_literals none.0 none.1)

pub loop-b-preserved : goal.loop-b-preserved
loop-b-preserved c =
    let i = c.loop-b.invariant in
    let rest = c.next.new.self.iter.rest.now in
    let b = c.in-Some.field-0.now in (
      b ∷ i.0,
      moved rest i.0 b c.in-Some.ensures.steps i.1,
      c.with-clause.ensures (map literal i.0) i.2 ∙ ap (λ (l : Lit). sets_of (l ∷ map literal i.0)) c.of.ensures,
    )

pub returns : goal.returns
returns c =
    let i = c.loop-b.invariant in
    let none = nil_from_length _ c.in-None.ensures.steps.0 in
    i.2 ∙ ap (λ (l : List ℕ). sets_of (map literal l)) (sym (i.1 ∙ ap (λ (l : List ℕ). l ++ i.0) none))
