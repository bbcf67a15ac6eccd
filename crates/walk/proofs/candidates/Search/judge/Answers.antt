-- The scan is the pass-over rule, the call is the test, and settling is that of the definition. Assumes nothing.
use Rattle.std.proofs.Common.{◌≡◌, ℕ, [], ◌∷◌, map, length, refl, sym, ap, ◌∙◌, subst, Option}
use mathlib.Core.List.Memᴰ.{not-nil}
use Rattle.prepare.proofs.SetLaws.{no_literals}
use Rattle.prepare.specs.Carried.{Prepared}
use Rattle.prepare.specs.declared.network.Network.{Network}
use Rattle.search.specs.Models.{holds, part}
use Rattle.search.specs.Search.{settle, with_test}
use Rattle.sheet.specs.Enums.{lit}
use Rattle.sheet.specs.Literals.{literal, complement}
use Rattle.sheet.specs.Reading.{Sheet}
use Rattle.walk.proofs.Judging.{judge_passed, judge_tests, conditions_placed}
use Rattle.walk.proofs.candidates.Search.judge.Goals as goal
use Rattle.walk.specs.Carried.{test_below, state_of, ended_as}
use Rattle.walk.specs.declared.candidates.Ending.{Ending}
use Rattle.words.specs.Lists.{pick}

-- the part that the code has found is that of the model
its_part : (x : Sheet) (n : Network) (m : ℕ) {p : ℕ} → Prepared x n → p ≡ part (map literal n.objectives.bytes.now) m → p ≡ part x.objectives m
its_part x n m is e = e ∙ ap (λ us. part us m) is.objectives

pub returns-then-passed_over-clause-tells_judged : goal.returns-then-passed_over-clause-tells_judged
returns-then-passed_over-clause-tells_judged c x is =
    let a = c.args in
    let g = a.self.now in
    ap (λ (e : Option Ending). ended_as e (state_of a.w a.store.now)) c.requires.1.1
    ∙ sym (judge_passed x (lit g.question) g.allowance (length a.store.now) a.model (state_of a.w a.store.now)
    (its_part x g.network a.model is c.part_of-part.ensures) (sym c.passed_over.ensures ∙ c.if-passed_over.true))

pub returns-clause-tells_judged : goal.returns-clause-tells_judged
returns-clause-tells_judged c x is =
    let a = c.args in
    let g = a.self.now in
    let test = c.new-test.ensures in
    let us = complement (lit g.question) ∷ pick (holds a.model) (map literal g.network.objectives.bytes.now) in
    let its = its_part x g.network a.model is c.part_of-part.ensures in
    let read : Prepared x c.new-test.result.network = subst (Prepared x) (sym test.network) is in
    c.settle.ensures.tells_settled (with_test (state_of a.w a.store.now)) refl refl
    ∙ ap (settle (length a.store.now) a.model (with_test (state_of a.w a.store.now)))
    (c.seek-tried.ensures.tells_test x.clauses us []
    (record {
      clauses = read.clauses;
      banned = test.ban ∙ c.ban_of-ban.ensures;
      conditions = conditions_placed g.network.objectives a.model g.question;
      made = no_literals c.default.ensures.0 c.default.ensures.1;
      decided = λ l h. absurd (not-nil h);
    })
    ∙ (λ i. test_below x.clauses (complement (lit g.question) ∷ pick (holds a.model) (is.objectives i)) (read.objectives i) (read.order i) [] ((test.candidate ∙ its) i) (test.allowance i) a.w.steps))
    ∙ sym (judge_tests x (lit g.question) g.allowance (length a.store.now) a.model (state_of a.w a.store.now) its (sym c.passed_over.ensures ∙ c.if-passed_over.false))
