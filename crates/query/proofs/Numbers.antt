-- The numbers of document 01 tell an answer of the code: no two answers have the same. Assumes nothing.
use Rattle.std.proofs.Common.{ℕ, cond, ◌&&◌, leb, eqb, Result, Ok, Err, ◌≡◌, refl, sym, ap, ◌∙◌}
use Rattle.query.specs.Numbers.{verdict_number, numbers_of}
use Rattle.query.specs.Query.{Numbers, reply_of}
use Rattle.query.specs.declared.reply.Refusal.TheVariants.{Sheet, NoLiteral, ShortWitness}
use Rattle.query.specs.declared.reply.Refusal.{Refusal}
use Rattle.query.specs.declared.reply.Reply.{Reply}
use Rattle.query.specs.declared.reply.Verdict.TheVariants.{Yes, No, OutOfSteps, OutOfPlaces}
use Rattle.query.specs.declared.reply.Verdict.{Verdict}
use Rattle.sheet.specs.declared.Refusal.TheVariants.{Short, OutOfRange, Misplaced, BadEnds, BadLiteral, BadObjective}

-- the refusal of a number, and the verdict
refusal_of : ℕ → Refusal
refusal_of c =
    cond (eqb c 10) (Sheet Short)
    (cond (eqb c 11) (Sheet OutOfRange)
    (cond (eqb c 12) (Sheet Misplaced)
    (cond (eqb c 13) (Sheet BadEnds) (cond (eqb c 14) (Sheet BadLiteral) (cond (eqb c 15) (Sheet BadObjective) (cond (eqb c 16) NoLiteral ShortWitness))))))

verdict_of : ℕ → Verdict
verdict_of c = cond (eqb c 1) Yes (cond (eqb c 2) No (cond (eqb c 18) OutOfSteps OutOfPlaces))

its_verdict : (v : Verdict) → verdict_of (verdict_number v) ≡ v
unfolding verdict_of
its_verdict Yes = refl
its_verdict No = refl
its_verdict OutOfSteps = refl
its_verdict OutOfPlaces = refl

pub same_verdict : (v w : Verdict) → verdict_number v ≡ verdict_number w → v ≡ w
same_verdict v w e = sym (its_verdict v) ∙ ap verdict_of e ∙ its_verdict w

-- the answer of some numbers
answer_in : Numbers → Result Reply Refusal
answer_in k =
    cond (leb 10 k.code && leb k.code 17) (Err (refusal_of k.code))
    (Ok (record { verdict = verdict_of k.code; steps = k.steps; tests = k.tests; stored = k.stored }))

its_reply : (v : Verdict) (n t k : ℕ) → answer_in (reply_of (verdict_number v) n t k) ≡ Ok (record { verdict = v; steps = n; tests = t; stored = k })
unfolding answer_in verdict_of
its_reply Yes n t k = refl
its_reply No n t k = refl
its_reply OutOfSteps n t k = refl
its_reply OutOfPlaces n t k = refl

its_answer : (r : Result Reply Refusal) → answer_in (numbers_of r) ≡ r
unfolding answer_in refusal_of
its_answer (Ok r) = its_reply r.verdict r.steps r.tests r.stored
its_answer (Err (Sheet Short)) = refl
its_answer (Err (Sheet OutOfRange)) = refl
its_answer (Err (Sheet Misplaced)) = refl
its_answer (Err (Sheet BadEnds)) = refl
its_answer (Err (Sheet BadLiteral)) = refl
its_answer (Err (Sheet BadObjective)) = refl
its_answer (Err NoLiteral) = refl
its_answer (Err ShortWitness) = refl

pub same_answer : (r t : Result Reply Refusal) → numbers_of r ≡ numbers_of t → r ≡ t
same_answer r t e = sym (its_answer r) ∙ ap answer_in e ∙ its_answer t
