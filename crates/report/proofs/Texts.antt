-- Answers and lines as texts. Assumes nothing.
use Rattle.std.proofs.Common.{ℕ, ◌<◌, ◌≤◌, Bool, cond, List, [], ◌∷◌, length, replicate, Result, Ok, Err, ◌≡◌, refl, sym, ap, ◌∙◌, arith, lt-ltb, IsOk}
use mathlib.Core.List.Memᴰ.{head, tail}
use mathlib.Core.List.{Memᴰ as Mem}
use Rattle.query.specs.Numbers.{refusal_number, verdict_number, numbers_of}
use Rattle.query.specs.Query.{outcome, query_of}
use Rattle.query.specs.declared.reply.Refusal.TheVariants.{Sheet, NoLiteral, ShortWitness}
use Rattle.query.specs.declared.reply.Refusal.{Refusal}
use Rattle.query.specs.declared.reply.Reply.{Reply}
use Rattle.query.specs.declared.reply.Verdict.TheVariants.{Yes, No, OutOfSteps, OutOfPlaces}
use Rattle.query.specs.declared.reply.Verdict.{Verdict}
use Rattle.report.specs.Lines.{field, verdict, line, asked, line_count, line_at}
use Rattle.sheet.proofs.Understood.{passed, objectives_counted, objective_bytes_counted}
use Rattle.sheet.specs.Layout.{byte, objective_count, objective_bytes}
use Rattle.sheet.specs.Literals.{Lit, literal, complement, byte_of}
use Rattle.sheet.specs.Reading.{read, Accepted}
use Rattle.sheet.specs.declared.Refusal.TheVariants.{Short, OutOfRange, Misplaced, BadEnds, BadLiteral, BadObjective}
use Rattle.text.specs.Text.{letters, decimal}

pub says_yes : {v : Verdict} → v ≡ Yes → letters " yes" ≡ field (verdict (verdict_number v))
unfolding verdict
says_yes e = sym (λ i. field (verdict (verdict_number (e i))))

pub says_no : {v : Verdict} → v ≡ No → letters " no" ≡ field (verdict (verdict_number v))
unfolding verdict
says_no e = sym (λ i. field (verdict (verdict_number (e i))))

-- any other verdict is a number
pub says_number : (v : Verdict) → (v ≡ Yes → ⊥) → (v ≡ No → ⊥) → field (decimal (verdict_number v)) ≡ field (verdict (verdict_number v))
unfolding verdict
says_number Yes y n = absurd (y refl)
says_number No y n = absurd (n refl)
says_number OutOfSteps y n = refl
says_number OutOfPlaces y n = refl

-- ---- the reply to a line's question

-- what was asked is what the line says
pub reply_asked : (s : List ℕ) (l : Lit) {q : ℕ} (r : Result Reply Refusal) {store witness : List ℕ} → q ≡ byte_of (complement l)
    → outcome (numbers_of r) store witness ≡ query_of s q 1000000 (replicate 1024 0) (replicate 64 0) → numbers_of r ≡ asked s l
unfolding asked
reply_asked s l r question defined =
    (λ i. (defined i).reply) ∙ ap (λ (q : ℕ). (query_of s q 1000000 (replicate 1024 0) (replicate 64 0)).reply) question

refusal_numbers : (f : Refusal) → (10 ≤ refusal_number f) × (refusal_number f ≤ 17)
refusal_numbers (Sheet Short) = omega arith
refusal_numbers (Sheet OutOfRange) = omega arith
refusal_numbers (Sheet Misplaced) = omega arith
refusal_numbers (Sheet BadEnds) = omega arith
refusal_numbers (Sheet BadLiteral) = omega arith
refusal_numbers (Sheet BadObjective) = omega arith
refusal_numbers NoLiteral = omega arith
refusal_numbers ShortWitness = omega arith

-- an answer whose number is that of a verdict is no refusal
pub not_refused : (r : Result Reply Refusal) → Mem (numbers_of r).code (1 ∷ 2 ∷ 18 ∷ 19 ∷ []) → IsOk r
not_refused (Ok r) m = refl
not_refused (Err f) (head e) = absurd (omega (arith, refusal_numbers f))
not_refused (Err f) (tail (head e)) = absurd (omega (arith, refusal_numbers f))
not_refused (Err f) (tail (tail (head e))) = absurd (omega (arith, refusal_numbers f))
not_refused (Err f) (tail (tail (tail (head e)))) = absurd (omega (arith, refusal_numbers f))
not_refused (Err f) (tail (tail (tail (tail m)))) = elim m [ ]

-- ---- the line of an objective that is there

pub lines_counted : (s : List ℕ) → Accepted s → line_count (read s) ≡ objective_count s
lines_counted s ok = ap line_count ok ∙ objectives_counted s (passed s ok).sized

pub listed_there : (s : List ℕ) → Accepted s → (i : ℕ) → i < line_count (read s) → i < length (objective_bytes s)
listed_there s ok i there = omega (arith, lines_counted s ok, objective_bytes_counted s (passed s ok).sized)

pub a_line : (s : List ℕ) (i : ℕ) → i < line_count (read s) → line i (literal (byte (objective_bytes s) i)) (asked s (literal (byte (objective_bytes s) i))) ≡ line_at s i
unfolding line_at
a_line s i there =
    let l = literal (byte (objective_bytes s) i) in
    ap (λ (b : Bool). cond b (line i l (asked s l)) []) (sym (lt-ltb i (line_count (read s)) there))
