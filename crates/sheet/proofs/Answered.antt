-- What an answer of the check says of the sheet. Assumes nothing.
use Rattle.std.proofs.Common.{ℕ, ◌≤◌, List, ◌≡◌, refl, sym, ap, ◌∙◌, length, Ok, Err, cond, eqb, Result, arith}
use Rattle.sheet.proofs.ExactlyOne.{understood_accepted}
use Rattle.sheet.proofs.Understood.{passed, atoms_are, clauses_counted, objectives_counted}
use Rattle.sheet.specs.Enums.{number_of, numbered, check_of}
use Rattle.sheet.specs.Layout.{atom_count, clause_count, objective_count}
use Rattle.sheet.specs.Reading.{Reading, refused, understood, read, sheet_of, Accepted}
use Rattle.sheet.specs.declared.Refusal.TheVariants.{Short, OutOfRange, Misplaced, BadEnds, BadLiteral, BadObjective}
use Rattle.sheet.specs.declared.Refusal.{Refusal}
use Rattle.sheet.specs.declared.Sizes.{Sizes}

pub answered_refused : (s : List ℕ) {c : ℕ} → Err c ≡ check_of (read s) → read s ≡ refused c
answered_refused s {c} e = go (read s) refl e
  where
    go : (v : Reading) → read s ≡ v → Err c ≡ check_of v → read s ≡ refused c
    go (refused d) h e = let same : d ≡ c = cc in h ∙ ap refused same
    go (understood x) h e = absurd (let z : ◌≡◌ {A = ℕ} 0 1 = cc in omega arith)

-- an accepted sheet, and its three numbers
pub record Sized (s : List ℕ) (sizes : Sizes) : Type 0 where
  pub accepted : Accepted s
  pub atoms : sizes.atoms ≡ atom_count s
  pub clauses : sizes.clauses ≡ clause_count s
  pub objectives : sizes.objectives ≡ objective_count s

pub answered_accepted : (s : List ℕ) {sizes : Sizes} → Ok sizes ≡ check_of (read s) → Sized s sizes
answered_accepted s {sizes} e = go (read s) refl e
  where
    go : (v : Reading) → read s ≡ v → Ok sizes ≡ check_of v → Sized s sizes
    go (refused d) h e = absurd (let z : ◌≡◌ {A = ℕ} 0 1 = cc in omega arith)
    go (understood x) h e =
        let ok : Accepted s = understood_accepted s h in
        let same : Ok sizes ≡ check_of (understood (sheet_of s)) = e ∙ ap check_of (sym h ∙ ok) in
        record {
          accepted = ok;
          atoms = (let t : sizes.atoms ≡ (sheet_of s).atoms = cc in t) ∙ atoms_are s;
          clauses = (let t : sizes.clauses ≡ length (sheet_of s).clauses = cc in t) ∙ clauses_counted s;
          objectives = (let t : sizes.objectives ≡ length (sheet_of s).objectives = cc in t) ∙ objectives_counted s (passed s ok).sized;
        }

-- the same of what the code's check has answered
pub checked_sizes : (s : List ℕ) {answer : Result Sizes Refusal} {sizes : Sizes} → numbered answer ≡ check_of (read s) → answer ≡ Ok sizes → Sized s sizes
checked_sizes s checked is = answered_accepted s (sym (ap numbered is) ∙ checked)

pub sizes_small : {s : List ℕ} {sizes : Sizes} → Sized s sizes → (sizes.atoms ≤ 64) × (sizes.clauses ≤ 1024) × (sizes.objectives ≤ 64)
sizes_small {s} z =
    let p = (passed s z.accepted).sized.counted in
    (omega (arith, z.atoms, p.atoms), omega (arith, z.clauses, p.clauses), omega (arith, z.objectives, p.objectives))

-- ---- the numbers tell the refusals apart

refusal_of : ℕ → Refusal
refusal_of n = cond (eqb n 10) Short (cond (eqb n 11) OutOfRange (cond (eqb n 12) Misplaced (cond (eqb n 13) BadEnds (cond (eqb n 14) BadLiteral BadObjective))))

back : Result Sizes ℕ → Result Sizes Refusal
back (Ok sizes) = Ok sizes
back (Err n) = Err (refusal_of n)

refusal_back : (r : Refusal) → refusal_of (number_of r) ≡ r
unfolding refusal_of
refusal_back Short = refl
refusal_back OutOfRange = refl
refusal_back Misplaced = refl
refusal_back BadEnds = refl
refusal_back BadLiteral = refl
refusal_back BadObjective = refl

back_again : (x : Result Sizes Refusal) → back (numbered x) ≡ x
unfolding back
back_again (Ok sizes) = refl
back_again (Err r) = ap Err (refusal_back r)

pub numbered_once : (x y : Result Sizes Refusal) → numbered x ≡ numbered y → x ≡ y
numbered_once x y e = sym (back_again x) ∙ ap back e ∙ back_again y
