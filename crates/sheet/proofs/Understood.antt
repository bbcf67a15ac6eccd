-- What an accepted sheet is understood as. Assumes nothing.
use Rattle.std.proofs.Common.{ℕ, ◌-◌, ◌≤◌, false, List, map, ◌≡◌, refl, ◌∙◌, subst, arith, length, drop, length-drop, length-take-le}
use mathlib.Core.List.Memᴰ.{head, tail}
use mathlib.Core.List.{Memᴰ as Mem}
use Rattle.std.proofs.lemmas.List.{length-map}
use Rattle.sheet.proofs.ExactlyOne.{Says, exactly_one}
use Rattle.sheet.proofs.Table.{short_says, counted, placed}
use Rattle.sheet.specs.Layout.{atom_count, clause_count, objective_count, objectives_at, total_bytes, span, clause_bytes, objective_bytes}
use Rattle.sheet.specs.Literals.{literal}
use Rattle.sheet.specs.Passed.{Whole}
use Rattle.sheet.specs.Reading.{short, out_of_range, misplaced, bad_ends, bad_literal, bad_objective, Row, row, table, sheet_of, Accepted}
use Rattle.words.proofs.Lists.{length_below}
use Rattle.words.specs.Lists.{below}

-- a part that lies within the list has all its bytes
pub length_span : (from to : ℕ) (s : List ℕ) → to ≤ length s → length (span from to s) ≡ to - from
length_span from to s h = length-take-le (to - from) (drop from s) (simp length-drop (omega arith))

module _ (s : List ℕ) where
  pub atoms_are : (sheet_of s).atoms ≡ atom_count s
  unfolding sheet_of
  atoms_are = refl

  pub clauses_counted : length (sheet_of s).clauses ≡ clause_count s
  unfolding sheet_of
  clauses_counted = length-map (below (clause_count s)) (λ i. map literal (clause_bytes s i)) ∙ length_below (clause_count s)

  pub objective_bytes_counted : Whole s → length (objective_bytes s) ≡ objective_count s
  objective_bytes_counted p = length_span (objectives_at s) (total_bytes s) s (omega (arith, p.whole)) ∙ omega arith

  pub objectives_counted : Whole s → length (sheet_of s).objectives ≡ objective_count s
  unfolding sheet_of
  objectives_counted p = length-map (objective_bytes s) literal ∙ objective_bytes_counted p

-- what the check's returns cite: what is known past each row, and the numbers of what is understood
pub ruleset table_read = (counted, placed, atoms_are, clauses_counted, objectives_counted)

-- ---- no row applies to an accepted sheet

pub record Passed (s : List ℕ) : Type 0 where
  pub sized : Whole s
  pub ends_rise : bad_ends s ≡ false
  pub all_literals : bad_literal s ≡ false
  pub objectives_right : bad_objective (atom_count s) (objective_bytes s) ≡ false

module _ (s : List ℕ) (ok : Accepted s) where
  applies_not : (r : Row) → Mem r (table s) → r.applies ≡ false
  applies_not = (subst (Says (table s) (sheet_of s)) ok (exactly_one s).0).0

  pub passed : Passed s
  unfolding table
  passed =
      let long = short_says s (applies_not (row 10 (short s)) (head refl)) in
      let in_range = applies_not (row 11 (out_of_range s)) (tail (head refl)) in
      record {
        sized = placed s (counted s long in_range) (applies_not (row 12 (misplaced s)) (tail (tail (head refl))));
        ends_rise = applies_not (row 13 (bad_ends s)) (tail (tail (tail (head refl))));
        all_literals = applies_not (row 14 (bad_literal s)) (tail (tail (tail (tail (head refl)))));
        objectives_right = applies_not (row 15 _) (tail (tail (tail (tail (tail (head refl))))));
      }
