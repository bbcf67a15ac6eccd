-- The sheets A to F are read as the clauses and objectives that document 01 says, computed. Assumes nothing.
use Rattle.std.proofs.Common.{ℕ, List, [], ◌∷◌, map, ◌≡◌, refl, length}
use Rattle.sheet.specs.Layout.{word}
use Rattle.sheet.specs.Literals.{Lit, pos, neg, signed, literal, is_literal}
use Rattle.sheet.specs.Order.{taking, branch}
use Rattle.sheet.specs.Reading.{short, out_of_range, misplaced, bad_ends, bad_literal, bad_objective, table, Sheet, sheet_of, understood, read}
use Rattle.sheet.proofs.Worked.{sheet_a, sheet_b, sheet_c, sheet_d, sheet_e, sheet_f}
use Rattle.words.specs.Lists.{below}

abbrev sheet : ℕ → List (List Lit) → List Lit → Sheet
sheet n clauses objectives = record { atoms = n; clauses = clauses; objectives = objectives }

abbrev pub worked : List (List ℕ)
worked = sheet_a ∷ sheet_b ∷ sheet_c ∷ sheet_d ∷ sheet_e ∷ sheet_f ∷ []

abbrev pub meant : List Sheet
meant =
    sheet 3 ((neg 1 ∷ neg 2 ∷ []) ∷ (neg 2 ∷ neg 3 ∷ []) ∷ []) (pos 1 ∷ pos 2 ∷ pos 3 ∷ [])
    ∷ sheet 2 ((neg 1 ∷ []) ∷ []) (pos 1 ∷ pos 2 ∷ [])
    ∷ sheet 2 [] (pos 1 ∷ [])
    ∷ sheet 1 [] []
    ∷ sheet 3 ((neg 1 ∷ []) ∷ []) (pos 1 ∷ pos 2 ∷ [])
    ∷ sheet 1 ([] ∷ []) []
    ∷ []

pub worked_sheets : map read worked ≡ map understood meant
unfolding read table short out_of_range misplaced bad_ends bad_literal bad_objective sheet_of word below signed literal is_literal
worked_sheets = refl

-- "47 bytes" and "39 bytes"
pub worked_lengths : map length (sheet_a ∷ sheet_b ∷ []) ≡ (47 ∷ 39 ∷ [])
worked_lengths = refl

-- their branch orders
pub worked_orders : map branch meant ≡ ((pos 1 ∷ pos 2 ∷ pos 3 ∷ []) ∷ (pos 1 ∷ pos 2 ∷ []) ∷ (pos 1 ∷ pos 2 ∷ []) ∷ (pos 1 ∷ []) ∷ (pos 1 ∷ pos 2 ∷ pos 3 ∷ []) ∷ (pos 1 ∷ []) ∷ [])
unfolding branch taking below
worked_orders = refl
