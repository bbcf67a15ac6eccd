-- What a list of bytes is as a check sheet: refused with a number, or understood as clauses and objectives. Quotations are of document 01.
use Rattle.std.specs.Prelude.{ℕ, Bool, true, false, not, ◌||◌, List, [], ◌∷◌, map, ◌≡◌, ltb, eqb, length}
use Rattle.sheet.specs.Layout.{byte, header, atom_count, clause_count, objective_count, literal_count, ends_at, literals_at, objectives_at, total_bytes, clause_start, clause_end, clause_bytes, literal_bytes, objective_bytes}
use Rattle.sheet.specs.Literals.{Lit, literal, between, is_literal}
use Rattle.words.specs.Lists.{any, below}

-- ---- the refusals

-- 10: "sheet under 32 bytes"
unfoldable pub short : List ℕ → Bool
short s = ltb (length s) 32

-- 11: "word 0, 1, 2 or 3 out of range"
unfoldable pub out_of_range : List ℕ → Bool
out_of_range s =
    not (between 1 64 (atom_count s)) || not (between 0 1024 (clause_count s))
    || not (between 0 64 (objective_count s)) || not (between 0 8192 (literal_count s))

-- 12: "words 4 to 7 not as above, or length is not word 7"
unfoldable pub misplaced : List ℕ → Bool
misplaced s =
    not (eqb (header s 4) ends_at) || not (eqb (header s 5) (literals_at s))
    || not (eqb (header s 6) (objectives_at s)) || not (eqb (header s 7) (total_bytes s))
    || not (eqb (length s) (header s 7))

-- clause i ends before it starts
abbrev pub falls : List ℕ → ℕ → Bool
falls s i = ltb (clause_end s i) (clause_start s i)

-- 13: "ends fall, last is not L, or m = 0 and L is not 0"; what stands before clause m is the last end, and 0 where m = 0
unfoldable pub bad_ends : List ℕ → Bool
bad_ends s = any (falls s) (below (clause_count s)) || not (eqb (clause_start s (clause_count s)) (literal_count s))

-- the byte is no literal of n atoms
abbrev pub no_literal : ℕ → ℕ → Bool
no_literal n b = not (is_literal n b)

-- 14: "a clause byte that is no literal"
unfoldable pub bad_literal : List ℕ → Bool
bad_literal s = any (no_literal (atom_count s)) (literal_bytes s)

-- the bytes at positions i and j are the same
abbrev pub same : List ℕ → ℕ → ℕ → Bool
same os i j = eqb (byte os j) (byte os i)

-- the byte at position i is no literal, or stands at a position before i too
abbrev pub bad_at : ℕ → List ℕ → ℕ → Bool
bad_at n os i = no_literal n (byte os i) || any (same os i) (below i)

-- 15: "an objective byte that is no literal, or the same literal twice"
unfoldable pub bad_objective : ℕ → List ℕ → Bool
bad_objective n os = any (bad_at n os) (below (length os))

-- ---- the table

pub record Row : Type 0 where
  pub code : ℕ
  pub applies : Bool

abbrev pub row : ℕ → Bool → Row
row c b = record { code = c; applies = b }

-- "Checks go in the order of the table; the first that applies answers."
unfoldable pub table : List ℕ → List Row
table s =
    row 10 (short s)
    ∷ row 11 (out_of_range s)
    ∷ row 12 (misplaced s)
    ∷ row 13 (bad_ends s)
    ∷ row 14 (bad_literal s)
    ∷ row 15 (bad_objective (atom_count s) (objective_bytes s))
    ∷ []

-- ---- what is understood

pub record Sheet : Type 0 where
  pub atoms : ℕ
  pub clauses : List (List Lit)
  pub objectives : List Lit

unfoldable pub sheet_of : List ℕ → Sheet
sheet_of s =
    record {
      atoms = atom_count s;
      clauses = map (λ i. map literal (clause_bytes s i)) (below (clause_count s));
      objectives = map literal (objective_bytes s);
    }

pub data Reading : Type 0 where
  refused : ℕ → Reading
  understood : Sheet → Reading

-- the first row that applies, or else what follows
abbrev pub first_of : List Row → Reading → Reading
first_of [] otherwise = otherwise
first_of (r ∷ rs) otherwise = elim r.applies [ true ↦ refused r.code | false ↦ first_of rs otherwise ]

unfoldable pub read : List ℕ → Reading
read s = first_of (table s) (understood (sheet_of s))

-- the sheet is not refused
abbrev pub Accepted : List ℕ → Type 0
Accepted s = read s ≡ understood (sheet_of s)
