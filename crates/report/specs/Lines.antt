-- What the program `suspects` prints of a sheet. Quotations are of document 01.
use Rattle.std.specs.Prelude.{ℕ, ◌+◌, not, cond, List, [], ◌++◌, eqb, ltb, length, replicate}
use mathlib.Core.List.{flat_map}
use Rattle.query.specs.Query.{Numbers, query_of}
use Rattle.sheet.specs.Layout.{byte, objective_bytes}
use Rattle.sheet.specs.Literals.{Lit, atom, plain, literal, byte_of, complement}
use Rattle.sheet.specs.Reading.{Reading, refused, understood, read}
use Rattle.text.specs.Text.{letters, decimal, signed_decimal}
use Rattle.words.specs.Lists.{below}

-- a field that follows another, behind a blank
abbrev pub field : List ℕ → List ℕ
field t = letters " " ++ t

abbrev pub newline : List ℕ
newline = letters "\n"

-- "A refused sheet prints one line, as `refused 12`. Otherwise it prints `sheet n m k`"
abbrev pub heading : Reading → List ℕ
heading (refused c) = letters "refused" ++ field (decimal c) ++ newline
heading (understood x) = letters "sheet" ++ field (decimal x.atoms) ++ field (decimal (length x.clauses)) ++ field (decimal (length x.objectives)) ++ newline

-- "`yes`, `no`, or 18 or 19"
unfoldable pub verdict : ℕ → List ℕ
verdict code = cond (eqb code 1) (letters "yes") (cond (eqb code 2) (letters "no") (decimal code))

-- "steps, tests, stored"
abbrev pub counts : Numbers → List ℕ
counts r = field (decimal r.steps) ++ field (decimal r.tests) ++ field (decimal r.stored) ++ newline

-- "position from 1, the literal in signed decimal, the answer to its complement .., steps, tests, stored"
unfoldable pub line : ℕ → Lit → Numbers → List ℕ
line i l r = decimal (i + 1) ++ field (signed_decimal (not (plain l)) (atom l)) ++ field (verdict r.code) ++ counts r

-- the reply to "its complement"; "Each question has 1,000,000 steps and 1,024 places." Store and witness buffer hold zeros beforehand, and the
-- buffer has a byte for each of the 64 atoms that a sheet can have.
unfoldable pub asked : List ℕ → Lit → Numbers
asked s l = (query_of s (byte_of (complement l)) 1000000 (replicate 1024 0) (replicate 64 0)).reply

-- how many objectives have a line
abbrev pub line_count : Reading → ℕ
line_count (refused c) = 0
line_count (understood x) = length x.objectives

-- "then a line per objective": that of the literal at position i, counted from 0; where there is no such objective there is no line
unfoldable pub line_at : List ℕ → ℕ → List ℕ
line_at s i = let l = literal (byte (objective_bytes s) i) in cond (ltb i (line_count (read s))) (line i l (asked s l)) []

-- all that is printed
unfoldable pub printed : List ℕ → List ℕ
printed s = heading (read s) ++ flat_map (line_at s) (below (line_count (read s)))
