-- The atoms that are given values, in which order a model is read, and the branch order. Quotations are of document 01.
use Rattle.std.specs.Prelude.{ℕ, suc, Bool, true, false, List, [], ◌∷◌, ◌++◌, map, eqb}
use Rattle.sheet.specs.Literals.{Lit, pos, atom}
use Rattle.sheet.specs.Reading.{Sheet}
use Rattle.words.specs.Lists.{any, below}

-- the atoms 1 to n
abbrev pub up_to : ℕ → List ℕ
up_to n = map suc (below n)

-- "it takes a model to be a value for every atom 1 to n that the sheet declares": the atoms that are given values and branched on
abbrev pub valued : Sheet → List ℕ
valued x = up_to x.atoms

-- "look at objective positions from 0 .. look at atoms from 1": the literals in the order in which a model is read
abbrev pub readings : Sheet → List Lit
readings x = x.objectives ++ map pos (valued x)

-- the literal is of atom a
abbrev pub names : ℕ → Lit → Bool
names a l = eqb (atom l) a

-- the order with l at its end, unless l's atom is named in it
unfoldable pub taking : List Lit → Lit → List Lit
taking order l = elim (any (names (atom l)) order) [ true ↦ order | false ↦ order ++ (l ∷ []) ]

-- the same for one literal after the other
abbrev pub taking_all : List Lit → List Lit → List Lit
taking_all order [] = order
taking_all order (l ∷ ls) = taking_all (taking order l) ls

-- "The branch order is the atoms of the objectives by first appearance, each first with the value that satisfies the objective where it
-- first appears; then the remaining atoms ascending, true first." An entry is the literal that is made true first.
unfoldable pub branch : Sheet → List Lit
branch x = taking_all [] (readings x)
