-- The code's types as values of the document.
use Rattle.std.specs.Prelude.{ℕ, cond, length, Option, Some, None, Result, Ok, Err}
use Rattle.sheet.specs.Literals.{Lit, pos, neg, literal, is_literal}
use Rattle.sheet.specs.Reading.{Reading, refused, understood}
use Rattle.sheet.specs.declared.Refusal.TheVariants.{Short, OutOfRange, Misplaced, BadEnds, BadLiteral, BadObjective}
use Rattle.sheet.specs.declared.Refusal.{Refusal}
use Rattle.sheet.specs.declared.Sizes.{Sizes}
use Rattle.sheet.specs.declared.literal.Literal.{Literal}

-- "A literal is an atom or its negation."
abbrev pub lit : Literal → Lit
lit l = cond l.plain (pos l.atom) (neg l.atom)

-- the literal of a byte among n atoms, if it is one
abbrev pub literal_in : ℕ → ℕ → Option Lit
literal_in n b = cond (is_literal n b) (Some (literal b)) None

-- "10 to 15"
abbrev pub number_of : Refusal → ℕ
number_of Short = 10
number_of OutOfRange = 11
number_of Misplaced = 12
number_of BadEnds = 13
number_of BadLiteral = 14
number_of BadObjective = 15

-- what the check answers, with the document's numbers for refusals
abbrev pub numbered : Result Sizes Refusal → Result Sizes ℕ
numbered (Ok sizes) = Ok sizes
numbered (Err refusal) = Err (number_of refusal)

-- "that call answers 10 to 15, or n, m and k"
abbrev pub check_of : Reading → Result Sizes ℕ
check_of (refused c) = Err c
check_of (understood x) = Ok (record { atoms = x.atoms; clauses = length x.clauses; objectives = length x.objectives })
