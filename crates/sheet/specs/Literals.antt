-- Literals, and the bytes that stand for them. Quotations are of document 01.
use Rattle.std.specs.Prelude.{ℕ, suc, ◌-◌, Bool, true, false, cond, ◌&&◌, ◌||◌, List, map, ltb, leb, ℤ}
use Rattle.std.proofs.Math.IntN.{sub_ℕ}
use Rattle.words.specs.Lists.{pick}
use Rattle.words.specs.Positions.{set_of}

-- "A literal is an atom or its negation."
pub data Lit : Type 0 where
  pos neg : ℕ → Lit

abbrev pub atom : Lit → ℕ
atom (pos a) = a
atom (neg a) = a

-- whether it is the atom itself
abbrev pub plain : Lit → Bool
plain (pos a) = true
plain (neg a) = false

-- the complement of a literal
abbrev pub complement : Lit → Lit
complement (pos a) = neg a
complement (neg a) = pos a

-- the position of a literal's atom in a set: atom a is position a - 1
abbrev pub place : Lit → ℕ
place l = atom l - 1

-- the atoms that stand plain among some literals, as a set
unfoldable pub plains : List Lit → ℕ
plains ls = set_of (map place (pick plain ls))

-- "A literal byte is read as a two's complement number from -128 to 127": from 128 on, the byte less 256
unfoldable pub signed : ℕ → ℤ
signed b = cond (ltb b 128) (ℤ.pos b) (sub_ℕ b 256)

-- "its sign is the literal's sign and its distance from zero the atom": negsuc a is the number -(a + 1)
abbrev pub of_number : ℤ → Lit
of_number (ℤ.pos a) = pos a
of_number (ℤ.negsuc a) = neg (suc a)

unfoldable pub literal : ℕ → Lit
literal b = of_number (signed b)

-- low ≤ x ≤ high
abbrev pub between : ℕ → ℕ → ℕ → Bool
between low high x = leb low x && leb x high

-- "Bytes 1 to n and 256 - n to 255 are literals; 0, 128 and the rest are not."
unfoldable pub is_literal : ℕ → ℕ → Bool
is_literal n b = between 1 n b || between (256 - n) 255 b

-- the byte that stands for a literal
abbrev pub byte_of : Lit → ℕ
byte_of (pos a) = a
byte_of (neg a) = 256 - a
