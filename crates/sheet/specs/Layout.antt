-- Where things stand on a check sheet, a list of bytes. Quotations are of document 01.
use Rattle.std.specs.Prelude.{ℕ, zero, suc, ◌+◌, ◌-◌, ◌*◌, List, get_or, take, drop}

-- the byte at a place; past the end there is none, and this says 0
abbrev pub byte : List ℕ → ℕ → ℕ
byte s at = get_or s at 0

-- the bytes from a place on, up to another
abbrev pub span : ℕ → ℕ → List ℕ → List ℕ
span from to s = take (to - from) (drop from s)

-- a little-endian 32-bit word
unfoldable pub word : List ℕ → ℕ → ℕ
word s at = byte s at + byte s (at + 1) * 256 + byte s (at + 2) * 65536 + byte s (at + 3) * 16777216

-- "Header of 32 bytes, eight little-endian 32-bit words"
abbrev pub header : List ℕ → ℕ → ℕ
header s i = word s (4 * i)

-- word 0: "atoms n"
abbrev pub atom_count : List ℕ → ℕ
atom_count s = header s 0

-- word 1: "clauses m"
abbrev pub clause_count : List ℕ → ℕ
clause_count s = header s 1

-- word 2: "objectives k"
abbrev pub objective_count : List ℕ → ℕ
objective_count s = header s 2

-- word 3: "literals L in all clauses"
abbrev pub literal_count : List ℕ → ℕ
literal_count s = header s 3

-- "offset of clause ends": 32
abbrev pub ends_at : ℕ
ends_at = 32

-- "offset of literals": 32 + 4m
abbrev pub literals_at : List ℕ → ℕ
literals_at s = ends_at + 4 * clause_count s

-- "offset of objectives": 32 + 4m + L
abbrev pub objectives_at : List ℕ → ℕ
objectives_at s = literals_at s + literal_count s

-- "total bytes": 32 + 4m + L + k
abbrev pub total_bytes : List ℕ → ℕ
total_bytes s = objectives_at s + objective_count s

-- "The clause ends are m 32-bit words: word i is the number of literals in clauses 0 to i."
abbrev pub clause_end : List ℕ → ℕ → ℕ
clause_end s i = word s (ends_at + 4 * i)

-- the number of literals before clause i: the end before, and 0 before the first clause
abbrev pub clause_start : List ℕ → ℕ → ℕ
clause_start s zero = 0
clause_start s (suc i) = clause_end s i

-- "Clause literals and objectives are one byte each."
abbrev pub clause_bytes : List ℕ → ℕ → List ℕ
clause_bytes s i = span (literals_at s + clause_start s i) (literals_at s + clause_end s i) s

abbrev pub literal_bytes : List ℕ → List ℕ
literal_bytes s = span (literals_at s) (objectives_at s) s

abbrev pub objective_bytes : List ℕ → List ℕ
objective_bytes s = span (objectives_at s) (total_bytes s) s
