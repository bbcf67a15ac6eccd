-- The sheets A to F of document 01, "Sheets worked by hand", as bytes.
use Rattle.std.proofs.Common.{ℕ, ◌+◌, ◌*◌, List, [], ◌∷◌, ◌++◌}

-- a 32-bit word below 256
abbrev pub small : ℕ → List ℕ
small x = x ∷ 0 ∷ 0 ∷ 0 ∷ []

-- the header of n atoms, m clauses, k objectives and l literals
abbrev pub header_of : (n m k l : ℕ) → List ℕ
header_of n m k l =
    small n ++ small m ++ small k ++ small l ++ small 32 ++ small (32 + 4 * m) ++ small (32 + 4 * m + l) ++ small (32 + 4 * m + l + k)

-- "A: n 3, clauses (-1 -2) (-2 -3), objectives 1 2 3; 47 bytes."
abbrev pub sheet_a : List ℕ
sheet_a = header_of 3 2 3 4 ++ small 2 ++ small 4 ++ (255 ∷ 254 ∷ 254 ∷ 253 ∷ []) ++ (1 ∷ 2 ∷ 3 ∷ [])

-- "Sheet B is 39 bytes: words 2 1 2 1 32 36 37 39, then bytes 01 00 00 00 FF 01 02."
abbrev pub sheet_b : List ℕ
sheet_b =
    small 2 ++ small 1 ++ small 2 ++ small 1 ++ small 32 ++ small 36 ++ small 37 ++ small 39
    ++ (0x01 ∷ 0x00 ∷ 0x00 ∷ 0x00 ∷ 0xFF ∷ 0x01 ∷ 0x02 ∷ [])

-- "C: n 2, no clause, objective 1."
abbrev pub sheet_c : List ℕ
sheet_c = header_of 2 0 1 0 ++ (1 ∷ [])

-- "D: n 1, no clause, no objective."
abbrev pub sheet_d : List ℕ
sheet_d = header_of 1 0 0 0

-- "E: n 3, clause (-1), objectives 1 2."
abbrev pub sheet_e : List ℕ
sheet_e = header_of 3 1 2 1 ++ small 1 ++ (255 ∷ []) ++ (1 ∷ 2 ∷ [])

-- "F: n 1, one empty clause, no objective."
abbrev pub sheet_f : List ℕ
sheet_f = header_of 1 1 0 0 ++ small 0
