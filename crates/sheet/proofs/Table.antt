-- The rows of the document's table: what each says where its tests are known, and what is known where it does not apply. Assumes nothing.
use Rattle.std.proofs.Common.{ℕ, ◌+◌, ◌≤◌, Bool, false, not, ◌||◌, List, [], ◌∷◌, ◌≡◌, sym, ap, ◌∙◌, add-one, eqb, length, ltb-false, eqb-true}
use Rattle.std.proofs.lemmas.Bool.{not-false, or_parts}
use Rattle.sheet.proofs.Literals.{between_says}
use Rattle.sheet.specs.Layout.{header, atom_count, clause_count, objective_count, literal_count, ends_at, literals_at, objectives_at, total_bytes, clause_start, clause_end, objective_bytes}
use Rattle.sheet.specs.Literals.{between}
use Rattle.sheet.specs.Passed.{Counted, Whole}
use Rattle.sheet.specs.Reading.{short, out_of_range, misplaced, falls, bad_ends, bad_literal, bad_objective, row, table, first_of, Reading, understood, sheet_of, read}
use Rattle.words.specs.Lists.{any, below}

module _ (s : List ℕ) where
  -- ---- a row by its tests

  pub out_is : {a b c d : Bool} → between 1 64 (atom_count s) ≡ a → between 0 1024 (clause_count s) ≡ b → between 0 64 (objective_count s) ≡ c → between 0 8192 (literal_count s) ≡ d
      → (not a || not b || not c || not d) ≡ out_of_range s
  unfolding out_of_range
  out_is ea eb ec ed = λ i. not (sym ea i) || not (sym eb i) || not (sym ec i) || not (sym ed i)

  pub misplaced_is : {a b c d e : Bool} → eqb (header s 4) ends_at ≡ a → eqb (header s 5) (literals_at s) ≡ b → eqb (header s 6) (objectives_at s) ≡ c → eqb (header s 7) (total_bytes s) ≡ d
      → eqb (length s) (header s 7) ≡ e → (not a || not b || not c || not d || not e) ≡ misplaced s
  unfolding misplaced
  misplaced_is ea eb ec ed ee = λ i. not (sym ea i) || not (sym eb i) || not (sym ec i) || not (sym ed i) || not (sym ee i)

  pub ends_are : {a b : Bool} → any (falls s) (below (clause_count s)) ≡ a → eqb (clause_start s (clause_count s)) (literal_count s) ≡ b
      → (a || not b) ≡ bad_ends s
  unfolding bad_ends
  ends_are ea eb = λ i. sym ea i || not (sym eb i)

  -- each clause starts where the one before ends
  pub start_next : (i : ℕ) → clause_start s (i + 1) ≡ clause_end s i
  start_next i = ap (clause_start s) (add-one i)

  -- ---- what is known where a row does not apply

  pub counted : 32 ≤ length s → out_of_range s ≡ false → Counted s
  unfolding out_of_range
  counted h e =
      let p = or_parts _ _ e in
      let q = or_parts _ _ p.0 in
      let r = or_parts _ _ q.0 in
      let n = between_says 1 64 (atom_count s) (not-false _ r.0) in
      record {
        header = h;
        some_atom = n.0;
        atoms = n.1;
        clauses = (between_says 0 1024 (clause_count s) (not-false _ r.1)).1;
        objectives = (between_says 0 64 (objective_count s) (not-false _ q.1)).1;
        literals = (between_says 0 8192 (literal_count s) (not-false _ p.1)).1;
      }

  pub placed : Counted s → misplaced s ≡ false → Whole s
  unfolding misplaced
  placed c e =
      let p = or_parts (not (eqb (header s 4) ends_at) || not (eqb (header s 5) (literals_at s)) || not (eqb (header s 6) (objectives_at s)) || not (eqb (header s 7) (total_bytes s))) _ e in
      let q = or_parts (not (eqb (header s 4) ends_at) || not (eqb (header s 5) (literals_at s)) || not (eqb (header s 6) (objectives_at s))) _ p.0 in
      record {
        counted = c;
        whole = eqb-true (length s) (header s 7) (not-false _ p.1) ∙ eqb-true (header s 7) (total_bytes s) (not-false _ q.1);
      }

  pub short_says : short s ≡ false → 32 ≤ length s
  unfolding short
  short_says e = ltb-false (length s) 32 e

  -- ---- the whole table by its rows

  -- the reading, where each row is known to apply or not
  abbrev pub read_by : (a b c d e f : Bool) → Reading
  read_by a b c d e f =
      first_of (row 10 a ∷ row 11 b ∷ row 12 c ∷ row 13 d ∷ row 14 e ∷ row 15 f ∷ []) (understood (sheet_of s))

  pub read_is : {a b c d e f : Bool} → short s ≡ a → out_of_range s ≡ b → misplaced s ≡ c → bad_ends s ≡ d → bad_literal s ≡ e → bad_objective (atom_count s) (objective_bytes s) ≡ f
      → read_by a b c d e f ≡ read s
  unfolding read table
  read_is ea eb ec ed ee ef = λ i. read_by (sym ea i) (sym eb i) (sym ec i) (sym ed i) (sym ee i) (sym ef i)
