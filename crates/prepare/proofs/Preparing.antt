-- The tables of an accepted sheet are what a walk reads. Assumes nothing.
use Rattle.std.proofs.Common.{ℕ, List, map, ◌≡◌, ◌≤◌, true, sym, ap, ◌∙◌, arith, length, take, take_at}
use Rattle.std.proofs.lemmas.List.{length-map}
use mathlib.Core.List.{Memᴰ as Mem}
use mathlib.Core.List.Memᴰ.{of_map}
use Rattle.prepare.specs.Carried.{sets_of, Placed, Prepared, Tables, clause_table, order_table}
use Rattle.prepare.specs.declared.clauses.Literals.{Literals}
use Rattle.prepare.specs.declared.network.Network.{Network}
use Rattle.sheet.proofs.Answered.{Sized}
use Rattle.sheet.proofs.Atoms.{clauses_valued, valued_placed}
use Rattle.sheet.proofs.EachOnce.{names_each_once}
use Rattle.sheet.proofs.LiteralBytes.{byte_is_literal, literals_of_bytes}
use Rattle.sheet.proofs.Understood.{passed, atoms_are, clauses_counted, objective_bytes_counted}
use Rattle.sheet.specs.Layout.{atom_count, clause_count, objective_bytes}
use Rattle.sheet.specs.Literals.{atom, literal, is_literal, byte_of}
use Rattle.sheet.specs.Order.{branch}
use Rattle.sheet.specs.Reading.{Reading, read, sheet_of, Accepted}
use Rattle.sheet.specs.declared.Sizes.{Sizes}
use Rattle.words.proofs.Lists.{length_below}
use Rattle.words.proofs.Members.{all_in}
use Rattle.words.specs.Lists.{all, over, below}

-- ---- the branch order and the clauses of an accepted sheet

module _ (s : List ℕ) (ok : Accepted s) where
  branch_placed : Placed (branch (sheet_of s))
  branch_placed l m = valued_placed s ok (atom l) ((names_each_once s ok).apart.only l m)

  branch_literal : (b : ℕ) → Mem b (map byte_of (branch (sheet_of s))) → is_literal 64 b ≡ true
  branch_literal b m = let u = of_map byte_of (branch (sheet_of s)) m in ap (is_literal 64) (sym u.2) ∙ byte_is_literal u.0 (branch_placed u.0 u.1)

  branch_counted : length (map byte_of (branch (sheet_of s))) ≡ atom_count s
  branch_counted =
      let n = (sheet_of s).atoms in
      length-map (branch (sheet_of s)) byte_of ∙ (names_each_once s ok).counted ∙ length-map (below n) _ ∙ length_below n ∙ atoms_are s

as_clauses : (s : List ℕ) → length (map sets_of (sheet_of s).clauses) ≡ clause_count s
as_clauses s = length-map (sheet_of s).clauses sets_of ∙ clauses_counted s

-- a place in a word for each objective
pub few_objectives : (s : List ℕ) → Accepted s → length (objective_bytes s) ≤ 64
few_objectives s ok = let p = (passed s ok).sized in omega (arith, objective_bytes_counted s p, p.counted.objectives)

-- ---- what its tables are to a walk

module _ {s order : List ℕ} {sets : List Literals} (t : Tables s order sets) where
  pub order_counted : length order ≡ atom_count s
  order_counted = ap length t.order ∙ branch_counted s t.accepted

  pub sets_counted : length sets ≡ clause_count s
  sets_counted = ap length t.clauses ∙ as_clauses s

  pub order_literals : all (is_literal 64) order ≡ true
  order_literals =
      ap (all (is_literal 64)) t.order ∙ all_in (is_literal 64) (map byte_of (branch (sheet_of s))) (branch_literal s t.accepted)

  -- a network of the three
  pub prepared : {n : Network} → n.order.bytes.now ≡ order → n.objectives.bytes.now ≡ objective_bytes s → n.clauses.now ≡ sets → Prepared (sheet_of s) n
  unfolding sheet_of
  prepared eo eb ec =
      let ok = t.accepted in
      record {
        clauses = record { placed = λ c h l k. valued_placed s ok (atom l) (clauses_valued s ok c l h k); sets = ec ∙ t.clauses };
        order = ap (map literal) (eo ∙ t.order) ∙ literals_of_bytes (branch (sheet_of s)) (branch_placed s ok);
        objectives = ap (map literal) eb;
        once = (names_each_once s ok).apart.once;
      }

-- ---- where the tables stand

-- in the first places of what they were written over
pub tables : {s order : List ℕ} {sets : List Literals} {n m : ℕ} (rest_o : List ℕ) (rest_c : List Literals) → Accepted s
    → order ≡ over (map byte_of (branch (sheet_of s))) rest_o → sets ≡ over (map sets_of (sheet_of s).clauses) rest_c
    → n ≡ atom_count s → m ≡ clause_count s → Tables s (take n order) (take m sets)
tables {s} {n = n} {m = m} rest_o rest_c ok eo ec en em =
    record {
      accepted = ok;
      order = ap (take n) eo ∙ take_at (map byte_of (branch (sheet_of s))) _ n (branch_counted s ok ∙ sym en);
      clauses = ap (take m) ec ∙ take_at (map sets_of (sheet_of s).clauses) _ m (as_clauses s ∙ sym em);
    }

-- the same where the sheet was read and answered with its sizes
pub read_tables : {s order : List ℕ} {sets : List Literals} {sizes : Sizes} (rest_o : List ℕ) (rest_c : List Literals) → Sized s sizes
    → sets ≡ clause_table (read s) rest_c → order ≡ order_table (read s) rest_o → Tables s (take sizes.atoms order) (take sizes.clauses sets)
read_tables rest_o rest_c z ec eo =
    let ok = z.accepted in
    tables rest_o rest_c ok (eo ∙ ap (λ (v : Reading). order_table v rest_o) ok) (ec ∙ ap (λ (v : Reading). clause_table v rest_c) ok) z.atoms z.clauses
