-- The literals of an accepted sheet are of the atoms that are given values. Assumes nothing.
use Rattle.std.proofs.Common.{ℕ, suc, ◌-◌, ◌≤◌, true, List, [], ◌∷◌, map, ◌≡◌, sym, ◌∙◌, subst, arith, length}
use mathlib.Core.List.Memᴰ.{cast, map as mem_map, of_map}
use mathlib.Core.List.{Memᴰ as Mem}
use Rattle.std.proofs.lemmas.Bool.{not-false, or_parts}
use Rattle.sheet.proofs.ClauseLaws.{clause_byte}
use Rattle.sheet.proofs.Literals.{between_says, literal_atom, literal_small, more_atoms}
use Rattle.sheet.proofs.Understood.{passed}
use Rattle.sheet.specs.Layout.{byte, atom_count, clause_count, clause_bytes, objective_bytes}
use Rattle.sheet.specs.Literals.{Lit, atom, literal, is_literal}
use Rattle.sheet.specs.Order.{up_to, valued}
use Rattle.sheet.specs.Reading.{sheet_of, no_literal, bad_at, bad_objective, Accepted}
use Rattle.words.proofs.Members.{any_none, all_in, at_mem, in_below, below_in, distinct_below}
use Rattle.words.specs.Lists.{all, below, Distinct}

-- ---- the atoms 1 to n

pub up_to_in : (n a : ℕ) → 1 ≤ a → a ≤ n → Mem a (up_to n)
up_to_in n a l h = let e : suc (a - 1) ≡ a = omega arith in cast (sym e) (mem_map suc (in_below n (a - 1) (omega arith)))

pub up_to_out : (n a : ℕ) → Mem a (up_to n) → (1 ≤ a) × (a ≤ n)
up_to_out n a m =
    let u = of_map suc (below n) m in
    let h = below_in n u.0 u.1 in
    let e = u.2 in
    omega arith

suc_apart : (is : List ℕ) → Distinct is → Distinct (map suc is)
suc_apart [] d = tt
suc_apart (i ∷ is) d =
    (λ m. let u = of_map suc is m in let e : u.0 ≡ i = let q = u.2 in omega arith in d.0 (cast (sym e) u.1), suc_apart is d.1)

pub up_to_apart : (n : ℕ) → Distinct (up_to n)
up_to_apart n = suc_apart (below n) (distinct_below n)

-- ---- an accepted sheet

module _ (s : List ℕ) (ok : Accepted s) where
  -- a byte that is a literal is of an atom with a value
  pub literal_valued : (b : ℕ) → is_literal (atom_count s) b ≡ true → Mem (atom (literal b)) (valued (sheet_of s))
  unfolding sheet_of
  literal_valued b e =
      let n = atom_count s in
      let few = (passed s ok).sized.counted.atoms in
      let r = between_says 1 n (atom (literal b)) (sym (literal_atom n b few (literal_small n b few e)) ∙ e) in
      up_to_in n (atom (literal b)) r.0 r.1

  literals_valued : (bs : List ℕ) → ((b : ℕ) → Mem b bs → is_literal (atom_count s) b ≡ true) → (l : Lit) → Mem l (map literal bs) → Mem (atom l) (valued (sheet_of s))
  literals_valued bs each l m =
      let u = of_map literal bs m in
      subst (λ (x : Lit). Mem (atom x) (valued (sheet_of s))) u.2 (literal_valued u.0 (each u.0 u.1))

  pub objective_literal : (b : ℕ) → Mem b (objective_bytes s) → is_literal (atom_count s) b ≡ true
  unfolding bad_objective
  objective_literal b m =
      let os = objective_bytes s in
      let u = at_mem 0 os b m in
      let bad = any_none (bad_at (atom_count s) os) (below (length os)) (passed s ok).objectives_right u.0 (in_below (length os) u.0 u.1) in
      subst (λ (c : ℕ). is_literal (atom_count s) c ≡ true) u.2 (not-false _ (or_parts (no_literal (atom_count s) (byte os u.0)) _ bad).0)

  pub objectives_literals : all (is_literal 64) (objective_bytes s) ≡ true
  objectives_literals =
      all_in (is_literal 64) (objective_bytes s) (λ b m. more_atoms (atom_count s) b (passed s ok).sized.counted.atoms (objective_literal b m))

  pub objectives_valued : (l : Lit) → Mem l (sheet_of s).objectives → Mem (atom l) (valued (sheet_of s))
  unfolding sheet_of
  objectives_valued = literals_valued (objective_bytes s) objective_literal

  pub clauses_valued : (c : List Lit) (l : Lit) → Mem c (sheet_of s).clauses → Mem l c → Mem (atom l) (valued (sheet_of s))
  unfolding sheet_of
  clauses_valued c l h k =
      let u = of_map (λ i. map literal (clause_bytes s i)) (below (clause_count s)) h in
      literals_valued (clause_bytes s u.0) (clause_byte s ok u.0 (below_in (clause_count s) u.0 u.1)) l (subst (Mem l) (sym u.2) k)

  -- they have a place in a word
  pub valued_placed : (a : ℕ) → Mem a (valued (sheet_of s)) → (1 ≤ a) × (a ≤ 64)
  unfolding sheet_of
  valued_placed a m = let few = (passed s ok).sized.counted.atoms in let r = up_to_out (atom_count s) a m in (r.0, omega arith)
