-- What a line's yes and no say of the models. Assumes nothing.
use Rattle.std.proofs.Common.{ℕ, ◌<◌, true, false, not, List, [], ◌∷◌, length, replicate, ◌≡◌, refl, sym, ap, subst, ◌∙◌, lit≤, arith, le-ltb}
use mathlib.Core.List.{Memᴰ as Mem}
use Rattle.std.proofs.lemmas.Bool.{not-false, false_from_ne_true}
use Rattle.query.proofs.Checking.{accepted_checked}
use Rattle.query.proofs.Promises.{as_checked}
use Rattle.query.specs.Promise.{Right}
use Rattle.query.specs.Query.{values_of, checked, result_as, query_of}
use Rattle.report.specs.Lines.{asked}
use Rattle.search.proofs.Nodes.{complement_atom, holds_complement, complement_true}
use Rattle.search.specs.Demands.{Demand2}
use Rattle.search.specs.Models.{holds, containment, Optimal}
use Rattle.sheet.proofs.Atoms.{objective_literal, objectives_literals}
use Rattle.sheet.proofs.LiteralBytes.{entry_is_literal, in_atoms, complement_placed, byte_is_literal, literal_byte}
use Rattle.sheet.proofs.Literals.{literal_atom, literal_small}
use Rattle.sheet.proofs.Understood.{passed}
use Rattle.sheet.specs.Layout.{atom_count, byte, objective_bytes}
use Rattle.sheet.specs.Literals.{Lit, atom, complement, literal, between, is_literal, byte_of}
use Rattle.sheet.specs.Reading.{Reading, understood, sheet_of, Accepted}
use Rattle.words.proofs.Members.{mem_at}
use Rattle.words.specs.Lists.{over}

module _ (s : List ℕ) (ok : Accepted s) (i : ℕ) (there : i < length (objective_bytes s)) where
  abbrev b : ℕ
  b = byte (objective_bytes s) i

  abbrev objective : Lit
  objective = literal b

  objective_is_literal : is_literal 64 b ≡ true
  objective_is_literal = entry_is_literal (objective_bytes s) i (objectives_literals s ok) there

  -- the byte that is asked about stands for the objective's complement
  question : literal (byte_of (complement objective)) ≡ complement objective
  question = literal_byte (complement objective) (complement_placed objective (in_atoms b objective_is_literal))

  -- the question passes the checks
  asks : is_literal (atom_count s) (byte_of (complement objective)) ≡ true
  asks =
      let n = atom_count s in
      let few = (passed s ok).sized.counted.atoms in
      let lit = objective_literal s ok b (mem_at 0 (objective_bytes s) i there) in
      let small = literal_small 64 _ (lit≤ tt) (byte_is_literal (complement objective) (complement_placed objective (in_atoms b objective_is_literal))) in
      literal_atom n _ few small
      ∙ ap (between 1 n) (ap atom question ∙ complement_atom objective)
      ∙ sym (literal_atom n b few (literal_small 64 b (lit≤ tt) objective_is_literal)) ∙ lit

  passes : understood (sheet_of s) ≡ checked s (byte_of (complement objective)) 64
  passes = accepted_checked s (byte_of (complement objective)) 64 ok (ap not asks) (le-ltb 64 (atom_count s) (passed s ok).sized.counted.atoms)

  -- demand 2 of the line's question
  demand : let r = asked s objective in
      Demand2 containment (sheet_of s) (literal (byte_of (complement objective))) 1000000 1024 r.code r.steps r.stored
      (λ m. (query_of s (byte_of (complement objective)) 1000000 (replicate 1024 0) (replicate 64 0)).witness ≡ over (values_of (sheet_of s).atoms m) (replicate 64 0))
  unfolding asked query_of
  demand =
      let q = byte_of (complement objective) in
      let store = replicate {A = ℕ} 1024 0 in
      let witness = replicate {A = ℕ} 64 0 in
      let r = result_as (checked s q 64) q 1000000 store witness in
      subst (λ (v : Reading). Right v q 1000000 1024 r.reply witness r.witness) (sym passes) (as_checked s q 1000000 store witness (checked s q 64) refl refl).1.0

  -- yes: some optimal model throws the objective out
  pub suspect : (asked s objective).code ≡ 1 → (m : ℕ) × Optimal containment (sheet_of s) m × (holds m objective ≡ false)
  suspect e =
      let y = demand.shown e in
      (y.0, y.1.optimal, complement_true y.0 objective (subst (λ (l : Lit). holds y.0 l ≡ true) question y.1.affirms))

  -- no: every optimal model keeps it
  pub kept : (asked s objective).code ≡ 2 → (m : ℕ) → Optimal containment (sheet_of s) m → holds m objective ≡ true
  kept e m best =
      let q = literal (byte_of (complement objective)) in
      let none = (demand.denied (λ f. absurd (omega arith), λ f. absurd (omega arith))).0 e in
      not-false (holds m objective)
      (sym (holds_complement m objective) ∙ sym (ap (holds m) question) ∙ false_from_ne_true (holds m q) (λ t. none (m, best, t)))

  -- "`yes`, `no`, or 18 or 19": no other code stands in a line
  pub one_of_four : Mem (asked s objective).code (1 ∷ 2 ∷ 18 ∷ 19 ∷ [])
  one_of_four = demand.codes
