-- What the theory asks of a rule that closes nodes, and that the rule of document 01 has it. Assumes nothing.
use Prim.Native.Nat.{ℕ}
use mathlib.Core.Bool.{Bool, true, false, false≢true}
use mathlib.Core.List.Memᴰ.{cast}
use mathlib.Core.List.{List, map, Memᴰ as Mem}
use mathlib.Core.Logic.{⊎_elim}
use mathlib.Core.Path.{◌≡◌, refl, sym, ◌∙◌}
use Rattle.search.proofs.Nodes.{complement_true, same_itself, same_says, Agrees, decided}
use Rattle.search.specs.Grown.{same_lit, Node, false_at, Rule, falsified, grow}
use Rattle.search.specs.Models.{holds, satisfies}
use Rattle.sheet.specs.Literals.{Lit, complement, atom}
use Rattle.words.proofs.Bools.{refuted}
use Rattle.words.proofs.Members.{any_in, any_out, any_none, all_in, all_out}
use Rattle.words.specs.Lists.{any, all}

-- the node decides every atom of the clauses
abbrev pub Decides : Node → List (List Lit) → Type 0
Decides w cs = (c : List Lit) (l : Lit) → Mem c cs → Mem l c → Mem (atom l) (map atom w)

-- By such a rule, the full nodes of a tree are the models of the clauses: it closes no node on the way to one, and at full depth every other.
pub record Closing (cs : List (List Lit)) (closes : Node → Bool) : Type 0 where
  pub spares : (w : Node) (m : ℕ) → Agrees w m → satisfies cs m ≡ true → closes w ≡ false
  pub catches : (w : Node) (m : ℕ) → Agrees w m → Decides w cs → closes w ≡ false → satisfies cs m ≡ true

-- a rule for any clauses
abbrev pub Closes : Rule → Type 0
Closes rule = (cs : List (List Lit)) → Closing cs (rule cs)

-- a tree depends on its rule only through what it closes
pub same_tree : {f g : Node → Bool} → ((w : Node) → f w ≡ g w) → (ls : List Lit) (w : Node) → grow f ls w ≡ grow g ls w
same_tree e ls w = λ i. grow (λ v. e v i) ls w

-- ---- "A node is closed if every literal of some clause is false there."

module _ (cs : List (List Lit)) (w : Node) (m : ℕ) (agrees : Agrees w m) where
  -- a clause that is satisfied has a literal that is true, which the node cannot make false
  stays_open : satisfies cs m ≡ true → falsified cs w ≡ false
  unfolding satisfies falsified
  stays_open sat =
      refuted (falsified cs w) λ e.
      let c = any_out (λ c. all (false_at w) c) cs e in
      let l = any_out (holds m) c.0 (all_out (λ c. any (holds m) c) cs sat c.0 c.1) in
      let k = any_out (same_lit (complement l.0)) w (all_out (false_at w) c.0 c.2 l.0 l.1) in
      let t = agrees (complement l.0) (cast (same_says (complement l.0) k.0 k.2) k.1) in
      false≢true (sym (complement_true m l.0 t) ∙ l.2)

  -- where the node decides every atom of the clauses, a clause that is not satisfied closes it
  open_satisfied : Decides w cs → falsified cs w ≡ false → satisfies cs m ≡ true
  unfolding satisfies falsified
  open_satisfied named unclosed = all_in (λ c. any (holds m) c) cs (λ c h. go c h (any (holds m) c) refl)
    where
      is_false : (l : Lit) → Mem (atom l) (map atom w) → holds m l ≡ false → false_at w l ≡ true
      is_false l h e =
          ⊎_elim (λ k. absurd (false≢true (sym e ∙ agrees l k)))
          (λ k. any_in (same_lit (complement l)) w (complement l) k (same_itself (complement l))) (decided w l h)

      go : (c : List Lit) → Mem c cs → (b : Bool) → any (holds m) c ≡ b → any (holds m) c ≡ true
      go c h true e = e
      go c h false e =
          let shut = all_in (false_at w) c (λ l k. is_false l (named c l h k) (any_none (holds m) c e l k)) in
          absurd (false≢true (sym (any_none (λ c. all (false_at w) c) cs unclosed c h) ∙ shut))

pub falsified_closes : Closes falsified
falsified_closes cs = record { spares = stays_open cs; catches = open_satisfied cs }
