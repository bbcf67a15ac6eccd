-- Parts: which positions they have, and their containment by the objectives satisfied. Assumes nothing.
use Prim.Native.Nat.{ℕ, ◌≤◌, ◌<◌}
use mathlib.Core.Bool.{Bool, true}
use mathlib.Core.List.{List, Memᴰ as Mem}
use mathlib.Core.Path.{◌≡◌, refl, sym, ap, ◌∙◌, subst}
use native.Mathlib.Omega.{arith}
use lib.Dec.{eqb}
use lib.ListN.{length, get_or}
use borrow.Author.Tests.{eq-eqb, eqb-true}
use Rattle.search.specs.Models.{holds, part}
use Rattle.sheet.specs.Literals.{Lit, pos}
use Rattle.words.proofs.Bits.{has_set_of}
use Rattle.words.proofs.Containment.{within_says, within_holds}
use Rattle.words.proofs.Members.{any_in, any_out, pick_in, pick_out, in_below, below_in, mem_at, at_mem}
use Rattle.words.specs.Lists.{pick, below}
use Rattle.words.specs.Positions.{has, within}

-- ---- a part has the positions of the objectives that are satisfied

-- the objective at position k
abbrev at : List Lit → ℕ → Lit
at os k = get_or os k (pos 0)

module _ (m : ℕ) (os : List Lit) (k : ℕ) where
  abbrev positions : List ℕ
  positions = pick (λ i. holds m (at os i)) (below (length os))

  part_in : k < length os → holds m (at os k) ≡ true → has (part os m) k ≡ true
  unfolding part
  part_in h t =
      has_set_of positions k ∙ any_in (eqb k) positions k (pick_in (λ i. holds m (at os i)) (below (length os)) k (in_below (length os) k h) t) (eq-eqb k k refl)

  part_out : has (part os m) k ≡ true → (k < length os) × (holds m (at os k) ≡ true)
  unfolding part
  part_out t =
      let u = any_out (eqb k) positions (sym (has_set_of positions k) ∙ t) in
      let v = pick_out (λ i. holds m (at os i)) (below (length os)) u.0 u.1 in
      let e = sym (eqb-true k u.0 u.2) in
      subst (λ (j : ℕ). (j < length os) × (holds m (at os j) ≡ true)) e (below_in (length os) u.0 v.0, v.1)

-- ---- containment by the objectives satisfied

-- each of these literals that passes f passes g
abbrev pub Keeps : (Lit → Bool) → (Lit → Bool) → List Lit → Type 0
Keeps f g os = (o : Lit) → Mem o os → f o ≡ true → g o ≡ true

module _ (os : List Lit) (m u : ℕ) where
  pub keeps_within : Keeps (holds m) (holds u) os → within (part os m) (part os u) ≡ true
  keeps_within each = within_holds (part os m) (part os u) λ i _ t.
      let v = part_out m os i t in
      part_in u os i v.0 (each (at os i) (mem_at (pos 0) os i v.0) v.1)

  pub within_keeps : length os ≤ 64 → within (part os m) (part os u) ≡ true → Keeps (holds m) (holds u) os
  within_keeps few e o h t =
      let k = at_mem (pos 0) os o h in
      let lt = k.1 in
      let p = part_in m os k.0 k.1 (ap (holds m) k.2 ∙ t) in
      let v = within_says (part os m) (part os u) e k.0 (omega arith) p in
      sym (ap (holds u) k.2) ∙ (part_out u os k.0 v).1
