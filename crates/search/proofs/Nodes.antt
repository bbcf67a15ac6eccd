-- Nodes and values for the atoms that agree with them, and the word of a full node. Assumes nothing.
use Prim.Native.Nat.{ℕ, suc, ◌-◌, ◌≤◌}
use mathlib.Core.Bool.{true, false, not, false≢true, not-not}
use mathlib.Core.List.Memᴰ.{cast}
use mathlib.Core.List.Memᴰ.{map as mem_map}
use mathlib.Core.List.Memᴰ.{of_map}
use mathlib.Core.List.{List, map, Memᴰ as Mem}
use mathlib.Core.Logic.{◌⊎◌, inl, inr, ⊎_elim}
use mathlib.Core.Path.{◌≡◌, refl, sym, ap, ◌∙◌, subst}
use native.Mathlib.Omega.{arith}
use lib.Dec.{eqb}
use borrow.Author.Tests.{eq-eqb, eqb-true, not-true}
use Rattle.search.proofs.Entries.{one_key}
use Rattle.search.proofs.Valuations.{valuation_in, valuation_one}
use Rattle.search.specs.Grown.{same_lit, Node}
use Rattle.search.specs.Models.{value, holds, valuations}
use Rattle.sheet.specs.Literals.{Lit, pos, neg, complement, atom, plain, place, plains}
use Rattle.words.proofs.Bits.{has_set_of}
use Rattle.words.proofs.Bools.{refuted}
use Rattle.words.proofs.Members.{any_in, any_out, pick_in, pick_out}
use Rattle.words.specs.Lists.{any, pick, Distinct}
use Rattle.words.specs.Positions.{has}

-- ---- literals and their complements

pub complement_atom : (l : Lit) → atom (complement l) ≡ atom l
complement_atom (pos a) = refl
complement_atom (neg a) = refl

pub holds_complement : (m : ℕ) (l : Lit) → holds m (complement l) ≡ not (holds m l)
holds_complement m (pos a) = refl
holds_complement m (neg a) = sym (not-not (value m a))

pub complement_true : (m : ℕ) (l : Lit) → holds m (complement l) ≡ true → holds m l ≡ false
complement_true m l t = not-true (holds m l) (sym (holds_complement m l) ∙ t)

pub same_itself : (l : Lit) → same_lit l l ≡ true
same_itself (pos a) = eq-eqb a a refl
same_itself (neg a) = eq-eqb a a refl

pub same_says : (k l : Lit) → same_lit k l ≡ true → k ≡ l
same_says (pos a) (pos b) e = ap pos (eqb-true a b e)
same_says (pos a) (neg b) e = absurd (false≢true e)
same_says (neg a) (pos b) e = absurd (false≢true e)
same_says (neg a) (neg b) e = ap neg (eqb-true a b e)

-- literals of one atom
pub same_atom : (k l : Lit) → atom k ≡ atom l → (k ≡ l) ⊎ (k ≡ complement l)
same_atom (pos a) (pos b) e = inl (ap pos e)
same_atom (pos a) (neg b) e = inr (ap pos e)
same_atom (neg a) (pos b) e = inr (ap neg e)
same_atom (neg a) (neg b) e = inl (ap neg e)

-- values under which a literal is true give its atom one value
same_value : (u m : ℕ) (l : Lit) → holds u l ≡ true → holds m l ≡ true → value u (atom l) ≡ value m (atom l)
same_value u m (pos a) e f = e ∙ sym f
same_value u m (neg a) e f = sym (not-not (value u a)) ∙ ap not (e ∙ sym f) ∙ not-not (value m a)

-- ---- values that agree with a node

-- every literal that the node makes true is true under m
abbrev pub Agrees : Node → ℕ → Type 0
Agrees w m = (l : Lit) → Mem l w → holds m l ≡ true

-- a node that decides the atom of a literal makes it true or makes it false
pub decided : (w : Node) (l : Lit) → Mem (atom l) (map atom w) → Mem l w ⊎ Mem (complement l) w
decided w l h =
    let u = of_map atom w h in
    ⊎_elim (λ e. inl (cast (sym e) u.1)) (λ e. inr (cast (sym e) u.1)) (same_atom u.0 l u.2)

-- ---- the word of a node

-- each of these is one of the atoms that are given values, and stands once
pub record Spread (atoms these : List ℕ) : Type 0 where
  pub once : Distinct these
  pub inside : (a : ℕ) → Mem a these → Mem a atoms

module _ (atoms : List ℕ) (some : (a : ℕ) → Mem a atoms → 1 ≤ a) (w : Node) (spread : Spread atoms (map atom w)) where
  from_one : (l : Lit) → Mem l w → 1 ≤ atom l
  from_one l h = some (atom l) (spread.inside (atom l) (mem_map atom h))

  pub plains_valued : Mem (plains w) (valuations atoms)
  unfolding plains
  plains_valued = valuation_in atoms (map place (pick plain w)) λ i h.
      let l = of_map place (pick plain w) h in
      let k = (pick_out plain w l.0 l.1).0 in
      let r = from_one l.0 k in
      let e : suc i ≡ atom l.0 = let q = l.2 in omega arith in
      cast e (spread.inside (atom l.0) (mem_map atom k))

  pub plains_agrees : Agrees w (plains w)
  unfolding plains value
  plains_agrees (pos a) h =
      has_set_of (map place (pick plain w)) (a - 1)
      ∙ any_in (eqb (a - 1)) (map place (pick plain w)) (a - 1) (mem_map place (pick_in plain w (pos a) h refl)) (eq-eqb (a - 1) (a - 1) refl)
  plains_agrees (neg a) h = ap not (has_set_of (map place (pick plain w)) (a - 1) ∙ refuted (any (eqb (a - 1)) (map place (pick plain w))) none)
    where
      none : any (eqb (a - 1)) (map place (pick plain w)) ≡ true → ⊥
      none t =
          let i = any_out (eqb (a - 1)) (map place (pick plain w)) t in
          let l = of_map place (pick plain w) i.1 in
          let k = pick_out plain w l.0 l.1 in
          let r = from_one l.0 k.0 in
          let s = from_one (neg a) h in
          let e : a - 1 ≡ atom l.0 - 1 = eqb-true (a - 1) i.0 i.2 ∙ sym l.2 in
          let f : atom l.0 ≡ a = omega arith in
          false≢true (sym (ap plain (one_key atom w spread.once l.0 (neg a) k.0 h f)) ∙ k.1)

-- where a node decides all the atoms, there is but one way to give them values that agrees with it
pub one_word : (atoms : List ℕ) → ((a : ℕ) → Mem a atoms → 1 ≤ a) → (w : Node) → ((a : ℕ) → Mem a atoms → Mem a (map atom w))
    → (u m : ℕ) → Agrees w u → Agrees w m → Mem u (valuations atoms) → Mem m (valuations atoms) → u ≡ m
unfolding value
one_word atoms some w named u m au am hu hm = valuation_one atoms some u m hu hm λ a h.
    let l = of_map atom w (named a h) in
    subst (λ (b : ℕ). has u (b - 1) ≡ has m (b - 1)) l.2 (same_value u m l.0 (au l.0 l.1) (am l.0 l.1))
