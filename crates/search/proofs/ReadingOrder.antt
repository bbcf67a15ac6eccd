-- The full nodes of a grown tree stand in reading order. Assumes nothing.
use Prim.Native.Nat.{ℕ, ◌≤◌}
use mathlib.Core.Bool.{Bool, true, false}
use mathlib.Core.List.Memᴰ.{append_right}
use mathlib.Core.List.Memᴰ.{cast}
use mathlib.Core.List.Memᴰ.{head}
use mathlib.Core.List.Memᴰ.{map as mem_map}
use mathlib.Core.List.Memᴰ.{not-nil}
use mathlib.Core.List.{List, [], ◌∷◌, ◌++◌, map, map-append, append-nil, append_assoc, Memᴰ as Mem}
use mathlib.Core.Logic.{⊎_elim}
use mathlib.Core.Path.{◌≡◌, refl, sym, ap, ap₂, ◌∙◌, subst}
use lib.Dec.{eqb}
use borrow.Author.Tests.{eqb-true}
use Rattle.search.proofs.Earlier.{before_same, before_here}
use Rattle.search.proofs.Entries.{Sorted, sorted_append, sorted_by}
use Rattle.search.proofs.Leaves.{atoms_of, atoms_child, leaves_closed, leaves_full, leaves_fork, leaf_agrees, spread}
use Rattle.search.proofs.Nodes.{complement_atom, complement_true, Agrees, decided, Spread}
use Rattle.search.proofs.Walking.{leaves}
use Rattle.search.specs.Grown.{Node, grow}
use Rattle.search.specs.Models.{holds, before, earlier}
use Rattle.sheet.proofs.BranchLaws.{taking_old, taking_new}
use Rattle.sheet.proofs.EachOnce.{NamesEachOnce}
use Rattle.sheet.specs.Literals.{Lit, atom, complement}
use Rattle.sheet.specs.Order.{valued, readings, names, taking_all, branch}
use Rattle.sheet.specs.Reading.{Sheet}
use Rattle.words.proofs.Members.{any_out}
use Rattle.words.specs.Lists.{any}

-- ---- the branch order from its front

-- The branch order is the reading order without the literals whose atom was read before. So the tree can be followed along the reading order:
-- a literal that is left out has one truth at all full nodes below, and one that is kept has two, the first child's and the second's.

-- the atom is one of these
abbrev among : List ℕ → ℕ → Bool
among atoms a = any (λ b. eqb b a) atoms

-- the literals whose atom is none of these, nor that of a literal before
abbrev fresh : List ℕ → List Lit → List Lit
fresh atoms [] = []
fresh atoms (l ∷ ls) = elim (among atoms (atom l)) [ true ↦ fresh atoms ls | false ↦ l ∷ fresh (atoms ++ (atom l ∷ [])) ls ]

module _ (atoms : List ℕ) (l : Lit) (ls : List Lit) where
  fresh_old : among atoms (atom l) ≡ true → fresh atoms (l ∷ ls) ≡ fresh atoms ls
  fresh_old e = rw (e, fresh)

  fresh_new : among atoms (atom l) ≡ false → fresh atoms (l ∷ ls) ≡ l ∷ fresh (atoms ++ (atom l ∷ [])) ls
  fresh_new e = rw (e, fresh)

among_names : (a : ℕ) (so : List Lit) → any (names a) so ≡ among (map atom so) a
among_names a [] = refl
among_names a (l ∷ so) = ap (λ (r : Bool). elim (names a l) as (λ _. Bool) [ true ↦ true | false ↦ r ]) (among_names a so)

taken_fresh : (so ls : List Lit) → taking_all so ls ≡ so ++ fresh (map atom so) ls
taken_fresh so [] = sym (append-nil so)
taken_fresh so (l ∷ ls) = go (any (names (atom l)) so) refl (taken_fresh so ls) (taken_fresh (so ++ (l ∷ [])) ls)
  where
    go : (b : Bool) → any (names (atom l)) so ≡ b → taking_all so ls ≡ so ++ fresh (map atom so) ls
        → taking_all (so ++ (l ∷ [])) ls ≡ (so ++ (l ∷ [])) ++ fresh (map atom (so ++ (l ∷ []))) ls → taking_all so (l ∷ ls) ≡ so ++ fresh (map atom so) (l ∷ ls)
    go true e old new =
        ap (λ (x : List Lit). taking_all x ls) (taking_old so l e) ∙ old
        ∙ ap (λ (x : List Lit). so ++ x) (sym (fresh_old (map atom so) l ls (sym (among_names (atom l) so) ∙ e)))
    go false e old new =
        ap (λ (x : List Lit). taking_all x ls) (taking_new so l e) ∙ new ∙ append_assoc so (l ∷ []) (fresh (map atom (so ++ (l ∷ []))) ls)
        ∙ ap (λ (x : List ℕ). so ++ (l ∷ fresh x ls)) (map-append atom so (l ∷ []))
        ∙ ap (λ (x : List Lit). so ++ x) (sym (fresh_new (map atom so) l ls (sym (among_names (atom l) so) ∙ e)))

-- ---- the full nodes below a node

module _ (atoms : List ℕ) (some : (a : ℕ) → Mem a atoms → 1 ≤ a) (closes : Node → Bool) where
  -- the full nodes below w, where the literals of the order are still to be tried, are in order as far as the literals ls go
  abbrev InOrder : List Lit → List Lit → Node → Type 0
  InOrder ls order w = Spread atoms (atoms_of w order) → Sorted (before ls) (leaves (grow closes order w))

  -- a literal whose atom the node decides makes no difference below it
  same_below : (l : Lit) (ls order : List Lit) (w : Node) → Mem (atom l) (map atom w) → InOrder ls order w → InOrder (l ∷ ls) order w
  same_below l ls order w h sorted apart =
      sorted_by (before ls) (before (l ∷ ls)) (leaves (grow closes order w))
      (λ m u i j s. before_same l ls m u (same m u (leaf_agrees closes atoms some order w apart m i) (leaf_agrees closes atoms some order w apart u j)) ∙ s) (sorted apart)
    where
      same : (m u : ℕ) → Agrees w m → Agrees w u → holds m l ≡ holds u l
      same m u a b =
          ⊎_elim (λ k. a l k ∙ sym (b l k)) (λ k. complement_true m l (a (complement l) k) ∙ sym (complement_true u l (b (complement l) k)))
          (decided w l h)

  -- what stands below the first child comes before what stands below the second
  fork_in_order : (l : Lit) (ls order : List Lit) (w : Node) → ((y : Lit) → atom y ≡ atom l → InOrder ls order (w ++ (y ∷ []))) → InOrder (l ∷ ls) (l ∷ order) w
  fork_in_order l ls order w below apart = go (closes w) refl
    where
      apart_at : (y : Lit) → atom y ≡ atom l → Spread atoms (atoms_of (w ++ (y ∷ [])) order)
      apart_at y e = subst (Spread atoms) (sym (atoms_child w l y order e)) apart

      true_at : (y : Lit) → atom y ≡ atom l → (m : ℕ) → Mem m (leaves (grow closes order (w ++ (y ∷ [])))) → holds m y ≡ true
      true_at y e m h = leaf_agrees closes atoms some order (w ++ (y ∷ [])) (apart_at y e) m h y (append_right w (head refl))

      child : (y : Lit) → atom y ≡ atom l → Sorted (before (l ∷ ls)) (leaves (grow closes order (w ++ (y ∷ []))))
      child y e = same_below l ls order (w ++ (y ∷ [])) (cast (sym e) (mem_map atom (append_right w (head refl)))) (below y e) (apart_at y e)

      go : (b : Bool) → closes w ≡ b → Sorted (before (l ∷ ls)) (leaves (grow closes (l ∷ order) w))
      go true f = subst (Sorted (before (l ∷ ls))) (sym (leaves_closed closes (l ∷ order) w f)) tt
      go false f =
          subst (Sorted (before (l ∷ ls))) (sym (leaves_fork closes l order w f))
          (sorted_append (before (l ∷ ls)) (leaves (grow closes order (w ++ (l ∷ [])))) (leaves (grow closes order (w ++ (complement l ∷ []))))
          (child l refl) (child (complement l) (complement_atom l))
          (λ m u i j. before_here l ls m u (true_at l refl m i) (complement_true u l (true_at (complement l) (complement_atom l) u j))))

  grown_in_order : (ls : List Lit) (seen : List ℕ) (w : Node) → map atom w ≡ seen → InOrder ls (fresh seen ls) w
  grown_in_order [] seen w e apart = go (closes w) refl
    where
      go : (b : Bool) → closes w ≡ b → Sorted (before []) (leaves (grow closes [] w))
      go true f = subst (Sorted (before [])) (sym (leaves_closed closes [] w f)) tt
      go false f = subst (Sorted (before [])) (sym (leaves_full closes w f)) (λ y h. absurd (not-nil h), tt)
  grown_in_order (l ∷ ls) seen w e apart =
      go (among seen (atom l)) refl (grown_in_order ls seen w e) (λ y f. grown_in_order ls (seen ++ (atom l ∷ [])) (w ++ (y ∷ [])) (child_atoms y f)) apart
    where
      child_atoms : (y : Lit) → atom y ≡ atom l → map atom (w ++ (y ∷ [])) ≡ seen ++ (atom l ∷ [])
      child_atoms y f = map-append atom w (y ∷ []) ∙ ap₂ (λ (xs : List ℕ) (a : ℕ). xs ++ (a ∷ [])) e f

      old_named : among seen (atom l) ≡ true → Mem (atom l) (map atom w)
      old_named t = let u = any_out (λ b. eqb b (atom l)) seen t in subst (Mem (atom l)) (sym e) (cast (sym (eqb-true u.0 (atom l) u.2)) u.1)

      go : (b : Bool) → among seen (atom l) ≡ b → InOrder ls (fresh seen ls) w
          → ((y : Lit) → atom y ≡ atom l → InOrder ls (fresh (seen ++ (atom l ∷ [])) ls) (w ++ (y ∷ []))) → InOrder (l ∷ ls) (fresh seen (l ∷ ls)) w
      go true t old new =
          subst (λ (order : List Lit). InOrder (l ∷ ls) order w) (sym (fresh_old seen l ls t)) (same_below l ls (fresh seen ls) w (old_named t) old)
      go false t old new =
          subst (λ (order : List Lit). InOrder (l ∷ ls) order w) (sym (fresh_new seen l ls t)) (fork_in_order l ls (fresh (seen ++ (atom l ∷ [])) ls) w new)

-- ---- the trees of a sheet

pub leaves_sorted : (x : Sheet) → ((a : ℕ) → Mem a (valued x) → 1 ≤ a) → NamesEachOnce (valued x) (branch x)
    → (closes : Node → Bool) → Sorted (earlier x) (leaves (grow closes (branch x) []))
unfolding branch earlier
leaves_sorted x some once closes =
    let e : taking_all [] (readings x) ≡ fresh [] (readings x) = taken_fresh [] (readings x) in
    subst (λ (order : List Lit). Sorted (before (readings x)) (leaves (grow closes order []))) (sym e)
    (grown_in_order (valued x) some closes (readings x) [] [] refl (subst (λ (order : List Lit). Spread (valued x) (map atom order)) e (spread (valued x) (branch x) once)))
