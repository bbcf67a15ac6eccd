-- The full nodes of a grown tree are the models of its clauses. Assumes nothing.
use Prim.Native.Nat.{ℕ, ◌≤◌}
use mathlib.Core.Bool.{Bool, true, false, not}
use mathlib.Core.List.Memᴰ.{append_cases}
use mathlib.Core.List.Memᴰ.{append_left}
use mathlib.Core.List.Memᴰ.{append_right}
use mathlib.Core.List.Memᴰ.{cast}
use mathlib.Core.List.Memᴰ.{eq_of_singleton}
use mathlib.Core.List.Memᴰ.{head}
use mathlib.Core.List.Memᴰ.{not-nil}
use mathlib.Core.List.Memᴰ.{of_map}
use mathlib.Core.List.{List, [], ◌∷◌, ◌++◌, map, map-append, append-nil, append_assoc, Memᴰ as Mem}
use mathlib.Core.Logic.{⊎_elim}
use mathlib.Core.Path.{◌≡◌, refl, sym, ap, ◌∙◌, subst}
use Rattle.search.proofs.Closing.{Closing}
use Rattle.search.proofs.Nodes.{complement_atom, holds_complement, Agrees, Spread, plains_valued, plains_agrees, one_word}
use Rattle.search.proofs.Walking.{leaves}
use Rattle.search.specs.Grown.{Node, grow}
use Rattle.search.specs.Models.{holds, satisfies, valuations}
use Rattle.sheet.proofs.EachOnce.{NamesEachOnce}
use Rattle.sheet.specs.Literals.{Lit, complement, atom, plains}

-- the atoms of a node w and of the literals still to be tried below it
abbrev pub atoms_of : Node → List Lit → List ℕ
atoms_of w ls = map atom w ++ map atom ls

-- a child decides one atom more, and one less is to be tried below it
pub atoms_child : (w : Node) (l y : Lit) (ls : List Lit) → atom y ≡ atom l → atoms_of (w ++ (y ∷ [])) ls ≡ atoms_of w (l ∷ ls)
atoms_child w l y ls e =
    ap (λ (xs : List ℕ). xs ++ map atom ls) (map-append atom w (y ∷ []))
    ∙ append_assoc (map atom w) (atom y ∷ []) (map atom ls) ∙ ap (λ (a : ℕ). map atom w ++ (a ∷ map atom ls)) e

module _ (closes : Node → Bool) where
  -- ---- the full nodes by the closing test

  pub leaves_closed : (ls : List Lit) (w : Node) → closes w ≡ true → leaves (grow closes ls w) ≡ []
  unfolding grow
  leaves_closed [] w e = rw (e, grow)
  leaves_closed (l ∷ ls) w e = rw (e, grow)

  pub leaves_full : (w : Node) → closes w ≡ false → leaves (grow closes [] w) ≡ plains w ∷ []
  unfolding grow
  leaves_full w e = rw (e, grow)

  pub leaves_fork : (l : Lit) (ls : List Lit) (w : Node) → closes w ≡ false
      → leaves (grow closes (l ∷ ls) w) ≡ leaves (grow closes ls (w ++ (l ∷ []))) ++ leaves (grow closes ls (w ++ (complement l ∷ [])))
  unfolding grow
  leaves_fork l ls w e = rw (e, grow)

  -- ---- what stands below a node

  -- m is the word of an open node that extends w and decides these atoms
  record Extends (w : Node) (atoms : List ℕ) (m : ℕ) : Type 0 where
    node : Node
    keeps : (l : Lit) → Mem l w → Mem l node
    decides : map atom node ≡ atoms
    is : m ≡ plains node
    stays : closes node ≡ false

  leaf_extends : (ls : List Lit) (w : Node) (m : ℕ) → Mem m (leaves (grow closes ls w)) → Extends w (atoms_of w ls) m
  leaf_extends [] w m h = go (closes w) refl
    where
      go : (b : Bool) → closes w ≡ b → Extends w (atoms_of w []) m
      go true e = absurd (not-nil (subst (Mem m) (leaves_closed [] w e) h))
      go false e =
          record {
            node = w;
            keeps = λ l k. k;
            decides = sym (append-nil (map atom w));
            is = eq_of_singleton (subst (Mem m) (leaves_full w e) h);
            stays = e;
          }
  leaf_extends (l ∷ ls) w m h = go (closes w) refl (λ y e k. child y e (leaf_extends ls (w ++ (y ∷ [])) m k))
    where
      child : (y : Lit) → atom y ≡ atom l → Extends (w ++ (y ∷ [])) (atoms_of (w ++ (y ∷ [])) ls) m → Extends w (atoms_of w (l ∷ ls)) m
      child y e u =
          record {
            node = u.node;
            keeps = λ k i. u.keeps k (append_left (y ∷ []) i);
            decides = u.decides ∙ atoms_child w l y ls e;
            is = u.is;
            stays = u.stays;
          }

      go : (b : Bool) → closes w ≡ b → ((y : Lit) → atom y ≡ atom l → Mem m (leaves (grow closes ls (w ++ (y ∷ [])))) → Extends w (atoms_of w (l ∷ ls)) m)
          → Extends w (atoms_of w (l ∷ ls)) m
      go true e below = absurd (not-nil (subst (Mem m) (leaves_closed (l ∷ ls) w e) h))
      go false e below =
          ⊎_elim (below l refl) (below (complement l) (complement_atom l))
          (append_cases (leaves (grow closes ls (w ++ (l ∷ [])))) (subst (Mem m) (leaves_fork l ls w e) h))

  -- what w makes true is true at every full node below it
  pub leaf_agrees : (atoms : List ℕ) → ((a : ℕ) → Mem a atoms → 1 ≤ a) → (ls : List Lit) (w : Node) → Spread atoms (atoms_of w ls)
      → (m : ℕ) → Mem m (leaves (grow closes ls w)) → Agrees w m
  leaf_agrees atoms some ls w spread m h l k =
      let u = leaf_extends ls w m h in
      ap (λ (x : ℕ). holds x l) u.is ∙ plains_agrees atoms some u.node (subst (Spread atoms) (sym u.decides) spread) l (u.keeps l k)

  -- and the clauses by which the rule closes nodes are satisfied there, if all their atoms are decided
  pub leaf_satisfies : (cs : List (List Lit)) → Closing cs closes → (atoms : List ℕ) → ((a : ℕ) → Mem a atoms → 1 ≤ a) → (ls : List Lit) (w : Node) → Spread atoms (atoms_of w ls)
      → ((c : List Lit) (l : Lit) → Mem c cs → Mem l c → Mem (atom l) (atoms_of w ls)) → (m : ℕ) → Mem m (leaves (grow closes ls w)) → satisfies cs m ≡ true
  leaf_satisfies cs closing atoms some ls w spread named m h =
      let u = leaf_extends ls w m h in
      ap (satisfies cs) u.is
      ∙ closing.catches u.node (plains u.node) (plains_agrees atoms some u.node (subst (Spread atoms) (sym u.decides) spread))
      (λ c l i j. subst (Mem (atom l)) (sym u.decides) (named c l i j)) u.stays

  -- ---- the way to a model

  -- values m that no node which agrees with them is closed against
  module _ (m : ℕ) (spared : (w : Node) → Agrees w m → closes w ≡ false) where
    -- a full node below w with which m agrees
    record Reached (ls : List Lit) (w : Node) : Type 0 where
      node : Node
      agrees : Agrees node m
      decides : map atom node ≡ atoms_of w ls
      there : Mem (plains node) (leaves (grow closes ls w))

    reach : (ls : List Lit) (w : Node) → Agrees w m → Reached ls w
    reach [] w agrees =
        record {
          node = w;
          agrees = agrees;
          decides = sym (append-nil (map atom w));
          there = subst (Mem (plains w)) (sym (leaves_full w (spared w agrees))) (head refl);
        }
    reach (l ∷ ls) w agrees = go (holds m l) refl (λ y t. reach ls (w ++ (y ∷ [])) (more y t))
      where
        more : (y : Lit) → holds m y ≡ true → Agrees (w ++ (y ∷ [])) m
        more y t k i = ⊎_elim (agrees k) (λ j. ap (holds m) (eq_of_singleton j) ∙ t) (append_cases w i)

        below : Lit → List ℕ
        below y = leaves (grow closes ls (w ++ (y ∷ [])))

        from : (y : Lit) → atom y ≡ atom l → ((u : ℕ) → Mem u (below y) → Mem u (below l ++ below (complement l))) → Reached ls (w ++ (y ∷ [])) → Reached (l ∷ ls) w
        from y e side u =
            record {
              node = u.node;
              agrees = u.agrees;
              decides = u.decides ∙ atoms_child w l y ls e;
              there = subst (Mem (plains u.node)) (sym (leaves_fork l ls w (spared w agrees))) (side (plains u.node) u.there);
            }

        go : (b : Bool) → holds m l ≡ b → ((y : Lit) → holds m y ≡ true → Reached ls (w ++ (y ∷ []))) → Reached (l ∷ ls) w
        go true e next = from l refl (λ u h. append_left (below (complement l)) h) (next l e)
        go false e next = from (complement l) (complement_atom l) (λ u h. append_right (below l) h) (next (complement l) (holds_complement m l ∙ ap not e))

-- ---- the full nodes are the models

-- the atoms of an order that names each once
pub spread : (atoms : List ℕ) (order : List Lit) → NamesEachOnce atoms order → Spread atoms (map atom order)
spread atoms order once =
    record {
      once = once.apart.once;
      inside = λ a h. let u = of_map atom order h in subst (λ (b : ℕ). Mem b atoms) u.2 (once.apart.only u.0 u.1);
    }

-- The clauses may be any: what a walk asks besides the clauses of its sheet are further clauses.
module _ (atoms : List ℕ) (some : (a : ℕ) → Mem a atoms → 1 ≤ a) (order : List Lit) (once : NamesEachOnce atoms order)
    (cs : List (List Lit)) (closes : Node → Bool) (closing : Closing cs closes) where
  spread_at : (w : Node) → map atom w ≡ map atom order → Spread atoms (map atom w)
  spread_at w e = subst (Spread atoms) (sym e) (spread atoms order once)

  named_at : (w : Node) → map atom w ≡ map atom order → (a : ℕ) → Mem a atoms → Mem a (map atom w)
  named_at w e a h = subst (Mem a) (sym e) (once.named a h)

  -- a full node decides every atom of the clauses if they speak of these atoms alone
  pub leaf_model : ((c : List Lit) (l : Lit) → Mem c cs → Mem l c → Mem (atom l) atoms)
      → (m : ℕ) → Mem m (leaves (grow closes order [])) → Mem m (valuations atoms) × (satisfies cs m ≡ true)
  leaf_model inside m h =
      let u = leaf_extends closes order [] m h in (
        cast u.is (plains_valued atoms some u.node (spread_at u.node u.decides)),
        leaf_satisfies closes cs closing atoms some order [] (spread atoms order once) (λ c l i j. once.named (atom l) (inside c l i j)) m h,
      )

  pub model_leaf : (m : ℕ) → Mem m (valuations atoms) → satisfies cs m ≡ true → Mem m (leaves (grow closes order []))
  model_leaf m valued sat =
      let u = reach closes m (λ w agrees. closing.spares w m agrees sat) order [] (λ l h. absurd (not-nil h)) in
      let s = spread_at u.node u.decides in
      cast (one_word atoms some u.node (named_at u.node u.decides) m (plains u.node) u.agrees (plains_agrees atoms some u.node s) valued (plains_valued atoms some u.node s)) u.there
