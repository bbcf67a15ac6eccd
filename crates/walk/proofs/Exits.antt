-- The walk of a grown tree, as the code leaves it: one law for each way out. Assumes nothing.
use Rattle.std.proofs.Common.{ℕ, ◌+◌, ◌≤◌, ◌<◌, Bool, true, false, List, [], ◌∷◌, ◌++◌, map, ◌≡◌, sym, ap, ◌∙◌, length, drop_of_length-le, lt-ltb, le-ltb}
use Rattle.std.proofs.lemmas.List.{drop_more}
use Rattle.prepare.specs.declared.network.Network.{Network}
use Rattle.search.specs.Grown.{Node, grow}
use Rattle.search.specs.Search.{State, Cut, with_steps, from, visit, visit_candidate}
use Rattle.search.specs.Tree.{Tree, closed, full, fork, Run, on, off, then, walk}
use Rattle.sheet.specs.Layout.{byte}
use Rattle.sheet.specs.Literals.{Lit, literal, complement, plains}
use Rattle.walk.specs.Carried.{order_from}

-- ---- a visit

module _ {A : Type 0} (cut : A) (allowance steps : ℕ) where
  pub visit_due : steps < allowance → visit cut allowance steps ≡ on (steps + 1)
  unfolding visit
  visit_due h = rw (lt-ltb steps allowance h, visit)

  pub visit_refused : allowance ≤ steps → visit cut allowance steps ≡ off steps cut
  unfolding visit
  visit_refused h = rw (le-ltb steps allowance h, visit)

module _ (allowance : ℕ) (s : State) where
  pub candidate_due : s.steps < allowance → visit_candidate allowance s ≡ on (with_steps s (s.steps + 1))
  candidate_due h = ap (from s) (visit_due Cut allowance s.steps h)

  pub candidate_refused : allowance ≤ s.steps → visit_candidate allowance s ≡ off s Cut
  candidate_refused h = ap (from s) (visit_refused Cut allowance s.steps h)

-- ---- the tree below a node

module _ (closes : Node → Bool) (w : Node) where
  grow_closed : (ls : List Lit) → closes w ≡ true → grow closes ls w ≡ closed
  unfolding grow
  grow_closed [] e = rw (e, grow)
  grow_closed (l ∷ ls) e = rw (e, grow)

  grow_full : closes w ≡ false → grow closes [] w ≡ full (plains w)
  unfolding grow
  grow_full e = rw (e, grow)

  grow_fork : (l : Lit) (ls : List Lit) → closes w ≡ false → grow closes (l ∷ ls) w ≡ fork (grow closes ls (w ++ (l ∷ []))) (grow closes ls (w ++ (complement l ∷ [])))
  unfolding grow
  grow_fork l ls e = rw (e, grow)

-- ---- the ways out of a walk

module _ {S A : Type 0} (visit : S → Run S A) (act : ℕ → S → Run S A) where
  -- the visit is not made
  pub out_refused : (t : Tree ℕ) {s s' : S} {a : A} → visit s ≡ off s' a → walk visit act t s ≡ off s' a
  out_refused closed e = e
  out_refused (full m) e = ap (λ r. then r (act m)) e
  out_refused (fork first second) e = ap (λ r. then (then r (walk visit act first)) (walk visit act second)) e

  module _ (closes : Node → Bool) (w : Node) {s v : S} (made : visit s ≡ on v) where
    -- the node is closed
    pub out_closed : (ls : List Lit) → closes w ≡ true → walk visit act (grow closes ls w) s ≡ on v
    out_closed ls e = ap (λ (t : Tree ℕ). walk visit act t s) (grow_closed closes w ls e) ∙ made

    -- it is full
    pub out_full : closes w ≡ false → walk visit act (grow closes [] w) s ≡ act (plains w) v
    out_full e = ap (λ (t : Tree ℕ). walk visit act t s) (grow_full closes w e) ∙ ap (λ r. then r (act (plains w))) made

    module _ (l : Lit) (ls : List Lit) (ok : closes w ≡ false) {first : Run S A} (f : first ≡ walk visit act (grow closes ls (w ++ (l ∷ []))) v) where
      both : walk visit act (grow closes (l ∷ ls) w) s ≡ then first (walk visit act (grow closes ls (w ++ (complement l ∷ []))))
      both =
          ap (λ (t : Tree ℕ). walk visit act t s) (grow_fork closes w l ls ok)
          ∙ ap (λ r. then (then r (walk visit act (grow closes ls (w ++ (l ∷ []))))) (walk visit act (grow closes ls (w ++ (complement l ∷ []))))) made
          ∙ ap (λ r. then r (walk visit act (grow closes ls (w ++ (complement l ∷ []))))) (sym f)

      -- the walk ends below the first child
      pub out_first : {u : S} {a : A} → first ≡ off u a → walk visit act (grow closes (l ∷ ls) w) s ≡ off u a
      out_first e = both ∙ ap (λ r. then r (walk visit act (grow closes ls (w ++ (complement l ∷ []))))) e

      -- it goes on below the second
      pub out_second : {u : S} → first ≡ on u → walk visit act (grow closes (l ∷ ls) w) s ≡ walk visit act (grow closes ls (w ++ (complement l ∷ []))) u
      out_second e = both ∙ ap (λ r. then r (walk visit act (grow closes ls (w ++ (complement l ∷ []))))) e

-- ---- what is left of the order

module _ (n : Network) (depth : ℕ) where
  pub order_next : depth < length n.order.bytes.now → {l : Lit} → l ≡ literal (byte n.order.bytes.now depth) → order_from depth n ≡ l ∷ order_from (depth + 1) n
  order_next h e = ap (map literal) (drop_more n.order.bytes.now depth 0 h) ∙ ap (λ (l : Lit). l ∷ order_from (depth + 1) n) (sym e)

  pub order_end : length n.order.bytes.now ≤ depth → order_from depth n ≡ []
  order_end h = ap (map literal) (drop_of_length-le n.order.bytes.now h)
