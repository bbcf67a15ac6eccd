-- A list that is gone through from the front, where something holds of all that is passed. Assumes nothing.
use Prim.Native.Nat.{ℕ}
use mathlib.Core.Bool.{true}
use mathlib.Core.List.Memᴰ.{append_cases}
use mathlib.Core.List.Memᴰ.{append_right}
use mathlib.Core.List.Memᴰ.{cases_cons}
use mathlib.Core.List.Memᴰ.{head}
use mathlib.Core.List.Memᴰ.{not-nil}
use mathlib.Core.List.{List, [], ◌∷◌, ◌++◌, append-nil, append_assoc, Memᴰ as Mem}
use mathlib.Core.Logic.{⊎_elim}
use mathlib.Core.Path.{◌≡◌, refl, sym, ◌∙◌, subst}
use Rattle.search.proofs.Fair.{BestFirst}
use Rattle.search.proofs.Picking.{each_snoc}
use Rattle.search.proofs.Walking.{due, leaves_due, leaves}
use Rattle.search.specs.Search.{Game}
use Rattle.search.specs.Tree.{Tree}

module _ {M : Type 0} where
  -- `rest` is left of `all`, and P holds of what stood before it
  pub record Past (all : List M) (P : M → Type 0) (rest : List M) : Type 0 where
    pub done : List M
    pub split : all ≡ done ++ rest
    pub holds : (x : M) → Mem x done → P x

  -- before a walk all its full nodes are left
  pub past_none : {P : M → Type 0} (t : Tree M) → Past (leaves t) P (due (λ r. r) ◌∷◌ t [])
  past_none t = record { done = []; split = sym (leaves_due t [] ∙ append-nil (leaves t)); holds = λ x h. absurd (not-nil h) }

  module _ {all : List M} {P : M → Type 0} where
    pub past_map : {P' : M → Type 0} {rest : List M} → ((x : M) → P x → P' x) → Past all P rest → Past all P' rest
    past_map f h = record { done = h.done; split = h.split; holds = λ x k. f x (h.holds x k) }

    pub past_all : Past all P [] → (x : M) → Mem x all → P x
    past_all h x k = h.holds x (subst (Mem x) (h.split ∙ append-nil h.done) k)

    module _ {m : M} {rest : List M} (h : Past all P (m ∷ rest)) where
      pub past_one : P m → Past all P rest
      past_one p =
          record {
            done = h.done ++ (m ∷ []);
            split = h.split ∙ sym (append_assoc h.done (m ∷ []) rest);
            holds = each_snoc h.done m h.holds p;
          }

      pub past_next : Mem m all
      past_next = subst (Mem m) (sym h.split) (append_right h.done (head refl))

-- ---- a list in order: only what has been passed can be better than what comes next

module _ (g : Game) where
  later_below : (xs : List ℕ) (m : ℕ) (ys : List ℕ) → BestFirst g (xs ++ m ∷ ys)
      → (y : ℕ) → Mem y ys → g.worse (g.part m) (g.part y) ≡ true → ⊥
  later_below [] m ys o = o.0
  later_below (x ∷ xs) m ys o = later_below xs m ys o.1

  -- P holds of all that is better than the next model, since it has been passed
  pub better_past : ((p : ℕ) → g.worse p p ≡ true → ⊥) → {all : List ℕ} {P : ℕ → Type 0} {m : ℕ} {rest : List ℕ}
      → BestFirst g all → Past all P (m ∷ rest) → (x : ℕ) → Mem x all → g.worse (g.part m) (g.part x) ≡ true → P x
  better_past irreflexive {m = m} {rest = rest} o h x k a =
      ⊎_elim (h.holds x)
      (λ j. ⊎_elim (λ e. absurd (irreflexive (g.part m) (subst (λ y. g.worse (g.part m) (g.part y) ≡ true) e a)))
      (λ i. absurd (later_below h.done m rest (subst (BestFirst g) h.split o) x i a)) (cases_cons j))
      (append_cases h.done (subst (Mem x) h.split k))
