-- What is searched for a question of a well-formed sheet is a fair game, by any rule that closes nodes rightly and any sensible preference. Assumes
-- nothing.
use Prim.Native.Nat.{ℕ}
use mathlib.Core.Bool.{Bool, true}
use mathlib.Core.List.Memᴰ.{append_cases}
use mathlib.Core.List.Memᴰ.{append_left}
use mathlib.Core.List.Memᴰ.{append_right}
use mathlib.Core.List.Memᴰ.{cases_cons}
use mathlib.Core.List.Memᴰ.{eq_of_singleton}
use mathlib.Core.List.Memᴰ.{head}
use mathlib.Core.List.Memᴰ.{map as mem_map}
use mathlib.Core.List.Memᴰ.{not-nil}
use mathlib.Core.List.Memᴰ.{of_map}
use mathlib.Core.List.{List, [], ◌∷◌, ◌++◌, map, Memᴰ as Mem}
use mathlib.Core.Logic.{⊎_elim}
use mathlib.Core.Path.{◌≡◌, refl, sym, ap, ◌∙◌, subst}
use Rattle.search.proofs.Closing.{Closes}
use Rattle.search.proofs.Earlier.{earlier_asymmetric}
use Rattle.search.proofs.Entries.{Sorted}
use Rattle.search.proofs.Fair.{BestFirst, Fair}
use Rattle.search.proofs.Leaves.{leaf_model, model_leaf}
use Rattle.search.proofs.Nodes.{complement_atom, Agrees}
use Rattle.search.proofs.Preferring.{Sensible}
use Rattle.search.proofs.ReadingOrder.{leaves_sorted}
use Rattle.search.proofs.WellFormed.{WellFormed}
use Rattle.search.proofs.Walking.{leaves}
use Rattle.search.specs.Grown.{Node, Rule, unit, grow, candidate_clauses, test_clauses, game}
use Rattle.search.specs.Models.{holds, satisfies, valuations, models, affirming, denying, Preference, earlier}
use Rattle.sheet.specs.Literals.{Lit, complement, atom}
use Rattle.sheet.specs.Order.{valued, branch}
use Rattle.sheet.specs.Reading.{Sheet}
use Rattle.words.proofs.Members.{any_in, any_out, all_in, all_out, pick_in, pick_out}
use Rattle.words.specs.Lists.{any, pick}

-- ---- conditions on literals are clauses

module _ (ls : List Lit) (cs : List (List Lit)) (m : ℕ) where
  conditions_out : satisfies (map unit ls ++ cs) m ≡ true → Agrees ls m × (satisfies cs m ≡ true)
  unfolding satisfies
  conditions_out e =
      let each = all_out (λ c. any (holds m) c) (map unit ls ++ cs) e in (
        λ l h.
            let u = any_out (holds m) (unit l) (each (unit l) (append_left cs (mem_map unit h))) in
            ap (holds m) (sym (eq_of_singleton u.1)) ∙ u.2,
        all_in (λ c. any (holds m) c) cs (λ c h. each c (append_right (map unit ls) h)),
      )

  conditions_in : Agrees ls m → satisfies cs m ≡ true → satisfies (map unit ls ++ cs) m ≡ true
  unfolding satisfies
  conditions_in each sat =
      all_in (λ c. any (holds m) c) (map unit ls ++ cs)
      (λ c h. ⊎_elim (condition c) (all_out (λ c. any (holds m) c) cs sat c) (append_cases (map unit ls) h))
    where
      condition : (c : List Lit) → Mem c (map unit ls) → any (holds m) c ≡ true
      condition c h =
          let u = of_map unit ls h in
          subst (λ c. any (holds m) c ≡ true) u.2 (any_in (holds m) (unit u.0) u.0 (head refl) (each u.0 u.1))

module _ (rule : Rule) (closes : Closes rule) (x : Sheet) (form : WellFormed x) where
  -- ---- a walk that asks for some literals: its full nodes are the models in which they hold

  module _ (ls : List Lit) where
    abbrev asking : Node → Bool
    asking = rule (map unit ls ++ x.clauses)

    walked_out : ((l : Lit) → Mem l ls → Mem (atom l) (valued x)) → (m : ℕ) → Mem m (leaves (grow asking (branch x) [])) → Mem m (models x) × Agrees ls m
    unfolding models
    walked_out inside m h =
        let u = leaf_model (valued x) form.from_one (branch x) form.once (map unit ls ++ x.clauses) asking (closes (map unit ls ++ x.clauses)) named m h in
        let v = conditions_out ls x.clauses m u.1 in
        (pick_in (satisfies x.clauses) (valuations (valued x)) m u.0 v.1, v.0)
      where
        named : (c : List Lit) (k : Lit) → Mem c (map unit ls ++ x.clauses) → Mem k c → Mem (atom k) (valued x)
        named c k h i = ⊎_elim condition (λ j. form.clauses_in c k j i) (append_cases (map unit ls) h)
          where
            condition : Mem c (map unit ls) → Mem (atom k) (valued x)
            condition j =
                let u = of_map unit ls j in
                let e : k ≡ u.0 = eq_of_singleton (subst (Mem k) (sym u.2) i) in
                subst (λ (l : Lit). Mem (atom l) (valued x)) (sym e) (inside u.0 u.1)

    walked_in : (m : ℕ) → Mem m (models x) → Agrees ls m → Mem m (leaves (grow asking (branch x) []))
    unfolding models
    walked_in m h each =
        let u = pick_out (satisfies x.clauses) (valuations (valued x)) m h in
        model_leaf (valued x) form.from_one (branch x) form.once (map unit ls ++ x.clauses) asking (closes (map unit ls ++ x.clauses)) m u.0
        (conditions_in ls x.clauses m each u.1)

  module _ (p : Preference) (sensible : Sensible p x) (q : Lit) (asked : Mem (atom q) (valued x)) where
    -- ---- no later full node is better than an earlier one

    sorted_best : (ms : List ℕ) → Sorted (earlier x) ms → BestFirst (game rule p x q) ms
    unfolding game
    sorted_best [] s = tt
    sorted_best (m ∷ ms) s = (λ u h a. earlier_asymmetric x m u (s.0 u h) (sensible.comes_first m u a), sorted_best ms s.1)

    ordered : (closes : Node → Bool) → BestFirst (game rule p x q) (leaves (grow closes (branch x) []))
    ordered closes = sorted_best (leaves (grow closes (branch x) [])) (leaves_sorted x form.from_one form.once closes)

    -- ---- the game

    -- a walk asks for one literal, and keeps others
    with_first : {P : Lit → Type 0} {l : Lit} {ls : List Lit} → P l → ((k : Lit) → Mem k ls → P k) → (k : Lit) → Mem k (l ∷ ls) → P k
    with_first {P} first rest k h = ⊎_elim (λ e. subst P (sym e) first) (rest k) (cases_cons h)

    -- the objectives that the candidate c satisfies and its rivals are to keep, as one better than it does
    kept_by : ℕ → List Lit
    kept_by c = pick (holds c) (p.kept x.objectives)

    pub fair : Fair (game rule p x q) (affirming x q) (denying x q)
    unfolding game kept_by
    fair =
        record {
          irreflexive = sensible.irreflexive;
          transitive = sensible.transitive;
          candidates_ordered = ordered (rule (candidate_clauses x q));
          rivals_ordered = λ c. ordered (rule (test_clauses p x q c));
          candidates_affirm = λ m h.
              let u = walked_out (q ∷ []) (with_first asked (λ k i. absurd (not-nil i))) m h in
              pick_in (λ m. holds m q) (models x) m u.0 (u.1 q (head refl));
          affirming_walked = λ m h.
              let u = pick_out (λ m. holds m q) (models x) m h in
              walked_in (q ∷ []) m u.0 (with_first u.1 (λ k i. absurd (not-nil i)));
          rivals_deny = λ c m h.
              let denied = subst (λ (a : ℕ). Mem a (valued x)) (sym (complement_atom q)) asked in
              let within : (k : Lit) → Mem k (kept_by c) → Mem (atom k) (valued x) = λ k i. form.objectives_in k (sensible.from_them k (pick_out (holds c) (p.kept x.objectives) k i).0) in
              let u = walked_out (complement q ∷ kept_by c) (with_first denied within) m h in
              pick_in (λ m. holds m (complement q)) (models x) m u.0 (u.1 (complement q) (head refl));
          denying_walked = λ c m h better.
              let u = pick_out (λ m. holds m (complement q)) (models x) m h in
              walked_in (complement q ∷ kept_by c) m u.0
              (with_first u.1 (λ k i. let v = pick_out (holds c) (p.kept x.objectives) k i in sensible.keeps c m better k v.0 v.1));
        }
