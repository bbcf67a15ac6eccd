-- A list without repetitions, its topmost entries, and distinct entries of a list. Assumes nothing.
use Prim.Native.Nat.{ℕ, ◌≤◌}
use mathlib.Core.Bool.{Bool, true, false, not, false≢true}
use mathlib.Core.List.Memᴰ.{append_cases}
use mathlib.Core.List.Memᴰ.{cases_cons}
use mathlib.Core.List.Memᴰ.{cast}
use mathlib.Core.List.Memᴰ.{eq_of_singleton}
use mathlib.Core.List.Memᴰ.{head}
use mathlib.Core.List.Memᴰ.{not-nil}
use mathlib.Core.List.Memᴰ.{tail}
use mathlib.Core.List.{List, [], ◌∷◌, ◌++◌, Memᴰ as Mem}
use mathlib.Core.Logic.{⊎_elim}
use mathlib.Core.Path.{◌≡◌, refl, sym, ap, ◌∙◌, subst}
use lib.Dec.{eqb}
use lib.ListN.{length}
use borrow.Author.Tests.{eq-eqb, eqb-true, not-true}
use Rattle.search.specs.Maximal.{distinct, topmost}
use Rattle.words.proofs.Bools.{refuted}
use Rattle.words.proofs.Members.{any_in, any_out, any_none, pick_in, pick_out, distinct_snoc, distinct_fit}
use Rattle.words.specs.Lists.{any, Distinct}

-- ---- without repetitions

pub distinct_in : (xs : List ℕ) (x : ℕ) → Mem x xs → Mem x (distinct xs)
distinct_in [] x h = h
distinct_in (y ∷ xs) x h = go (any (eqb y) xs) refl (distinct_in xs x)
  where
    go : (b : Bool) → any (eqb y) xs ≡ b → (Mem x xs → Mem x (distinct xs)) → Mem x (distinct (y ∷ xs))
    go true e later =
        let u = any_out (eqb y) xs e in
        rw (e, distinct) (later (⊎_elim (λ i. cast (i ∙ eqb-true y u.0 u.2) u.1) (λ k. k) (cases_cons h)))
    go false e later = rw (e, distinct) (⊎_elim (λ i. head i) (λ k. tail (later k)) (cases_cons h))

pub distinct_out : (xs : List ℕ) (x : ℕ) → Mem x (distinct xs) → Mem x xs
distinct_out [] x h = h
distinct_out (y ∷ xs) x h = go (any (eqb y) xs) refl (distinct_out xs x)
  where
    go : (b : Bool) → any (eqb y) xs ≡ b → (Mem x (distinct xs) → Mem x xs) → Mem x (y ∷ xs)
    go true e later = tail (later (rw (e, distinct) at h))
    go false e later =
        let k : Mem x (y ∷ distinct xs) = rw (e, distinct) at h in
        ⊎_elim (λ i. head i) (λ k. tail (later k)) (cases_cons k)

pub distinct_once : (xs : List ℕ) → Distinct (distinct xs)
distinct_once [] = tt
distinct_once (x ∷ xs) = go (any (eqb x) xs) refl (distinct_once xs)
  where
    go : (b : Bool) → any (eqb x) xs ≡ b → Distinct (distinct xs) → Distinct (distinct (x ∷ xs))
    go true e later = rw (e, distinct) later
    go false e later = rw (e, distinct) (λ h. false≢true (sym (any_none (eqb x) xs e x (distinct_out xs x h)) ∙ eq-eqb x x refl), later)

-- ---- the topmost entries, each once

module _ (worse : ℕ → ℕ → Bool) (ps : List ℕ) where
  pub top_in : (p : ℕ) → Mem p ps → ((q : ℕ) → Mem q ps → worse p q ≡ true → ⊥) → Mem p (distinct (topmost worse ps))
  top_in p h top =
      distinct_in _ p (pick_in (λ p. not (any (worse p) ps)) ps p h
      (ap not (refuted (any (worse p) ps) (λ t. let u = any_out (worse p) ps t in top u.0 u.1 u.2))))

  pub top_out : (p : ℕ) → Mem p (distinct (topmost worse ps)) → Mem p ps × ((q : ℕ) → Mem q ps → worse p q ≡ true → ⊥)
  top_out p h =
      let u = pick_out (λ p. not (any (worse p) ps)) ps p (distinct_out _ p h) in
      (u.0, λ q k t. false≢true (sym (not-true (any (worse p) ps) u.1) ∙ any_in (worse p) ps q k t))

-- ---- one entry more

module _ {A : Type 0} where
  pub each_snoc : {P : A → Type 0} (xs : List A) (x : A) → ((y : A) → Mem y xs → P y) → P x → (y : A) → Mem y (xs ++ (x ∷ [])) → P y
  each_snoc {P} xs x each p y k = ⊎_elim (each y) (λ j. subst P (sym (eq_of_singleton j)) p) (append_cases xs k)

  -- distinct entries of the list ys
  pub record Among (ys xs : List A) : Type 0 where
    pub apart : Distinct xs
    pub from : (x : A) → Mem x xs → Mem x ys

  pub among_none : {ys : List A} → Among ys []
  among_none = record { apart = tt; from = λ x h. absurd (not-nil h) }

  pub among_snoc : {ys xs : List A} {x : A} → Among ys xs → Mem x ys → (Mem x xs → ⊥) → Among ys (xs ++ (x ∷ []))
  among_snoc {xs = xs} {x = x} h k new = record { apart = distinct_snoc xs x h.apart new; from = each_snoc xs x h.from k }

  pub among_length : {ys xs : List A} → Among ys xs → length xs ≤ length ys
  among_length {ys} {xs} h = distinct_fit xs ys h.apart h.from
