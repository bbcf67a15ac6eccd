-- The reading order is a strict order, and what satisfies more comes earlier. Assumes nothing.
use Prim.Native.Nat.{ℕ}
use mathlib.Core.Bool.{Bool, true, false, cond, beq, false≢true}
use mathlib.Core.List.Memᴰ.{cases_cons}
use mathlib.Core.List.Memᴰ.{head}
use mathlib.Core.List.Memᴰ.{not-nil}
use mathlib.Core.List.Memᴰ.{tail}
use mathlib.Core.List.{List, [], ◌∷◌, ◌++◌, Memᴰ as Mem}
use mathlib.Core.Logic.{◌⊎◌, inl, inr, ⊎_elim}
use mathlib.Core.Path.{◌≡◌, refl, sym, ap, ◌∙◌}
use Rattle.search.proofs.Parts.{Keeps}
use Rattle.search.specs.Models.{holds, before, earlier}
use Rattle.sheet.specs.Literals.{Lit}
use Rattle.sheet.specs.Reading.{Sheet}

-- ---- one literal further

module _ (l : Lit) (ls : List Lit) (m u : ℕ) where
  before_next : {a b : Bool} → holds m l ≡ a → holds u l ≡ b → before (l ∷ ls) m u ≡ cond (beq a b) (before ls m u) a
  unfolding before
  before_next e f = λ i. cond (beq (e i) (f i)) (before ls m u) (e i)

  pub before_same : holds m l ≡ holds u l → before (l ∷ ls) m u ≡ before ls m u
  before_same e = go (holds u l) refl
    where
      go : (b : Bool) → holds u l ≡ b → before (l ∷ ls) m u ≡ before ls m u
      go true f = before_next (e ∙ f) f
      go false f = before_next (e ∙ f) f

  pub before_here : holds m l ≡ true → holds u l ≡ false → before (l ∷ ls) m u ≡ true
  before_here e f = before_next e f

  before_there : holds m l ≡ false → holds u l ≡ true → before (l ∷ ls) m u ≡ false
  before_there e f = before_next e f

-- ---- a strict order

before_asymmetric : (ls : List Lit) (m u : ℕ) → before ls m u ≡ true → before ls u m ≡ true → ⊥
unfolding before
before_asymmetric [] m u p q = false≢true p
before_asymmetric (l ∷ ls) m u p q = go (holds m l) (holds u l) refl refl (before_asymmetric ls m u)
  where
    on : holds m l ≡ holds u l → (before ls m u ≡ true → before ls u m ≡ true → ⊥) → ⊥
    on e later = later (sym (before_same l ls m u e) ∙ p) (sym (before_same l ls u m (sym e)) ∙ q)

    go : (a b : Bool) → holds m l ≡ a → holds u l ≡ b → (before ls m u ≡ true → before ls u m ≡ true → ⊥) → ⊥
    go true true e f later = on (e ∙ sym f) later
    go true false e f later = false≢true (sym (before_there l ls u m f e) ∙ q)
    go false true e f later = false≢true (sym (before_there l ls m u e f) ∙ p)
    go false false e f later = on (e ∙ sym f) later

before_transitive : (ls : List Lit) (m u v : ℕ) → before ls m u ≡ true → before ls u v ≡ true → before ls m v ≡ true
unfolding before
before_transitive [] m u v p q = p
before_transitive (l ∷ ls) m u v p q = go (holds m l) (holds u l) (holds v l) refl refl refl (before_transitive ls m u v)
  where
    on : holds m l ≡ holds u l → holds u l ≡ holds v l → (before ls m u ≡ true → before ls u v ≡ true → before ls m v ≡ true) → before (l ∷ ls) m v ≡ true
    on e f later = before_same l ls m v (e ∙ f) ∙ later (sym (before_same l ls m u e) ∙ p) (sym (before_same l ls u v f) ∙ q)

    go : (a b c : Bool) → holds m l ≡ a → holds u l ≡ b → holds v l ≡ c → (before ls m u ≡ true → before ls u v ≡ true → before ls m v ≡ true) → before (l ∷ ls) m v ≡ true
    go true true true e f g later = on (e ∙ sym f) (f ∙ sym g) later
    go true b false e f g later = before_here l ls m v e g
    go true false true e f g later = absurd (false≢true (sym (before_there l ls u v f g) ∙ q))
    go false true c e f g later = absurd (false≢true (sym (before_there l ls m u e f) ∙ p))
    go false false true e f g later = absurd (false≢true (sym (before_there l ls u v f g) ∙ q))
    go false false false e f g later = on (e ∙ sym f) (f ∙ sym g) later

-- of two models one comes first, or they agree on all the literals
pub before_total : (ls : List Lit) (m u : ℕ) → ((l : Lit) → Mem l ls → holds m l ≡ holds u l) ⊎ ((before ls m u ≡ true) ⊎ (before ls u m ≡ true))
before_total [] m u = inl (λ l h. absurd (not-nil h))
before_total (l ∷ ls) m u = go (holds m l) (holds u l) refl refl (before_total ls m u)
  where
    Sided : List Lit → Type 0
    Sided ls = ((l : Lit) → Mem l ls → holds m l ≡ holds u l) ⊎ ((before ls m u ≡ true) ⊎ (before ls u m ≡ true))

    on : holds m l ≡ holds u l → Sided ls → Sided (l ∷ ls)
    on e (inl each) = inl (λ k h. ⊎_elim (λ i. ap (holds m) i ∙ e ∙ ap (holds u) (sym i)) (each k) (cases_cons h))
    on e (inr (inl t)) = inr (inl (before_same l ls m u e ∙ t))
    on e (inr (inr t)) = inr (inr (before_same l ls u m (sym e) ∙ t))

    go : (a b : Bool) → holds m l ≡ a → holds u l ≡ b → Sided ls → Sided (l ∷ ls)
    go true true e f later = on (e ∙ sym f) later
    go true false e f later = inr (inl (before_here l ls m u e f))
    go false true e f later = inr (inr (before_here l ls u m f e))
    go false false e f later = on (e ∙ sym f) later

-- what satisfies all that another does, and more, comes first: where the two first differ, it is the one that satisfies
pub before_more : (m u : ℕ) (os later : List Lit) → Keeps (holds u) (holds m) os → (Keeps (holds m) (holds u) os → ⊥) → before (os ++ later) m u ≡ true
before_more m u [] later keeps more = absurd (more (λ o h. absurd (not-nil h)))
before_more m u (o ∷ os) later keeps more = go (holds m o) (holds u o) refl refl (before_more m u os later (λ p h. keeps p (tail h)))
  where
    with_first : (holds m o ≡ true → holds u o ≡ true) → Keeps (holds m) (holds u) os → Keeps (holds m) (holds u) (o ∷ os)
    with_first here there p h t = ⊎_elim (λ e. ap (holds u) e ∙ here (sym (ap (holds m) e) ∙ t)) (λ k. there p k t) (cases_cons h)

    go : (a b : Bool) → holds m o ≡ a → holds u o ≡ b → ((Keeps (holds m) (holds u) os → ⊥) → before (os ++ later) m u ≡ true) → before (o ∷ (os ++ later)) m u ≡ true
    go true true e f next = before_same o (os ++ later) m u (e ∙ sym f) ∙ next (λ there. more (with_first (λ _. f) there))
    go true false e f next = before_here o (os ++ later) m u e f
    go false true e f next = absurd (false≢true (sym e ∙ keeps o (head refl) f))
    go false false e f next = before_same o (os ++ later) m u (e ∙ sym f) ∙ next (λ there. more (with_first (λ t. absurd (false≢true (sym e ∙ t))) there))

-- ---- the reading order

module _ (x : Sheet) where
  pub earlier_asymmetric : (m u : ℕ) → earlier x m u ≡ true → earlier x u m ≡ true → ⊥
  unfolding earlier
  earlier_asymmetric m u = before_asymmetric _ m u

  pub earlier_transitive : (m u v : ℕ) → earlier x m u ≡ true → earlier x u v ≡ true → earlier x m v ≡ true
  unfolding earlier
  earlier_transitive m u v = before_transitive _ m u v
