-- Containment, position by position and on whole words. Assumes nothing.
use Rattle.std.proofs.Common.{ℕ, ◌^◌, ◌<◌, Bool, true, false, not, ◌&&◌, ◌||◌, ◌≡◌, sym, ap, ap₂, ◌∙◌, arith, bit_and, eqb, eq-eqb, eqb-true}
use Rattle.std.proofs.lemmas.Bool.{false≢true, not-true, and_parts, false_from_ne_true}
use Rattle.std.proofs.Math.Decide.{dec_lt}
use Rattle.words.proofs.Bits.{has_and, has_past, same_positions}
use Rattle.words.proofs.Bools.{same_test, and_absorbs, implied, implies}
use Rattle.words.proofs.Members.{all_in, all_out, in_below, below_in}
use Rattle.words.specs.Lists.{below}
use Rattle.words.specs.Positions.{has, within, strictly_within}

module _ (a b : ℕ) where
  pub within_says : within a b ≡ true → (i : ℕ) → i < 64 → has a i ≡ true → has b i ≡ true
  unfolding within
  within_says e i h = implied (has a i) (has b i) (all_out (λ i. not (has a i) || has b i) (below 64) e i (in_below 64 i h))

  pub within_holds : ((i : ℕ) → i < 64 → has a i ≡ true → has b i ≡ true) → within a b ≡ true
  unfolding within
  within_holds each = all_in (λ i. not (has a i) || has b i) (below 64) (λ i h. implies (has a i) (has b i) (each i (below_in 64 i h)))

  -- a word that lies within another is its own intersection with it
  pub within_and : a < 2 ^ 64 → within a b ≡ eqb (bit_and a b) a
  within_and fits =
      same_test (within a b) (eqb (bit_and a b) a)
      (λ e. eq-eqb (bit_and a b) a (same_positions (bit_and a b) a (λ i. has_and a b i ∙ kept e i)))
      (λ e. within_holds (λ i _ h. (and_parts (has a i) (has b i) (sym (has_and a b i) ∙ ap (λ (w : ℕ). has w i) (eqb-true (bit_and a b) a e) ∙ h)).1))
    where
      -- below 64 what is in a is in b, and from there on nothing is in a
      kept : within a b ≡ true → (i : ℕ) → (has a i && has b i) ≡ has a i
      kept e i = elim (dec_lt i 64) [
        | yes h ↦ and_absorbs (has a i) (has b i) (within_says e i h)
        | no h ↦ let past = has_past a 64 i fits (omega arith) in ap (λ (x : Bool). x && has b i) past ∙ sym past
      ]

-- ---- strict containment is a strict order

within_trans : (a b c : ℕ) → within a b ≡ true → within b c ≡ true → within a c ≡ true
within_trans a b c e f = within_holds a c (λ i h t. within_says b c f i h (within_says a b e i h t))

pub strictly_says : (a b : ℕ) → strictly_within a b ≡ true → (within a b ≡ true) × (within b a ≡ false)
unfolding strictly_within
strictly_says a b e = let u = and_parts (within a b) (not (within b a)) e in (u.0, not-true (within b a) u.1)

pub strictly_irreflexive : (a : ℕ) → strictly_within a a ≡ true → ⊥
strictly_irreflexive a e = let u = strictly_says a a e in false≢true (sym u.1 ∙ u.0)

pub strictly_transitive : (a b c : ℕ) → strictly_within a b ≡ true → strictly_within b c ≡ true → strictly_within a c ≡ true
unfolding strictly_within
strictly_transitive a b c e f =
    let u = strictly_says a b e in
    let v = strictly_says b c f in
    ap₂ (λ (x y : Bool). x && not y) (within_trans a b c u.0 v.0)
    (false_from_ne_true (within c a) (λ t. false≢true (sym u.1 ∙ within_trans b c a v.0 t)))
