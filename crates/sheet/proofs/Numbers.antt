-- A byte's number, its sign and its distance from zero, as the code finds them, and the literal that they give. Assumes nothing.
use Rattle.std.proofs.Common.{ℕ, zero, suc, FitsSigned, ◌≤◌, ◌<◌, Bool, true, false, cond, ltb, ℤ, pos, negsuc, ◌-ℤ◌, int_lt, nat_abs, to_z, of_z, w8, Option, Some, None, ◌≡◌, refl, sym, ap, ◌∙◌, subst, arith, zero-le, zero-add, true≢false, ltb-true, ltb-false, lt-ltb, le-ltb}
use lib.Dec.{T}
use lib.Signed.{non_neg}
use mir.Val.{Fits}
use Rattle.std.proofs.lemmas.Int.{ints, to_z-of_z}
use Rattle.sheet.proofs.LiteralBytes.{in_atoms}
use Rattle.sheet.proofs.Literals.{signed_low, signed_high, literal_atom, between_holds, between_below, between_past}
use Rattle.sheet.specs.Enums.{literal_in}
use Rattle.sheet.specs.Literals.{Lit, atom, signed, of_number, literal, is_literal, between}

-- the library's number of a byte is the document's
pub number_signed : (b : ℕ) → b < 256 → to_z w8 b ≡ signed b
number_signed b h = go (ltb b 128) refl
  where
    go : (x : Bool) → ltb b 128 ≡ x → to_z w8 b ≡ signed b
    go true e = rw e (sym (signed_low b (ltb-true b 128 e)))
    go false e = rw e (sym (signed_high b (ltb-false b 128 e) h))

-- the same of the number as the code keeps it
pub kept_number : (b : ℕ) → b < 256 → {v : ℤ} → FitsSigned w8 v → v ≡ to_z w8 b → to_z w8 (of_z w8 v) ≡ signed b
kept_number b small {v} fits is = to_z-of_z w8 v fits ∙ is ∙ number_signed b small

-- d is the number v without its sign, as far as it was told from v's side of zero
pub data Away (v d : ℤ) : Type 0 where
  below : int_lt v (pos 0) ≡ true → d ≡ pos 0 -ℤ v → Away v d
  above : int_lt v (pos 0) ≡ false → d ≡ v → Away v d

pub away_atom : (v d : ℤ) → Away v d → atom (of_number v) ≡ nat_abs d
away_atom (pos k) d (below lt e) = absurd (true≢false (sym lt ∙ le-ltb k 0 zero-le))
away_atom (negsuc k) d (below lt e) = sym (ap nat_abs e ∙ zero-add (suc k))
away_atom (pos k) d (above lt e) = sym (ap nat_abs e)
away_atom (negsuc k) d (above lt e) = absurd (true≢false lt)

away_literal : (v d : ℤ) → atom (of_number v) ≡ nat_abs d → (nat_abs d ≡ 0 → ⊥)
    → of_number v ≡ cond (int_lt (pos 0) v) (Lit.pos (nat_abs d)) (Lit.neg (nat_abs d))
away_literal (pos k) d e some = ap Lit.pos e ∙ ap (λ (x : Bool). cond x (Lit.pos (nat_abs d)) (Lit.neg (nat_abs d))) (sym (lt-ltb 0 k (omega arith)))
away_literal (negsuc k) d e some = ap Lit.neg e

-- the number that has no negation is no atom's distance from zero
pub least_far : (v : ℤ) → of_z w8 v ≡ 128 → 128 ≤ atom (of_number v)
least_far (pos k) e = omega arith
least_far (negsuc k) e = omega arith

-- a distance is a byte
pub distance_fits : {x : ℤ} {k : ℕ} → x ≡ pos (suc k) → k < 127 → T (non_neg x) × Fits w8 (nat_abs x)
distance_fits e h =
    (subst (λ (x : ℤ). T (non_neg x)) (sym e) tt, subst (λ (x : ℤ). Fits w8 (nat_abs x)) (sym e) (record { fits = omega arith }))

-- ---- the number of a byte that is a literal

module _ (b : ℕ) (is : is_literal 64 b ≡ true) {v : ℤ} (number : v ≡ signed b) where
  literal_number : of_number v ≡ literal b
  unfolding literal
  literal_number = ap of_number number

  near : (1 ≤ atom (of_number v)) × (atom (of_number v) ≤ 64)
  near = subst (λ (l : Lit). (1 ≤ atom l) × (atom l ≤ 64)) (sym literal_number) (in_atoms b is)

  -- it has a negation
  pub near_fits : FitsSigned w8 (pos 0 -ℤ v)
  near_fits = go v near.1
    where
      go : (v : ℤ) → atom (of_number v) ≤ 64 → FitsSigned w8 (pos 0 -ℤ v)
      go (pos k) h = omega (arith, ints)
      go (negsuc k) h = omega (arith, ints)

  module _ (d : ℤ) (away : Away v d) where
    pub away_placed : (1 ≤ nat_abs d) × (nat_abs d ≤ 64)
    away_placed = subst (λ (a : ℕ). (1 ≤ a) × (a ≤ 64)) (away_atom v d away) near

    pub away_fits : T (non_neg d) × Fits w8 (nat_abs d)
    away_fits = go v d away near
      where
        go : (v d : ℤ) → Away v d → (1 ≤ atom (of_number v)) × (atom (of_number v) ≤ 64) → T (non_neg d) × Fits w8 (nat_abs d)
        go (pos zero) d a r = absurd (omega arith)
        go (pos (suc k)) d (below lt e) r = absurd (true≢false (sym lt ∙ le-ltb (suc k) 0 zero-le))
        go (pos (suc k)) d (above lt e) r = distance_fits e (omega arith)
        go (negsuc k) d (below lt e) r = distance_fits (e ∙ ap pos (zero-add (suc k))) (omega arith)
        go (negsuc k) d (above lt e) r = absurd (true≢false lt)

    pub away_is : cond (int_lt (pos 0) v) (Lit.pos (nat_abs d)) (Lit.neg (nat_abs d)) ≡ literal b
    away_is = sym (away_literal v d (away_atom v d away) (λ e. let p = away_placed.0 in absurd (omega (arith, e)))) ∙ literal_number

-- ---- the answer by the literal of the byte's number

abbrev pub answer_by_number : ℕ → ℤ → Option Lit
answer_by_number n z = cond (between 1 n (atom (of_number z))) (Some (of_number z)) None

module _ (n b : ℕ) (few : n ≤ 64) (small : b < 256) {v : ℤ} (is : v ≡ signed b) where
  pub by_number : answer_by_number n v ≡ literal_in n b
  unfolding literal
  by_number = ap (answer_by_number n) is ∙ ap (λ (x : Bool). cond x (Some (literal b)) None) (sym (literal_atom n b few small))

  by_test : {x : Bool} → between 1 n (atom (of_number v)) ≡ x → cond x (Some (of_number v)) None ≡ literal_in n b
  by_test e = ap (λ (x : Bool). cond x (Some (of_number v)) None) (sym e) ∙ by_number

  pub too_near : atom (of_number v) < 1 → None ≡ literal_in n b
  too_near h = by_test (between_below 1 n (atom (of_number v)) h)

  pub too_far : n < atom (of_number v) → None ≡ literal_in n b
  too_far h = by_test (between_past 1 n (atom (of_number v)) h)

  -- the literal by the sign and the distance d
  pub found : (d : ℤ) → atom (of_number v) ≡ nat_abs d → (nat_abs d ≡ 0 → ⊥) → nat_abs d ≤ n
      → Some (cond (int_lt (pos 0) v) (Lit.pos (nat_abs d)) (Lit.neg (nat_abs d))) ≡ literal_in n b
  found d e some near =
      ap Some (sym (away_literal v d e some)) ∙ by_test (between_holds 1 n (atom (of_number v)) (omega arith) (omega arith))
