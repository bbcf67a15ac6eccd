-- From words to positions and back: what `and`, `or`, a power of two and one position more do to each position. Assumes nothing.
use Rattle.std.proofs.Common.{ℕ, zero, suc, ◌+◌, ◌*◌, ◌/◌, ◌%◌, ◌^◌, ◌≤◌, ◌<◌, min, max, Bool, true, false, cond, ◌&&◌, ◌||◌, List, [], ◌∷◌, ◌≡◌, refl, sym, ap, ◌∙◌, one-mul, arith, bit_and, bit_or, eqb, lit<, shl_exact, eqb-true}
use Rattle.std.proofs.Math.Bool.{or-true, or-false, and-false}
use Rattle.std.proofs.lemmas.Bool.{false≢true, eqb-false}
use Rattle.std.proofs.lemmas.Nat.Bits.{bit_at_and, bit_at_or, bit_at-zero, bit_at_above, bit_at-pow_same, bit_at-pow_other, same_from_bits}
use Rattle.std.proofs.lemmas.Nat.{or_disjoint}
use Rattle.words.specs.Lists.{any}
use Rattle.words.specs.Positions.{has, adding, set_of}

-- ---- a bit is 0 or 1

pub data Bit : ℕ → Type 0 where
  nought : Bit 0
  one : Bit 1

bit : (x : ℕ) → x < 2 → Bit x
bit zero h = nought
bit (suc zero) h = one
bit (suc (suc x)) h = absurd (omega arith)

pub low : (x : ℕ) → Bit (x % 2)
low x = bit (x % 2) (omega arith)

-- the test of the smaller, and of the larger, of two bits
test_min : {x y : ℕ} → Bit x → Bit y → eqb (min x y) 1 ≡ (eqb x 1 && eqb y 1)
test_min nought nought = refl
test_min nought one = refl
test_min one nought = refl
test_min one one = refl

test_max : {x y : ℕ} → Bit x → Bit y → eqb (max x y) 1 ≡ (eqb x 1 || eqb y 1)
test_max nought nought = refl
test_max nought one = refl
test_max one nought = refl
test_max one one = refl

test_same : {x y : ℕ} → Bit x → Bit y → eqb x 1 ≡ eqb y 1 → x ≡ y
test_same nought nought e = refl
test_same nought one e = absurd (false≢true e)
test_same one nought e = absurd (false≢true (sym e))
test_same one one e = refl

-- ---- what `and` and `or` do to each position

pub has_and : (a b i : ℕ) → has (bit_and a b) i ≡ (has a i && has b i)
unfolding has
has_and a b i = ap (λ (x : ℕ). eqb x 1) (bit_at_and a b i) ∙ test_min (low (a / 2 ^ i)) (low (b / 2 ^ i))

pub has_or : (a b i : ℕ) → has (bit_or a b) i ≡ (has a i || has b i)
unfolding has
has_or a b i = ap (λ (x : ℕ). eqb x 1) (bit_at_or a b i) ∙ test_max (low (a / 2 ^ i)) (low (b / 2 ^ i))

pub has_none : (i : ℕ) → has 0 i ≡ false
unfolding has
has_none i = ap (λ (x : ℕ). eqb x 1) (bit_at-zero i)

-- a word below 2 ^ k has no position from k on
pub has_past : (w k i : ℕ) → w < 2 ^ k → k ≤ i → has w i ≡ false
unfolding has
has_past w k i h le = ap (λ (x : ℕ). eqb x 1) (bit_at_above w k i h le)

-- the positions of a word of 64 bits, as a shift finds them
pub has_shifted : (w i : ℕ) → has w i ≡ eqb (w / 2 ^ i % 2) 1
unfolding has
has_shifted w i = refl

pub has_no_more : (w i : ℕ) → w < 2 ^ 64 → 64 ≤ i → has w i ≡ false
has_no_more w i = has_past w 64 i

-- two words with the same positions are equal
pub same_positions : (a b : ℕ) → ((i : ℕ) → has a i ≡ has b i) → a ≡ b
unfolding has
same_positions a b same = same_from_bits a b (λ i. test_same (low (a / 2 ^ i)) (low (b / 2 ^ i)) (same i))

-- ---- powers of two, and one position more

pub has_power : (i j : ℕ) → has (2 ^ i) j ≡ eqb j i
unfolding has
has_power i j = go (eqb j i) refl
  where
    go : (b : Bool) → eqb j i ≡ b → has (2 ^ i) j ≡ eqb j i
    go true e = ap (has (2 ^ i)) (eqb-true j i e) ∙ ap (λ (x : ℕ). eqb x 1) (bit_at-pow_same i) ∙ sym e
    go false e = ap (λ (x : ℕ). eqb x 1) (bit_at-pow_other i j (eqb-false j i e)) ∙ sym e

-- the code's shift of a one
pub one_shifted : (i : ℕ) → i < 64 → (1 * 2 ^ i) % 2 ^ 64 ≡ 2 ^ i
one_shifted i h = shl_exact 1 i 64 (lit< tt) (omega arith) ∙ one-mul (2 ^ i)

-- to add a position is to take the union with its power of two
pub or_power : (w i : ℕ) → bit_or w (2 ^ i) ≡ adding w i
unfolding adding
or_power w i = go (has w i) refl
  where
    at : (j : ℕ) → eqb j i ≡ true → has w j ≡ has w i
    at j e = ap (has w) (eqb-true j i e)

    old : has w i ≡ true → (j : ℕ) (b : Bool) → eqb j i ≡ b → (has w j || b) ≡ has w j
    old e j true h = ap (λ (x : Bool). x || true) (at j h ∙ e) ∙ sym (at j h ∙ e)
    old e j false h = or-false (has w j)

    new : has w i ≡ false → (j : ℕ) (b : Bool) → eqb j i ≡ b → (has w j && b) ≡ false
    new e j true h = ap (λ (x : Bool). x && true) (at j h ∙ e)
    new e j false h = and-false (has w j)

    go : (b : Bool) → has w i ≡ b → bit_or w (2 ^ i) ≡ cond b w (w + 2 ^ i)
    go true e = same_positions (bit_or w (2 ^ i)) w (λ j. has_or w (2 ^ i) j ∙ ap (λ (b : Bool). has w j || b) (has_power i j) ∙ old e j (eqb j i) refl)
    go false e = or_disjoint w (2 ^ i) (same_positions (bit_and w (2 ^ i)) 0 (λ j. has_and w (2 ^ i) j ∙ ap (λ (b : Bool). has w j && b) (has_power i j) ∙ new e j (eqb j i) refl ∙ sym (has_none j)))

pub has_adding : (w i j : ℕ) → has (adding w i) j ≡ (has w j || eqb j i)
has_adding w i j = ap (λ (x : ℕ). has x j) (sym (or_power w i)) ∙ has_or w (2 ^ i) j ∙ ap (λ (b : Bool). has w j || b) (has_power i j)

-- the positions of the set of a list are those of the list
pub has_set_of : (is : List ℕ) (j : ℕ) → has (set_of is) j ≡ any (eqb j) is
unfolding set_of
has_set_of [] j = has_none j
has_set_of (i ∷ is) j = has_adding (set_of is) i j ∙ go (eqb j i) refl (has_set_of is j)
  where
    go : (b : Bool) → eqb j i ≡ b → has (set_of is) j ≡ any (eqb j) is → (has (set_of is) j || eqb j i) ≡ any (eqb j) (i ∷ is)
    go true e later = ap (λ (b : Bool). has (set_of is) j || b) e ∙ or-true (has (set_of is) j) ∙ rw (e, any)
    go false e later = ap (λ (b : Bool). has (set_of is) j || b) e ∙ or-false (has (set_of is) j) ∙ later ∙ rw (e, any)
