-- Numbers in decimal: the definition is the library's, so the library's laws are its own. Assumes nothing.
use Rattle.std.proofs.Common.{ℕ, zero, suc, ◌^◌, ◌/◌, ◌%◌, ◌≤◌, ◌<◌, ◌⊎◌, inl, inr, ⊎_elim, ◌≡◌, Bool, true, false, cond, List, [], ◌∷◌, ◌++◌, length, refl, sym, ap, ◌∙◌, arith, ltb, lt-ltb, le-ltb, ltb-true, ltb-false}
use Rattle.std.specs.Fmt.{decimal as printed}
use Rattle.std.proofs.Math.Nat.{pow-suc}
use Rattle.std.proofs.lemmas.Fmt.{AppendsLastDigit, decimal_from_appends, length-decimal-le_succ}
use Rattle.std.proofs.lemmas.List.{length_push}
use Rattle.text.specs.Text.{letters, digit, spelt, decimal, signed_decimal}

spelt_appends : AppendsLastDigit spelt
spelt_appends = record {
  one = λ k n h. ap (λ (small : Bool). cond small (digit n ∷ []) (spelt k (n / 10) ++ (digit (n % 10) ∷ []))) (lt-ltb n 10 h);
  more = λ k n h. ap (λ (small : Bool). cond small (digit n ∷ []) (spelt k (n / 10) ++ (digit (n % 10) ∷ []))) (le-ltb n 10 h);
}

pub decimal_is : (n : ℕ) → n < 2 ^ 64 → decimal n ≡ printed n
unfolding decimal
decimal_is n h = decimal_from_appends spelt spelt_appends (suc n) n h (omega (arith, length-decimal-le_succ n h))

-- ---- the last digit behind the rest, of any number

small_or_large : (n : ℕ) → (n < 10) ⊎ (10 ≤ n)
small_or_large n = by_test (ltb n 10) refl
  where
    by_test : (small : Bool) → ltb n 10 ≡ small → (n < 10) ⊎ (10 ≤ n)
    by_test true e = inl (ltb-true n 10 e)
    by_test false e = inr (ltb-false n 10 e)

-- any two bounds that leave room give the same digits
same_digits : (j k n : ℕ) → n < j → n < k → spelt j n ≡ spelt k n
same_digits zero k n h g = absurd (omega (arith, h))
same_digits (suc j) zero n h g = absurd (omega (arith, g))
same_digits (suc j) (suc k) n h g =
    ⊎_elim (λ small. spelt_appends.one j n small ∙ sym (spelt_appends.one k n small))
    (λ large. spelt_appends.more j n large ∙ ap (λ (t : List ℕ). t ++ (digit (n % 10) ∷ [])) (same_digits j k (n / 10) (omega (arith, h, large)) (omega (arith, g, large))) ∙ sym (spelt_appends.more k n large))
    (small_or_large n)

-- a number below ten is its digit
pub one_digit : (n : ℕ) → n < 10 → decimal n ≡ digit n ∷ []
unfolding decimal
one_digit n h = spelt_appends.one n n h

-- of any other the last digit follows the tenth of it
pub last_digit : (n : ℕ) → 10 ≤ n → decimal n ≡ decimal (n / 10) ++ (digit (n % 10) ∷ [])
unfolding decimal
last_digit n h =
    spelt_appends.more n n h ∙ ap (λ (t : List ℕ). t ++ (digit (n % 10) ∷ [])) (same_digits n (suc (n / 10)) (n / 10) (omega (arith, h)) (omega arith))

pub one_more_digit : (n : ℕ) → 10 ≤ n → length (decimal n) ≡ suc (length (decimal (n / 10)))
one_more_digit n h = ap length (last_digit n h) ∙ length_push (decimal (n / 10)) (digit (n % 10)) ∙ omega arith

-- a number below 10 ^ (k + 1) has at most k + 1 digits
pub at_most_digits : (k n : ℕ) → n < 10 ^ suc k → length (decimal n) ≤ suc k
at_most_digits zero n h = omega (arith, ap length (one_digit n (omega (arith, h))))
at_most_digits (suc k) n h =
    ⊎_elim (λ small. omega (arith, ap length (one_digit n small)))
    (λ large. omega (arith, at_most_digits k (n / 10) (omega (arith, h, pow-suc 10 (suc k))), one_more_digit n large)) (small_or_large n)

-- ---- signs, and how many digits there are

-- a number below zero has a minus in front, any other has none
pub with_minus : (minus : Bool) (n : ℕ) → minus ≡ true → signed_decimal minus n ≡ letters "-" ++ decimal n
unfolding signed_decimal
with_minus minus n e = ap (λ (b : Bool). cond b (letters "-") [] ++ decimal n) e

pub without_minus : (minus : Bool) (n : ℕ) → minus ≡ false → signed_decimal minus n ≡ decimal n
unfolding signed_decimal
without_minus minus n e = ap (λ (b : Bool). cond b (letters "-") [] ++ decimal n) e

-- a 64-bit number has at most twenty digits
pub twenty_digits : (n : ℕ) → n < 2 ^ 64 → length (decimal n) ≤ 20
twenty_digits n h = at_most_digits 19 n (omega (arith, h))

pub signed_digits : (minus : Bool) (n : ℕ) → n < 2 ^ 64 → length (signed_decimal minus n) ≤ 21
signed_digits true n h = omega (arith, ap length (with_minus true n refl), twenty_digits n h)
signed_digits false n h = omega (arith, ap length (without_minus false n refl), twenty_digits n h)
