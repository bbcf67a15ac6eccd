-- Text as bytes: letters, numbers in decimal, and a buffer into which a text has been put.
use Rattle.std.specs.Prelude.{ℕ, zero, suc, ◌+◌, ◌/◌, ◌%◌, Bool, cond, List, [], ◌∷◌, ◌++◌, ◌≡◌, ltb, length, take, drop}
use Prim.Native.Char.{code}
use Rattle.text.specs.declared.Text.{Text}
use Prim.Native.String.{String, [] as empty, ◌∷◌ as ◌then◌}

-- the bytes of a text in ASCII
abbrev pub letters : String → List ℕ
letters empty = []
letters (c then s) = code c ∷ letters s

-- the byte of a digit: "0" is 48
abbrev pub digit : ℕ → ℕ
digit d = 48 + d

-- a number in decimal, in at most so many digits: one below ten is its digit; of any other the last digit follows the tenth of it
abbrev pub spelt : (digits : ℕ) → ℕ → List ℕ
spelt zero n = []
spelt (suc k) n = cond (ltb n 10) (digit n ∷ []) (spelt k (n / 10) ++ (digit (n % 10) ∷ []))

-- a number in decimal, with no leading zero: n has no more than n + 1 digits
unfoldable pub decimal : ℕ → List ℕ
decimal n = spelt (suc n) n

-- a number by its sign and its distance from zero
unfoldable pub signed_decimal : (minus : Bool) → ℕ → List ℕ
signed_decimal minus n = cond minus (letters "-") [] ++ decimal n

-- a buffer after a text was put at a place of it: all other bytes are as they were
unfoldable pub written : (text : List ℕ) (at : ℕ) (before : List ℕ) → List ℕ
written text at before = take at before ++ text ++ drop (at + length text) before

-- the text was put at a place of the buffer, up to this end
pub record Puts (text : List ℕ) (at : ℕ) (before after : List ℕ) (end : ℕ) : Type 0 where
  pub ends : end ≡ at + length text
  pub filled : after ≡ written text at before

-- the text was put behind what stood in the lent buffer, which is still the same one and as long
pub record Adds (text : List ℕ) (before after : Text) : Type 0 where
  pub ends : after.end ≡ before.end + length text
  pub filled : after.bytes ≡ record before.bytes { now = written text before.end before.bytes.now }
  pub long : length after.bytes.now ≡ length before.bytes.now
