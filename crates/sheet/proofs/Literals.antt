-- Bytes and the literals that they stand for. Assumes nothing.
use Rattle.std.proofs.Common.{ℕ, suc, ◌-◌, ◌≤◌, ◌<◌, Bool, true, false, cond, ◌&&◌, ◌||◌, ⊎_elim, ◌≡◌, refl, sym, ap, ap₂, ◌∙◌, arith, ltb, leb, lit≤, ℤ, lt-ltb, le-ltb, le-leb, leb-true, ltb-true, ltb-false}
use Rattle.std.proofs.Math.Bool.{or-true, or-false, and-false}
use Rattle.std.proofs.Math.IntN.{sub_ℕ}
use Rattle.std.proofs.lemmas.Bool.{lt-leb, and_parts, or_cases}
use Rattle.sheet.specs.Literals.{Lit, pos, neg, atom, signed, of_number, literal, between, is_literal, byte_of}
use Rattle.words.proofs.Bools.{same_test}

-- ---- the two halves of the bytes

pub signed_low : (b : ℕ) → b < 128 → signed b ≡ ℤ.pos b
unfolding signed
signed_low b h = ap (λ (x : Bool). cond x (ℤ.pos b) (sub_ℕ b 256)) (lt-ltb b 128 h)

pub signed_high : (b : ℕ) → 128 ≤ b → b < 256 → signed b ≡ ℤ.negsuc (256 - suc b)
unfolding signed
signed_high b l h =
    ap (λ (x : Bool). cond x (ℤ.pos b) (sub_ℕ b 256)) (le-ltb b 128 l)
    ∙ ap (λ (x : Bool). cond x (ℤ.negsuc (256 - suc b)) (ℤ.pos (b - 256))) (lt-ltb b 256 h)

pub literal_low : (b : ℕ) → b < 128 → literal b ≡ pos b
unfolding literal
literal_low b h = ap of_number (signed_low b h)

pub literal_high : (b : ℕ) → 128 ≤ b → b < 256 → literal b ≡ neg (256 - b)
unfolding literal
literal_high b l h = let e : suc (256 - suc b) ≡ 256 - b = omega arith in ap of_number (signed_high b l h) ∙ ap neg e

-- ---- a byte is a literal exactly if its atom is one of 1 to n

pub between_says : (low high x : ℕ) → between low high x ≡ true → (low ≤ x) × (x ≤ high)
between_says low high x e = let p = and_parts (leb low x) (leb x high) e in (leb-true low x p.0, leb-true x high p.1)

pub between_holds : (low high x : ℕ) → low ≤ x → x ≤ high → between low high x ≡ true
between_holds low high x l h = ap₂ ◌&&◌ (le-leb low x l) (le-leb x high h)

pub between_below : (low high x : ℕ) → x < low → between low high x ≡ false
between_below low high x l = ap (λ (b : Bool). b && leb x high) (lt-leb low x l)

pub between_past : (low high x : ℕ) → high < x → between low high x ≡ false
between_past low high x h = ap (λ (b : Bool). leb low x && b) (lt-leb x high h) ∙ and-false (leb low x)

module _ (n b : ℕ) (few : n ≤ 64) where
  low_byte : b < 128 → is_literal n b ≡ between 1 n b
  unfolding is_literal
  low_byte h = ap (λ (x : Bool). between 1 n b || x) (between_below (256 - n) 255 b (omega arith)) ∙ or-false (between 1 n b)

  high_byte : 128 ≤ b → b < 256 → is_literal n b ≡ between 1 n (256 - b)
  unfolding is_literal
  high_byte l h =
      ap (λ (x : Bool). x || between (256 - n) 255 b) (between_past 1 n b (omega arith))
      ∙ same_test (between (256 - n) 255 b) (between 1 n (256 - b))
      (λ e. let p = between_says (256 - n) 255 b e in between_holds 1 n (256 - b) (omega arith) (omega arith))
      (λ e. let p = between_says 1 n (256 - b) e in between_holds (256 - n) 255 b (omega arith) (omega arith))

  pub literal_atom : b < 256 → is_literal n b ≡ between 1 n (atom (literal b))
  literal_atom h = go (ltb b 128) refl
    where
      go : (x : Bool) → ltb b 128 ≡ x → is_literal n b ≡ between 1 n (atom (literal b))
      go true e = let l = ltb-true b 128 e in low_byte l ∙ ap (λ (y : Lit). between 1 n (atom y)) (sym (literal_low b l))
      go false e = let l = ltb-false b 128 e in high_byte l h ∙ ap (λ (y : Lit). between 1 n (atom y)) (sym (literal_high b l h))

-- the byte of a byte's literal is that byte
pub byte_of_literal : (b : ℕ) → b < 256 → byte_of (literal b) ≡ b
byte_of_literal b h = go (ltb b 128) refl
  where
    go : (x : Bool) → ltb b 128 ≡ x → byte_of (literal b) ≡ b
    go true e = ap byte_of (literal_low b (ltb-true b 128 e))
    go false e = let l = ltb-false b 128 e in ap byte_of (literal_high b l h) ∙ omega arith

-- ---- atoms and their negations as bytes

pub atom_literal : (a : ℕ) → 1 ≤ a → a ≤ 64 → is_literal 64 a ≡ true
atom_literal a l h = low_byte 64 a (lit≤ tt) (omega arith) ∙ between_holds 1 64 a l h

pub negation_literal : (b : ℕ) → 192 ≤ b → b < 256 → is_literal 64 b ≡ true
negation_literal b l h = high_byte 64 b (lit≤ tt) (omega arith) h ∙ between_holds 1 64 (256 - b) (omega arith) (omega arith)

-- ---- literals of other numbers of atoms

-- a literal of few atoms is one of more
pub more_atoms : (n b : ℕ) → n ≤ 64 → is_literal n b ≡ true → is_literal 64 b ≡ true
unfolding is_literal
more_atoms n b few e =
    ⊎_elim (λ h. let p = between_says 1 n b h in ap (λ (x : Bool). x || between 192 255 b) (between_holds 1 64 b p.0 (omega arith)))
    (λ h. let p = between_says (256 - n) 255 b h in ap (λ (x : Bool). between 1 64 b || x) (between_holds 192 255 b (omega arith) p.1) ∙ or-true (between 1 64 b))
    (or_cases (between 1 n b) (between (256 - n) 255 b) e)

-- a literal is a byte
pub literal_small : (n b : ℕ) → n ≤ 64 → is_literal n b ≡ true → b < 256
unfolding is_literal
literal_small n b few e =
    ⊎_elim (λ h. let p = between_says 1 n b h in omega arith) (λ h. let p = between_says (256 - n) 255 b h in omega arith)
    (or_cases (between 1 n b) (between (256 - n) 255 b) e)
