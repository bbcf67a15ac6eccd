-- The code's literals and the document's, literal bytes, complements, and the byte of a literal. Assumes nothing.
use Rattle.std.proofs.Common.{ℕ, ◌-◌, ◌≤◌, ◌<◌, Bool, true, false, cond, List, [], ◌∷◌, map, length, Option, Some, None, option_map, is_some, IsSome, ◌≡◌, refl, sym, ap, ap₂, ◌∙◌, lit≤, arith, ⊎_elim}
use Rattle.std.proofs.lemmas.Bool.{or_cases}
use mathlib.Core.HLevel.{is_prop→PathP}
use mathlib.Core.List.Memᴰ.{head, tail}
use mathlib.Core.List.{Memᴰ as Mem}
use Rattle.std.proofs.Math.Bridge.{le_prop}
use Rattle.sheet.proofs.Literals.{between_says, literal_low, literal_high, literal_atom, literal_small, byte_of_literal, atom_literal, negation_literal}
use Rattle.sheet.specs.Enums.{lit, literal_in}
use Rattle.sheet.specs.Layout.{byte}
use Rattle.sheet.specs.Literals.{Lit, pos, neg, atom, plain, literal, between, is_literal, byte_of, complement}
use Rattle.sheet.specs.declared.literal.Literal.{Literal}
use Rattle.words.proofs.Members.{all_out, mem_at}
use Rattle.words.specs.Lists.{all}

-- ---- the code's literals

pub lit_atom : (l : Literal) → atom (lit l) ≡ l.atom
lit_atom l = go l.plain
  where
    go : (p : Bool) → atom (cond p (pos l.atom) (neg l.atom)) ≡ l.atom
    go true = refl
    go false = refl

pub lit_plain : (l : Literal) → plain (lit l) ≡ l.plain
lit_plain l = go l.plain
  where
    go : (p : Bool) → plain (cond p (pos l.atom) (neg l.atom)) ≡ p
    go true = refl
    go false = refl

-- its atom has a place in a word
pub placed_lit : (l : Literal) → (1 ≤ atom (lit l)) × (atom (lit l) ≤ 64)
placed_lit l = let e = lit_atom l in let p = l.placed in omega arith

-- the document's literal tells the code's
pub lit_once : {x y : Literal} → lit x ≡ lit y → x ≡ y
lit_once {x} {y} e =
    let p : x.plain ≡ y.plain = sym (lit_plain x) ∙ ap plain e ∙ lit_plain y in
    let a : x.atom ≡ y.atom = sym (lit_atom x) ∙ ap atom e ∙ lit_atom y in
    λ i.
    record {
      plain = p i;
      atom = a i;
      placed = is_prop→PathP (λ j. (1 ≤ a j) × (a j ≤ 64)) (λ j u v k. (le_prop u.0 v.0 k, le_prop u.1 v.1 k)) x.placed y.placed i;
    }

pub option_once : (x y : Option Literal) → option_map lit x ≡ option_map lit y → x ≡ y
option_once (Some x) (Some y) e = let same : lit x ≡ lit y = cc in ap Some (lit_once same)
option_once (Some x) None e = cc
option_once None (Some y) e = cc
option_once None None e = refl

-- ---- literal bytes

-- an entry of a list of literal bytes is one
pub entry_is_literal : (bs : List ℕ) (i : ℕ) → all (is_literal 64) bs ≡ true → i < length bs → is_literal 64 (byte bs i) ≡ true
entry_is_literal bs i each there = all_out (is_literal 64) bs each (byte bs i) (mem_at 0 bs i there)

-- a literal byte is an atom, or the negation of one, counted back from 256
pub data Halves (b : ℕ) : Type 0 where
  low : literal b ≡ pos b → 1 ≤ b → b ≤ 64 → Halves b
  high : literal b ≡ neg (256 - b) → 192 ≤ b → b < 256 → Halves b

pub halves : (b : ℕ) → is_literal 64 b ≡ true → Halves b
unfolding is_literal
halves b e =
    ⊎_elim (λ h. let p = between_says 1 64 b h in low (literal_low b (omega arith)) p.0 p.1)
    (λ h. let p = between_says 192 255 b h in high (literal_high b (omega arith) (omega arith)) p.0 (omega arith))
    (or_cases (between 1 64 b) (between 192 255 b) e)

pub in_atoms : (b : ℕ) → is_literal 64 b ≡ true → (1 ≤ atom (literal b)) × (atom (literal b) ≤ 64)
in_atoms b e = between_says 1 64 (atom (literal b)) (sym (literal_atom 64 b (lit≤ tt) (literal_small 64 b (lit≤ tt) e)) ∙ e)

-- such a byte is read as a literal
pub literal_found : (b : ℕ) → is_literal 64 b ≡ true → (r : Option Literal) → option_map lit r ≡ literal_in 64 b → IsSome r
literal_found b e (Some l) is = refl
literal_found b e None is = ap is_some is ∙ ap (λ (x : Bool). is_some (cond x (Some (literal b)) None)) e

-- what an answer says of the byte
pub found_literal : (n b : ℕ) {l : Lit} → Some l ≡ literal_in n b → (is_literal n b ≡ true) × (literal b ≡ l)
found_literal n b {l} e = go (is_literal n b) e
  where
    go : (x : Bool) → Some l ≡ cond x (Some (literal b)) None → (x ≡ true) × (literal b ≡ l)
    go true h = (refl, cc)
    go false h = cc

pub none_found : (n b : ℕ) → None ≡ literal_in n b → is_literal n b ≡ false
none_found n b e = go (is_literal n b) e
  where
    go : (x : Bool) → None ≡ cond x (Some (literal b)) None → x ≡ false
    go true h = cc
    go false h = refl

pub answered_of : (n b : ℕ) {l : Lit} → Some l ≡ literal_in n b → true ≡ is_literal n b
answered_of n b e = sym (found_literal n b e).0

pub answered_neither : (n b : ℕ) → None ≡ literal_in n b → false ≡ is_literal n b
answered_neither n b e = sym (none_found n b e)

-- what an answer that is a literal says of the byte
pub record Told (n b : ℕ) (p : Bool) (a : ℕ) : Type 0 where
  pub sign : p ≡ plain (literal b)
  pub distance : a ≡ atom (literal b)
  pub some : 1 ≤ a
  pub few : a ≤ n

pub told_of : (n b : ℕ) → n ≤ 64 → b < 256 → (l : Literal) → Some (lit l) ≡ literal_in n b → Told n b l.plain l.atom
told_of n b few small l e =
    let f = found_literal n b e in
    let far : l.atom ≡ atom (literal b) = sym (lit_atom l) ∙ ap atom (sym f.1) in
    let range = between_says 1 n (atom (literal b)) (sym (literal_atom n b few small) ∙ f.0) in
    record { sign = sym (lit_plain l) ∙ ap plain (sym f.1); distance = far; some = omega (arith, far, range.0); few = omega (arith, far, range.1) }

-- the literal by its sign and its atom
pub told_literal : {n b : ℕ} {p : Bool} {a : ℕ} → Told n b p a → literal b ≡ cond p (pos a) (neg a)
told_literal {b} t = by_parts (literal b) t.sign t.distance
  where
    by_parts : (l : Lit) {p : Bool} {a : ℕ} → p ≡ plain l → a ≡ atom l → l ≡ cond p (pos a) (neg a)
    by_parts (pos k) ep ea = sym (λ i. cond (ep i) (pos (ea i)) (neg (ea i)))
    by_parts (neg k) ep ea = sym (λ i. cond (ep i) (pos (ea i)) (neg (ea i)))

pub complement_placed : (l : Lit) → (1 ≤ atom l) × (atom l ≤ 64) → (1 ≤ atom (complement l)) × (atom (complement l) ≤ 64)
complement_placed (pos a) r = r
complement_placed (neg a) r = r

-- ---- the byte of a literal

-- the byte that stands for a literal is the one that is read as it
pub its_byte : (b : ℕ) {l : Lit} → is_literal 64 b ≡ true → literal b ≡ l → byte_of l ≡ b
its_byte b lit is = ap byte_of (sym is) ∙ byte_of_literal b (literal_small 64 b (lit≤ tt) lit)

pub byte_is_literal : (l : Lit) → (1 ≤ atom l) × (atom l ≤ 64) → is_literal 64 (byte_of l) ≡ true
byte_is_literal (pos a) r = atom_literal a r.0 r.1
byte_is_literal (neg a) r = negation_literal (256 - a) (omega arith) (omega arith)

pub literal_byte : (l : Lit) → (1 ≤ atom l) × (atom l ≤ 64) → literal (byte_of l) ≡ l
literal_byte (pos a) r = literal_low a (omega arith)
literal_byte (neg a) r = let e : 256 - (256 - a) ≡ a = omega arith in literal_high (256 - a) (omega arith) (omega arith) ∙ ap neg e

pub literals_of_bytes : (ls : List Lit) → ((l : Lit) → Mem l ls → (1 ≤ atom l) × (atom l ≤ 64)) → map literal (map byte_of ls) ≡ ls
literals_of_bytes [] is = refl
literals_of_bytes (l ∷ ls) is = ap₂ ◌∷◌ (literal_byte l (is l (head refl))) (literals_of_bytes ls (λ x m. is x (tail m)))
