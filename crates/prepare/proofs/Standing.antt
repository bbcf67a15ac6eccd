-- What words stand for: every 64-bit word is the set of its positions, so two words are the sets of some literals of the atoms 1 to 64, and a
-- list of such pairs those of some clauses. So a contract that speaks of whatever its words stand for does speak of something. Assumes nothing.
use Rattle.std.proofs.Common.{ℕ, suc, ◌-◌, ◌^◌, ◌<◌, true, List, [], ◌∷◌, ◌++◌, map, ◌≡◌, refl, sym, ap, ◌∙◌, subst, arith, eqb, eq-eqb, ⊎_elim, ap₂, eqb-true}
use Rattle.std.proofs.lemmas.Bool.{false≢true}
use mathlib.Core.List.{Memᴰ as Mem}
use mathlib.Core.List.Memᴰ.{append_cases, cases_cons, head, not-nil, of_map, tail}
use Rattle.std.proofs.Math.Decide.{dec_lt}
use denote.Laws.{Is}
use denote.Struct.Laws.{val}
use Rattle.prepare.proofs.clauses.Literals.TheLaws.{the_laws}
use Rattle.prepare.specs.contracts.clauses.Literals.{the_type, the_row}
use Rattle.prepare.specs.Carried.{negated, sets_of, Placed, Clauses}
use Rattle.prepare.specs.declared.clauses.Literals.{Literals}
use Rattle.sheet.specs.Literals.{Lit, pos, neg, atom, plains}
use Rattle.words.proofs.Bits.{has_past, has_set_of, same_positions}
use Rattle.words.proofs.Bools.{same_test}
use Rattle.words.proofs.Members.{any_in, any_out, pick_in, pick_out, in_below, below_in}
use Rattle.words.specs.Lists.{any, pick, below}
use Rattle.words.specs.Positions.{has, adding, set_of}

-- ---- a word is the set of its positions

abbrev positions : ℕ → List ℕ
positions w = pick (has w) (below 64)

set_of_positions : (w : ℕ) → w < 2 ^ 64 → set_of (positions w) ≡ w
set_of_positions w fits = same_positions (set_of (positions w)) w (λ j. has_set_of (positions w) j ∙ same_test (any (eqb j) (positions w)) (has w j) (out j) (into j))
  where
    out : (j : ℕ) → any (eqb j) (positions w) ≡ true → has w j ≡ true
    out j e = let u = any_out (eqb j) (positions w) e in ap (has w) (eqb-true j u.0 u.2) ∙ (pick_out (has w) (below 64) u.0 u.1).1

    into : (j : ℕ) → has w j ≡ true → any (eqb j) (positions w) ≡ true
    into j e = elim (dec_lt j 64) [
      | yes h ↦ any_in (eqb j) (positions w) j (pick_in (has w) (below 64) j (in_below 64 j h) e) (eq-eqb j j refl)
      | no h ↦ absurd (false≢true (sym (has_past w 64 j fits (omega arith)) ∙ e))
    ]

-- ---- the literals of two lists of positions

abbrev pos_at : ℕ → Lit
pos_at i = pos (suc i)

abbrev neg_at : ℕ → Lit
neg_at i = neg (suc i)

abbrev literals_at : (is js : List ℕ) → List Lit
literals_at is js = map pos_at is ++ map neg_at js

plains_are : (is js : List ℕ) → plains (literals_at is js) ≡ set_of is
unfolding plains set_of
plains_are [] [] = refl
plains_are [] (j ∷ js) = plains_are [] js
plains_are (i ∷ is) js = let e : suc i - 1 ≡ i = omega arith in ap₂ adding (plains_are is js) e

negated_are : (is js : List ℕ) → negated (literals_at is js) ≡ set_of js
unfolding negated set_of
negated_are [] [] = refl
negated_are [] (j ∷ js) = let e : suc j - 1 ≡ j = omega arith in ap₂ adding (negated_are [] js) e
negated_are (i ∷ is) js = negated_are is js

kind_placed : (f : ℕ → Lit) → ((i : ℕ) → atom (f i) ≡ suc i) → (w : ℕ) → Placed (map f (positions w))
kind_placed f is w l m =
    let u = of_map f (positions w) m in
    let small = below_in 64 u.0 (pick_out (has w) (below 64) u.0 u.1).0 in
    let e = sym (ap atom u.2) ∙ is u.0 in
    (omega arith, omega arith)

-- ---- what words stand for

-- both words have 64 bits
abbrev pub Fitting : Literals → Type 0
Fitting w = (w.plains < 2 ^ 64) × (w.negated < 2 ^ 64)

-- as those of every argument have
pub fitting : (w : Literals) → Is the_row w (val the_type the_laws w ∷ []) → Fitting w
fitting w is = let words = is.1.1 in (words.0.1, words.1.0.1)

pub standing : (w : Literals) → Fitting w → (ls : List Lit) × Placed ls × (w ≡ sets_of ls)
standing w fits =
    let is = positions w.plains in
    let js = positions w.negated in
    let plain : plains (literals_at is js) ≡ w.plains = plains_are is js ∙ set_of_positions w.plains fits.0 in
    let other : negated (literals_at is js) ≡ w.negated = negated_are is js ∙ set_of_positions w.negated fits.1 in (
      literals_at is js,
      λ l m. ⊎_elim (kind_placed pos_at (λ i. refl) w.plains l) (kind_placed neg_at (λ i. refl) w.negated l) (append_cases (map pos_at is) m),
      λ i. record { plains = sym plain i; negated = sym other i },
    )

-- the same for a list of such pairs
pub standing_clauses : (sets : List Literals) → ((w : Literals) → Mem w sets → Fitting w) → (cs : List (List Lit)) × Clauses cs sets
standing_clauses [] fits = ([], record { placed = λ c m. absurd (not-nil m); sets = refl })
standing_clauses (w ∷ sets) fits =
    let c = standing w (fits w (head refl)) in
    let u = standing_clauses sets (λ x m. fits x (tail m)) in (
      c.0 ∷ u.0,
      record {
        placed = λ d m. ⊎_elim (λ e. subst Placed (sym e) c.1) (u.1.placed d) (cases_cons m);
        sets = ap₂ ◌∷◌ c.2 u.1.sets;
      },
    )
