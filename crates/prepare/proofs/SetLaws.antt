-- The two sets of atoms of each clause: one literal more, and a list that is filled with them. Assumes nothing.
use Rattle.std.proofs.Common.{ℕ, true, false, ◌+◌, ◌-◌, ◌≤◌, ◌<◌, subst, subst₂, arith, take, drop, List, [], ◌∷◌, ◌++◌, map, ◌≡◌, refl, sym, ap, ◌∙◌, length, set, length-take-le, drop_of_length-le}
use Rattle.std.proofs.lemmas.List.{append-nil, length-map, take-take, drop-drop, drop-take, map-append}
use Rattle.std.proofs.lemmas.Bool.{false≢true}
use Rattle.prepare.specs.Carried.{negated, sets_of}
use Rattle.prepare.specs.declared.clauses.Literals.{Literals}
use Rattle.sheet.proofs.ClauseLaws.{clause_rises, clause_ends_within, clause_literals}
use Rattle.sheet.proofs.Understood.{passed, length_span}
use Rattle.sheet.specs.Layout.{clause_count, literal_count, literals_at, objectives_at, clause_start, clause_end, clause_bytes, literal_bytes, span}
use Rattle.sheet.specs.Literals.{Lit, pos, neg, plain, place, literal, plains, is_literal}
use Rattle.sheet.specs.Reading.{Accepted}
use Rattle.words.proofs.Lists.{length_below, put_over, map_below_next}
use Rattle.words.specs.Lists.{all, over, below}
use Rattle.words.specs.Positions.{adding, set_of}

-- ---- one literal more in a clause's two sets

abbrev sets : ℕ → ℕ → Literals
sets p q = record { plains = p; negated = q }

-- two words that are nothing have no literal
pub no_literals : {c : Literals} → c.plains ≡ 0 → c.negated ≡ 0 → c ≡ sets_of []
unfolding plains negated set_of
no_literals e f = λ i. sets (e i) (f i)

module _ (ls : List Lit) {c : Literals} {r : ℕ} (e : c ≡ sets_of ls) where
  pub with_plain : (l : Lit) → plain l ≡ true → r ≡ adding c.plains (place l) → sets r c.negated ≡ sets_of (l ∷ ls)
  unfolding plains negated set_of
  with_plain (pos a) is f = ap (λ (p : ℕ). sets p c.negated) f ∙ ap (λ (w : Literals). sets (adding w.plains (a - 1)) w.negated) e
  with_plain (neg a) is f = absurd (false≢true is)

  pub with_negated : (l : Lit) → plain l ≡ false → r ≡ adding c.negated (place l) → sets c.plains r ≡ sets_of (l ∷ ls)
  unfolding plains negated set_of
  with_negated (pos a) is f = absurd (false≢true (sym is))
  with_negated (neg a) is f = ap (λ (q : ℕ). sets c.plains q) f ∙ ap (λ (w : Literals). sets w.plains (adding w.negated (a - 1))) e

-- ---- the sets of the first clauses, as a list is filled with them

abbrev pub literals_of : List ℕ → ℕ → List Lit
literals_of s i = map literal (clause_bytes s i)

module _ (s : List ℕ) where
  abbrev pub first_sets : ℕ → List Literals
  first_sets i = map sets_of (map (literals_of s) (below i))

  pub no_sets : first_sets 0 ≡ []
  unfolding below
  no_sets = refl

  pub length_sets : (i : ℕ) → length (first_sets i) ≡ i
  length_sets i = length-map (map (literals_of s) (below i)) sets_of ∙ length-map (below i) (literals_of s) ∙ length_below i

  pub next_set : (d : List Literals) (i : ℕ) (v : Literals) → v ≡ sets_of (literals_of s i) → i < length d → set (over (first_sets i) d) i v ≡ over (first_sets (i + 1)) d
  next_set d i v e h =
      put_over (first_sets i) d i v v (length_sets i) h
      ∙ ap (λ (x : Literals). over (first_sets i ++ (x ∷ [])) d) e
      ∙ ap (λ (l : List Literals). over l d) (sym (ap (map sets_of) (map_below_next (literals_of s) i) ∙ map-append sets_of (map (literals_of s) (below i)) (literals_of s i ∷ [])))

-- a part of a list that is filled is its first places
pub filled_part : {A : Type 0} (xs d : List A) {items : List A} {m : ℕ} → length xs ≡ m → m ≤ length d → items ≡ over xs (take m d) → items ++ drop m d ≡ over xs d
filled_part xs d {m = m} e within f =
    let none = drop_of_length-le (take m d) (omega (arith, length-take-le m d within, e)) in
    (λ i. f i ++ drop m d) ∙ ap (λ l. (xs ++ l) ++ drop m d) none ∙ ap (λ l. l ++ drop m d) (append-nil xs) ∙ (λ i. xs ++ drop (sym e i) d)

-- ---- the bytes of a clause among those of all clauses

span_of_span : (s : List ℕ) (at to start end : ℕ) → start ≤ end → at + end ≤ to → span start end (span at to s) ≡ span (at + start) (at + end) s
span_of_span s at to start end rises within =
    let rest = to - at - start in
    let whole : to - at ≡ start + rest = omega arith in
    let long : at + end - (at + start) ≡ end - start = omega arith in
    ap (λ (n : ℕ). take (end - start) (drop start (take n (drop at s)))) whole
    ∙ ap (take (end - start)) (drop-take start rest (drop at s))
    ∙ take-take (end - start) rest (drop start (drop at s)) (omega arith)
    ∙ (λ i. take (sym long i) (drop-drop start at s i))

-- what is known of the clause from start to end, of all clauses' literals
pub record Part (s bytes : List ℕ) (i start end : ℕ) : Type 0 where
  pub rises : start ≤ end
  pub within : end ≤ length bytes
  pub part : span start end bytes ≡ clause_bytes s i
  pub literals : all (is_literal 64) (span start end bytes) ≡ true

pub part_of : (s : List ℕ) (i : ℕ) {bytes : List ℕ} {start end : ℕ} → Accepted s → i < clause_count s
    → bytes ≡ literal_bytes s → start ≡ clause_start s i → end ≡ clause_end s i → Part s bytes i start end
part_of s i {bytes} {start} {end} ok h all_bytes starts ends =
    let p = (passed s ok).sized in
    let rises : start ≤ end = subst₂ (λ (a b : ℕ). a ≤ b) (sym starts) (sym ends) (clause_rises s ok i h) in
    let most : end ≤ literal_count s = subst (λ (b : ℕ). b ≤ literal_count s) (sym ends) (clause_ends_within s ok i h) in
    let part : span start end bytes ≡ clause_bytes s i =
    ap (span start end) all_bytes ∙ span_of_span s (literals_at s) (objectives_at s) start end rises (omega arith)
    ∙ (λ k. span (literals_at s + starts k) (literals_at s + ends k) s) in
    record {
      rises = rises;
      within = omega (arith, ap length all_bytes ∙ length_span (literals_at s) (objectives_at s) s (omega (arith, p.whole)));
      part = part;
      literals = ap (all (is_literal 64)) part ∙ clause_literals s ok i h;
    }
