-- The clauses of an accepted sheet: where they stand, and that their bytes are literals. Assumes nothing.
use Rattle.std.proofs.Common.{ℕ, zero, suc, ◌+◌, ◌-◌, ◌≤◌, ◌<◌, true, List, ◌≡◌, sym, ap, ◌∙◌, subst, le_trans, le_of_eq, arith, length, get_or, drop, get_or-take, get_or-drop, ltb-false, eqb-true}
use mathlib.Core.List.Memᴰ.{cast}
use mathlib.Core.List.{Memᴰ as Mem}
use Rattle.std.proofs.lemmas.Bool.{not-false, or_parts}
use Rattle.sheet.proofs.Literals.{more_atoms}
use Rattle.sheet.proofs.Understood.{length_span, passed}
use Rattle.sheet.specs.Layout.{atom_count, clause_count, literal_count, literals_at, objectives_at, clause_start, clause_end, clause_bytes, literal_bytes, span}
use Rattle.sheet.specs.Literals.{is_literal}
use Rattle.sheet.specs.Reading.{falls, no_literal, bad_ends, bad_literal, Accepted}
use Rattle.words.proofs.Members.{any_none, all_in, mem_at, at_mem, in_below}
use Rattle.words.specs.Lists.{any, all, below}

-- ---- where a clause's literals stand

module _ (s : List ℕ) (ok : Accepted s) where
  pub clause_rises : (i : ℕ) → i < clause_count s → clause_start s i ≤ clause_end s i
  unfolding bad_ends
  clause_rises i h =
      ltb-false (clause_end s i) (clause_start s i)
      (any_none (falls s) (below (clause_count s)) (or_parts (any (falls s) (below (clause_count s))) _ (passed s ok).ends_rise).0 i (in_below (clause_count s) i h))

  pub last_end : clause_start s (clause_count s) ≡ literal_count s
  unfolding bad_ends
  last_end = eqb-true (clause_start s (clause_count s)) (literal_count s) (not-false _ (or_parts (any (falls s) (below (clause_count s))) _ (passed s ok).ends_rise).1)

  -- so many clauses before the last, the starts have not fallen since
  starts_rise : (d i : ℕ) → i + d ≡ clause_count s → clause_start s i ≤ clause_start s (clause_count s)
  starts_rise zero i e = let same : i ≡ clause_count s = omega arith in le_of_eq (ap (clause_start s) same)
  starts_rise (suc d) i e =
      let next : suc i + d ≡ clause_count s = omega arith in
      le_trans (clause_rises i (omega arith)) (starts_rise d (suc i) next)

  pub clause_ends_within : (i : ℕ) → i < clause_count s → clause_end s i ≤ literal_count s
  clause_ends_within i h =
      let e : suc i + (clause_count s - suc i) ≡ clause_count s = omega arith in
      subst (λ (x : ℕ). clause_end s i ≤ x) last_end (starts_rise (clause_count s - suc i) (suc i) e)

-- ---- its bytes are literals

pub get_or_span : (from to : ℕ) (s : List ℕ) (i : ℕ) → i < to - from → get_or (span from to s) i 0 ≡ get_or s (from + i) 0
get_or_span from to s i h = get_or-take (to - from) (drop from s) i 0 h ∙ get_or-drop from s i 0

-- what stands in a span of a span stands in the span
span_within : (s : List ℕ) (from to start end b : ℕ) → from ≤ start → end ≤ to → to ≤ length s → Mem b (span start end s) → Mem b (span from to s)
span_within s from to start end b l h fits m =
    let u = at_mem 0 (span start end s) b m in
    let lt : u.0 < end - start = subst (λ (k : ℕ). u.0 < k) (length_span start end s (omega arith)) u.1 in
    let i = start - from + u.0 in
    let e : from + i ≡ start + u.0 = omega arith in
    cast (sym u.2 ∙ get_or_span start end s u.0 lt ∙ ap (λ (k : ℕ). get_or s k 0) (sym e) ∙ sym (get_or_span from to s i (omega arith)))
    (mem_at 0 (span from to s) i (subst (λ (k : ℕ). i < k) (sym (length_span from to s fits)) (omega arith)))

module _ (s : List ℕ) (ok : Accepted s) where
  pub clause_byte : (i : ℕ) → i < clause_count s → (b : ℕ) → Mem b (clause_bytes s i) → is_literal (atom_count s) b ≡ true
  unfolding bad_literal
  clause_byte i h b m =
      let p = passed s ok in
      let ends = clause_ends_within s ok i h in
      not-false (is_literal (atom_count s) b)
      (any_none (no_literal (atom_count s)) (literal_bytes s) p.all_literals b
      (span_within s (literals_at s) (objectives_at s) (literals_at s + clause_start s i) (literals_at s + clause_end s i) b (omega arith) (omega arith) (omega (arith, p.sized.whole)) m))

  pub clause_literals : (i : ℕ) → i < clause_count s → all (is_literal 64) (clause_bytes s i) ≡ true
  clause_literals i h = all_in (is_literal 64) (clause_bytes s i) (λ b m. more_atoms (atom_count s) b (passed s ok).sized.counted.atoms (clause_byte i h b m))
