-- `sheet::refusals::bad_ends`: a step of the loop is a step of the test over the clauses, and what is left after it is the test of the last end. Assumes nothing.
use Rattle.std.proofs.Common.{ℕ, List, Bool, true, ◌≡◌, ◌<◌, ◌≤◌, ◌+◌, eqb, not, ltb, false, drop, refl, sym, ap, ap₂, ◌∙◌, arith, lt-ltb, le-ltb}
use Rattle.sheet.proofs.Table.{ends_are, start_next}
use Rattle.sheet.proofs.refusals.bad_ends.Goals as goal
use Rattle.sheet.specs.Layout.{clause_count, clause_start, clause_end}
use Rattle.sheet.specs.Reading.{falls}
use Rattle.words.proofs.Lists.{any_number, any_numbers_end}
use Rattle.words.specs.Lists.{any, below}

-- one clause further, by the test of the end that was read against the start
next : {end start : ℕ} {b : Bool} (s : List ℕ) (i : ℕ) → i < clause_count s → end ≡ clause_end s i → start ≡ clause_start s i → ltb end start ≡ b
    → any (falls s) (drop i (below (clause_count s))) ≡ elim b [ true ↦ true | false ↦ any (falls s) (drop (i + 1) (below (clause_count s))) ]
next s i h e f t = any_number (falls s) (clause_count s) i h (ap₂ ltb (sym e) (sym f) ∙ t)

pub returns-then-end-start : goal.returns-then-end-start
returns-then-end-start c =
    let s = c.args.sheet.bytes.now in
    ends_are s
    (c.loop-i.invariant.left
    ∙ next s c.loop-i.i (omega (arith, c.clauses-i-end.ensures)) c.clause_end-end.ensures c.loop-i.invariant.at_start (lt-ltb _ _ (omega arith)))
    refl

pub loop-i-preserved : goal.loop-i-preserved
loop-i-preserved c =
    let s = c.args.sheet.bytes.now in
    record {
      at_start = c.clause_end-end.ensures ∙ sym (start_next s c.loop-i.i);
      left = c.loop-i.invariant.left
          ∙ next s c.loop-i.i (omega (arith, c.clauses-i-end.ensures)) c.clause_end-end.ensures c.loop-i.invariant.at_start (le-ltb _ _ (omega arith));
    }

-- no end falls, where the loop has gone through all the clauses
none_falls : (s : List ℕ) {i : ℕ} → clause_count s ≤ i
    → any (falls s) (below (clause_count s)) ≡ any (falls s) (drop i (below (clause_count s))) → any (falls s) (below (clause_count s)) ≡ false
none_falls s {i = i} h e = e ∙ any_numbers_end (falls s) (clause_count s) i h

pub returns : goal.returns
returns c =
    let s = c.args.sheet.bytes.now in
    let last : c.loop-i.i ≡ clause_count s = omega (arith, c.clauses-i-end.ensures) in
    ap₂ (λ (x y : ℕ). not (eqb x y)) (c.loop-i.invariant.at_start ∙ ap (clause_start s) last) c.word_at.ensures
    ∙ ends_are s (none_falls s (omega (arith, c.clauses-i-end.ensures)) c.loop-i.invariant.left) refl
