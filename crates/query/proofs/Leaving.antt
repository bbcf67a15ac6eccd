-- What a walk leaves: the witness byte by byte, and the whole result. Assumes nothing.
use Rattle.std.proofs.Common.{ℕ, suc, ◌+◌, ◌-◌, ◌≤◌, ◌<◌, Bool, true, false, cond, List, [], ◌∷◌, ◌++◌, append-nil, ◌≡◌, refl, sym, ap, ◌∙◌, arith, length, take, drop, set, take-append-drop, length-take-le, drop_of_length-le, Option, Some, None}
use Rattle.std.proofs.lemmas.List.{length-map}
use mir.Val.{bool_byte}
use Rattle.query.specs.Query.{Numbers, outcome, reply_of, values_of, witnessed, after_walk}
use Rattle.search.specs.Models.{value}
use Rattle.search.specs.Search.{State, Answer, Yes, No, Cut, NoPlace, answered, code_of, ended}
use Rattle.walk.specs.Carried.{answer_of, state_of, ended_as, run_of, Onward}
use Rattle.walk.specs.declared.candidates.Ending.TheVariants.{Affirmed, Exhausted, Full}
use Rattle.walk.specs.declared.candidates.Ending.{Ending}
use Rattle.walk.specs.declared.candidates.Walked.{Walked}
use Rattle.words.proofs.Lists.{length_below, put_over, map_below_next}
use Rattle.words.specs.Lists.{over, below}
use Rattle.words.specs.Positions.{has}

-- ---- the witness

-- the code's byte of a Bool
byte_is : (b : Bool) → bool_byte b ≡ cond b 1 0
byte_is true = refl
byte_is false = refl

module _ (m : ℕ) where
  pub no_values : values_of 0 m ≡ []
  unfolding values_of below
  no_values = refl

  length_values : (i : ℕ) → length (values_of i m) ≡ i
  unfolding values_of
  length_values i = length-map (below i) (λ j. cond (value m (suc j)) 1 0) ∙ length_below i

  byte_at : (i : ℕ) {b : Bool} {v : ℕ} → v ≡ bool_byte b → b ≡ has m i → v ≡ cond (value m (suc i)) 1 0
  unfolding value
  byte_at i {b} e f =
      let same : i ≡ suc i - 1 = omega arith in
      e ∙ byte_is b ∙ ap (λ (b : Bool). cond b 1 0) (f ∙ ap (has m) same)

  pub next_value : (before : List ℕ) (i : ℕ) {b : Bool} {v : ℕ} → v ≡ bool_byte b → b ≡ has m i → i < length before
      → set (over (values_of i m) before) i v ≡ over (values_of (i + 1) m) before
  unfolding values_of
  next_value before i {b} {v} e f h =
      put_over (values_of i m) before i v 0 (length_values i) h
      ∙ ap (λ (x : ℕ). over (values_of i m ++ (x ∷ [])) before) (byte_at i e f)
      ∙ ap (λ (l : List ℕ). over l before) (sym (map_below_next (λ j. cond (value m (suc j)) 1 0) i))

  -- where there are as many bytes as values, no byte stays as it was
  pub all_values : (before : List ℕ) (i : ℕ) → i ≡ length before → over (values_of i m) before ≡ values_of (length before) m
  all_values before i e =
      ap (λ (l : List ℕ). values_of i m ++ l) (drop_of_length-le before (omega (arith, length_values i)))
      ∙ append-nil (values_of i m) ∙ ap (λ (i : ℕ). values_of i m) e

-- a witness in the first n bytes of a buffer, whose other bytes stay
witnessed_first : (x : Answer) (before : List ℕ) (n : ℕ) → n ≤ length before
    → witnessed x (length (take n before)) (take n before) ++ drop n before ≡ witnessed x n before
witnessed_first (Yes m) before n h =
    let e = length-take-le n before h in
    ap (λ (l : List ℕ). l ++ drop n before) (all_values m (take n before) (length (take n before)) refl)
    ∙ (λ i. values_of (e i) m ++ drop (sym (length_values m n) i) before)
witnessed_first No before n h = take-append-drop n before
witnessed_first Cut before n h = take-append-drop n before
witnessed_first NoPlace before n h = take-append-drop n before

-- ---- what a walk leaves

ends_as : (e : Option Ending) (s : State) → (answer_of e ≡ answered (ended_as e s)) × (s ≡ ended (ended_as e s))
ends_as None s = (refl, refl)
ends_as (Some (Affirmed m)) s = (refl, refl)
ends_as (Some Exhausted) s = (refl, refl)
ends_as (Some Full) s = (refl, refl)

module _ (w : Walked) (n : ℕ) (before after witness : List ℕ) (on : Onward 0 w before after) where
  all_stored : length (take w.stored after) ≡ w.stored
  all_stored = length-take-le w.stored after on.bounded.room

  pub walk_leaves : outcome (reply_of (code_of (answer_of w.ending)) w.steps w.tests w.stored) after (witnessed (answer_of w.ending) n witness) ≡ after_walk n (run_of w after) before witness
  walk_leaves =
      let is = ends_as w.ending (state_of w after) in
      let filled = sym (take-append-drop w.stored after) ∙ ap (λ (l : List ℕ). take w.stored after ++ l) (on.rest ∙ ap (λ (k : ℕ). drop k before) (sym all_stored)) in
      (λ i. outcome (reply_of (code_of (answer_of w.ending)) w.steps w.tests (sym all_stored i)) (filled i) (witnessed (answer_of w.ending) n witness))
      ∙ (λ i. outcome (reply_of (code_of (is.0 i)) (is.1 i).steps (is.1 i).tests (length (is.1 i).stored)) (over (is.1 i).stored before) (witnessed (is.0 i) n witness))

  -- the same by the counts and the first n witness bytes, as the code finishes them
  pub finish_leaves : {counts : Numbers} {first : List ℕ} → n ≤ length witness → counts ≡ reply_of (code_of (answer_of w.ending)) w.steps w.tests w.stored
      → first ≡ witnessed (answer_of w.ending) (length (take n witness)) (take n witness)
      → outcome counts after (first ++ drop n witness) ≡ after_walk n (run_of w after) before witness
  finish_leaves room told shown =
      let beside = ap (λ (l : List ℕ). l ++ drop n witness) shown ∙ witnessed_first (answer_of w.ending) witness n room in
      (λ i. outcome (told i) after (beside i)) ∙ walk_leaves
