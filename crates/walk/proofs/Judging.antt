-- What a candidate does, as the code carries it: the ban of its test, the stored parts, and how the walk goes on. Assumes nothing.
use Rattle.std.proofs.Common.{ℕ, Bool, cond, ◌+◌, ◌-◌, ◌≤◌, ◌<◌, true, false, List, [], ◌∷◌, map, ◌≡◌, refl, sym, ap, ◌∙◌, subst, arith, add-one, length, take, drop, ⊎_elim, set, le_trans, le_of_eq, drop-drop, drop_of_length-le, length-take-le, take-suc-set, lt-ltb, le-ltb}
use Rattle.std.proofs.lemmas.List.{drop_more}
use mathlib.Core.List.Memᴰ.{cases_cons, eq_of_singleton, of_map}
use mathlib.Core.List.{Memᴰ as Mem}
use Rattle.prepare.proofs.SetLaws.{no_literals}
use Rattle.prepare.specs.Carried.{sets_of, Placed}
use Rattle.search.specs.Grown.{game, posed}
use Rattle.search.specs.Models.{holds, part}
use Rattle.search.specs.Search.{State, Yes, Cut, NoPlace, spent, found, with_steps, with_test, with_part, store, settle, meet, test, judge}
use Rattle.search.specs.Tree.{on, off}
use Rattle.sheet.proofs.LiteralBytes.{in_atoms, complement_placed, placed_lit}
use Rattle.sheet.specs.Enums.{lit}
use Rattle.sheet.specs.Layout.{byte}
use Rattle.sheet.specs.Literals.{Lit, pos, neg, atom, literal, is_literal, complement}
use Rattle.sheet.specs.Order.{branch}
use Rattle.sheet.specs.Reading.{Sheet}
use Rattle.sheet.specs.declared.literal.Literal.{Literal}
use Rattle.sheet.specs.declared.literal.LiteralBytes.{LiteralBytes}
use Rattle.walk.specs.Carried.{meet_part, test_below, Onward}
use Rattle.walk.specs.declared.candidates.Walked.{Walked}
use Rattle.words.proofs.Members.{all_out, pick_yes, pick_no, pick_out}
use Rattle.words.specs.Lists.{any, pick}
use Rattle.words.specs.Positions.{strictly_within}

pub complement_twice : (l : Lit) → complement (complement l) ≡ l
complement_twice (pos a) = refl
complement_twice (neg a) = refl

-- ---- the ban of a test

-- the complements of some objectives that the model satisfies
abbrev pub banned : List ℕ → ℕ → List Lit
banned os m = map complement (pick (holds m) (map literal os))

-- the same of the objectives from a place on
abbrev pub banned_from : List ℕ → ℕ → ℕ → List Lit
banned_from os m i = banned (drop i os) m

module _ (os : List ℕ) (m : ℕ) where
  pub banned_none : record { plains = 0; negated = 0 } ≡ sets_of (banned_from os m (length os))
  banned_none = no_literals refl refl ∙ ap (λ (l : List ℕ). sets_of (banned l m)) (sym (drop_of_length-le os (le_of_eq refl)))

  -- one objective further back
  pub banned_back : (i : ℕ) {b : Bool} → 0 < i → i ≤ length os → holds m (literal (byte os (i - 1))) ≡ b
      → banned_from os m (i - 1) ≡ cond b (complement (literal (byte os (i - 1))) ∷ banned_from os m i) (banned_from os m i)
  banned_back i {b} some h e =
      let at : i - 1 + 1 ≡ i = omega arith in
      ap (λ (l : List ℕ). map complement (pick (holds m) (map literal l))) (drop_more os (i - 1) 0 (omega arith) ∙ ap (λ (k : ℕ). byte os (i - 1) ∷ drop k os) at) ∙ first b e
    where
      first : (b : Bool) → holds m (literal (byte os (i - 1))) ≡ b
          → map complement (pick (holds m) (literal (byte os (i - 1)) ∷ map literal (drop i os))) ≡ cond b (complement (literal (byte os (i - 1))) ∷ banned_from os m i) (banned_from os m i)
      first true e = ap (map complement) (pick_yes (holds m) (literal (byte os (i - 1))) (map literal (drop i os)) e)
      first false e = ap (map complement) (pick_no (holds m) (literal (byte os (i - 1))) (map literal (drop i os)) e)

-- ---- how the walk goes on after a test

abbrev state : (steps tests : ℕ) → List ℕ → State
state n t ps = record { steps = n; tests = t; stored = ps }

module _ (m n k : ℕ) (before : List ℕ) (s : State) {t : ℕ} (et : s.tests ≡ t) (es : s.stored ≡ take k before) where
  same_state : state n t (take k before) ≡ with_steps s n
  same_state = λ i. state n (sym et i) (sym es i)

  pub settle_missed : off (state n t (take k before)) (Yes m) ≡ settle (length before) m s (on n)
  settle_missed = ap (λ (x : State). off x (Yes m)) same_state

  pub settle_spent : off (state n t (take k before)) Cut ≡ settle (length before) m s (off n spent)
  settle_spent = ap (λ (x : State). off x Cut) same_state

  module _ (p : ℕ) where
    pub settle_stored : k < length before → on (state n t (take (k + 1) (set before k p))) ≡ settle (length before) m s (off n (found p))
    unfolding store
    settle_stored h =
        ap (λ (ps : List ℕ). on (state n t ps)) (ap (λ (j : ℕ). take j (set before k p)) (add-one k) ∙ take-suc-set before k p h)
        ∙ ap (λ (x : State). on (with_part x p)) same_state
        ∙ sym (rw (lt-ltb (length s.stored) (length before) (subst (λ (j : ℕ). j < length before) (sym (ap length es ∙ length-take-le k before (omega arith))) h), store))

    pub settle_full : length before ≤ k → k ≤ length before → off (state n t (take k before)) NoPlace ≡ settle (length before) m s (off n (found p))
    unfolding store
    settle_full h le =
        ap (λ (x : State). off x NoPlace) same_state
        ∙ sym (rw (le-ltb (length s.stored) (length before) (subst (λ (j : ℕ). length before ≤ j) (sym (ap length es ∙ length-take-le k before le)) h), store))

-- ---- a candidate

module _ (x : Sheet) (q : Lit) (allowance places m : ℕ) (s : State) {p : ℕ} (ep : p ≡ part x.objectives m) where
  pub judge_passed : any (strictly_within p) s.stored ≡ true → judge (posed x q) allowance places m s ≡ on s
  unfolding judge game
  judge_passed e = rw (ap (λ (r : ℕ). any (strictly_within r) s.stored) (sym ep) ∙ e, judge)

  pub judge_tests : any (strictly_within p) s.stored ≡ false
      → judge (posed x q) allowance places m s
      ≡ settle places m (with_test s) (test_below x.clauses (complement q ∷ pick (holds m) x.objectives) x.objectives (branch x) [] (part x.objectives m) allowance s.steps)
  unfolding judge game test meet meet_part
  judge_tests e = rw (ap (λ (r : ℕ). any (strictly_within r) s.stored) (sym ep) ∙ e, judge)

-- the literals that must hold in a walk all have a place: the question of the candidate walk, and what a test asks for
pub question_placed : (q : Literal) → Placed (lit q ∷ [])
question_placed q l h = subst (λ (x : Lit). (1 ≤ atom x) × (atom x ≤ 64)) (sym (eq_of_singleton h)) (placed_lit q)

pub conditions_placed : (os : LiteralBytes) (m : ℕ) (q : Literal) → Placed (complement (lit q) ∷ pick (holds m) (map literal os.bytes.now))
conditions_placed os m q l h = ⊎_elim (λ e. subst (λ (x : Lit). (1 ≤ atom x) × (atom x ≤ 64)) (sym e) (complement_placed (lit q) (placed_lit q))) kept (cases_cons h)
  where
    kept : Mem l (pick (holds m) (map literal os.bytes.now)) → (1 ≤ atom l) × (atom l ≤ 64)
    kept k =
        let u = of_map literal os.bytes.now (pick_out (holds m) (map literal os.bytes.now) l k).0 in
        subst (λ (x : Lit). (1 ≤ atom x) × (atom x ≤ 64)) u.2 (in_atoms u.0 (all_out (is_literal 64) os.bytes.now os.literals u.0 u.1))

-- ---- from one state of the store to the next

pub onward_trans : {k : ℕ} {f r : Walked} {a b c : List ℕ} → Onward k f a b → Onward f.stored r b c → Onward k r a c
onward_trans {f = f} {r = r} {a = a} {b = b} o p =
    record {
      bounded = p.bounded;
      grown = le_trans o.grown p.grown;
      rest = p.rest ∙ further b ∙ ap (drop (r.stored - f.stored)) o.rest ∙ sym (further a);
    }
  where
    further : (xs : List ℕ) → drop r.stored xs ≡ drop (r.stored - f.stored) (drop f.stored xs)
    further xs = let le = p.grown in let e : r.stored ≡ f.stored + (r.stored - f.stored) = omega arith in ap (λ (k : ℕ). drop k xs) e ∙ sym (drop-drop (r.stored - f.stored) f.stored xs)
