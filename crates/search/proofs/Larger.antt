-- A larger allowance changes only a search that was cut, and goes on from where that one ended. Assumes nothing.
use Prim.Native.Nat.{ℕ, ◌+◌, ◌≤◌, ◌<◌}
use mathlib.Core.Bool.{Bool, true, false}
use mathlib.Core.List.{List, [], ◌∷◌, ◌++◌, append-nil, append_assoc}
use mathlib.Core.Logic.{◌↔◌}
use mathlib.Core.Path.{◌≡◌, refl, sym, ap, ◌∙◌}
use native.Mathlib.Omega.{arith}
use lib.Dec.{ltb}
use borrow.Author.Tests.{ltb-true, ltb-false}
use Rattle.search.proofs.Actions.{visit_holds, meet_holds, from_holds, candidate_holds, settle_holds, Settled, judge_holds, finished}
use Rattle.search.proofs.Allowance.{steps_within}
use Rattle.search.proofs.Walking.{Holds, Always, going, then_holds, holds_map, walk_keeps}
use Rattle.search.specs.Search.{Game, State, Answer, Cut, Stop, spent, found, visit, with_steps, with_test, from, visit_candidate, settle, meet, test, judge, search, start, answered, ended}
use Rattle.search.specs.Tree.{Tree, closed, full, fork, Run, on, off, then, walk}
use Rattle.words.specs.Lists.{any}

-- ---- two walks

module _ {S A : Type 0} where
  -- The runs are the same, or the first is cut and all that the second comes to lies beyond.
  data Agree (cut : A) (Beyond : S → S → Type 0) : Run S A → Run S A → Type 0 where
    same : {r : Run S A} → Agree cut Beyond r r
    further : {s : S} {r : Run S A} → Always (Beyond s) r → Agree cut Beyond (off s cut) r

  module _ {cut : A} {Beyond : S → S → Type 0} where
    then_agree : {r r' : Run S A} {f f' : S → Run S A} → ((s t : S) → Beyond s t → Always (Beyond s) (f' t))
        → ((s : S) → Agree cut Beyond (f s) (f' s)) → Agree cut Beyond r r' → Agree cut Beyond (then r f) (then r' f')
    then_agree keeps agree (same {r = on s}) = agree s
    then_agree keeps agree (same {r = off s a}) = same
    then_agree keeps agree (further {s = s} h) = further (then_holds h (keeps s))

    module _ {M : Type 0} {visit visit' : S → Run S A} {act act' : M → S → Run S A}
        (visit_keeps : (s t : S) → Beyond s t → Always (Beyond s) (visit' t))
        (act_keeps : (s : S) (m : M) (t : S) → Beyond s t → Always (Beyond s) (act' m t))
        (visits : (s : S) → Agree cut Beyond (visit s) (visit' s)) (acts : (m : M) (s : S) → Agree cut Beyond (act m s) (act' m s)) where
      walk_agree : (t : Tree M) (s : S) → Agree cut Beyond (walk visit act t s) (walk visit' act' t s)
      walk_agree closed s = visits s
      walk_agree (full m) s = then_agree (λ s. act_keeps s m) (acts m) (visits s)
      walk_agree (fork first second) s =
          then_agree (λ s. walk_keeps (visit_keeps s) (act_keeps s) second) (walk_agree second)
          (then_agree (λ s. walk_keeps (visit_keeps s) (act_keeps s) first) (walk_agree first) (visits s))

-- the second list begins with the first
abbrev pub Prefix : List ℕ → List ℕ → Type 0
Prefix xs ys = (zs : List ℕ) × (ys ≡ xs ++ zs)

prefix_all : (xs : List ℕ) → Prefix xs xs
prefix_all xs = ([], sym (append-nil xs))

-- ---- the same search under the allowances a and b

module _ (g : Game) (a b places : ℕ) (le : a ≤ b) where
  -- what lies beyond a cut is past the allowance a
  abbrev Late : ℕ → ℕ → Type 0
  Late n k = a < k

  visit_agree : {A : Type 0} (cut : A) (n : ℕ) → Agree cut Late (visit cut a n) (visit cut b n)
  unfolding visit
  visit_agree cut n = go (ltb n a) (ltb n b) refl refl
    where
      go : (x y : Bool) → ltb n a ≡ x → ltb n b ≡ y → Agree cut Late (visit cut a n) (visit cut b n)
      go true true e e' = rw (e, e', visit) same
      go true false e e' = absurd (omega (arith, ltb-true n a e, ltb-false n b e'))
      go false true e e' = let l : a < n + 1 = omega (arith, ltb-false n a e) in rw (e, e', visit) (further (going l))
      go false false e e' = rw (e, e', visit) same

  meet_late : (c m n : ℕ) → a < n → Always (λ k. a < k) (meet g c m n)
  meet_late c m n h = meet_holds g c m n (λ e. h) (λ e. h)

  visit_late : {A : Type 0} (cut : A) (n : ℕ) → a < n → Always (λ k. a < k) (visit cut b n)
  visit_late cut n h = visit_holds cut b n (λ l. omega arith) (λ l. h)

  test_late : (c n : ℕ) → a < n → Always (λ k. a < k) (test g b c n)
  unfolding test
  test_late c = walk_keeps (visit_late spent) (meet_late c) (g.rivals c)

  test_agree : (c n : ℕ) → Agree spent Late (test g a c n) (test g b c n)
  unfolding test meet
  test_agree c = walk_agree (λ n. visit_late spent) (λ n. meet_late c) (visit_agree spent) (λ m n. same) (g.rivals c)

  -- beyond a cut at s: past the allowance a, with the parts of s stored first
  abbrev Beyond : State → State → Type 0
  Beyond s t = (a < t.steps) × Prefix s.stored t.stored

  -- where a test is past the allowance a, the candidate walk after it lies beyond a cut
  late_settled : (s t : State) → Prefix s.stored t.stored → {r : Run ℕ Stop} → Always (λ k. a < k) r
      → Holds (λ n. Beyond s (with_steps t n)) (Settled (Beyond s) (λ u x. Beyond s u) places t) r
  late_settled s t p = holds_map (λ n l. (l, p)) stopped
    where
      stopped : (n : ℕ) (x : Stop) → a < n → Settled (Beyond s) (λ u x. Beyond s u) places t n x
      stopped n spent l = (l, p)
      stopped n (found q) l = (
        λ _. (l, (p.0 ++ (q ∷ []), ap (λ x. x ++ (q ∷ [])) p.1 ∙ append_assoc s.stored p.0 (q ∷ []))),
        λ _. (l, p),
      )

  judge_keeps : (s : State) (m : ℕ) (t : State) → Beyond s t → Always (Beyond s) (judge g b places m t)
  judge_keeps s m t h = judge_holds places m g b t (λ e. h) (λ e. late_settled s (with_test t) h.1 (test_late m t.steps h.0))

  settle_agree : (m : ℕ) (s : State) {r r' : Run ℕ Stop} → Agree spent Late r r' → Agree Cut Beyond (settle places m s r) (settle places m s r')
  settle_agree m s same = same
  settle_agree m s (further {s = n} h) = further (settle_holds places m s (late_settled (with_steps s n) s (prefix_all s.stored) h))

  judge_agree : (m : ℕ) (s : State) → Agree Cut Beyond (judge g a places m s) (judge g b places m s)
  unfolding judge
  judge_agree m s = go (any (g.worse (g.part m)) s.stored) refl
    where
      go : (x : Bool) → any (g.worse (g.part m)) s.stored ≡ x
          → Agree Cut Beyond (judge g a places m s) (judge g b places m s)
      go true e = rw (e, judge) same
      go false e = rw (e, judge) (settle_agree m (with_test s) (test_agree m s.steps))

  candidate_keeps : (s t : State) → Beyond s t → Always (Beyond s) (visit_candidate b t)
  candidate_keeps s t h = candidate_holds b t (λ l. (omega arith, h.1)) (λ l. h)

  from_agree : (s : State) {r r' : Run ℕ Answer} → Agree Cut Late r r' → Agree Cut Beyond (from s r) (from s r')
  from_agree s same = same
  from_agree s (further h) = further (from_holds s (holds_map (λ n l. (l, prefix_all s.stored)) (λ n x l. (l, prefix_all s.stored)) h))

  -- The searches are the same, or the first is cut and the second ends beyond that.
  search_agree : Agree Cut Beyond (search g a places) (search g b places)
  unfolding search
  search_agree = walk_agree candidate_keeps judge_keeps (λ s. from_agree s (visit_agree Cut s.steps)) judge_agree g.candidates start

  pub larger : (answered (search g a places) ≡ Cut → ⊥) → search g b places ≡ search g a places
  larger = go search_agree
    where
      go : {r r' : Run State Answer} → Agree Cut Beyond r r' → (answered r ≡ Cut → ⊥) → r' ≡ r
      go same n = refl
      go (further h) n = absurd (n refl)

  pub cut_exactly : (answered (search g b places) ≡ Cut → ⊥) → (answered (search g a places) ≡ Cut) ↔ (a < (ended (search g b places)).steps)
  cut_exactly n = (more search_agree n, less search_agree (steps_within g a places))
    where
      more : {r r' : Run State Answer} → Agree Cut Beyond r r' → (answered r' ≡ Cut → ⊥) → answered r ≡ Cut → a < (ended r').steps
      more same n e = absurd (n e)
      more (further h) n e = (finished h).0

      less : {r r' : Run State Answer} → Agree Cut Beyond r r' → (ended r).steps ≤ a → a < (ended r').steps → answered r ≡ Cut
      less same l h = absurd (omega arith)
      less (further k) l h = refl

  -- the parts that are stored under a are those stored first under b
  pub stored_first : Prefix (ended (search g a places)).stored (ended (search g b places)).stored
  stored_first = go search_agree
    where
      go : {r r' : Run State Answer} → Agree Cut Beyond r r' → Prefix (ended r).stored (ended r').stored
      go {r} same = prefix_all (ended r).stored
      go (further h) = (finished h).1
