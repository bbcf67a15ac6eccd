-- What holds after each action of the search, by the outcome of the test that it makes. Assumes nothing.
use Prim.Native.Nat.{ℕ, ◌+◌, ◌≤◌, ◌<◌}
use mathlib.Core.Bool.{Bool, true, false}
use mathlib.Core.Path.{◌≡◌, refl}
use lib.Dec.{ltb}
use lib.ListN.{length}
use borrow.Author.Tests.{ltb-true, ltb-false}
use Rattle.search.proofs.Walking.{Holds, going, gone}
use Rattle.search.specs.Search.{Game, State, Answer, Yes, No, Cut, NoPlace, Stop, spent, found, visit, with_steps, with_test, with_part, from, visit_candidate, store, settle, meet, test, judge, answered, ended}
use Rattle.search.specs.Tree.{Run}
use Rattle.words.specs.Lists.{any}

pub visit_holds : {A : Type 0} {P : ℕ → Type 0} {Q : ℕ → A → Type 0} (cut : A) (allowance n : ℕ)
    → (n < allowance → P (n + 1)) → (allowance ≤ n → Q n cut) → Holds P Q (visit cut allowance n)
unfolding visit
visit_holds {P = P} {Q = Q} cut allowance n p q = go (ltb n allowance) refl
  where
    go : (b : Bool) → ltb n allowance ≡ b → Holds P Q (visit cut allowance n)
    go true e = rw (e, visit) (going (p (ltb-true n allowance e)))
    go false e = rw (e, visit) (gone (q (ltb-false n allowance e)))

pub meet_holds : (g : Game) (c m n : ℕ) {P : ℕ → Type 0} {Q : ℕ → Stop → Type 0}
    → (g.worse (g.part c) (g.part m) ≡ true → Q n (found (g.part m)))
    → (g.worse (g.part c) (g.part m) ≡ false → P n) → Holds P Q (meet g c m n)
unfolding meet
meet_holds g c m n {P} {Q} q p = go (g.worse (g.part c) (g.part m)) refl
  where
    go : (b : Bool) → g.worse (g.part c) (g.part m) ≡ b → Holds P Q (meet g c m n)
    go true e = rw (e, meet) (gone (q e))
    go false e = rw (e, meet) (going (p e))

-- ---- the candidate walk: P holds where it goes on, Q where it has ended

module _ {P : State → Type 0} {Q : State → Answer → Type 0} where
  pub from_holds : (s : State) {r : Run ℕ Answer} → Holds (λ n. P (with_steps s n)) (λ n. Q (with_steps s n)) r → Holds P Q (from s r)
  from_holds s (going h) = going h
  from_holds s (gone h) = gone h

  pub candidate_holds : (allowance : ℕ) (s : State)
      → (s.steps < allowance → P (with_steps s (s.steps + 1))) → (allowance ≤ s.steps → Q s Cut) → Holds P Q (visit_candidate allowance s)
  candidate_holds allowance s p q = from_holds s (visit_holds Cut allowance s.steps p q)

  store_holds : (places p : ℕ) (s : State)
      → (length s.stored < places → P (with_part s p)) → (places ≤ length s.stored → Q s NoPlace) → Holds P Q (store places p s)
  unfolding store
  store_holds places p s k f = go (ltb (length s.stored) places) refl
    where
      go : (b : Bool) → ltb (length s.stored) places ≡ b → Holds P Q (store places p s)
      go true e = rw (e, store) (going (k (ltb-true _ _ e)))
      go false e = rw (e, store) (gone (f (ltb-false _ _ e)))

-- what a test that stops after n steps has to give, for P or Q to hold of the candidate walk after it
abbrev pub Settled : (State → Type 0) → (State → Answer → Type 0) → ℕ → State → ℕ → Stop → Type 0
Settled P Q places s n spent = Q (with_steps s n) Cut
Settled P Q places s n (found p) =
    (length s.stored < places → P (with_part (with_steps s n) p)) × (places ≤ length s.stored → Q (with_steps s n) NoPlace)

module _ {P : State → Type 0} {Q : State → Answer → Type 0} (places m : ℕ) where
  pub settle_holds : (s : State) {r : Run ℕ Stop}
      → Holds (λ n. Q (with_steps s n) (Yes m)) (Settled P Q places s) r → Holds P Q (settle places m s r)
  settle_holds s (going h) = gone h
  settle_holds s (gone {a = spent} h) = gone h
  settle_holds s (gone {s = n} {a = found p} h) = store_holds places p (with_steps s n) h.0 h.1

  pub judge_holds : (g : Game) (allowance : ℕ) (s : State)
      → (any (g.worse (g.part m)) s.stored ≡ true → P s)
      → (any (g.worse (g.part m)) s.stored ≡ false
      → Holds (λ n. Q (with_steps (with_test s) n) (Yes m)) (Settled P Q places (with_test s)) (test g allowance m s.steps))
      → Holds P Q (judge g allowance places m s)
  unfolding judge
  judge_holds g allowance s p q = go (any (g.worse (g.part m)) s.stored) refl
    where
      go : (b : Bool) → any (g.worse (g.part m)) s.stored ≡ b → Holds P Q (judge g allowance places m s)
      go true e = rw (e, judge) (going (p e))
      go false e = rw (e, judge) (settle_holds (with_test s) (q e))

-- what holds where the search ends: going through all candidates is to end with no
pub finished : {Q : State → Answer → Type 0} {r : Run State Answer} → Holds (λ s. Q s No) Q r → Q (ended r) (answered r)
finished (going h) = h
finished (gone h) = h
