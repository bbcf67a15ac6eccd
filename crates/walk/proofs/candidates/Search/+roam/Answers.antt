-- Each return is a case of the walk of the tree below the node. Assumes nothing.
use Rattle.std.proofs.Common.{◌≡◌, ℕ, ◌+◌, ◌<◌, ◌≤◌, Bool, true, false, List, [], ◌∷◌, ◌++◌, length, refl, sym, ap, ◌∙◌, arith, Option, Some}
use Rattle.prepare.specs.Carried.{sets_of}
use Rattle.prepare.specs.declared.clauses.Literals.{Literals}
use Rattle.search.specs.Grown.{candidate_clauses, falsified, grow, posed}
use Rattle.search.specs.Search.{State, Answer, Yes, Cut, NoPlace, with_steps, judge, visit_candidate}
use Rattle.search.specs.Tree.{Run, on, off}
use Rattle.sheet.proofs.LiteralBytes.{complement_placed, placed_lit}
use Rattle.sheet.specs.Enums.{lit}
use Rattle.sheet.specs.Layout.{byte}
use Rattle.sheet.specs.Literals.{Lit, literal, complement}
use Rattle.sheet.specs.Reading.{Sheet}
use Rattle.walk.proofs.Exits.{candidate_due, candidate_refused, out_refused, out_closed, out_full, out_first, out_second, order_next, order_end}
use Rattle.walk.proofs.Judging.{onward_trans}
use Rattle.walk.proofs.Sets.{stand_child}
use Rattle.walk.proofs.candidates.Search.+roam.Goals as goal
use Rattle.walk.specs.Carried.{order_from, candidates_below, state_of, ended_as}
use Rattle.walk.specs.declared.candidates.Ending.TheVariants.{Affirmed, Exhausted, Full}
use Rattle.walk.specs.declared.candidates.Ending.{Ending}
use Rattle.walk.specs.declared.candidates.Search.{Search}

-- a walk for whose end there is a reason has ended
has_ended : (e : Ending) (s : State) → (a : Answer) × (ended_as (Some e) s ≡ off s a)
has_ended (Affirmed m) s = (Yes m, refl)
has_ended Exhausted s = (Cut, refl)
has_ended Full s = (NoPlace, refl)

-- the walk of the search g below the node v from the state s on, by what the code finds there
module _ (g : Search) (x : Sheet) (places depth : ℕ) (v : List Lit) (s : State) where
  -- the definition's walk below a node u, where the literals ls are still to be tried
  abbrev below : (ls u : List Lit) → State → Run State Answer
  below ls u r = candidates_below x (lit g.question) g.allowance places ls u r

  abbrev here : Run State Answer
  here = below (order_from depth g.network) v s

  abbrev acts : ℕ → State → Run State Answer
  acts = judge (posed x (lit g.question)) g.allowance places

  abbrev closes : List Lit → Bool
  closes = falsified (candidate_clauses x (lit g.question))

  refused : g.allowance ≤ s.steps → off s Cut ≡ here
  refused h = sym (out_refused (visit_candidate g.allowance) acts (grow closes (order_from depth g.network) v) (candidate_refused g.allowance s h))

  module _ (h : s.steps < g.allowance) where
    abbrev visited : State
    visited = with_steps s (s.steps + 1)

    shut : closes v ≡ true → on visited ≡ here
    shut e = sym (out_closed (visit_candidate g.allowance) acts closes v (candidate_due g.allowance s h) (order_from depth g.network) e)

    module _ (ok : closes v ≡ false) where
      judged : length g.network.order.bytes.now ≤ depth → {node : Literals} → node ≡ sets_of v → acts node.plains visited ≡ here
      judged le made =
          ap (λ (n : Literals). acts n.plains visited) made
          ∙ sym (ap (λ (ls : List Lit). below ls v s) (order_end g.network depth le)
          ∙ out_full (visit_candidate g.allowance) acts closes v (candidate_due g.allowance s h) ok)

      -- the node has two children, by the literal l and by its complement
      module _ (lt : depth < length g.network.order.bytes.now) {l : Lit} (at : l ≡ literal (byte g.network.order.bytes.now depth)) {first : Run State Answer}
          (walked : first ≡ below (order_from (depth + 1) g.network) (v ++ (l ∷ [])) visited) where
        order_left : here ≡ below (l ∷ order_from (depth + 1) g.network) v s
        order_left = ap (λ (ls : List Lit). below ls v s) (order_next g.network depth lt at)

        ended : {u : State} {a : Answer} → first ≡ off u a → first ≡ here
        ended e =
            e ∙ sym (order_left
            ∙ out_first (visit_candidate g.allowance) acts closes v (candidate_due g.allowance s h) l (order_from (depth + 1) g.network) ok walked e)

        goes_on : {u : State} → first ≡ on u → below (order_from (depth + 1) g.network) (v ++ (complement l ∷ [])) u ≡ here
        goes_on e =
            sym (order_left
            ∙ out_second (visit_candidate g.allowance) acts closes v (candidate_due g.allowance s h) l (order_from (depth + 1) g.network) ok walked e)

pub returns-then-self-w-clause-tells_roamed : goal.returns-then-self-w-clause-tells_roamed
returns-then-self-w-clause-tells_roamed t c x v is st =
    let a = c.args in refused a.self.now x (length a.store.now) a.depth v (state_of a.w a.store.now) c.if-self-w.true

pub returns-then-closed-clause-tells_roamed : goal.returns-then-closed-clause-tells_roamed
returns-then-closed-clause-tells_roamed t c x v is st =
    let a = c.args in
    let s = state_of a.w a.store.now in
    ap (λ (e : Option Ending). ended_as e (with_steps s (a.w.steps + 1))) c.requires.1
    ∙ shut a.self.now x (length a.store.now) a.depth v s c.if-self-w.false (sym (c.closed.ensures x.clauses (lit a.self.now.question ∷ []) v st) ∙ c.if-closed.true)

pub returns-then-self-depth-clause-tells_roamed : goal.returns-then-self-depth-clause-tells_roamed
returns-then-self-depth-clause-tells_roamed t c x v is st =
    let a = c.args in
    c.judge.ensures.tells_judged x is
    ∙ judged a.self.now x (length a.store.now) a.depth v (state_of a.w a.store.now) c.if-self-w.false
    (sym (c.closed.ensures x.clauses (lit a.self.now.question ∷ []) v st) ∙ c.if-closed.false) (omega arith) st.made

pub returns-in-None-clause-tells_roamed : goal.returns-in-None-clause-tells_roamed
returns-in-None-clause-tells_roamed t c x v is st =
    let a = c.args in
    let g = a.self.now in
    let l = lit c.at-l.result in
    let placed = placed_lit c.at-l.result in
    let after = state_of c.roam-first.result c.roam-first.new.store in
    c.roam.ensures.tells_roamed x (v ++ (complement l ∷ [])) is
    (stand_child st (complement l) (complement_placed l placed) (c.with-in-None.ensures v st.made ∙ ap (λ (k : Lit). sets_of (k ∷ v)) c.complement.ensures))
    ∙ ap (λ (k : ℕ). candidates_below x (lit g.question) g.allowance k (order_from (a.depth + 1) g.network) (v ++ (complement l ∷ [])) after) c.roam-first.auto.store
    ∙ goes_on g x (length a.store.now) a.depth v (state_of a.w a.store.now) c.if-self-w.false
    (sym (c.closed.ensures x.clauses (lit g.question ∷ []) v st) ∙ c.if-closed.false) (omega arith) c.at-l.ensures
    (c.roam-first.ensures.tells_roamed x (v ++ (l ∷ [])) is (stand_child st l placed (c.with.ensures v st.made)))
    (ap (λ (e : Option Ending). ended_as e after) c.in-None.is)

pub returns-in-None-clause-onward : goal.returns-in-None-clause-onward
returns-in-None-clause-onward t c = onward_trans c.roam-first.ensures.onward c.roam.ensures.onward

pub returns-in-Some-clause-tells_roamed : goal.returns-in-Some-clause-tells_roamed
returns-in-Some-clause-tells_roamed t c x v is st =
    let a = c.args in
    let g = a.self.now in
    let l = lit c.at-l.result in
    let after = state_of c.roam-first.result c.roam-first.new.store in
    ended g x (length a.store.now) a.depth v (state_of a.w a.store.now) c.if-self-w.false
    (sym (c.closed.ensures x.clauses (lit g.question ∷ []) v st) ∙ c.if-closed.false) (omega arith) c.at-l.ensures
    (c.roam-first.ensures.tells_roamed x (v ++ (l ∷ [])) is (stand_child st l (placed_lit c.at-l.result) (c.with.ensures v st.made)))
    (ap (λ (e : Option Ending). ended_as e after) c.in-Some.is ∙ (has_ended c.in-Some.field-0 after).1)
