-- `walk::test::Test::seek`: by the literals of the order still to be tried; each return is a case of the walk below the node. Assumes nothing.
use Rattle.std.proofs.Common.{ℕ, Bool, true, false, List, [], ◌∷◌, ◌++◌, map, ◌+◌, ◌≤◌, ◌<◌, ◌≡◌, length, refl, sym, ap, ◌∙◌, arith}
use Rattle.prepare.specs.Carried.{sets_of}
use Rattle.prepare.specs.declared.clauses.Literals.{Literals}
use Rattle.search.specs.Grown.{unit, falsified, grow}
use Rattle.search.specs.Search.{Stop, found, spent, visit}
use Rattle.search.specs.Tree.{Run, on, off}
use Rattle.sheet.proofs.LiteralBytes.{complement_placed, placed_lit}
use Rattle.sheet.specs.Enums.{lit}
use Rattle.sheet.specs.Layout.{byte}
use Rattle.sheet.specs.Literals.{Lit, literal, complement}
use Rattle.sheet.specs.declared.literal.Literal.{Literal}
use Rattle.walk.proofs.Exits.{visit_due, visit_refused, out_refused, out_closed, out_full, out_first, out_second, order_next, order_end}
use Rattle.walk.proofs.Sets.{stand_child}
use Rattle.walk.proofs.test.Test.+seek.Goals as goal
use Rattle.walk.specs.Carried.{Stand, TellsClosed, TellsTest, meet_part, test_below, told, order_from}
use Rattle.walk.specs.declared.test.Test.{Test}
use Rattle.walk.specs.declared.test.Tried.TheVariants.{Missed, Found, Spent}
use Rattle.walk.specs.declared.test.Tried.{Tried}

-- a test that has not missed so far has ended
has_ended : (r : Tried) → ((n : ℕ) → r ≡ Missed n → ⊥) → (n : ℕ) × (a : Stop) × (told r ≡ off n a)
has_ended (Missed n) not_on = absurd (not_on n refl)
has_ended (Found n p) not_on = (n, found p, refl)
has_ended (Spent n) not_on = (n, spent, refl)

-- the ways out of the test t below a node
module _ (t : Test) (depth : ℕ) (node : Literals) (steps : ℕ) where
  abbrev Here : Tried → Type 0
  Here r = TellsTest t depth node steps r

  abbrev os : List Lit
  os = map literal t.network.objectives.bytes.now

  -- the definition's test below a node w, where the literals ls are still to be tried
  abbrev below : (cs : List (List Lit)) (us ls w : List Lit) → ℕ → Run ℕ Stop
  below cs us ls w n = test_below cs us os ls w t.candidate t.allowance n

  refused : t.allowance ≤ steps → Here (Spent steps)
  refused h cs us w st = sym (out_refused (visit spent _) (meet_part _ _) (grow (falsified (map unit us ++ cs)) _ w) (visit_refused spent _ _ h))

  module _ (due : steps < t.allowance) {shut : Bool} (tells : TellsClosed t.network.clauses.now t.ban node shut) where
    node_closed : shut ≡ true → Here (Missed (steps + 1))
    node_closed e cs us w st =
        sym (out_closed (visit spent _) (meet_part _ _) (falsified (map unit us ++ cs)) w (visit_due spent _ _ due) _ (sym (tells cs us w st) ∙ e))

    module _ (not_shut : shut ≡ false) where
      is_open : (cs : List (List Lit)) (us w : List Lit) → Stand cs us w t.network.clauses.now t.ban node → falsified (map unit us ++ cs) w ≡ false
      is_open cs us w st = sym (tells cs us w st) ∙ not_shut

      node_full : length t.network.order.bytes.now ≤ depth → (r : Tried) → told r ≡ meet_part os t.candidate node.plains (steps + 1) → Here r
      node_full h r e cs us w st =
          e ∙ ap (λ (x : Literals). meet_part os t.candidate x.plains (steps + 1)) st.made
          ∙ sym (ap (λ (ls : List Lit). below cs us ls w steps) (order_end t.network depth h)
          ∙ out_full (visit spent _) (meet_part _ _) (falsified (map unit us ++ cs)) w (visit_due spent _ _ due) (is_open cs us w st))

      -- the node has two children, by the literal l and by its complement
      module _ (h : depth < length t.network.order.bytes.now) (l : Literal) (at : lit l ≡ literal (byte t.network.order.bytes.now depth)) {child : Literals}
          (made : (ls : List Lit) → node ≡ sets_of ls → child ≡ sets_of (lit l ∷ ls)) (first : Tried) (f : TellsTest t (depth + 1) child (steps + 1) first) where
        module _ (cs : List (List Lit)) (us w : List Lit) (st : Stand cs us w t.network.clauses.now t.ban node) where
          first_walked : told first ≡ below cs us (order_from (depth + 1) t.network) (w ++ (lit l ∷ [])) (steps + 1)
          first_walked = f cs us (w ++ (lit l ∷ [])) (stand_child st (lit l) (placed_lit l) (made w st.made))

          order_left : below cs us (order_from depth t.network) w steps ≡ below cs us (lit l ∷ order_from (depth + 1) t.network) w steps
          order_left = ap (λ (ls : List Lit). below cs us ls w steps) (order_next t.network depth h at)

        -- the test ends below the first child
        ended : ((n : ℕ) → first ≡ Missed n → ⊥) → Here first
        ended not_on cs us w st =
            let e = has_ended first not_on in
            e.2 ∙ sym (order_left cs us w st
            ∙ out_first (visit spent _) (meet_part _ _) (falsified (map unit us ++ cs)) w (visit_due spent _ _ due) (lit l) _
            (is_open cs us w st) (first_walked cs us w st) e.2)

        -- it goes on below the second
        goes_on : {n : ℕ} → told first ≡ on n → {k : Lit} → k ≡ complement (lit l) → {other : Literals}
            → ((ls : List Lit) → node ≡ sets_of ls → other ≡ sets_of (k ∷ ls)) → (r : Tried) → TellsTest t (depth + 1) other n r → Here r
        goes_on e ek other_made r g cs us w st =
            g cs us (w ++ (complement (lit l) ∷ []))
            (stand_child st (complement (lit l)) (complement_placed (lit l) (placed_lit l)) (other_made w st.made ∙ ap (λ (x : Lit). sets_of (x ∷ w)) ek))
            ∙ sym (order_left cs us w st
            ∙ out_second (visit spent _) (meet_part _ _) (falsified (map unit us ++ cs)) w (visit_due spent _ _ due) (lit l) _
            (is_open cs us w st) (first_walked cs us w st) e)

pub returns-then-self-steps-clause-tells_test : goal.returns-then-self-steps-clause-tells_test
returns-then-self-steps-clause-tells_test t c = refused c.args.self.now c.args.depth c.args.node _ c.if-self-steps.true

pub returns-then-closed-clause-tells_test : goal.returns-then-closed-clause-tells_test
returns-then-closed-clause-tells_test t c = node_closed c.args.self.now c.args.depth c.args.node _ c.if-self-steps.false c.closed.ensures c.if-closed.true

pub returns-then-self-depth-clause-tells_test : goal.returns-then-self-depth-clause-tells_test
returns-then-self-depth-clause-tells_test t c =
    node_full c.args.self.now c.args.depth c.args.node _ c.if-self-steps.false c.closed.ensures c.if-closed.false (omega arith) _ c.meet.ensures.0

pub returns-in-Missed-clause-tells_test : goal.returns-in-Missed-clause-tells_test
returns-in-Missed-clause-tells_test t c =
    goes_on c.args.self.now c.args.depth c.args.node _ c.if-self-steps.false c.closed.ensures c.if-closed.false (omega arith)
    c.at-l.result c.at-l.ensures c.with.ensures _ c.seek.ensures.tells_test (ap told c.in-Missed.is)
    c.complement.ensures c.with-in-Missed.ensures _ c.seek-in-Missed.ensures.tells_test

pub returns-in_default-clause-tells_test : goal.returns-in_default-clause-tells_test
returns-in_default-clause-tells_test t c =
    ended c.args.self.now c.args.depth c.args.node _ c.if-self-steps.false c.closed.ensures c.if-closed.false (omega arith)
    c.at-l.result c.at-l.ensures c.with.ensures _ c.seek.ensures.tells_test c.in_default.not-Missed
