-- `prepare::order::Order::take_atoms`: one atom more, plain. Assumes nothing.
use Rattle.std.proofs.Common.{ℕ, List, [], ◌∷◌, ◌≡◌, ◌≤◌, ◌+◌, ◌-◌, map, refl, sym, ap, ◌∙◌, subst, arith}
use Rattle.prepare.proofs.OrderLaws.{taking_atom}
use Rattle.prepare.proofs.order.Order.take_atoms.Goals as goal
use Rattle.prepare.specs.Carried.{Ordered, Grown}
use Rattle.prepare.specs.declared.order.Order.{Order}
use Rattle.sheet.specs.Literals.{Lit, pos}
use Rattle.sheet.specs.Order.{taking, taking_all, up_to}
use Rattle.words.specs.Lists.{below}

-- the order with atom a too, by the number of the last atom before
with_atom : (so : List Lit) (a b : ℕ) → 1 ≤ a → b ≡ a → taking (taking_all so (map pos (up_to (a - 1)))) (pos a) ≡ taking_all so (map pos (up_to b))
with_atom so a b some e =
    let back : a - 1 + 1 ≡ a = omega arith in
    ap (λ (k : ℕ). taking (taking_all so (map pos (up_to (a - 1)))) (pos k)) (sym back) ∙ sym (taking_atom so (a - 1))
    ∙ ap (λ (k : ℕ). taking_all so (map pos (up_to k))) (back ∙ sym e)

pub loop-atom-init : goal.loop-atom-init
unfolding below
loop-atom-init c = record { near = omega arith; room = omega arith; grown = record { order = λ so before is. is; lent = refl; long = refl } }

-- the order with one atom more
further : {n : ℕ} {a b c : Order} → (k : ℕ) → 1 ≤ k → n ≡ k → Grown (map pos (up_to (k - 1))) a b → Grown (pos k ∷ []) b c → Grown (map pos (up_to n)) a c
further {n} {c = c} k some e f g =
    record {
      order = λ so before is. subst (λ (x : List Lit). Ordered x before c) (with_atom so k n some e) (g.order _ before (f.order so before is));
      lent = g.lent ∙ f.lent;
      long = g.long ∙ f.long;
    }

pub loop-atom-preserved : goal.loop-atom-preserved
loop-atom-preserved c =
    let l = c.loop-atom in
    record {
      near = omega arith;
      room = omega arith;
      grown = further l.atom (omega arith) (omega arith) l.invariant.grown c.take.ensures.grown;
    }

pub returns-2 : goal.returns-2
returns-2 c =
    let l = c.loop-atom in
    further l.atom (omega arith) (omega arith) l.invariant.grown c.take.ensures.grown
