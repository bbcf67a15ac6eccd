-- `prepare::order::Order::take_all`: one byte more is one literal more. Assumes nothing.
use Rattle.std.proofs.Common.{List, ◌∙◌, subst, arith, sym, ap}
use Rattle.prepare.proofs.OrderLaws.{taking_next}
use Rattle.prepare.proofs.order.Order.take_all.Goals as goal
use Rattle.prepare.specs.Carried.{Ordered}
use Rattle.sheet.proofs.LiteralBytes.{entry_is_literal}
use Rattle.sheet.specs.Literals.{Lit}
use Rattle.sheet.specs.Order.{taking}

pub of-requires : goal.of-requires
of-requires c = entry_is_literal _ c.loop-b.b-index c.args.literals.literals c.loop-b-test.true

pub loop-b-preserved : goal.loop-b-preserved
loop-b-preserved c =
    let l = c.loop-b in
    let r = c.take.ensures in
    let g = l.invariant.grown in
    record {
      room = omega arith;
      grown = record {
        order = λ so before is. subst (λ (x : List Lit). Ordered x before c.take.new.self)
            (ap (taking _) c.of.ensures ∙ sym (taking_next so c.args.literals.bytes.now l.b-index c.loop-b-test.true))
            (r.grown.order _ before (g.order so before is));
        lent = r.grown.lent ∙ g.lent;
        long = r.grown.long ∙ g.long;
      };
    }
