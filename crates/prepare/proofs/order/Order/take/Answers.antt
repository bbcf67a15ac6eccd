-- `prepare::order::Order::take`: the set tells whether the order names the literal's atom. Assumes nothing.
use Rattle.std.proofs.Common.{refl, sym, ap, ◌∙◌, length-set}
use Rattle.prepare.proofs.OrderLaws.{keeps, puts}
use Rattle.sheet.proofs.LiteralBytes.{placed_lit}
use Rattle.prepare.proofs.order.Order.take.Goals as goal
use Rattle.sheet.specs.Enums.{lit}
use Rattle.words.specs.Positions.{has, adding}

pub returns-then-has-clause-grown : goal.returns-then-has-clause-grown
returns-then-has-clause-grown c =
    let l = c.args.l in
    record {
      order = λ so before is. keeps (lit l) is (placed_lit l).0 (ap (has c.args.self.now.atoms) (sym c.place.ensures) ∙ sym c.has.ensures ∙ c.if-has.true);
      lent = refl;
      long = refl;
    }

pub returns-clause-grown : goal.returns-clause-grown
returns-clause-grown c =
    let l = c.args.l in
    record {
      order = λ so before is.
          puts (lit l) is (placed_lit l).0 (ap (has c.args.self.now.atoms) (sym c.place.ensures) ∙ sym c.has.ensures ∙ c.if-has.false) c.requires
          refl (c.adding-self.ensures ∙ ap (adding c.args.self.now.atoms) c.place-2.ensures) c.byte.ensures refl;
      lent = refl;
      long = length-set c.args.self.now.bytes.now c.args.self.now.count _;
    }
