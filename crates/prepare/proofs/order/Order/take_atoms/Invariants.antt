-- `prepare::order::Order::take_atoms`: before atom a the order goes on with the atoms 1 to a - 1.
use Rattle.std.proofs.Common.{◌≤◌, ◌+◌, ◌-◌, map}
use Rattle.prepare.proofs.order.Order.take_atoms.Given as goal
use Rattle.prepare.specs.Carried.{Grown}
use Rattle.sheet.specs.Layout.{atom_count}
use Rattle.sheet.specs.Literals.{pos}
use Rattle.sheet.specs.Order.{up_to}

abbrev pub invariant-loop-atom : goal.invariant-loop-atom
invariant-loop-atom l =
    record {
      near : l.atom ≤ atom_count l.sheet.bytes.now + 1;
      room : l.self.count + 1 ≤ l.fn.self.count + l.atom;
      grown : Grown (map pos (up_to (l.atom - 1))) l.fn.self l.self;
    }
