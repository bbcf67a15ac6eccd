-- `prepare::order::Order::take_all`: after the bytes before an index the order goes on with their literals.
use Rattle.std.proofs.Common.{◌≤◌, ◌+◌, map, take}
use Rattle.prepare.proofs.order.Order.take_all.Given as goal
use Rattle.prepare.specs.Carried.{Grown}
use Rattle.sheet.specs.Literals.{literal}

abbrev pub invariant-loop-b : goal.invariant-loop-b
invariant-loop-b l =
    record {
      room : l.self.count ≤ l.fn.self.count + l.b-index;
      grown : Grown (map literal (take l.b-index l.literals.bytes.now)) l.fn.self l.self;
    }
