-- `text::Text::put_signed`: the minus, if there is one, and the number behind it. Assumes nothing.
use Rattle.std.proofs.Common.{length, sym, ap, arith, rules}
use Rattle.text.proofs.Decimals.{with_minus, without_minus}
use Rattle.text.proofs.Written.{added_behind, same_text}
use Rattle.text.proofs.Text.put_signed.Goals as goal
use Rattle.text.proofs.Text.put_signed.Goals.{then-minus, else-minus}

pub put-requires : goal.put-requires
put-requires c = omega (arith, c.requires, ap length (with_minus c.args.minus c.args.n (search rules)))

pub put_decimal-requires : goal.put_decimal-requires
put_decimal-requires c = elim c.if-minus.branch [
  | then-minus w ↦ rw w.self-is (omega (arith, c.requires, ap length (with_minus c.args.minus c.args.n (search rules)), w.put.ensures))
  | else-minus w ↦ rw w.self-is (omega (arith, c.requires, ap length (without_minus c.args.minus c.args.n (search rules))))
]

pub returns : goal.returns
returns c = elim c.if-minus.branch [
  | then-minus w ↦ same_text (sym (with_minus c.args.minus c.args.n (search rules))) (added_behind (omega (arith, c.requires)) w.put.ensures (rw w.self-is at c.put_decimal.ensures))
  | else-minus w ↦ same_text (sym (without_minus c.args.minus c.args.n (search rules))) (rw w.self-is at c.put_decimal.ensures)
]
