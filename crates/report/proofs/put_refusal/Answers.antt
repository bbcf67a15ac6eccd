-- `report::put_refusal`: the three pieces of the line, one behind the other. Assumes nothing.
use Rattle.std.proofs.Common.{ℕ, ◌++◌, ap, ◌∙◌, arith}
use Rattle.report.proofs.put_refusal.Goals as goal
use Rattle.report.specs.Lines.{field, newline}
use Rattle.text.proofs.Written.{added_behind, same_text}
use Rattle.text.specs.Text.{letters, decimal}

pub returns-clause-adds : goal.returns-clause-adds
returns-clause-adds c =
    let number = c.from-2.ensures ∙ c.from.ensures in
    same_text (ap (λ (n : ℕ). letters "refused" ++ field (decimal n) ++ newline) number)
    (added_behind (omega arith) (added_behind (omega arith) c.put.ensures c.put_number.ensures.adds) c.put-2.ensures)
