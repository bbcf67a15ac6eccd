-- `report::put_sizes`: the five pieces of the line, one behind the other. Assumes nothing.
use Rattle.std.proofs.Common.{ℕ, ◌++◌, ap, arith}
use Rattle.report.proofs.put_sizes.Goals as goal
use Rattle.report.specs.Lines.{field, newline}
use Rattle.text.proofs.Written.{added_behind, same_text}
use Rattle.text.specs.Text.{letters, decimal}

pub returns-clause-adds : goal.returns-clause-adds
returns-clause-adds c =
    let sizes = c.args.sizes in
    let atoms = added_behind (omega arith) c.put.ensures c.put_number.ensures.adds in
    let clauses = added_behind (omega arith) atoms c.put_number-2.ensures.adds in
    let objectives = added_behind (omega arith) clauses c.put_number-3.ensures.adds in
    same_text (ap (λ (n : ℕ). letters "sheet" ++ field (decimal n) ++ field (decimal sizes.clauses) ++ field (decimal sizes.objectives) ++ newline) c.from.ensures)
    (added_behind (omega arith) objectives c.put-2.ensures)
