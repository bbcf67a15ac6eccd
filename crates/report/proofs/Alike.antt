-- The contracts of the lines determine them, how long they are, and every lent array. Assumes nothing.
use Rattle.std.proofs.Common.{sym, ◌∙◌}
use Rattle.report.proofs.heading.Kinds as heading_kinds
use Rattle.report.proofs.heading.Reads as heading
use Rattle.report.proofs.line.Kinds as line_kinds
use Rattle.report.proofs.line.Reads as line
use Rattle.sheet.proofs.Answered.{numbered_once}
use Rattle.words.proofs.Steady.{Determines}

pub heading_alike : Determines heading_kinds.ps heading_kinds.r heading.Pre heading.Post (λ κs x. x)
heading_alike κs a good pre x y v w p q =
    let end = p.0.ends ∙ sym q.0.ends in
    let checked = numbered_once x.checked y.checked (p.1.0 ∙ sym q.1.0) in
    let clauses = p.1.1.0 ∙ sym q.1.1.0 in
    let order = p.1.1.1.0 ∙ sym q.1.1.1.0 in
    let text = p.0.filled ∙ sym q.0.filled in
    (λ i. record { length = end i; checked = checked i }, λ i. (tt, (record { clauses = clauses i; order = order i }, (text i, tt))))

pub line_alike : Determines line_kinds.ps line_kinds.r line.Pre line.Post (λ κs x. x)
line_alike κs a good pre x y v w p q = (p.0.ends ∙ sym q.0.ends, λ i. (tt, (tt, ((p.0.filled ∙ sym q.0.filled) i, tt))))
