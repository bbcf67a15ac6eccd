-- `report::put_literal`: the sign and the atom of the code's literal are those of the document's. Assumes nothing.
use Rattle.std.proofs.Common.{not, sym, ◌∙◌, arith}
use Rattle.report.proofs.put_literal.Goals as goal
use Rattle.report.specs.Lines.{field}
use Rattle.sheet.proofs.LiteralBytes.{lit_plain, lit_atom}
use Rattle.text.proofs.Written.{added_behind, same_text}
use Rattle.text.specs.Text.{signed_decimal}

pub returns-clause-adds : goal.returns-clause-adds
returns-clause-adds c =
    let sign = sym (lit_plain c.args.l) in
    let distance = c.from.ensures ∙ sym (lit_atom c.args.l) in
    same_text (λ i. field (signed_decimal (not (sign i)) (distance i))) (added_behind (omega (arith, c.requires)) c.put.ensures c.put_signed.ensures)
