-- `report::put_verdict`: a word or a number, by the verdict. Assumes nothing.
use Rattle.std.proofs.Common.{ℕ, ap, ◌∙◌}
use Rattle.report.proofs.Texts.{says_yes, says_no, says_number}
use Rattle.report.proofs.put_verdict.Goals as goal
use Rattle.report.specs.Lines.{field}
use Rattle.text.proofs.Written.{same_text}
use Rattle.text.specs.Text.{decimal}

pub returns-in-Yes-clause-adds : goal.returns-in-Yes-clause-adds
returns-in-Yes-clause-adds c = same_text (says_yes c.in-Yes.is) c.put.ensures

pub returns-in-No-clause-adds : goal.returns-in-No-clause-adds
returns-in-No-clause-adds c = same_text (says_no c.in-No.is) c.put-in-No.ensures

pub returns-in_default-clause-adds : goal.returns-in_default-clause-adds
returns-in_default-clause-adds c =
    let number = c.from-in_default.ensures ∙ c.from.ensures in
    same_text (ap (λ (n : ℕ). field (decimal n)) number ∙ says_number c.args.answer c.in_default.not-Yes c.in_default.not-No) c.put_number.ensures.adds
