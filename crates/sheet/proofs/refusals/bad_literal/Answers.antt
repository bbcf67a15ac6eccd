-- `sheet::refusals::bad_literal`: the chain tests each byte. Assumes nothing.
use Rattle.std.proofs.Common.{rules, ap₂, ◌∙◌}
use Rattle.sheet.proofs.refusals.bad_literal.Goals as goal
use Rattle.sheet.specs.Reading.{no_literal, bad_literal}
use Rattle.words.proofs.Members.{any_found}
use Rattle.words.specs.Lists.{any}

pub returns : goal.returns
unfolding bad_literal
returns c =
    any_found 0 (no_literal c.atoms-n.result) c.literals-bytes.result.now (search rules)
    ∙ ap₂ (λ n bytes. any (no_literal n) bytes) c.atoms-n.ensures c.literals-bytes.ensures
