-- `any` does not care for the order of a list. Assumes nothing.
use Rattle.std.proofs.Common.{◌∙◌, rules, tests}
use Rattle.std.proofs.lemmas.Iterator.Adapters.{YieldsList-from_rev_slice}
use Rattle.std.proofs.lemmas.Iterator.Search.{any_from_yields_List}
use Rattle.walk.proofs.Listed.{any_reversed}
use Rattle.walk.proofs.candidates.passed_over.Goals as goal
use Rattle.words.specs.Positions.{strictly_within}

pub returns : goal.returns
returns c =
    any_from_yields_List (strictly_within c.args.part) _ _ _ c.any.ensures.ran (YieldsList-from_rev_slice c.args.stored.now cc)
    (λ x b q k. (search (rules, tests), search (rules, tests)))
    ∙ any_reversed (strictly_within c.args.part) c.args.stored.now
