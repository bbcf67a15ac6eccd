-- `query::write_values`: one byte more is one value more; at the end no byte is left as it was. Assumes nothing.
use Rattle.std.proofs.Common.{ℕ, List, sym, ap, ◌∙◌, set, arith}
use Rattle.query.proofs.Leaving.{no_values, next_value, all_values}
use Rattle.query.proofs.write_values.Goals as goal
use Rattle.words.specs.Lists.{over}

pub loop-i-init : goal.loop-i-init
loop-i-init c = ap (λ (l : List ℕ). over l c.args.witness.now) (sym (no_values c.args.model))

pub loop-i-preserved : goal.loop-i-preserved
loop-i-preserved c =
    let l = c.loop-i in
    ap (λ (xs : List ℕ). set xs l.i c.from.result) l.invariant ∙ next_value c.args.model c.args.witness.now l.i c.from.ensures c.has.ensures c.loop-i-test.true

pub returns : goal.returns
returns c = c.loop-i.invariant ∙ all_values c.args.model c.args.witness.now c.loop-i.i (omega arith)
