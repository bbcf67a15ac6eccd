-- `words::adding`: the shifted one is the power of two, and the union with it is the set and its position. Assumes nothing.
use Rattle.std.proofs.Common.{ap, ◌∙◌, bit_or}
use Rattle.words.proofs.Bits.{one_shifted, or_power}
use Rattle.words.proofs.adding.Goals as goal

pub returns : goal.returns
returns c = ap (bit_or c.args.w) (one_shifted c.args.i c.requires) ∙ or_power c.args.w c.args.i
