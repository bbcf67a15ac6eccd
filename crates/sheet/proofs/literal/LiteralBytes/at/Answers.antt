-- `sheet::literal::LiteralBytes::at`: an entry of literal bytes is one. Assumes nothing.
use Rattle.sheet.proofs.LiteralBytes.{entry_is_literal}
use Rattle.sheet.proofs.literal.LiteralBytes.at.Goals as goal

pub of-requires : goal.of-requires
of-requires c = entry_is_literal c.args.self.bytes.now c.args.i c.args.self.literals c.requires
