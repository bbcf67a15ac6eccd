-- `text::Text::put`: the part of the buffer that was copied over is the text. Assumes nothing.
use Rattle.text.proofs.Written.{copied}
use Rattle.text.proofs.Text.put.Goals as goal

pub returns : goal.returns
returns c = copied c.args.text.now c.args.self.now c.copy_from_slice.new.self c.requires c.copy_from_slice.ensures.after
