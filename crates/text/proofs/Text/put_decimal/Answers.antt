-- `text::Text::put_decimal`: what the library prints are the digits. Assumes nothing.
use Rattle.std.proofs.Common.{◌≡◌, sym, ap, length, ◌∙◌, arith}
use Rattle.text.proofs.Decimals.{decimal_is}
use Rattle.text.proofs.Written.{same_text}
use Rattle.text.proofs.Text.put_decimal.Goals as goal
use Rattle.text.proofs.Text.put_decimal.Goals.{After-as_bytes}
use Rattle.text.specs.Text.{decimal}

-- what is put are the number's digits
digits : (c : After-as_bytes) → c.as_bytes.result.now ≡ decimal c.args.n
digits c = c.as_bytes.ensures.value ∙ c.format.ensures.text ∙ sym (decimal_is c.args.n (omega (arith, c.ranges.n.fits)))

pub put-requires : goal.put-requires
put-requires c = omega (arith, c.requires, ap length (digits (goal.at.put-requires c).After-as_bytes))

pub returns : goal.returns
returns c = same_text (digits (goal.at.returns c).After-as_bytes) c.put.ensures
