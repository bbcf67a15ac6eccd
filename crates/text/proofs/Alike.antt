-- The contract of each public function determines where its text ends, and the buffer afterwards. Assumes nothing.
use Rattle.std.proofs.Common.{List, ℕ, ◌≡◌, refl, sym, ◌∙◌}
use Rattle.text.specs.Text.{Adds}
use Rattle.text.specs.declared.Text.{Text}
use Rattle.text.proofs.Text.put.Kinds as put_kinds
use Rattle.text.proofs.Text.put.Reads as put
use Rattle.text.proofs.Text.put_decimal.Kinds as decimal_kinds
use Rattle.text.proofs.Text.put_decimal.Reads as decimal
use Rattle.text.proofs.Text.put_signed.Kinds as signed_kinds
use Rattle.text.proofs.Text.put_signed.Reads as signed
use Rattle.words.proofs.Steady.{Determines}

same_end : {t : List ℕ} {a b c : Text} → Adds t a b → Adds t a c → b ≡ c
same_end p q = λ i. record { bytes = (p.filled ∙ sym q.filled) i; end = (p.ends ∙ sym q.ends) i }

pub put_alike : Determines put_kinds.ps put_kinds.r put.Pre put.Post (λ κs x. x)
put_alike κs a good pre x y v w p q = (refl, λ i. (same_end p q i, (tt, tt)))

pub put_decimal_alike : Determines decimal_kinds.ps decimal_kinds.r decimal.Pre decimal.Post (λ κs x. x)
put_decimal_alike κs a good pre x y v w p q = (refl, λ i. (same_end p q i, (tt, tt)))

pub put_signed_alike : Determines signed_kinds.ps signed_kinds.r signed.Pre signed.Post (λ κs x. x)
put_signed_alike κs a good pre x y v w p q = (refl, λ i. (same_end p q i, (tt, (tt, tt))))
