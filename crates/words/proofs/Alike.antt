-- The contract of each public function determines its result. Assumes nothing.
use Rattle.std.proofs.Common.{refl, sym, ◌∙◌}
use Rattle.words.proofs.Steady.{Determines}
use Rattle.words.proofs.has.Kinds as has_kinds
use Rattle.words.proofs.has.Reads as has
use Rattle.words.proofs.adding.Kinds as adding_kinds
use Rattle.words.proofs.adding.Reads as adding
use Rattle.words.proofs.within.Kinds as within_kinds
use Rattle.words.proofs.within.Reads as within
use Rattle.words.proofs.strictly_within.Kinds as strictly_kinds
use Rattle.words.proofs.strictly_within.Reads as strictly

pub has_alike : Determines has_kinds.ps has_kinds.r has.Pre has.Post (λ κs x. x)
has_alike κs a good pre x y v w p q = (p ∙ sym q, refl)

pub adding_alike : Determines adding_kinds.ps adding_kinds.r adding.Pre adding.Post (λ κs x. x)
adding_alike κs a good pre x y v w p q = (p ∙ sym q, refl)

pub within_alike : Determines within_kinds.ps within_kinds.r within.Pre within.Post (λ κs x. x)
within_alike κs a good pre x y v w p q = (p ∙ sym q, refl)

pub strictly_alike : Determines strictly_kinds.ps strictly_kinds.r strictly.Pre strictly.Post (λ κs x. x)
strictly_alike κs a good pre x y v w p q = (p ∙ sym q, refl)
