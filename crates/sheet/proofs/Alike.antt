-- The contract of each public function determines its result. Assumes nothing.
use Rattle.std.proofs.Common.{refl, sym, ◌∙◌}
use Rattle.sheet.proofs.U8FromRefusal.from.Kinds as from_kinds
use Rattle.sheet.proofs.U8FromRefusal.from.Reads as from
use Rattle.sheet.proofs.bytes.Laid.atoms.Kinds as atoms_kinds
use Rattle.sheet.proofs.bytes.Laid.atoms.Reads as atoms
use Rattle.sheet.proofs.bytes.Laid.clause_end.Kinds as clause_end_kinds
use Rattle.sheet.proofs.bytes.Laid.clause_end.Reads as clause_end
use Rattle.sheet.proofs.bytes.Laid.clauses.Kinds as clauses_kinds
use Rattle.sheet.proofs.bytes.Laid.clauses.Reads as clauses
use Rattle.sheet.proofs.bytes.Laid.literals.Kinds as literals_kinds
use Rattle.sheet.proofs.bytes.Laid.literals.Reads as literals
use Rattle.sheet.proofs.bytes.Laid.objectives.Kinds as objectives_kinds
use Rattle.sheet.proofs.bytes.Laid.objectives.Reads as objectives
use Rattle.sheet.proofs.Answered.{numbered_once}
use Rattle.sheet.proofs.LiteralBytes.{lit_once, option_once}
use Rattle.sheet.proofs.bytes.word_at.Kinds as word_at_kinds
use Rattle.sheet.proofs.bytes.word_at.Reads as word_at
use Rattle.sheet.proofs.check.Kinds as check_kinds
use Rattle.sheet.proofs.check.Reads as check
use Rattle.sheet.proofs.literal.Literal.byte.Kinds as byte_kinds
use Rattle.sheet.proofs.literal.Literal.byte.Reads as byte
use Rattle.sheet.proofs.literal.Literal.complement.Kinds as complement_kinds
use Rattle.sheet.proofs.literal.Literal.complement.Reads as complement
use Rattle.sheet.proofs.literal.Literal.of.Kinds as of_kinds
use Rattle.sheet.proofs.literal.Literal.of.Reads as of
use Rattle.sheet.proofs.literal.Literal.place.Kinds as place_kinds
use Rattle.sheet.proofs.literal.Literal.place.Reads as place
use Rattle.sheet.proofs.literal.Literal.read.Kinds as read_kinds
use Rattle.sheet.proofs.literal.Literal.read.Reads as read
use Rattle.sheet.proofs.literal.LiteralBytes.at.Kinds as at_kinds
use Rattle.sheet.proofs.literal.LiteralBytes.at.Reads as at
use Rattle.sheet.proofs.literal.is_literal.Kinds as is_literal_kinds
use Rattle.sheet.proofs.literal.is_literal.Reads as is_literal
use Rattle.words.proofs.Steady.{Determines}

pub check_alike : Determines check_kinds.ps check_kinds.r check.Pre check.Post (λ κs x. x)
check_alike κs a good pre x y v w p q = (numbered_once x y (p ∙ sym q), refl)

pub from_alike : Determines from_kinds.ps from_kinds.r from.Pre from.Post (λ κs x. x)
from_alike κs a good pre x y v w p q = (p ∙ sym q, refl)

-- ---- places

pub word_at_alike : Determines word_at_kinds.ps word_at_kinds.r word_at.Pre word_at.Post (λ κs x. x)
word_at_alike κs a good pre x y v w p q = (p ∙ sym q, refl)

pub atoms_alike : Determines atoms_kinds.ps atoms_kinds.r atoms.Pre atoms.Post (λ κs x. x)
atoms_alike κs a good pre x y v w p q = (p ∙ sym q, refl)

pub clauses_alike : Determines clauses_kinds.ps clauses_kinds.r clauses.Pre clauses.Post (λ κs x. x)
clauses_alike κs a good pre x y v w p q = (p ∙ sym q, refl)

pub clause_end_alike : Determines clause_end_kinds.ps clause_end_kinds.r clause_end.Pre clause_end.Post (λ κs x. x)
clause_end_alike κs a good pre x y v w p q = (p ∙ sym q, refl)

-- of a slice its bytes
pub literals_alike : Determines literals_kinds.ps literals_kinds.r literals.Pre literals.Post (λ κs x. x.now)
literals_alike κs a good pre x y v w p q = (p ∙ sym q, refl)

pub objectives_alike : Determines objectives_kinds.ps objectives_kinds.r objectives.Pre objectives.Post (λ κs x. x.now)
objectives_alike κs a good pre x y v w p q = (p ∙ sym q, refl)

-- ---- literals

pub read_alike : Determines read_kinds.ps read_kinds.r read.Pre read.Post (λ κs x. x)
read_alike κs a good pre x y v w p q = (option_once x y (p ∙ sym q), refl)

pub complement_alike : Determines complement_kinds.ps complement_kinds.r complement.Pre complement.Post (λ κs x. x)
complement_alike κs a good pre x y v w p q = (lit_once (p ∙ sym q), refl)

pub place_alike : Determines place_kinds.ps place_kinds.r place.Pre place.Post (λ κs x. x)
place_alike κs a good pre x y v w p q = (p ∙ sym q, refl)

pub byte_alike : Determines byte_kinds.ps byte_kinds.r byte.Pre byte.Post (λ κs x. x)
byte_alike κs a good pre x y v w p q = (p ∙ sym q, refl)

pub is_literal_alike : Determines is_literal_kinds.ps is_literal_kinds.r is_literal.Pre is_literal.Post (λ κs x. x)
is_literal_alike κs a good pre x y v w p q = (p ∙ sym q, refl)

pub of_alike : Determines of_kinds.ps of_kinds.r of.Pre of.Post (λ κs x. x)
of_alike κs a good pre x y v w p q = (lit_once (p ∙ sym q), refl)

pub at_alike : Determines at_kinds.ps at_kinds.r at.Pre at.Post (λ κs x. x)
at_alike κs a good pre x y v w p q = (lit_once (p ∙ sym q), refl)
