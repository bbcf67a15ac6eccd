-- The contract of each public function determines its result and what it fills. Assumes nothing.
use Rattle.std.proofs.Common.{ℕ, List, refl, sym, ◌∙◌}
use Rattle.prepare.proofs.Standing.{fitting, standing}
use Rattle.prepare.proofs.clauses.Literals.with.Kinds as with_kinds
use Rattle.prepare.proofs.clauses.Literals.with.Reads as with
use Rattle.prepare.proofs.clauses.clauses_into.Kinds as clauses_kinds
use Rattle.prepare.proofs.clauses.clauses_into.Reads as clauses
use Rattle.prepare.proofs.order.branch_order.Kinds as branch_kinds
use Rattle.prepare.proofs.order.branch_order.Reads as branch
use Rattle.prepare.proofs.prepare.Kinds as prepare_kinds
use Rattle.prepare.proofs.prepare.Reads as prepare
use Rattle.prepare.proofs.ready.Ready.network.Kinds as network_kinds
use Rattle.prepare.proofs.ready.Ready.network.Reads as network
use Rattle.prepare.proofs.ready.Ready.objectives.Kinds as objectives_kinds
use Rattle.prepare.proofs.ready.Ready.objectives.Reads as objectives
use Rattle.prepare.proofs.space.Space.new.Kinds as new_kinds
use Rattle.prepare.proofs.space.Space.new.Reads as new_space
use Rattle.prepare.proofs.space.Space.ready.Kinds as ready_kinds
use Rattle.prepare.proofs.space.Space.ready.Reads as ready
use Rattle.prepare.specs.declared.clauses.Literals.{Literals}
use Rattle.sheet.proofs.Answered.{numbered_once}
use Rattle.words.proofs.Steady.{Determines}

pub clauses_into_alike : Determines clauses_kinds.ps clauses_kinds.r clauses.Pre clauses.Post (λ κs x. x)
clauses_into_alike κs a good pre x y v w p q = (refl, λ i. (tt, ((p ∙ sym q) i, tt)))

pub branch_order_alike : Determines branch_kinds.ps branch_kinds.r branch.Pre branch.Post (λ κs x. x)
branch_order_alike κs a good pre x y v w p q = (refl, λ i. (tt, ((p ∙ sym q) i, tt)))

pub prepare_alike : Determines prepare_kinds.ps prepare_kinds.r prepare.Pre prepare.Post (λ κs x. x)
prepare_alike κs a good pre x y v w p q = (numbered_once x y (p.0 ∙ sym q.0), λ i. (tt, (record { clauses = (p.1.0 ∙ sym q.1.0) i; order = (p.1.1 ∙ sym q.1.1) i }, tt)))

-- the set that is given stands for some literals
pub with_alike : Determines with_kinds.ps with_kinds.r with.Pre with.Post (λ κs x. x)
with_alike κs a good pre x y v w p q = let u = standing a.0 (fitting a.0 good.0) in (p u.0 u.2 ∙ sym (q u.0 u.2), refl)

-- ---- of what a walk reads, the bytes and the clauses

pub objectives_alike : Determines objectives_kinds.ps objectives_kinds.r objectives.Pre objectives.Post (λ κs x. x.bytes.now)
objectives_alike κs a good pre x y v w p q = (p ∙ sym q, refl)

pub network_alike : Determines network_kinds.ps network_kinds.r network.Pre network.Post {A = List ℕ × (List ℕ × List Literals)} (λ κs x. (x.order.bytes.now, (x.objectives.bytes.now, x.clauses.now)))
network_alike κs a good pre x y v w p q =
    (λ i. ((p.0 ∙ sym q.0) i, ((p.1.0 ∙ sym q.1.0) i, (p.1.1 ∙ sym q.1.1) i)), refl)

-- ---- the room of the tables

pub new_alike : Determines new_kinds.ps new_kinds.r new_space.Pre new_space.Post (λ κs x. x)
new_alike κs a good pre x y v w p q = (λ i. record { clauses = (p.0 ∙ sym q.0) i; order = (p.1 ∙ sym q.1) i }, refl)

pub ready_alike : Determines ready_kinds.ps ready_kinds.r ready.Pre ready.Post {A = List ℕ × (List ℕ × List Literals)} (λ κs x. (x.sheet.bytes.now, (x.order.now, x.clauses.now)))
ready_alike κs a good pre x y v w p q =
    (λ i. ((p.0 ∙ sym q.0) i, ((p.1.0 ∙ sym q.1.0) i, (p.1.1 ∙ sym q.1.1) i)), refl)
