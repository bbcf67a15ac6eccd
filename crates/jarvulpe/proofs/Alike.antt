-- The contracts of the calls from other languages determine their answers and every lent word and byte. Assumes nothing.
use Rattle.std.proofs.Common.{sym, ◌∙◌}
use Rattle.jarvulpe.proofs.jarvulpe_check.Kinds as check_kinds
use Rattle.jarvulpe.proofs.jarvulpe_check.Reads as check
use Rattle.jarvulpe.proofs.jarvulpe_query.Kinds as query_kinds
use Rattle.jarvulpe.proofs.jarvulpe_query.Reads as query
use Rattle.words.proofs.Steady.{Determines}

pub check_alike : Determines check_kinds.ps check_kinds.r check.Pre check.Post (λ κs x. x)
check_alike κs a good pre x y v w p q = (p.0 ∙ sym q.0, λ i. (tt, ((p.1 ∙ sym q.1) i, tt)))

pub query_alike : Determines query_kinds.ps query_kinds.r query.Pre query.Post (λ κs x. x)
query_alike κs a good pre x y v w p q =
    let counts = p.1.0 ∙ sym q.1.0 in
    let store = p.1.1.0 ∙ sym q.1.1.0 in
    let witness = p.1.1.1.0 ∙ sym q.1.1.1.0 in
    (p.0 ∙ sym q.0, λ i. (tt, (tt, (tt, (store i, (witness i, (counts i, tt)))))))
