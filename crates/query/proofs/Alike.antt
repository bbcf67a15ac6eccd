-- The contracts of a query determine its answer, the store and the witness buffer, and those of the conversions what they give. Assumes nothing.
use Rattle.std.proofs.Common.{refl, sym, ◌∙◌}
use Rattle.query.proofs.Numbers.{same_answer, same_verdict}
use Rattle.query.proofs.ask.Kinds as ask_kinds
use Rattle.query.proofs.ask.Reads as ask
use Rattle.query.proofs.query.Kinds as query_kinds
use Rattle.query.proofs.query.Reads as query
use Rattle.query.proofs.reply.RefusalFromSheetRefusal.from.Kinds as widened_kinds
use Rattle.query.proofs.reply.RefusalFromSheetRefusal.from.Reads as widened
use Rattle.query.proofs.reply.U8FromRefusal.from.Kinds as refusal_kinds
use Rattle.query.proofs.reply.U8FromRefusal.from.Reads as refusal
use Rattle.query.proofs.reply.U8FromVerdict.from.Kinds as told_kinds
use Rattle.query.proofs.reply.U8FromVerdict.from.Reads as told
use Rattle.query.proofs.reply.VerdictFromOptionEnding.from.Kinds as verdict_kinds
use Rattle.query.proofs.reply.VerdictFromOptionEnding.from.Reads as verdict
use Rattle.words.proofs.Steady.{Determines}

pub query_alike : Determines query_kinds.ps query_kinds.r query.Pre query.Post (λ κs x. x)
query_alike κs a good pre x y v w p q =
    let e = p.0 ∙ sym q.0 in
    (same_answer x y (λ i. (e i).reply), λ i. (tt, (tt, (tt, ((e i).store, ((e i).witness, tt))))))

pub ask_alike : Determines ask_kinds.ps ask_kinds.r ask.Pre ask.Post (λ κs x. x)
ask_alike κs a good pre x y v w p q =
    let e = p.0 ∙ sym q.0 in
    (same_answer x y (λ i. (e i).reply), λ i. (tt, (tt, (tt, ((e i).store, ((e i).witness, tt))))))

-- ---- the conversions

pub widened_alike : Determines widened_kinds.ps widened_kinds.r widened.Pre widened.Post (λ κs x. x)
widened_alike κs a good pre x y v w p q = (p ∙ sym q, refl)

pub refusal_alike : Determines refusal_kinds.ps refusal_kinds.r refusal.Pre refusal.Post (λ κs x. x)
refusal_alike κs a good pre x y v w p q = (p ∙ sym q, refl)

pub verdict_alike : Determines verdict_kinds.ps verdict_kinds.r verdict.Pre verdict.Post (λ κs x. x)
verdict_alike κs a good pre x y v w p q = (same_verdict x y (p ∙ sym q), refl)

pub told_alike : Determines told_kinds.ps told_kinds.r told.Pre told.Post (λ κs x. x)
told_alike κs a good pre x y v w p q = (p ∙ sym q, refl)
