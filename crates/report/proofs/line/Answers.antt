-- `report::line`: the reply to the complement of the objective, and its line. Assumes nothing.
use Rattle.std.proofs.Common.{ℕ, ◌≡◌, List, [], ◌∷◌, length, sym, ap, subst, ◌∙◌, arith}
use mathlib.Core.List.{Memᴰ as Mem}
use Rattle.query.specs.Numbers.{numbers_of}
use Rattle.query.specs.Query.{Numbers}
use Rattle.report.proofs.Meaning.{one_of_four}
use Rattle.report.proofs.Texts.{reply_asked, not_refused, listed_there, a_line}
use Rattle.report.proofs.line.Goals as goal
use Rattle.report.proofs.line.Goals.{After-ask}
use Rattle.report.specs.Lines.{line, asked}
use Rattle.sheet.proofs.Understood.{passed, objective_bytes_counted}
use Rattle.sheet.specs.Enums.{lit}
use Rattle.sheet.specs.Layout.{byte, objective_bytes}
use Rattle.sheet.specs.Literals.{complement, literal, byte_of}
use Rattle.text.proofs.Written.{same_text, as_put}

pub at-objective-requires : goal.at-objective-requires
at-objective-requires c = omega (arith, listed_there _ c.args.ready.tables.accepted c.args.i c.requires, ap length c.objectives.ensures)

-- the literal of the line, and what the code's reply says as numbers
objective : (c : After-ask) → lit c.at-objective.result ≡ literal (byte (objective_bytes c.args.ready.sheet.bytes.now) c.args.i)
objective c = c.at-objective.ensures ∙ ap (λ (bs : List ℕ). literal (byte bs c.args.i)) c.objectives.ensures

replied : (c : After-ask) → numbers_of c.ask.result ≡ asked c.args.ready.sheet.bytes.now (literal (byte (objective_bytes c.args.ready.sheet.bytes.now) c.args.i))
replied c =
    reply_asked _ _ c.ask.result (c.byte-question.ensures ∙ ap byte_of (c.complement.ensures ∙ ap complement (objective c))) c.ask.ensures.defined

pub unwrap-reply-requires : goal.unwrap-reply-requires
unwrap-reply-requires c =
    let ok = c.args.ready.tables.accepted in
    let codes = one_of_four _ ok c.args.i (listed_there _ ok c.args.i c.requires) in
    let told = replied (goal.at.unwrap-reply-requires c).After-ask in
    not_refused c.ask.result (subst (λ (r : Numbers). Mem r.code (1 ∷ 2 ∷ 18 ∷ 19 ∷ [])) (sym told) codes)

pub put_line-requires : goal.put_line-requires
put_line-requires c =
    let ok = c.args.ready.tables.accepted in
    let whole = (passed _ ok).sized in
    (omega (arith, listed_there _ ok c.args.i c.requires, objective_bytes_counted _ whole, whole.counted.objectives), omega arith)

pub returns-clause-text : goal.returns-clause-text
returns-clause-text c =
    let asking = (goal.at.returns-clause-text c).After-ask in
    let told = sym (ap numbers_of c.unwrap-reply.ensures) ∙ replied asking in
    as_put (same_text ((λ j. line c.args.i (objective asking j) (told j)) ∙ a_line _ c.args.i c.requires) c.put_line.ensures.adds)
