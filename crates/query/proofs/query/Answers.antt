-- `query::query`: a refused sheet's own number, or else what is asked of its tables. Assumes nothing.
use Rattle.std.proofs.Common.{Err, length, sym, ap, ◌∙◌, arith}
use Rattle.std.proofs.lemmas.Result.{err_from_is_err_and}
use Rattle.prepare.proofs.Preparing.{read_tables}
use Rattle.query.proofs.Checking.{refused_checked}
use Rattle.query.proofs.Promises.{as_checked}
use Rattle.query.proofs.query.Goals as goal
use Rattle.query.specs.Numbers.{numbers_of}
use Rattle.query.specs.Query.{outcome}
use Rattle.sheet.proofs.Answered.{answered_refused, answered_accepted, sizes_small}
use Rattle.sheet.specs.Reading.{refused}

pub ready-ready-requires-clause-room : goal.ready-ready-requires-clause-room
ready-ready-requires-clause-room c =
    let small = sizes_small (answered_accepted c.args.sheet.now c.in_ok-sizes.ensures.checked) in
    (omega (arith, small.1), omega (arith, small.0))

pub ready-ready-requires-clause-tables : goal.ready-ready-requires-clause-tables
ready-ready-requires-clause-tables c =
    read_tables _ _ (answered_accepted c.args.sheet.now c.in_ok-sizes.ensures.checked) c.in_ok-sizes.ensures.clauses c.in_ok-sizes.ensures.order

pub returns-in_err-sizes : goal.returns-in_err-sizes
returns-in_err-sizes c =
    let a = c.args in
    let p = err_from_is_err_and c.from_residual.result c.from_residual.ensures.1 in
    let k = as_checked a.sheet.now a.question a.allowance a.store.now a.witness.now (refused _)
    (λ i. outcome (numbers_of ((p.1 ∙ ap Err p.2) i)) a.store.now a.witness.now)
    (sym (refused_checked a.sheet.now a.question (length a.witness.now) (answered_refused a.sheet.now c.in_err-sizes.ensures.checked))) in
    record { defined = k.0; right = k.1.0; bounded = k.1.1 }
