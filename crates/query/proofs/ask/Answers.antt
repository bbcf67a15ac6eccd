-- `query::ask`: each return is the result by the row of the table that applies first; the demands follow from it. Assumes nothing.
use Rattle.std.proofs.Common.{ℕ, Bool, true, not, List, Err, ◌≡◌, length, refl, sym, ap, ◌∙◌, arith, lt-ltb, le-ltb, Option, Some, None, option_map, ok_or}
use Rattle.std.proofs.lemmas.Result.{err_from_is_err_and}
use Rattle.prepare.proofs.Preparing.{prepared}
use Rattle.query.proofs.Checking.{accepted_checked}
use Rattle.query.proofs.Leaving.{finish_leaves}
use Rattle.query.proofs.Promises.{as_checked}
use Rattle.query.proofs.ask.Goals as goal
use Rattle.query.proofs.ask.Goals.{After-atoms-n, In_ok-asked}
use Rattle.query.specs.Numbers.{numbers_of}
use Rattle.query.specs.Query.{outcome, after_walk}
use Rattle.search.specs.Grown.{posed}
use Rattle.search.specs.Search.{search as searched}
use Rattle.sheet.proofs.LiteralBytes.{found_literal, none_found}
use Rattle.sheet.proofs.Understood.{atoms_are}
use Rattle.sheet.specs.Enums.{lit}
use Rattle.sheet.specs.Layout.{atom_count}
use Rattle.sheet.specs.Literals.{Lit, literal, is_literal}
use Rattle.sheet.specs.Reading.{no_literal, sheet_of, refused, understood}

-- check 16 is the test of the code
none_asked : (s : List ℕ) (q : ℕ) {n : ℕ} {b : Bool} → n ≡ atom_count s → is_literal n q ≡ b → no_literal (atom_count s) q ≡ not b
none_asked s q e f = ap (λ (n : ℕ). not (is_literal n q)) (sym e) ∙ ap not f

-- the error of an option that has none
as_refused : {A E : Type 0} {x e : E} (o : Option A) → Err x ≡ ok_or o e → x ≡ e
as_refused None h = cc
as_refused (Some a) h = cc

-- the byte that is asked about stands for the literal that the code has read
its_literal : (c : In_ok-asked) → (is_literal c.atoms-n.result c.args.question ≡ true) × (literal c.args.question ≡ lit c.in_ok-asked.asked)
its_literal c = found_literal c.atoms-n.result c.args.question (sym (ap (option_map lit) c.in_ok-asked.ensures.ok_part) ∙ c.read.ensures)

its_count : (c : After-atoms-n) → c.atoms-n.result ≡ atom_count c.args.ready.sheet.bytes.now
its_count c = c.atoms-n.ensures

pub returns-in_err-asked : goal.returns-in_err-asked
returns-in_err-asked c =
    let a = c.args in
    let s = a.ready.sheet.bytes.now in
    let n = its_count (goal.at.returns-in_err-asked c).After-atoms-n in
    let is = as_refused c.read.result c.in_err-asked.ensures.value in
    let p = err_from_is_err_and c.from_residual.result c.from_residual.ensures.1 in
    let none = none_found c.atoms-n.result a.question (sym (ap (option_map lit) c.in_err-asked.ensures.ok_part) ∙ c.read.ensures) in
    let k = as_checked s a.question a.allowance a.store.now a.witness.now (refused 16)
    (λ i. outcome (numbers_of ((p.1 ∙ ap Err (p.2 ∙ is)) i)) a.store.now a.witness.now)
    (accepted_checked s a.question (length a.witness.now) a.ready.tables.accepted (none_asked s a.question n none) refl) in
    record { defined = k.0; right = k.1.0; bounded = k.1.1 }

pub returns-then-witness-atoms : goal.returns-then-witness-atoms
returns-then-witness-atoms c =
    let a = c.args in
    let s = a.ready.sheet.bytes.now in
    let n = its_count (goal.at.returns-then-witness-atoms c).After-atoms-n in
    let found = its_literal (goal.at.returns-then-witness-atoms c).In_ok-asked in
    let short = lt-ltb (length a.witness.now) (atom_count s) (omega (arith, n)) in
    let k = as_checked s a.question a.allowance a.store.now a.witness.now (refused 17) refl
    (accepted_checked s a.question (length a.witness.now) a.ready.tables.accepted (none_asked s a.question n found.0) short) in
    record { defined = k.0; right = k.1.0; bounded = k.1.1 }

pub returns : goal.returns
returns c =
    let a = c.args in
    let s = a.ready.sheet.bytes.now in
    let t = a.ready.tables in
    let n = its_count (goal.at.returns c).After-atoms-n in
    let found = its_literal (goal.at.returns c).In_ok-asked in
    let room = le-ltb (length a.witness.now) (atom_count s) (omega (arith, n)) in
    let net = c.network.ensures in
    let w = c.walk_all-walked in
    let walked = w.ensures.tells_searched (sheet_of s) (prepared t net.order net.objectives net.clauses)
    ∙ ap (λ (l : Lit). searched (posed (sheet_of s) l) a.allowance (length a.store.now)) (sym found.1) in
    let leaves = finish_leaves w.result _ a.store.now w.new.store a.witness.now w.ensures.onward (omega arith) c.finish.ensures.reply c.finish.ensures.witness in
    let k = as_checked s a.question a.allowance a.store.now a.witness.now (understood (sheet_of s))
    (leaves ∙ (λ i. after_walk ((c.from-atoms.ensures ∙ n ∙ sym (atoms_are s)) i) (walked i) a.store.now a.witness.now))
    (accepted_checked s a.question (length a.witness.now) t.accepted (none_asked s a.question n found.0) room) in
    record { defined = k.0; right = k.1.0; bounded = k.1.1 }
