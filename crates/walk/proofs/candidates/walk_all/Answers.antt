-- The walk below the root is the search. Assumes nothing.
use Rattle.std.proofs.Common.{List, [], ◌∷◌, length, ap, ◌∙◌}
use mathlib.Core.List.Memᴰ.{not-nil}
use Rattle.prepare.proofs.SetLaws.{no_literals}
use Rattle.prepare.specs.Carried.{sets_of}
use Rattle.search.specs.Grown.{game}
use Rattle.search.specs.Search.{start, search as searched}
use Rattle.sheet.specs.Enums.{lit}
use Rattle.sheet.specs.Literals.{Lit}
use Rattle.walk.proofs.Judging.{question_placed}
use Rattle.walk.proofs.candidates.walk_all.Goals as goal
use Rattle.walk.specs.Carried.{candidates_below}

pub returns-clause-tells_searched : goal.returns-clause-tells_searched
unfolding searched game
returns-clause-tells_searched c x is =
    let a = c.args in
    let q = lit a.question in
    let root = no_literals c.default-root.ensures.0 c.default-root.ensures.1 in
    c.roam.ensures.tells_roamed x [] is
    (record {
      clauses = is.clauses;
      banned = c.with.ensures [] root ∙ ap (λ (l : Lit). sets_of (l ∷ [])) c.complement.ensures;
      conditions = question_placed a.question;
      made = root;
      decided = λ l h. absurd (not-nil h);
    })
    ∙ ap (λ (ls : List Lit). candidates_below x q a.allowance (length a.store.now) ls [] start) is.order
