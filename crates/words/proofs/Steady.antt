-- When a contract leaves no choice: of any two outcomes that it allows of one call, the caller sees the same result, and all that was lent to be
-- written holds the same afterwards. It is said of the contract as it stands at the function, and not of the code: whatever code meets it gives
-- what any other would. Assumes nothing.
use Rattle.std.proofs.Common.{ℕ, List, ◌≡◌}
use contract.Lifetimes.{Lfts}
use denote.Triple.Clauses.{Lasts, at_exit}
use borrow.Fn.Kinds.{ParamKind, ResultKind, In, Out, Dens, GoodsP, ended_of, res_t}

-- An outcome of a call with the arguments a is a result and a last value for each parameter: the contents of what was lent to be written, and
-- nothing for the others. The arguments are of their types and as required. Of the result counts what `seen` takes from it: all of it, but of a
-- slice only the contents, as a contract says nothing of its address.
abbrev pub Determines : {n : ℕ} (ps : List (ParamKind n)) (r : ResultKind n) → In n ps → Out n ps r → {A : Type 0} → ((κs : Lfts n) → (res_t r κs).Denot → A) → Type 0
Determines {n} ps r pre post seen =
    (κs : Lfts n) (a : Dens κs ps) → GoodsP κs ps a → pre κs a
    → (x y : (res_t r κs).Denot) (v w : Lasts (ended_of n ps r) κs a) → post κs a x (at_exit (ended_of n ps r) κs a v) → post κs a y (at_exit (ended_of n ps r) κs a w)
    → (seen κs x ≡ seen κs y) × (v ≡ w)
