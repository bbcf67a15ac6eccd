-- What holds of a walk follows from what holds of its visits and of what it does at full nodes. Assumes nothing.
use mathlib.Core.List.{List, [], ◌∷◌, ◌++◌, append_assoc}
use mathlib.Core.Path.{◌≡◌, refl, sym, ap, ◌∙◌}
use Rattle.search.specs.Tree.{Tree, closed, full, fork, Run, on, off, then, walk}

module _ {S A : Type 0} where
  -- P holds of the state where the run goes on; where it has ended, Q holds of the state and the reason
  pub data Holds (P : S → Type 0) (Q : S → A → Type 0) : Run S A → Type 0 where
    going : {s : S} → P s → Holds P Q (on s)
    gone : {s : S} {a : A} → Q s a → Holds P Q (off s a)

  -- P holds of the state either way
  abbrev pub Always : (S → Type 0) → Run S A → Type 0
  Always P = Holds P (λ s a. P s)

  -- Q of an early end is carried through, P is handed on
  pub then_holds : {P P' : S → Type 0} {Q : S → A → Type 0} {r : Run S A} {f : S → Run S A}
      → Holds P Q r → ((s : S) → P s → Holds P' Q (f s)) → Holds P' Q (then r f)
  then_holds (going h) k = k _ h
  then_holds (gone h) k = gone h

  pub holds_map : {P P' : S → Type 0} {Q Q' : S → A → Type 0} {r : Run S A}
      → ((s : S) → P s → P' s) → ((s : S) (a : A) → Q s a → Q' s a) → Holds P Q r → Holds P' Q' r
  holds_map f k (going h) = going (f _ h)
  holds_map f k (gone h) = gone (k _ _ h)

-- What is still due before a walk of the tree, where i is due after it: a visit adds to it by `visited`, a full node by `acted`.
abbrev pub due : {I M : Type 0} → (I → I) → (M → I → I) → Tree M → I → I
due visited acted closed i = visited i
due visited acted (full m) i = visited (acted m i)
due visited acted (fork first second) i = visited (due visited acted first (due visited acted second i))

-- P i s: the state is s, and i is still due
module _ {S A I M : Type 0} {P : I → S → Type 0} {Q : S → A → Type 0} {visit : S → Run S A} {act : M → S → Run S A}
    (visited : I → I) (acted : M → I → I)
    (visits : (i : I) (s : S) → P (visited i) s → Holds (P i) Q (visit s))
    (acts : (m : M) (i : I) (s : S) → P (acted m i) s → Holds (P i) Q (act m s)) where
  pub walk_holds : (t : Tree M) (i : I) (s : S) → P (due visited acted t i) s → Holds (P i) Q (walk visit act t s)
  walk_holds closed i s h = visits i s h
  walk_holds (full m) i s h = then_holds (visits (acted m i) s h) (acts m i)
  walk_holds (fork first second) i s h =
      let j : I = due visited acted second i in
      then_holds (then_holds (visits (due visited acted first j) s h) (walk_holds first j)) (walk_holds second i)

-- what each visit and each action keeps, a walk keeps
pub walk_keeps : {S A M : Type 0} {P : S → Type 0} {visit : S → Run S A} {act : M → S → Run S A}
    → ((s : S) → P s → Always P (visit s)) → ((m : M) (s : S) → P s → Always P (act m s))
    → (t : Tree M) (s : S) → P s → Always P (walk visit act t s)
walk_keeps {P = P} visits acts t s = walk_holds {P = λ (i : Unit {0}). P} (λ i. i) (λ m i. i) (λ i. visits) (λ m i. acts m) t tt s

-- the full nodes in the order in which the walk meets them
abbrev pub leaves : {M : Type 0} → Tree M → List M
leaves closed = []
leaves (full m) = m ∷ []
leaves (fork first second) = leaves first ++ leaves second

-- where only full nodes count, the full nodes are due
pub leaves_due : {M : Type 0} (t : Tree M) (rest : List M) → due (λ r. r) ◌∷◌ t rest ≡ leaves t ++ rest
leaves_due closed rest = refl
leaves_due (full m) rest = refl
leaves_due (fork first second) rest =
    leaves_due first (due (λ r. r) ◌∷◌ second rest) ∙ ap (λ l. leaves first ++ l) (leaves_due second rest)
    ∙ sym (append_assoc (leaves first) (leaves second) rest)
