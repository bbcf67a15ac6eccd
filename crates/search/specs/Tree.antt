-- A defined walk is the walk of a tree. Quotations are of document 01.

-- "closed", "a full node", and "another open node" with its two children; a full node holds what stands there
pub data Tree (M : Type 0) : Type 0 where
  closed : Tree M
  full : M → Tree M
  fork : Tree M → Tree M → Tree M

-- a walk goes on with a state, or has ended with a state and a reason
pub data Run (S A : Type 0) : Type 0 where
  on : S → Run S A
  off : S → A → Run S A

module _ {S A : Type 0} where
  -- a walk that has not ended goes on with f
  abbrev pub then : Run S A → (S → Run S A) → Run S A
  then (on s) f = f s
  then (off s a) f = off s a

  -- "Visiting a node is one step, closed nodes included. .. another open node has its two children visited in turn, each with all that lies
  -- below it." A full node is acted on after its visit.
  abbrev pub walk : {M : Type 0} → (S → Run S A) → (M → S → Run S A) → Tree M → S → Run S A
  walk visit act closed s = visit s
  walk visit act (full m) s = then (visit s) (act m)
  walk visit act (fork first second) s = then (then (visit s) (walk visit act first)) (walk visit act second)
