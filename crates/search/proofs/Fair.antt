-- What the theory asks of a game, and what it then says of the search. Nothing here knows of clauses, atoms or words: a later rule for
-- closing nodes, or another comparison of parts, has only to be fair. Assumes nothing.
use Prim.Native.Nat.{ℕ, ◌≤◌}
use mathlib.Core.Bool.{true}
use mathlib.Core.List.{List, [], ◌∷◌, ◌++◌, map, Memᴰ as Mem}
use mathlib.Core.Logic.{◌⊎◌}
use mathlib.Core.Path.{◌≡◌}
use lib.ListN.{length}
use Rattle.search.proofs.Walking.{leaves}
use Rattle.search.specs.Maximal.{distinct, topmost}
use Rattle.search.specs.Search.{Game, State, Answer, Yes, No, Cut, NoPlace}

module _ (g : Game) where
  -- no later model's part is better than an earlier one's
  abbrev pub BestFirst : List ℕ → Type 0
  BestFirst [] = Unit {0}
  BestFirst (x ∷ xs) = ((y : ℕ) → Mem y xs → g.worse (g.part x) (g.part y) ≡ true → ⊥) × BestFirst xs

  -- the distinct maximal parts of some models
  abbrev pub tops : List ℕ → List ℕ
  tops ms = distinct (topmost g.worse (map g.part ms))

  module _ (affirming denying : List ℕ) where
    -- The trees hold the affirming models, and the denying models that can be better than a candidate, in order.
    pub record Fair : Type 0 where
      pub irreflexive : (p : ℕ) → g.worse p p ≡ true → ⊥
      pub transitive : (p q r : ℕ) → g.worse p q ≡ true → g.worse q r ≡ true → g.worse p r ≡ true
      pub candidates_ordered : BestFirst (leaves g.candidates)
      pub rivals_ordered : (c : ℕ) → BestFirst (leaves (g.rivals c))
      pub candidates_affirm : (m : ℕ) → Mem m (leaves g.candidates) → Mem m affirming
      pub affirming_walked : (m : ℕ) → Mem m affirming → Mem m (leaves g.candidates)
      pub rivals_deny : (c m : ℕ) → Mem m (leaves (g.rivals c)) → Mem m denying
      pub denying_walked : (c m : ℕ) → Mem m denying → g.worse (g.part c) (g.part m) ≡ true → Mem m (leaves (g.rivals c))

    -- no model at all has a better part than m
    abbrev pub Unbeaten : ℕ → Type 0
    Unbeaten m = (u : ℕ) → Mem u affirming ⊎ Mem u denying → g.worse (g.part m) (g.part u) ≡ true → ⊥

    -- m is the first candidate that nothing beats
    pub record FirstUnbeaten (m : ℕ) : Type 0 where
      pub affirms : Mem m affirming
      pub unbeaten : Unbeaten m
      pub before : List ℕ
      pub after : List ℕ
      pub place : leaves g.candidates ≡ before ++ m ∷ after
      pub none : (u : ℕ) → Mem u before → Unbeaten u → ⊥

    -- what an answer tells
    abbrev pub Tells : Answer → Type 0
    Tells (Yes m) = FirstUnbeaten m
    Tells No = (m : ℕ) → Mem m affirming → Unbeaten m → ⊥
    Tells Cut = Unit {0}
    Tells NoPlace = Unit {0}

    -- what the counts stay within
    pub record Within (s : State) : Type 0 where
      pub tests : s.tests ≤ length (tops affirming)
      pub stored : length s.stored ≤ length (tops denying)
