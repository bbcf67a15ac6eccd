-- The lists whose lengths are the numbers of demand 3: no part twice, and exactly the maximal parts. Assumes nothing.
use Prim.Native.Nat.{ℕ}
use mathlib.Core.Bool.{true}
use mathlib.Core.List.Memᴰ.{cast}
use mathlib.Core.List.Memᴰ.{map as mem_map}
use mathlib.Core.List.Memᴰ.{of_map}
use mathlib.Core.List.{List, map, Memᴰ as Mem}
use mathlib.Core.Logic.{◌↔◌}
use mathlib.Core.Path.{◌≡◌, sym, ap, ◌∙◌}
use Rattle.search.proofs.Picking.{distinct_once, top_in, top_out}
use Rattle.search.specs.Maximal.{topmost, maximal_parts}
use Rattle.search.specs.Models.{part, Preference}
use Rattle.sheet.specs.Reading.{Sheet}
use Rattle.words.specs.Lists.{Distinct}

module _ (p : Preference) (x : Sheet) (ms : List ℕ) where
  -- a is the part of one of the models, and none of them has a better one
  pub record MaximalPart (a : ℕ) : Type 0 where
    pub model : ℕ
    pub among : Mem model ms
    pub its : part x.objectives model ≡ a
    pub unbeaten : (u : ℕ) → Mem u ms → p.worse a (part x.objectives u) ≡ true → ⊥

  pub maximal_once : Distinct (maximal_parts p x ms)
  unfolding maximal_parts
  maximal_once = distinct_once (topmost p.worse (map (part x.objectives) ms))

  pub maximal_exactly : (a : ℕ) → Mem a (maximal_parts p x ms) ↔ MaximalPart a
  unfolding maximal_parts
  maximal_exactly a = (listed, found)
    where
      listed : Mem a (maximal_parts p x ms) → MaximalPart a
      listed h =
          let t = top_out p.worse (map (part x.objectives) ms) a h in
          let m = of_map (part x.objectives) ms t.0 in
          record { model = m.0; among = m.1; its = m.2; unbeaten = λ u k. t.1 (part x.objectives u) (mem_map (part x.objectives) k) }

      found : MaximalPart a → Mem a (maximal_parts p x ms)
      found m =
          top_in p.worse (map (part x.objectives) ms) a (cast (sym m.its) (mem_map (part x.objectives) m.among)) λ q k t.
          let u = of_map (part x.objectives) ms k in
          m.unbeaten u.0 u.1 (ap (p.worse a) u.2 ∙ t)
