-- What the theory asks of a sheet, and that an accepted sheet has it. Assumes nothing.
use Prim.Native.Nat.{ℕ, ◌≤◌}
use mathlib.Core.List.{List, Memᴰ as Mem}
use native.Mathlib.Omega.{arith}
use lib.ListN.{length}
use Rattle.sheet.proofs.Atoms.{clauses_valued, objectives_valued, valued_placed}
use Rattle.sheet.proofs.EachOnce.{NamesEachOnce, names_each_once}
use Rattle.sheet.proofs.Understood.{objectives_counted, passed}
use Rattle.sheet.specs.Literals.{Lit, atom}
use Rattle.sheet.specs.Order.{valued, branch}
use Rattle.sheet.specs.Reading.{Sheet, sheet_of, Accepted}

pub record WellFormed (x : Sheet) : Type 0 where
  pub from_one : (a : ℕ) → Mem a (valued x) → 1 ≤ a
  pub few_objectives : length x.objectives ≤ 64
  pub once : NamesEachOnce (valued x) (branch x)
  pub clauses_in : (c : List Lit) (l : Lit) → Mem c x.clauses → Mem l c → Mem (atom l) (valued x)
  pub objectives_in : (l : Lit) → Mem l x.objectives → Mem (atom l) (valued x)

pub well_formed : (s : List ℕ) → Accepted s → WellFormed (sheet_of s)
well_formed s ok =
    let p = (passed s ok).sized in
    record {
      from_one = λ a h. (valued_placed s ok a h).0;
      few_objectives = let e = objectives_counted s p in omega (arith, p.counted.objectives);
      once = names_each_once s ok;
      clauses_in = clauses_valued s ok;
      objectives_in = objectives_valued s ok;
    }
