-- How the code carries a sheet to a walk: literals and clauses as two sets of atoms, the branch order as bytes. No promise to an outside caller
-- rests on this file; it links the code's own functions.
use Rattle.std.specs.Prelude.{ℕ, ◌-◌, ◌≤◌, not, ◌≡◌, length, List, map}
use mathlib.Core.List.{Memᴰ as Mem}
use Rattle.prepare.specs.declared.clauses.Literals.{Literals}
use Rattle.prepare.specs.declared.network.Network.{Network}
use Rattle.prepare.specs.declared.order.Order.{Order}
use Rattle.sheet.specs.Literals.{Lit, atom, plain, place, plains, literal, byte_of}
use Rattle.sheet.specs.Order.{names, taking_all, branch}
use Rattle.sheet.specs.Reading.{Sheet, Reading, refused, understood, sheet_of, Accepted}
use Rattle.words.specs.Lists.{any, pick, over, Distinct}
use Rattle.words.specs.Positions.{has, set_of}

-- the atoms that stand negated among some literals
unfoldable pub negated : List Lit → ℕ
negated ls = set_of (map place (pick (λ l. not (plain l)) ls))

-- some literals as the two sets of their atoms
abbrev pub sets_of : List Lit → Literals
sets_of ls = record { plains = plains ls; negated = negated ls }

-- the sets of no literal
abbrev pub empty_sets : Literals
empty_sets = record { plains = 0; negated = 0 }

-- the order so far stands in the buffer in front of what was there before, and its atoms are those of the set
pub record Ordered (so : List Lit) (before : List ℕ) (o : Order) : Type 0 where
  pub counted : o.count ≡ length so
  pub named : (a : ℕ) → 1 ≤ a → has o.atoms (a - 1) ≡ any (names a) so
  pub written : o.bytes.now ≡ over (map byte_of so) before

-- the order goes on with some literals, in the bytes that were lent: the same ones, and as many
pub record Grown (ls : List Lit) (old new : Order) : Type 0 where
  pub order : (so : List Lit) (before : List ℕ) → Ordered so before old → Ordered (taking_all so ls) before new
  pub lent : new.bytes.ghost_name ≡ old.bytes.ghost_name
  pub long : length new.bytes.now ≡ length old.bytes.now

-- ---- what a walk reads

-- atoms that have a place in a word
abbrev pub Placed : List Lit → Type 0
Placed ls = (l : Lit) → Mem l ls → (1 ≤ atom l) × (atom l ≤ 64)

-- the clauses of a sheet as the sets of their atoms
pub record Clauses (cs : List (List Lit)) (table : List Literals) : Type 0 where
  pub placed : (c : List Lit) → Mem c cs → Placed c
  pub sets : table ≡ map sets_of cs

-- what a walk reads is of the sheet x, whose branch order names no atom twice
pub record Prepared (x : Sheet) (n : Network) : Type 0 where
  pub clauses : Clauses x.clauses n.clauses.now
  pub order : map literal n.order.bytes.now ≡ branch x
  pub objectives : map literal n.objectives.bytes.now ≡ x.objectives
  pub once : Distinct (map atom (branch x))

-- ---- the tables of a sheet

-- the tables of an accepted sheet: its branch order as bytes, and the two sets of each clause
pub record Tables (s o : List ℕ) (sets : List Literals) : Type 0 where
  pub accepted : Accepted s
  pub order : o ≡ map byte_of (branch (sheet_of s))
  pub clauses : sets ≡ map sets_of (sheet_of s).clauses

-- what a lent array holds once a sheet was read: a table of the sheet in its first places, or, where it is refused, what it held
abbrev pub tabled : {A : Type 0} → (Sheet → List A) → Reading → List A → List A
tabled f (refused c) before = before
tabled f (understood x) before = over (f x) before

abbrev pub clause_table : Reading → List Literals → List Literals
clause_table = tabled (λ x. map sets_of x.clauses)

abbrev pub order_table : Reading → List ℕ → List ℕ
order_table = tabled (λ x. map byte_of (branch x))
