-- The contracts of what is asked of a node or a model, and those of the test, determine their results. Those of `closed` and `seek` speak of whatever
-- the words stand for, so they rest on that the words stand for something; words need not stand for a sheet, and the contracts of the candidate walk,
-- which speak of one, determine nothing where they do not. Assumes nothing.
use Rattle.std.proofs.Common.{ℕ, ◌≤◌, ◌<◌, ◌^◌, List, [], ◌∷◌, map, ◌≡◌, refl, sym, ap, ap₂, ◌∙◌, subst}
use mathlib.Core.HLevel.{is_prop→PathP}
use mathlib.Core.List.Memᴰ.{of_map}
use mathlib.Core.List.{Memᴰ as Mem}
use Rattle.std.proofs.Math.Bridge.{le_prop}
use Rattle.prepare.proofs.Standing.{Fitting, fitting, standing, standing_clauses}
use Rattle.prepare.specs.Carried.{sets_of}
use Rattle.prepare.specs.declared.clauses.Literals.{Literals}
use Rattle.search.specs.Search.{Stop, found, spent}
use Rattle.search.specs.Tree.{Run, on, off}
use Rattle.sheet.proofs.LiteralBytes.{complement_placed}
use Rattle.sheet.specs.Literals.{Lit, atom, complement}
use Rattle.walk.proofs.Judging.{complement_twice}
use Rattle.walk.proofs.node.closed.Kinds as closed_kinds
use Rattle.walk.proofs.node.closed.Reads as closed
use Rattle.walk.proofs.node.holds.Kinds as holds_kinds
use Rattle.walk.proofs.node.holds.Reads as holds
use Rattle.walk.proofs.node.part_of.Kinds as part_of_kinds
use Rattle.walk.proofs.node.part_of.Reads as part_of
use Rattle.walk.proofs.test.Test.new.Kinds as new_kinds
use Rattle.walk.proofs.test.Test.new.Reads as new_test
use Rattle.walk.proofs.test.Test.seek.Kinds as seek_kinds
use Rattle.walk.proofs.test.Test.seek.Reads as seek
use Rattle.walk.specs.Carried.{Stand, told}
use Rattle.walk.specs.declared.test.Tried.TheVariants.{Missed, Found, Spent}
use Rattle.walk.specs.declared.test.Tried.{Tried}
use Rattle.words.proofs.Steady.{Determines}

pub holds_alike : Determines holds_kinds.ps holds_kinds.r holds.Pre holds.Post (λ κs x. x)
holds_alike κs a good pre x y v w p q = (p ∙ sym q, refl)

pub part_of_alike : Determines part_of_kinds.ps part_of_kinds.r part_of.Pre part_of.Post (λ κs x. x)
part_of_alike κs a good pre x y v w p q = (p ∙ sym q, refl)

-- ---- what a node's words stand for

complements_twice : (ls : List Lit) → map complement (map complement ls) ≡ ls
complements_twice [] = refl
complements_twice (l ∷ ls) = ap₂ ◌∷◌ (complement_twice l) (complements_twice ls)

-- every pair of the clauses has words of 64 bits
abbrev pub AllFitting : List Literals → Type 0
AllFitting sets = (c : Literals) → Mem c sets → Fitting c

-- two values that tell the same, whatever the words stand for, are equal: there is something that they stand for
stood : {A : Type 0} {x y : A} {f : List (List Lit) → List Lit → List Lit → A} {sets : List Literals} {ban node : Literals}
    → AllFitting sets → Fitting ban → Fitting node
    → ((cs : List (List Lit)) (us w : List Lit) → Stand cs us w sets ban node → x ≡ f cs us w)
    → ((cs : List (List Lit)) (us w : List Lit) → Stand cs us w sets ban node → y ≡ f cs us w) → x ≡ y
stood {sets = sets} {ban = ban} {node = node} each fits_ban fits_node tells_x tells_y =
    let c = standing_clauses sets each in
    let b = standing ban fits_ban in
    let w = standing node fits_node in
    let us = map complement b.0 in
    let st : Stand c.0 us w.0 sets ban node = record {
      clauses = c.1;
      banned = b.2 ∙ ap sets_of (sym (complements_twice b.0));
      conditions = λ l m. let u = of_map complement b.0 m in subst (λ (x : Lit). (1 ≤ atom x) × (atom x ≤ 64)) u.2 (complement_placed u.0 (b.1 u.0 u.1));
      made = w.2;
      decided = w.1;
    } in
    tells_x c.0 us w.0 st ∙ sym (tells_y c.0 us w.0 st)

-- that the lent words have 64 bits is a premise here: of the contents of a slice, that the argument is of its type tells no more than the length
pub closed_alike : Determines closed_kinds.ps closed_kinds.r (λ κs a. closed.Pre κs a × AllFitting a.0.now) closed.Post (λ κs x. x)
closed_alike κs a good pre x y v w p q = (stood pre.1 (fitting _ good.1.0) (fitting _ good.1.1.0) p q, refl)

-- ---- the test

-- a test is known by its four parts: what it says of its ban has one proof
pub new_alike : Determines new_kinds.ps new_kinds.r new_test.Pre new_test.Post (λ κs x. x)
new_alike κs a good pre x y v w p q =
    let b : x.ban ≡ y.ban = p.1.0 ∙ sym q.1.0 in (
      λ i.
          record {
            network = (p.0 ∙ sym q.0) i;
            ban = b i;
            candidate = (p.1.1.0 ∙ sym q.1.1.0) i;
            allowance = (p.1.1.1 ∙ sym q.1.1.1) i;
            words = is_prop→PathP (λ j. ((b j).plains < 2 ^ 64) × ((b j).negated < 2 ^ 64)) (λ j u v k. (le_prop u.0 v.0 k, le_prop u.1 v.1 k)) x.words y.words i;
          },
      refl,
    )

abbrev untold : Run ℕ Stop → Tried
untold (on n) = Missed n
untold (off n (found p)) = Found n p
untold (off n spent) = Spent n

-- a test is known by what is told of it
untold_told : (t : Tried) → untold (told t) ≡ t
untold_told (Missed n) = refl
untold_told (Found n p) = refl
untold_told (Spent n) = refl

-- with the premise of `closed`. That the argument is of its type tells nothing of the ban either, which stands behind a reference here; the test's own fact does.
pub seek_alike : Determines seek_kinds.ps seek_kinds.r (λ κs a. seek.Pre κs a × AllFitting a.0.now.network.clauses.now) seek.Post (λ κs x. x)
seek_alike κs a good pre x y v w p q = (
  sym (untold_told x)
      ∙ ap untold (stood pre.1 a.0.now.words (fitting _ good.1.1.0) p.0 q.0)
      ∙ untold_told y,
  refl,
)
