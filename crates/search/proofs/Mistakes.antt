-- Plausible rules that are wrong, each on a small sheet where it shows, and a sheet on which both bounds of demand 3 are reached: all computed.
-- Assumes nothing.
use Prim.Native.Nat.{ℕ}
use mathlib.Core.List.{List, [], ◌∷◌, map}
use mathlib.Core.Path.{◌≡◌, refl}
use lib.Dec.{ltb}
use lib.ListN.{length}
use Rattle.search.specs.Grown.{falsified, grow, candidate_clauses, game, posed}
use Rattle.search.specs.Maximal.{maximal_parts}
use Rattle.search.specs.Models.{value, satisfies, valuations, models, affirming, denying, part, Preference, containment}
use Rattle.search.specs.Search.{Game, State, Answer, Yes, No, visit, store, meet, test, judge, search as searched, answered, ended}
use Rattle.search.specs.Tree.{closed}
use Rattle.sheet.specs.Literals.{Lit, pos, neg, complement, plains}
use Rattle.sheet.specs.Order.{taking, branch}
use Rattle.sheet.specs.Reading.{Sheet}
use Rattle.words.specs.Lists.{pick, below}
use Rattle.words.specs.Positions.{has, within, strictly_within, adding, set_of}

abbrev sheet : ℕ → List (List Lit) → List Lit → Sheet
sheet n clauses objectives = record { atoms = n; clauses = clauses; objectives = objectives }

-- sheets A, B and C of document 01
abbrev A : Sheet
A = sheet 3 ((neg 1 ∷ neg 2 ∷ []) ∷ (neg 2 ∷ neg 3 ∷ []) ∷ []) (pos 1 ∷ pos 2 ∷ pos 3 ∷ [])

abbrev B : Sheet
B = sheet 2 ((neg 1 ∷ []) ∷ []) (pos 1 ∷ pos 2 ∷ [])

abbrev C : Sheet
C = sheet 2 [] (pos 1 ∷ [])

-- ---- the wrong rules

-- "Comparing numbers of objectives met"
abbrev by_number : Preference
by_number = record { worse = λ p q. ltb (length (pick (has p) (below 64))) (length (pick (has q) (below 64))); kept = λ os. os }

-- "Accepting a test's full node with an equal part"
abbrev or_equal : Preference
or_equal = record { worse = within; kept = λ os. os }

-- "Saying yes to the first affirming model": no rival is looked for
abbrev first_affirming : Sheet → Lit → Game
first_affirming x q = record { part = part x.objectives; worse = strictly_within; candidates = (posed x q).candidates; rivals = λ m. closed }

-- each child that makes a literal of the branch order true comes after the other
abbrev second_child_first : Sheet → Lit → Game
second_child_first x q =
    record {
      part = part x.objectives;
      worse = strictly_within;
      candidates = grow (falsified (candidate_clauses x q)) (map complement (branch x)) [];
      rivals = (posed x q).rivals;
    }

-- what a search answers with many steps and places
abbrev answer_of : Game → Answer
answer_of g = answered (searched g 100 4)

pub wrong_answers : map answer_of (game falsified by_number A (neg 3) ∷ game falsified or_equal C (neg 2) ∷ first_affirming B (neg 2) ∷ second_child_first C (pos 1) ∷ []) ≡ (No ∷ No ∷ Yes 0 ∷ Yes 1 ∷ [])
unfolding searched judge test meet visit store game grow falsified plains set_of adding has within strictly_within branch taking part value below
wrong_answers = refl

pub right_answers : map answer_of (posed A (neg 3) ∷ posed C (neg 2) ∷ posed B (neg 2) ∷ posed C (pos 1) ∷ []) ≡ (Yes 2 ∷ Yes 1 ∷ No ∷ Yes 3 ∷ [])
unfolding searched judge test meet visit store game grow falsified plains set_of adding has within strictly_within branch taking part value below
right_answers = refl

-- ---- the bounds of demand 3 are reached

-- one clause (-1 -2), objectives 1, 2 and -3; with a fourth atom every part belongs to two models
abbrev pair : ℕ → Sheet
pair n = sheet n ((neg 1 ∷ neg 2 ∷ []) ∷ []) (pos 1 ∷ pos 2 ∷ neg 3 ∷ [])

-- the tests, the parts stored, and the two numbers that bound them
abbrev counts : Sheet → Lit → List ℕ
counts x q =
    let s : State = ended (searched (posed x q) 100 4) in
    s.tests ∷ length s.stored ∷ length (maximal_parts containment x (affirming x q)) ∷ length (maximal_parts containment x (denying x q)) ∷ []

pub bounds_reached : map (λ n. counts (pair n) (pos 3)) (3 ∷ 4 ∷ []) ≡ ((2 ∷ 2 ∷ 2 ∷ 2 ∷ []) ∷ (2 ∷ 2 ∷ 2 ∷ 2 ∷ []) ∷ [])
unfolding searched judge test meet visit store game grow falsified plains set_of adding has within strictly_within branch taking part value below maximal_parts models valuations satisfies
bounds_reached = refl
