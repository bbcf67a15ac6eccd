-- In a fair game the answer says what is so, and the counts stay within the numbers of maximal parts. Assumes nothing.
use Prim.Native.Nat.{ℕ, ◌+◌, ◌≤◌, ◌<◌}
use mathlib.Core.Bool.{true, false, false≢true}
use mathlib.Core.List.Memᴰ.{append_left}
use mathlib.Core.List.Memᴰ.{append_right}
use mathlib.Core.List.Memᴰ.{head}
use mathlib.Core.List.Memᴰ.{map as map_mem}
use mathlib.Core.List.Memᴰ.{not-nil}
use mathlib.Core.List.Memᴰ.{of_map}
use mathlib.Core.List.{List, [], ◌∷◌, ◌++◌, map, Memᴰ as Mem}
use mathlib.Core.Logic.{inr, ⊎_elim}
use mathlib.Core.Path.{◌≡◌, refl, sym, ap, ◌∙◌, subst}
use native.Mathlib.Omega.{arith}
use lib.ListN.{length, length-append}
use Rattle.search.proofs.Actions.{visit_holds, meet_holds, candidate_holds, Settled, judge_holds, finished}
use Rattle.search.proofs.Fair.{tops, Fair, Unbeaten, FirstUnbeaten, Tells, Within}
use Rattle.search.proofs.Past.{Past, past_none, past_map, past_all, past_one, past_next, better_past}
use Rattle.search.proofs.Picking.{top_in, top_out, each_snoc, Among, among_none, among_snoc, among_length}
use Rattle.search.proofs.Walking.{Holds, holds_map, walk_holds, leaves}
use Rattle.search.specs.Search.{Game, State, Answer, Yes, No, Cut, NoPlace, Stop, spent, found, with_test, test, judge, search, start, answered, ended}
use Rattle.words.proofs.Members.{any_out, any_none}
use Rattle.words.specs.Lists.{any}

-- ---- the distinct maximal parts

module _ (g : Game) (ms : List ℕ) where
  tops_in : (m : ℕ) → Mem m ms → ((u : ℕ) → Mem u ms → g.worse (g.part m) (g.part u) ≡ true → ⊥) → Mem (g.part m) (tops g ms)
  tops_in m h top = top_in g.worse (map g.part ms) (g.part m) (map_mem g.part h) λ q k t.
      let u = of_map g.part ms k in
      top u.0 u.1 (ap (g.worse (g.part m)) u.2 ∙ t)

  tops_out : (p : ℕ) → Mem p (tops g ms) → (m : ℕ) × Mem m ms × (g.part m ≡ p)
  tops_out p h = of_map g.part ms (top_out g.worse (map g.part ms) p h).0

module _ (g : Game) (affirming denying : List ℕ) (fair : Fair g affirming denying) (allowance places : ℕ) where
  -- ---- a test

  -- no denying model is better than c
  abbrev Undenied : ℕ → Type 0
  Undenied c = (u : ℕ) → Mem u denying → g.worse (g.part c) (g.part u) ≡ true → ⊥

  -- a part that a test of c finds is better than c's, and a maximal one
  abbrev Finds : ℕ → Stop → Type 0
  Finds c spent = Unit {0}
  Finds c (found p) = (g.worse (g.part c) p ≡ true) × Mem p (tops g denying)

  -- the rivals of c that the test has passed are not better than c
  abbrev Rivals : ℕ → List ℕ → Type 0
  Rivals c = Past (leaves (g.rivals c)) (λ u. g.worse (g.part c) (g.part u) ≡ true → ⊥)

  -- Whatever is better than the first part found is better than c too, hence a rival, hence passed: there is none.
  first_found : {c m : ℕ} {rest : List ℕ} → Rivals c (m ∷ rest) → g.worse (g.part c) (g.part m) ≡ true
      → Mem (g.part m) (tops g denying)
  first_found {c} {m} h a =
      tops_in g denying m (fair.rivals_deny c m (past_next h)) λ u d b.
      let over : g.worse (g.part c) (g.part u) ≡ true = fair.transitive _ _ _ a b in
      better_past g fair.irreflexive (fair.rivals_ordered c) h u (fair.denying_walked c u d over) b over

  test_finds : (c n : ℕ) → Holds (λ k. Undenied c) (λ k. Finds c) (test g allowance c n)
  unfolding test
  test_finds c n =
      holds_map (λ k (h : Rivals c []) u d a. past_all h u (fair.denying_walked c u d a) a) (λ k x h. h)
      (walk_holds {P = λ rest k. Rivals c rest} (λ r. r) ◌∷◌
      (λ rest k h. visit_holds spent allowance k (λ l. h) (λ l. tt))
      (λ m rest k h. meet_holds g c m k (λ a. (a, first_found h a)) (λ e. past_one h (λ a. false≢true (sym e ∙ a))))
      (g.rivals c) [] n (past_none (g.rivals c)))

  -- ---- the candidate walk

  -- the part q lies inside a stored part
  abbrev Inside : List ℕ → ℕ → Type 0
  Inside stored q = (p : ℕ) × Mem p stored × (g.worse q p ≡ true)

  -- the parts stored are distinct maximal ones of denying models, and so are the parts tested of affirming models
  record Counted (tests : ℕ) (stored : List ℕ) : Type 0 where
    denied : Among (tops g denying) stored
    tested : List ℕ
    number : length tested ≡ tests
    affirmed : Among (tops g affirming) tested

  -- while the walk goes on, all that it has passed or tested lies inside a stored part
  record Sound (rest : List ℕ) (tests : ℕ) (stored : List ℕ) : Type 0 where
    counted : Counted tests stored
    passed : Past (leaves g.candidates) (λ m. Inside stored (g.part m)) rest
    settled : (p : ℕ) → Mem p counted.tested → Inside stored p

  -- a part is found and no place is free only where there are more maximal parts than places
  abbrev Room : Answer → Type 0
  Room (Yes m) = Unit {0}
  Room No = Unit {0}
  Room Cut = Unit {0}
  Room NoPlace = places < length (tops g denying)

  abbrev Going : List ℕ → State → Type 0
  Going rest s = Sound rest s.tests s.stored

  abbrev Ended : State → Answer → Type 0
  Ended s x = Counted s.tests s.stored × Tells g affirming denying x × Room x

  -- what lies inside a stored part is beaten by the denying model that has that part
  inside_beaten : {tests : ℕ} {stored : List ℕ} → Counted tests stored
      → (m : ℕ) → Inside stored (g.part m) → Unbeaten g affirming denying m → ⊥
  inside_beaten c m w best =
      let u = tops_out g denying w.0 (c.denied.from w.0 w.1) in
      best u.0 (inr u.1) (ap (λ p. g.worse (g.part m) p) u.2 ∙ w.2)

  -- the next candidate m lies inside no stored part
  module _ {m : ℕ} {rest : List ℕ} {tests : ℕ} {stored : List ℕ} (h : Sound (m ∷ rest) tests stored)
      (free : Inside stored (g.part m) → ⊥) where
    affirms : Mem m affirming
    affirms = fair.candidates_affirm m (past_next h.passed)

    -- an affirming model better than m would have been passed, and m would lie inside the same stored part
    unaffirmed : (u : ℕ) → Mem u affirming → g.worse (g.part m) (g.part u) ≡ true → ⊥
    unaffirmed u k a =
        let w = better_past g fair.irreflexive fair.candidates_ordered h.passed u (fair.affirming_walked u k) a in
        free (w.0, w.1, fair.transitive _ _ _ a w.2)

    -- the test of m is counted
    counted_more : Counted (tests + 1) stored
    counted_more =
        let c = h.counted in
        record {
          denied = c.denied;
          tested = c.tested ++ (g.part m ∷ []);
          number = omega (arith, length-append c.tested (g.part m ∷ []), c.number);
          affirmed = among_snoc c.affirmed (tops_in g affirming m affirms unaffirmed) (λ k. free (h.settled (g.part m) k));
        }

    first_unbeaten : Undenied m → FirstUnbeaten g affirming denying m
    first_unbeaten undenied =
        record {
          affirms = affirms;
          unbeaten = λ u. ⊎_elim (unaffirmed u) (undenied u);
          before = h.passed.done;
          after = rest;
          place = h.passed.split;
          none = λ u k. inside_beaten h.counted u (h.passed.holds u k);
        }

    -- the test of m finds p
    module _ {p : ℕ} (a : g.worse (g.part m) p ≡ true) (top : Mem p (tops g denying)) where
      denied_more : Among (tops g denying) (stored ++ (p ∷ []))
      denied_more = among_snoc h.counted.denied top (λ k. free (p, k, a))

      sound_more : Sound rest (tests + 1) (stored ++ (p ∷ []))
      unfolding counted_more
      sound_more =
          let c = counted_more in
          record {
            counted = record { denied = denied_more; tested = c.tested; number = c.number; affirmed = c.affirmed };
            passed = past_one (past_map (λ u. still (g.part u)) h.passed) now;
            settled = each_snoc h.counted.tested (g.part m) (λ q k. still q (h.settled q k)) now;
          }
        where
          now : Inside (stored ++ (p ∷ [])) (g.part m)
          now = (p, append_right stored (head refl), a)

          still : (q : ℕ) → Inside stored q → Inside (stored ++ (p ∷ [])) q
          still q w = (w.0, append_left (p ∷ []) w.1, w.2)

      no_room : places ≤ length stored → places < length (tops g denying)
      no_room l = omega (arith, length-append stored (p ∷ []), among_length denied_more)

  judge_sound : (m : ℕ) (rest : List ℕ) (s : State) → Going (m ∷ rest) s → Holds (Going rest) Ended (judge g allowance places m s)
  judge_sound m rest s h =
      judge_holds places m g allowance s
      (λ e. record { counted = h.counted; passed = past_one h.passed (any_out _ s.stored e); settled = h.settled })
      (λ e. holds_map (λ n u. (counted_more h (free e), first_unbeaten h (free e) u, tt)) (stopped (free e)) (test_finds m s.steps))
    where
      free : any (g.worse (g.part m)) s.stored ≡ false → Inside s.stored (g.part m) → ⊥
      free e w = false≢true (sym (any_none _ s.stored e w.0 w.1) ∙ w.2)

      stopped : (Inside s.stored (g.part m) → ⊥) → (n : ℕ) (x : Stop) → Finds m x → Settled (Going rest) Ended places (with_test s) n x
      stopped free n spent u = (counted_more h free, tt, tt)
      stopped free n (found p) u = (λ l. sound_more h free u.0 u.1, λ l. (counted_more h free, tt, no_room h free u.0 u.1 l))

  search_ends : Ended (ended (search g allowance places)) (answered (search g allowance places))
  unfolding search
  search_ends =
      finished (holds_map all_passed (λ s x h. h)
      (walk_holds {P = Going} (λ r. r) ◌∷◌ (λ rest s h. candidate_holds allowance s (λ l. h) (λ l. (h.counted, tt, tt))) judge_sound
      g.candidates [] start
      (record {
        counted = record { denied = among_none; tested = []; number = refl; affirmed = among_none };
        passed = past_none g.candidates;
        settled = λ p k. absurd (not-nil k);
      })))
    where
      all_passed : (s : State) → Going [] s → Ended s No
      all_passed s h = (h.counted, λ m k. inside_beaten h.counted m (past_all h.passed m (fair.affirming_walked m k)), tt)

  -- ---- what the search promises

  pub says : Tells g affirming denying (answered (search g allowance places))
  says = search_ends.1

  pub counted : Within g affirming denying (ended (search g allowance places))
  counted =
      let c = search_ends.0 in
      record { tests = omega (arith, c.number, among_length c.affirmed); stored = among_length c.denied }

  pub places_suffice : length (tops g denying) ≤ places → answered (search g allowance places) ≡ NoPlace → ⊥
  places_suffice h e = let l : places < length (tops g denying) = subst Room e search_ends.2 in omega arith
