-- Demands 2 and 3 of every search, whatever the allowance and the number of places. Assumes nothing.
use Prim.Native.Nat.{ℕ, ◌≤◌}
use mathlib.Core.Bool.{true}
use mathlib.Core.List.Memᴰ.{head}
use mathlib.Core.List.Memᴰ.{tail}
use mathlib.Core.List.{List, Memᴰ as Mem}
use mathlib.Core.Path.{◌≡◌, refl, sym, subst}
use native.Mathlib.Omega.{arith}
use lib.ListN.{length}
use Rattle.search.proofs.Allowance.{steps_within, cut_at_allowance}
use Rattle.search.proofs.Closing.{Closes, falsified_closes}
use Rattle.search.proofs.Correct.{says, counted, places_suffice}
use Rattle.search.proofs.Fair.{Fair, Tells}
use Rattle.search.proofs.FairGame.{fair}
use Rattle.search.proofs.Places.{places_full}
use Rattle.search.proofs.Preferring.{Sensible, containment_sensible}
use Rattle.search.proofs.Right.{tops_affirming, tops_denying, affirming_in, optimal_unbeaten, first_right}
use Rattle.search.proofs.WellFormed.{WellFormed, well_formed}
use Rattle.search.specs.Demands.{Possible, First, Demand2, Demand3}
use Rattle.search.specs.Grown.{Rule, falsified, game, posed}
use Rattle.search.specs.Models.{affirming, denying, Preference, containment}
use Rattle.search.specs.Search.{State, Answer, Yes, No, Cut, NoPlace, search, answered, code_of, ended}
use Rattle.search.specs.Tree.{Run}
use Rattle.sheet.proofs.Atoms.{literal_valued}
use Rattle.sheet.specs.Layout.{atom_count}
use Rattle.sheet.specs.Literals.{Lit, literal, is_literal, atom}
use Rattle.sheet.specs.Order.{valued}
use Rattle.sheet.specs.Reading.{Sheet, sheet_of, Accepted}

-- both demands of a run
pub record Kept (p : Preference) (x : Sheet) (q : Lit) (allowance places : ℕ) (run : Run State Answer) : Type 0 where
  pub right : Demand2 p x q allowance places (code_of (answered run)) (ended run).steps (length (ended run).stored) (λ m. answered run ≡ Yes m)
  pub bounded : Demand3 p x q places (code_of (answered run)) (ended run).tests (length (ended run).stored)

-- ---- the demands by the answer

module _ (p : Preference) (x : Sheet) (q : Lit) (allowance places steps stored : ℕ) where
  -- what each answer is to tell
  abbrev Means : Answer → Type 0
  Means (Yes m) = First p x q m
  Means No = Possible p x q → ⊥
  Means Cut = steps ≡ allowance
  Means NoPlace = stored ≡ places

  demand2 : steps ≤ allowance → (a : Answer) → Means a → Demand2 p x q allowance places (code_of a) steps stored (λ m. a ≡ Yes m)
  demand2 allowed (Yes m) first =
      let possible : Possible p x q = (m, first.optimal, first.affirms) in
      record {
        codes = head refl;
        affirmed = λ _. (λ _. possible, λ _. refl);
        denied = λ _. (λ e. absurd (omega arith), λ none. absurd (none possible));
        shown = λ _. (m, first, refl);
        allowed = allowed;
        cut_there = λ e. absurd (omega arith);
        full_there = λ e. absurd (omega arith);
      }
  demand2 allowed No none =
      record {
        codes = tail (head refl);
        affirmed = λ _. (λ e. absurd (omega arith), λ possible. absurd (none possible));
        denied = λ _. (λ _. none, λ _. refl);
        shown = λ e. absurd (omega arith);
        allowed = allowed;
        cut_there = λ e. absurd (omega arith);
        full_there = λ e. absurd (omega arith);
      }
  demand2 allowed Cut there =
      record {
        codes = tail (tail (head refl));
        affirmed = λ finished. absurd (finished.0 refl);
        denied = λ finished. absurd (finished.0 refl);
        shown = λ e. absurd (omega arith);
        allowed = allowed;
        cut_there = λ _. there;
        full_there = λ e. absurd (omega arith);
      }
  demand2 allowed NoPlace there =
      record {
        codes = tail (tail (tail (head refl)));
        affirmed = λ finished. absurd (finished.1 refl);
        denied = λ finished. absurd (finished.1 refl);
        shown = λ e. absurd (omega arith);
        allowed = allowed;
        cut_there = λ e. absurd (omega arith);
        full_there = λ _. there;
      }

-- the model shown in another way
pub shown_as : {p : Preference} {x : Sheet} {q : Lit} {allowance places code steps stored : ℕ} {Shows Shows' : ℕ → Type 0}
    → ((m : ℕ) → Shows m → Shows' m) → Demand2 p x q allowance places code steps stored Shows → Demand2 p x q allowance places code steps stored Shows'
shown_as as_well d =
    record {
      codes = d.codes;
      affirmed = d.affirmed;
      denied = d.denied;
      shown = λ e. let u = d.shown e in (u.0, u.1, as_well u.0 u.2);
      allowed = d.allowed;
      cut_there = d.cut_there;
      full_there = d.full_there;
    }

code_full : (a : Answer) → code_of a ≡ 19 → a ≡ NoPlace
code_full (Yes m) e = absurd (omega arith)
code_full No e = absurd (omega arith)
code_full Cut e = absurd (omega arith)
code_full NoPlace e = refl

-- ---- every search

module _ (rule : Rule) (closes : Closes rule) (p : Preference) (x : Sheet) (form : WellFormed x) (sensible : Sensible p x)
    (q : Lit) (asked : Mem (atom q) (valued x)) (allowance places : ℕ) where
  abbrev run : Run State Answer
  run = search (game rule p x q) allowance places

  fits : Fair (game rule p x q) (affirming x q) (denying x q)
  fits = fair rule closes x form p sensible q asked

  means : (a : Answer) → answered run ≡ a → Tells (game rule p x q) (affirming x q) (denying x q) a → Means p x q allowance places (ended run).steps (length (ended run).stored) a
  means (Yes m) e tells = first_right rule p x q closes form sensible asked m tells
  means No e tells = λ possible. let o = possible.1 in tells possible.0 (affirming_in rule p x q possible.0 o.model possible.2) (optimal_unbeaten rule p x q possible.0 o)
  means Cut e tells = cut_at_allowance (game rule p x q) allowance places e
  means NoPlace e tells = places_full (game rule p x q) allowance places e

  pub kept : Kept p x q allowance places run
  kept =
      let g = game rule p x q in
      let within = counted g (affirming x q) (denying x q) fits allowance places in
      record {
        right =
            demand2 p x q allowance places (ended run).steps (length (ended run).stored) (steps_within g allowance places) (answered run)
            (means (answered run) refl (says g (affirming x q) (denying x q) fits allowance places));
        bounded =
            record {
              few_tests = subst (λ (ps : List ℕ). (ended run).tests ≤ length ps) (tops_affirming rule p x q) within.tests;
              few_stored = subst (λ (ps : List ℕ). length (ended run).stored ≤ length ps) (tops_denying rule p x q) within.stored;
              enough = λ h e.
                  places_suffice g (affirming x q) (denying x q) fits allowance places
                  (subst (λ (ps : List ℕ). length ps ≤ places) (sym (tops_denying rule p x q)) h) (code_full (answered run) e);
            };
      }

-- of an accepted sheet and a question byte that is a literal, by the rules of document 01
pub kept_accepted : (s : List ℕ) → Accepted s → (b : ℕ) → is_literal (atom_count s) b ≡ true → (allowance places : ℕ)
    → Kept containment (sheet_of s) (literal b) allowance places (search (posed (sheet_of s) (literal b)) allowance places)
kept_accepted s ok b lit =
    let form = well_formed s ok in
    kept falsified falsified_closes containment (sheet_of s) form (containment_sensible (sheet_of s) form.few_objectives) (literal b) (literal_valued s ok b lit)
