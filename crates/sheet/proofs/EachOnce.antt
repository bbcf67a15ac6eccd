-- The branch order of an accepted sheet names each atom that is given a value once, and nothing else. Assumes nothing.
use Rattle.std.proofs.Common.{ℕ, Bool, true, false, ◌||◌, List, [], ◌∷◌, map, ⊎_elim, ◌≡◌, refl, sym, ap, ◌∙◌, subst, le_antisymm, length, eq-eqb, eqb-true}
use Rattle.std.proofs.Math.Bool.{or-true}
use Rattle.std.proofs.lemmas.Bool.{false≢true}
use mathlib.Core.List.Memᴰ.{append_cases, append_right, cases_cons, cast, eq_of_singleton, head, map as mem_map, not-nil, of_map, tail}
use Rattle.std.proofs.lemmas.List.{map-append, length-map}
use mathlib.Core.List.{Memᴰ as Mem}
use Rattle.sheet.proofs.Atoms.{up_to_apart, objectives_valued}
use Rattle.sheet.proofs.BranchLaws.{taking_old, taking_new, names_taking}
use Rattle.sheet.specs.Literals.{Lit, pos, atom}
use Rattle.sheet.specs.Order.{valued, readings, names, taking, taking_all, branch}
use Rattle.sheet.specs.Reading.{Sheet, sheet_of, Accepted}
use Rattle.words.proofs.Members.{any_out, any_none, distinct_snoc, distinct_fit}
use Rattle.words.specs.Lists.{any, Distinct}

-- ---- no atom is named twice, and only atoms of the literals taken

-- an order that names each atom at most once, and only these atoms
pub record Apart (atoms : List ℕ) (order : List Lit) : Type 0 where
  pub once : Distinct (map atom order)
  pub only : (l : Lit) → Mem l order → Mem (atom l) atoms

module _ (atoms : List ℕ) where
  taking_apart : (so : List Lit) (l : Lit) → Apart atoms so → Mem (atom l) atoms → Apart atoms (taking so l)
  taking_apart so l is r = go (any (names (atom l)) so) refl
    where
      fresh : any (names (atom l)) so ≡ false → Mem (atom l) (map atom so) → ⊥
      fresh e m =
          let u = of_map atom so m in
          false≢true (sym (any_none (names (atom l)) so e u.0 u.1) ∙ eq-eqb (atom u.0) (atom l) u.2)

      go : (b : Bool) → any (names (atom l)) so ≡ b → Apart atoms (taking so l)
      go true e = subst (Apart atoms) (sym (taking_old so l e)) is
      go false e =
          subst (Apart atoms) (sym (taking_new so l e)) (record {
            once = subst Distinct (sym (map-append atom so (l ∷ []))) (distinct_snoc (map atom so) (atom l) is.once (fresh e));
            only = λ x m. ⊎_elim (is.only x) (λ k. subst (λ (y : Lit). Mem (atom y) atoms) (sym (eq_of_singleton k)) r) (append_cases so m);
          })

  taking_all_apart : (so ls : List Lit) → Apart atoms so → ((l : Lit) → Mem l ls → Mem (atom l) atoms) → Apart atoms (taking_all so ls)
  taking_all_apart so [] is each = is
  taking_all_apart so (l ∷ ls) is each = taking_all_apart (taking so l) ls (taking_apart so l is (each l (head refl))) (λ x m. each x (tail m))

-- ---- every atom of the literals taken is named

names_all : (a : ℕ) (so ls : List Lit) → any (names a) so ≡ true → any (names a) (taking_all so ls) ≡ true
names_all a so [] e = e
names_all a so (l ∷ ls) e = names_all a (taking so l) ls (names_taking so l a ∙ ap (λ (b : Bool). b || names a l) e)

names_taken : (a : ℕ) (so ls : List Lit) (l : Lit) → Mem l ls → atom l ≡ a → any (names a) (taking_all so ls) ≡ true
names_taken a so [] l m e = absurd (not-nil m)
names_taken a so (x ∷ xs) l m e =
    ⊎_elim (λ h. names_all a (taking so x) xs (names_taking so x a ∙ ap (λ (b : Bool). any (names a) so || b) (eq-eqb (atom x) a (ap atom (sym h) ∙ e)) ∙ or-true (any (names a) so)))
    (λ k. names_taken a (taking so x) xs l k e) (cases_cons m)

-- ---- the branch order

-- each of these atoms is named once, and nothing else is
pub record NamesEachOnce (atoms : List ℕ) (order : List Lit) : Type 0 where
  pub apart : Apart atoms order
  pub named : (a : ℕ) → Mem a atoms → Mem a (map atom order)
  pub counted : length order ≡ length atoms

-- where the objectives are of atoms that are given values, and no such atom is listed twice
pub branch_once : (x : Sheet) → Distinct (valued x) → ((l : Lit) → Mem l x.objectives → Mem (atom l) (valued x)) → NamesEachOnce (valued x) (branch x)
unfolding branch
branch_once x distinct inside =
    record {
      apart = apart;
      named = named;
      counted = sym (length-map (branch x) atom) ∙ le_antisymm (distinct_fit (map atom (branch x)) (valued x) apart.once within) (distinct_fit (valued x) (map atom (branch x)) distinct named);
    }
  where
    taken : (l : Lit) → Mem l (readings x) → Mem (atom l) (valued x)
    taken l m =
        ⊎_elim (inside l) (λ k. let u = of_map pos (valued x) k in subst (λ (y : Lit). Mem (atom y) (valued x)) u.2 u.1) (append_cases x.objectives m)

    apart : Apart (valued x) (branch x)
    apart = taking_all_apart (valued x) [] (readings x) (record { once = tt; only = λ l m. absurd (not-nil m) }) taken

    within : (a : ℕ) → Mem a (map atom (branch x)) → Mem a (valued x)
    within a m = let u = of_map atom (branch x) m in cast (sym u.2) (apart.only u.0 u.1)

    named : (a : ℕ) → Mem a (valued x) → Mem a (map atom (branch x))
    named a m =
        let u = any_out (names a) (branch x) (names_taken a [] (readings x) (pos a) (append_right x.objectives (mem_map pos m)) refl) in
        cast (sym (eqb-true (atom u.0) a u.2)) (mem_map atom u.1)

pub names_each_once : (s : List ℕ) → Accepted s → NamesEachOnce (valued (sheet_of s)) (branch (sheet_of s))
names_each_once s ok = branch_once (sheet_of s) (up_to_apart (sheet_of s).atoms) (objectives_valued s ok)
