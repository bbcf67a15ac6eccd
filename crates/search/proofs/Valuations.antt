-- Ways to give values to some atoms: a word is one of them exactly if it has none but their positions. Assumes nothing.
use Prim.Native.Nat.{ℕ, suc, ◌-◌, ◌≤◌}
use mathlib.Core.Bool.{Bool, true, false, not, ◌||◌, false≢true}
use mathlib.Core.List.Memᴰ.{append_cases}
use mathlib.Core.List.Memᴰ.{append_left}
use mathlib.Core.List.Memᴰ.{append_right}
use mathlib.Core.List.Memᴰ.{cases_cons}
use mathlib.Core.List.Memᴰ.{cast}
use mathlib.Core.List.Memᴰ.{eq_of_singleton}
use mathlib.Core.List.Memᴰ.{head}
use mathlib.Core.List.Memᴰ.{map as mem_map}
use mathlib.Core.List.Memᴰ.{not-nil}
use mathlib.Core.List.Memᴰ.{of_map}
use mathlib.Core.List.Memᴰ.{tail}
use mathlib.Core.List.{List, [], ◌∷◌, ◌++◌, map, Memᴰ as Mem}
use mathlib.Core.Logic.{⊎_elim}
use mathlib.Core.Path.{◌≡◌, refl, sym, ap, ◌∙◌}
use native.Mathlib.Omega.{arith}
use lib.Dec.{eqb}
use borrow.Author.Tests.{eq-eqb, eqb-true, not-true}
use Rattle.search.specs.Models.{valuations}
use Rattle.words.proofs.Bits.{has_none, has_adding, has_set_of, same_positions}
use Rattle.words.proofs.Bools.{same_test, or_cases, or_true, refuted}
use Rattle.words.proofs.Members.{any_in, any_out, any_none, pick_in, pick_out}
use Rattle.words.specs.Lists.{any, pick}
use Rattle.words.specs.Positions.{has, adding, set_of}

-- a position of the word is that of one of the atoms
pub valuation_has : (atoms : List ℕ) → ((a : ℕ) → Mem a atoms → 1 ≤ a) → (m : ℕ) → Mem m (valuations atoms) → (i : ℕ) → has m i ≡ true → Mem (suc i) atoms
unfolding valuations
valuation_has [] some m h i t = absurd (false≢true (sym (ap (λ (w : ℕ). has w i) (eq_of_singleton h) ∙ has_none i) ∙ t))
valuation_has (a ∷ atoms) some m h i t =
    ⊎_elim
    (λ k. let u = of_map (λ w. adding w (a - 1)) (valuations atoms) k in
    ⊎_elim (λ e. tail (valuation_has atoms (λ b l. some b (tail l)) u.0 u.1 i e))
    (λ e. let q = eqb-true i (a - 1) e in let one = some a (head refl) in head (omega arith))
    (or_cases (has u.0 i) (eqb i (a - 1)) (sym (has_adding u.0 (a - 1) i) ∙ ap (λ (w : ℕ). has w i) u.2 ∙ t)))
    (λ k. tail (valuation_has atoms (λ b l. some b (tail l)) m k i t)) (append_cases (map (λ w. adding w (a - 1)) (valuations atoms)) h)

-- the set of a list of positions, without one of them and with it
without_one : (is : List ℕ) (i : ℕ) → any (eqb i) is ≡ true → set_of is ≡ adding (set_of (pick (λ j. not (eqb i j)) is)) i
without_one is i there =
    same_positions (set_of is) (adding (set_of others) i) λ j.
    has_set_of is j ∙ same_test (any (eqb j) is) (any (eqb j) others || eqb j i) (split j) (join j) ∙ sym (has_adding (set_of others) i j ∙ ap (λ (b : Bool). b || eqb j i) (has_set_of others j))
  where
    others : List ℕ
    others = pick (λ j. not (eqb i j)) is

    split : (j : ℕ) → any (eqb j) is ≡ true → (any (eqb j) others || eqb j i) ≡ true
    split j t = go (eqb i j) refl
      where
        go : (b : Bool) → eqb i j ≡ b → (any (eqb j) others || eqb j i) ≡ true
        go true e = ap (λ (b : Bool). any (eqb j) others || b) (eq-eqb j i (sym (eqb-true i j e))) ∙ or_true (any (eqb j) others)
        go false e =
            let u = any_out (eqb j) is t in
            let same : eqb i u.0 ≡ false = ap (eqb i) (sym (eqb-true j u.0 u.2)) ∙ e in
            ap (λ (b : Bool). b || eqb j i) (any_in (eqb j) others u.0 (pick_in (λ k. not (eqb i k)) is u.0 u.1 (ap not same)) u.2)

    join : (j : ℕ) → (any (eqb j) others || eqb j i) ≡ true → any (eqb j) is ≡ true
    join j t =
        ⊎_elim (λ e. let u = any_out (eqb j) others e in any_in (eqb j) is u.0 (pick_out (λ k. not (eqb i k)) is u.0 u.1).0 u.2)
        (λ e. ap (λ (k : ℕ). any (eqb k) is) (eqb-true j i e) ∙ there) (or_cases (any (eqb j) others) (eqb j i) t)

-- every set of their positions is one of them
pub valuation_in : (atoms is : List ℕ) → ((i : ℕ) → Mem i is → Mem (suc i) atoms) → Mem (set_of is) (valuations atoms)
unfolding valuations set_of
valuation_in [] [] each = head refl
valuation_in [] (i ∷ is) each = absurd (not-nil (each i (head refl)))
valuation_in (a ∷ atoms) is each = go (any (eqb (a - 1)) is) refl (valuation_in atoms)
  where
    -- a position that is not a's is that of another of the atoms
    others : (i : ℕ) → Mem i is → eqb (a - 1) i ≡ false → Mem (suc i) atoms
    others i m e =
        ⊎_elim (λ f. let q : a - 1 ≡ i = omega arith in absurd (false≢true (sym e ∙ eq-eqb (a - 1) i q))) (λ k. k) (cases_cons (each i m))

    go : (b : Bool) → any (eqb (a - 1)) is ≡ b → ((js : List ℕ) → ((j : ℕ) → Mem j js → Mem (suc j) atoms) → Mem (set_of js) (valuations atoms))
        → Mem (set_of is) (map (λ w. adding w (a - 1)) (valuations atoms) ++ valuations atoms)
    go true e fewer =
        let rest = pick (λ j. not (eqb (a - 1) j)) is in
        append_left (valuations atoms) (cast (without_one is (a - 1) e)
        (mem_map (λ w. adding w (a - 1)) (fewer rest (λ i m. let u = pick_out (λ j. not (eqb (a - 1) j)) is i m in others i u.0 (not-true _ u.1)))))
    go false e fewer = append_right (map (λ w. adding w (a - 1)) (valuations atoms)) (fewer is (λ i m. others i m (any_none (eqb (a - 1)) is e i m)))

-- two of them with the same positions for the atoms are one
pub valuation_one : (atoms : List ℕ) → ((a : ℕ) → Mem a atoms → 1 ≤ a) → (m u : ℕ) → Mem m (valuations atoms) → Mem u (valuations atoms)
    → ((a : ℕ) → Mem a atoms → has m (a - 1) ≡ has u (a - 1)) → m ≡ u
valuation_one atoms some m u hm hu same = same_positions m u (λ i. go i (any (eqb (suc i)) atoms) refl)
  where
    go : (i : ℕ) (b : Bool) → any (eqb (suc i)) atoms ≡ b → has m i ≡ has u i
    go i true e =
        let a = any_out (eqb (suc i)) atoms e in
        let at : a.0 - 1 ≡ i = let q = eqb-true (suc i) a.0 a.2 in omega arith in
        ap (has m) (sym at) ∙ same a.0 a.1 ∙ ap (has u) at
    go i false e = none m hm ∙ sym (none u hu)
      where
        none : (w : ℕ) → Mem w (valuations atoms) → has w i ≡ false
        none w h = refuted (has w i) λ t.
            false≢true (sym (any_none (eqb (suc i)) atoms e (suc i) (valuation_has atoms some w h i t)) ∙ eq-eqb (suc i) (suc i) refl)
