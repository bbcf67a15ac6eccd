-- The branch order in its buffer: one literal more, and the whole of it. Assumes nothing.
use Rattle.std.proofs.Common.{ℕ, suc, ◌+◌, ◌-◌, ◌≤◌, ◌<◌, true, false, ◌||◌, List, [], ◌∷◌, ◌++◌, map, ◌≡◌, refl, sym, ap, ◌∙◌, subst, arith, length, drop, take, eq-eqb, eqb, add-one, ap₂, eqb-true, set, length-append, length-drop, take-suc}
use Rattle.std.proofs.lemmas.List.{length-map, map-append}
use Rattle.prepare.specs.Carried.{Ordered}
use Rattle.prepare.specs.declared.order.Order.{Order}
use Rattle.sheet.proofs.BranchLaws.{taking_old, taking_new, names_taking, taking_append}
use Rattle.sheet.specs.Layout.{byte, atom_count, objective_bytes}
use Rattle.sheet.specs.Literals.{Lit, pos, atom, literal, byte_of}
use Rattle.sheet.specs.Order.{up_to, names, taking, taking_all, branch}
use Rattle.sheet.specs.Reading.{sheet_of}
use Rattle.words.proofs.Bits.{has_adding, has_none}
use Rattle.words.proofs.Bools.{same_test}
use Rattle.words.proofs.Lists.{put_over, map_below_next}
use Rattle.words.specs.Lists.{over}
use Rattle.words.specs.Positions.{has, adding}

-- one entry more of a list, and one atom more
pub taking_next : (so : List Lit) (bs : List ℕ) (i : ℕ) → i < length bs
    → taking_all so (map literal (take (i + 1) bs)) ≡ taking (taking_all so (map literal (take i bs))) (literal (byte bs i))
taking_next so bs i h =
    ap (λ (l : List ℕ). taking_all so (map literal l)) (ap (λ (k : ℕ). take k bs) (add-one i) ∙ take-suc bs i 0 h)
    ∙ ap (taking_all so) (map-append literal (take i bs) (byte bs i ∷ []))
    ∙ taking_append so (map literal (take i bs)) (literal (byte bs i) ∷ [])

pub taking_atom : (so : List Lit) (a : ℕ) → taking_all so (map pos (up_to (a + 1))) ≡ taking (taking_all so (map pos (up_to a))) (pos (a + 1))
taking_atom so a =
    ap (taking_all so) (ap (map pos) (map_below_next suc a) ∙ map-append pos (up_to a) (suc a ∷ []))
    ∙ taking_append so (map pos (up_to a)) (pos (suc a) ∷ [])
    ∙ ap (λ (k : ℕ). taking (taking_all so (map pos (up_to a))) (pos k)) (sym (add-one a))

-- ---- the order in its buffer

pub nothing_ordered : (o : Order) → o.count ≡ 0 → o.atoms ≡ 0 → Ordered [] o.bytes.now o
nothing_ordered o none empty = record { counted = none; named = λ a _. ap (λ (w : ℕ). has w (a - 1)) empty ∙ has_none (a - 1); written = refl }

module _ {so : List Lit} {before : List ℕ} {o : Order} (l : Lit) (is : Ordered so before o) where
  as_many : length (map byte_of so) ≡ o.count
  as_many = length-map so byte_of ∙ sym is.counted

  -- the set has the atom where the order names it
  pub keeps : 1 ≤ atom l → has o.atoms (atom l - 1) ≡ true → Ordered (taking so l) before o
  keeps some t =
      let e : taking so l ≡ so = taking_old so l (sym (is.named (atom l) some) ∙ t) in
      subst (λ (x : List Lit). Ordered x before o) (sym e) is

  -- a place that the buffer has was there before
  was_there : o.count < length o.bytes.now → o.count < length before
  was_there h =
      let bytes = map byte_of so in
      omega (arith, as_many, ap length is.written ∙ length-append bytes (drop (length bytes) before), length-drop (length bytes) before)

  -- the order after it: a byte, a number and an atom more
  pub puts : 1 ≤ atom l → has o.atoms (atom l - 1) ≡ false → o.count < length o.bytes.now → {v : ℕ} {o' : Order}
      → o'.count ≡ o.count + 1 → o'.atoms ≡ adding o.atoms (atom l - 1) → v ≡ byte_of l → o'.bytes.now ≡ set o.bytes.now o.count v
      → Ordered (taking so l) before o'
  puts some t fits {v} {o'} more f g w =
      record {
        counted = more ∙ ap (λ (k : ℕ). k + 1) is.counted ∙ sym (length-append so (l ∷ [])) ∙ ap length (sym e);
        named = λ a h. ap (λ (x : ℕ). has x (a - 1)) f ∙ has_adding o.atoms (atom l - 1) (a - 1) ∙ ap₂ ◌||◌ (is.named a h) (same_atom a h) ∙ sym (names_taking so l a);
        written =
            w ∙ ap₂ (λ (x : List ℕ) (y : ℕ). set x o.count y) is.written g
            ∙ put_over (map byte_of so) before o.count (byte_of l) 0 as_many (was_there fits)
            ∙ ap (λ (x : List ℕ). over x before) (sym (map-append byte_of so (l ∷ [])) ∙ ap (map byte_of) (sym e));
      }
    where
      e : taking so l ≡ so ++ (l ∷ [])
      e = taking_new so l (sym (is.named (atom l) some) ∙ t)

      same_atom : (a : ℕ) → 1 ≤ a → eqb (a - 1) (atom l - 1) ≡ names a l
      same_atom a h =
          same_test (eqb (a - 1) (atom l - 1)) (eqb (atom l) a)
          (λ t. let q = eqb-true (a - 1) (atom l - 1) t in eq-eqb (atom l) a (omega arith))
          (λ t. let q = eqb-true (atom l) a t in eq-eqb (a - 1) (atom l - 1) (omega arith))

-- the objectives first, then the atoms
pub branch_is : (s : List ℕ) {os : List ℕ} {n : ℕ} → os ≡ objective_bytes s → n ≡ atom_count s
    → taking_all (taking_all [] (map literal os)) (map pos (up_to n)) ≡ branch (sheet_of s)
unfolding branch sheet_of
branch_is s e f =
    (λ i. taking_all (taking_all [] (map literal (e i))) (map pos (up_to (f i))))
    ∙ sym (taking_append [] (map literal (objective_bytes s)) (map pos (up_to (atom_count s))))
