-- The document's table says exactly one thing of every list of bytes. Assumes nothing.
use Rattle.std.proofs.Common.{ℕ, Bool, true, false, List, [], ◌∷◌, ◌++◌, ⊎_elim, ◌≡◌, refl, sym, ap, ◌∙◌, subst}
use Rattle.std.proofs.lemmas.Bool.{false≢true}
use mathlib.Core.List.Memᴰ.{append_right, cases_cons, head, not-nil, tail}
use mathlib.Core.List.{Memᴰ as Mem}
use Rattle.sheet.specs.Reading.{Row, table, first_of, Sheet, sheet_of, Reading, refused, understood, read, Accepted}

-- the row applies, and none before it does
pub record FirstRow (rows : List Row) (r : Row) : Type 0 where
  pub before : List Row
  pub after : List Row
  pub place : rows ≡ before ++ r ∷ after
  pub applies : r.applies ≡ true
  pub alone : (x : Row) → Mem x before → x.applies ≡ false

-- what a table says: the number of its first row that applies; or, where none applies, that the sheet is understood as x
abbrev pub Says : List Row → Sheet → Reading → Type 0
Says rows x (refused c) = (r : Row) × FirstRow rows r × (r.code ≡ c)
Says rows x (understood y) = ((r : Row) → Mem r rows → r.applies ≡ false) × (y ≡ x)

-- ---- it says what `first_of` answers

first_yes : (r : Row) (rows : List Row) (v : Reading) → r.applies ≡ true → first_of (r ∷ rows) v ≡ refused r.code
first_yes r rows v e = rw (e, first_of)

first_no : (r : Row) (rows : List Row) (v : Reading) → r.applies ≡ false → first_of (r ∷ rows) v ≡ first_of rows v
first_no r rows v e = rw (e, first_of)

later : (r : Row) (rows : List Row) (x : Sheet) (v : Reading) → r.applies ≡ false → Says rows x v → Says (r ∷ rows) x v
later r rows x (refused c) e says =
    let f = says.1 in (
      says.0,
      record {
        before = r ∷ f.before;
        after = f.after;
        place = ap (λ (l : List Row). r ∷ l) f.place;
        applies = f.applies;
        alone = λ y m. ⊎_elim (λ h. ap (λ (z : Row). z.applies) h ∙ e) (f.alone y) (cases_cons m);
      },
      says.2,
    )
later r rows x (understood y) e says = (λ z m. ⊎_elim (λ h. ap (λ (w : Row). w.applies) h ∙ e) (says.0 z) (cases_cons m), says.1)

pub first_says : (rows : List Row) (x : Sheet) → Says rows x (first_of rows (understood x))
first_says [] x = (λ r m. absurd (not-nil m), refl)
first_says (r ∷ rows) x = go r.applies refl (first_says rows x)
  where
    go : (b : Bool) → r.applies ≡ b → Says rows x (first_of rows (understood x)) → Says (r ∷ rows) x (first_of (r ∷ rows) (understood x))
    go true e below =
        subst (Says (r ∷ rows) x) (sym (first_yes r rows (understood x) e))
        (r, record { before = []; after = rows; place = refl; applies = e; alone = λ y m. absurd (not-nil m) }, refl)
    go false e below = subst (Says (r ∷ rows) x) (sym (first_no r rows (understood x) e)) (later r rows x (first_of rows (understood x)) e below)

-- ---- and nothing else

module _ (r : Row) (rows : List Row) {q : Row} (f : FirstRow (r ∷ rows) q) where
  -- the first row that applies is the first row, where that applies
  here : r.applies ≡ true → q ≡ r
  here e = go f.before f.place f.alone
    where
      go : (before : List Row) → r ∷ rows ≡ before ++ q ∷ f.after → ((x : Row) → Mem x before → x.applies ≡ false) → q ≡ r
      go [] p alone = cc
      go (b ∷ bs) p alone = let same : b ≡ r = cc in absurd (false≢true (sym (alone b (head refl)) ∙ ap (λ (z : Row). z.applies) same ∙ e))

  -- and otherwise the first of the others
  further : r.applies ≡ false → FirstRow rows q
  further e = go f.before f.place f.alone
    where
      go : (before : List Row) → r ∷ rows ≡ before ++ q ∷ f.after → ((x : Row) → Mem x before → x.applies ≡ false) → FirstRow rows q
      go [] p alone = let same : r ≡ q = cc in absurd (false≢true (sym e ∙ ap (λ (z : Row). z.applies) same ∙ f.applies))
      go (b ∷ bs) p alone = record { before = bs; after = f.after; place = cc; applies = f.applies; alone = λ x m. alone x (tail m) }

pub only : (rows : List Row) (x : Sheet) (v : Reading) → Says rows x v → v ≡ first_of rows (understood x)
only [] x (refused c) says = let f = says.1 in absurd (not-nil (subst (Mem says.0) (sym f.place) (append_right f.before (head refl))))
only [] x (understood y) says = ap understood says.1
only (r ∷ rows) x (refused c) says = go r.applies refl (λ s. only rows x (refused c) s)
  where
    go : (b : Bool) → r.applies ≡ b → (Says rows x (refused c) → refused c ≡ first_of rows (understood x)) → refused c ≡ first_of (r ∷ rows) (understood x)
    go true e below = ap refused (sym says.2 ∙ ap (λ (z : Row). z.code) (here r rows says.1 e)) ∙ sym (first_yes r rows (understood x) e)
    go false e below = below (says.0, further r rows says.1 e, says.2) ∙ sym (first_no r rows (understood x) e)
only (r ∷ rows) x (understood y) says =
    only rows x (understood y) (λ z m. says.0 z (tail m), says.1) ∙ sym (first_no r rows (understood x) (says.0 r (head refl)))

-- ---- of a sheet

-- every list of bytes is refused with one number or understood as one sheet, as the table says
pub exactly_one : (s : List ℕ) → Says (table s) (sheet_of s) (read s) × ((v : Reading) → Says (table s) (sheet_of s) v → v ≡ read s)
unfolding read
exactly_one s = (first_says (table s) (sheet_of s), only (table s) (sheet_of s))

-- a sheet that is understood is accepted, and understood as what its bytes say
pub understood_accepted : (s : List ℕ) {x : Sheet} → read s ≡ understood x → Accepted s
understood_accepted s {x} e = e ∙ ap understood (subst (Says (table s) (sheet_of s)) e (exactly_one s).0).1
