-- The branch order: one literal more, and which atoms it names. Assumes nothing.
use Rattle.std.proofs.Common.{ℕ, Bool, true, false, ◌||◌, List, [], ◌∷◌, ◌++◌, ◌≡◌, refl, sym, ap, ◌∙◌, eqb-true}
use Rattle.std.proofs.Math.Bool.{or-true, or-false}
use Rattle.sheet.specs.Literals.{Lit, atom}
use Rattle.sheet.specs.Order.{names, taking, taking_all}
use Rattle.words.proofs.Members.{any_append, any_cons}
use Rattle.words.specs.Lists.{any}

-- ---- one literal more

module _ (so : List Lit) (l : Lit) where
  pub taking_old : any (names (atom l)) so ≡ true → taking so l ≡ so
  unfolding taking
  taking_old e = rw (e, taking)

  pub taking_new : any (names (atom l)) so ≡ false → taking so l ≡ so ++ (l ∷ [])
  unfolding taking
  taking_new e = rw (e, taking)

  -- the atoms that are named then
  pub names_taking : (a : ℕ) → any (names a) (taking so l) ≡ (any (names a) so || names a l)
  names_taking a = go (any (names (atom l)) so) refl
    where
      same : any (names (atom l)) so ≡ true → (b : Bool) → names a l ≡ b → any (names a) so ≡ (any (names a) so || b)
      same e true h = let t = ap (λ (x : ℕ). any (names x) so) (sym (eqb-true (atom l) a h)) ∙ e in t ∙ sym (or-true (any (names a) so))
      same e false h = sym (or-false (any (names a) so))

      go : (b : Bool) → any (names (atom l)) so ≡ b → any (names a) (taking so l) ≡ (any (names a) so || names a l)
      go true e = ap (any (names a)) (taking_old e) ∙ same e (names a l) refl
      go false e = ap (any (names a)) (taking_new e) ∙ any_append (names a) so (l ∷ []) ∙ ap (λ (b : Bool). any (names a) so || b) (any_cons (names a) l [] ∙ or-false (names a l))

pub taking_append : (so xs ys : List Lit) → taking_all so (xs ++ ys) ≡ taking_all (taking_all so xs) ys
taking_append so [] ys = refl
taking_append so (x ∷ xs) ys = taking_append (taking so x) xs ys
