-- Tests over lists by the members of the list, and lists in which no entry stands twice. Assumes nothing.
use Rattle.std.proofs.Common.{ℕ, zero, suc, ◌≤◌, ◌<◌, Bool, true, false, ◌&&◌, ◌||◌, List, [], ◌∷◌, ◌++◌, ⊎_elim, ◌≡◌, refl, sym, ap, ◌∙◌, eq-or-lt_of_le, le_of_suc-le-suc, arith, length, get_or, MatchBool}
use Rattle.std.proofs.lemmas.Bool.{false≢true, false_from_ne_true}
use mathlib.Core.List.Memᴰ.{append_cases, append_left, append_right, cases_cons, cast, eq_of_singleton, head, not-nil, tail}
use mathlib.Core.List.{Memᴰ as Mem}
use Rattle.words.specs.Lists.{any, all, pick, below, Distinct}

-- ---- tests and members

module _ {A : Type 0} (f : A → Bool) where
  pub any_in : (xs : List A) (x : A) → Mem x xs → f x ≡ true → any f xs ≡ true
  any_in [] x h t = absurd (not-nil h)
  any_in (y ∷ xs) x h t = go (f y) refl (λ k. any_in xs x k t)
    where
      go : (b : Bool) → f y ≡ b → (Mem x xs → any f xs ≡ true) → any f (y ∷ xs) ≡ true
      go true e later = rw (e, any)
      go false e later = rw (e, any) (⊎_elim (λ e'. absurd (false≢true (sym e ∙ ap f (sym e') ∙ t))) later (cases_cons h))

  pub any_out : (xs : List A) → any f xs ≡ true → (x : A) × Mem x xs × (f x ≡ true)
  any_out [] h = absurd (false≢true h)
  any_out (y ∷ xs) h = go (f y) refl (λ k. any_out xs k)
    where
      go : (b : Bool) → f y ≡ b → (any f xs ≡ true → (x : A) × Mem x xs × (f x ≡ true)) → (x : A) × Mem x (y ∷ xs) × (f x ≡ true)
      go true e later = (y, head refl, e)
      go false e later = let u = later (rw (e, any) at h) in (u.0, tail u.1, u.2)

  pub any_none : (xs : List A) → any f xs ≡ false → (x : A) → Mem x xs → f x ≡ false
  any_none xs e x h = go (f x) refl
    where
      go : (b : Bool) → f x ≡ b → f x ≡ false
      go true t = absurd (false≢true (sym e ∙ any_in xs x h t))
      go false t = t

  pub all_in : (xs : List A) → ((x : A) → Mem x xs → f x ≡ true) → all f xs ≡ true
  all_in [] each = refl
  all_in (y ∷ xs) each = rw (each y (head refl), all) (all_in xs (λ x k. each x (tail k)))

  pub all_out : (xs : List A) → all f xs ≡ true → (x : A) → Mem x xs → f x ≡ true
  all_out [] h x k = absurd (not-nil k)
  all_out (y ∷ xs) h x k = go (f y) refl (λ t j. all_out xs t x j)
    where
      go : (b : Bool) → f y ≡ b → (all f xs ≡ true → Mem x xs → f x ≡ true) → f x ≡ true
      go true e later = ⊎_elim (λ e'. ap f e' ∙ e) (later (rw (e, all) at h)) (cases_cons k)
      go false e later = absurd (false≢true (rw (e, all) at h))

  pub any_append : (xs ys : List A) → any f (xs ++ ys) ≡ (any f xs || any f ys)
  any_append [] ys = refl
  any_append (x ∷ xs) ys = go (f x) refl (any_append xs ys)
    where
      go : (b : Bool) → f x ≡ b → any f (xs ++ ys) ≡ (any f xs || any f ys) → any f (x ∷ (xs ++ ys)) ≡ (any f (x ∷ xs) || any f ys)
      go true e later = rw (e, any)
      go false e later = rw (e, any) later

  pub pick_append : (xs ys : List A) → pick f (xs ++ ys) ≡ pick f xs ++ pick f ys
  pick_append [] ys = refl
  pick_append (x ∷ xs) ys = go (f x) refl (pick_append xs ys)
    where
      go : (b : Bool) → f x ≡ b → pick f (xs ++ ys) ≡ pick f xs ++ pick f ys → pick f (x ∷ (xs ++ ys)) ≡ pick f (x ∷ xs) ++ pick f ys
      go true e later = rw (e, pick) (ap (λ (l : List A). x ∷ l) later)
      go false e later = rw (e, pick) later

  pub any_cons : (x : A) (xs : List A) → any f (x ∷ xs) ≡ (f x || any f xs)
  any_cons x xs = go (f x) refl
    where
      go : (b : Bool) → f x ≡ b → any f (x ∷ xs) ≡ (f x || any f xs)
      go true e = rw (e, any)
      go false e = rw (e, any)

  pub all_cons : (x : A) (xs : List A) → all f (x ∷ xs) ≡ (f x && all f xs)
  all_cons x xs = go (f x) refl
    where
      go : (b : Bool) → f x ≡ b → all f (x ∷ xs) ≡ (f x && all f xs)
      go true e = rw (e, all)
      go false e = rw (e, all)

  pub pick_yes : (x : A) (xs : List A) → f x ≡ true → pick f (x ∷ xs) ≡ x ∷ pick f xs
  pick_yes x xs e = rw (e, pick)

  pub pick_no : (x : A) (xs : List A) → f x ≡ false → pick f (x ∷ xs) ≡ pick f xs
  pick_no x xs e = rw (e, pick)

  pub pick_in : (xs : List A) (x : A) → Mem x xs → f x ≡ true → Mem x (pick f xs)
  pick_in [] x h t = absurd (not-nil h)
  pick_in (y ∷ xs) x h t = go (f y) refl (λ k. pick_in xs x k t)
    where
      go : (b : Bool) → f y ≡ b → (Mem x xs → Mem x (pick f xs)) → Mem x (pick f (y ∷ xs))
      go true e later = rw (e, pick) (⊎_elim (λ e'. head e') (λ k. tail (later k)) (cases_cons h))
      go false e later = rw (e, pick) (⊎_elim (λ e'. absurd (false≢true (sym e ∙ ap f (sym e') ∙ t))) later (cases_cons h))

  pub pick_out : (xs : List A) (x : A) → Mem x (pick f xs) → Mem x xs × (f x ≡ true)
  pick_out [] x h = absurd (not-nil h)
  pick_out (y ∷ xs) x h = go (f y) refl (λ k. pick_out xs x k)
    where
      go : (b : Bool) → f y ≡ b → (Mem x (pick f xs) → Mem x xs × (f x ≡ true)) → Mem x (y ∷ xs) × (f x ≡ true)
      go true e later = ⊎_elim (λ e'. (head e', ap f e' ∙ e)) (λ k. let u = later k in (tail u.0, u.1)) (cases_cons (rw (e, pick) at h))
      go false e later = let u = later (rw (e, pick) at h) in (tail u.0, u.1)

-- ---- members and places

module _ {A : Type 0} (d : A) where
  pub mem_at : (xs : List A) (i : ℕ) → i < length xs → Mem (get_or xs i d) xs
  mem_at [] i h = absurd (omega arith)
  mem_at (x ∷ xs) zero h = head refl
  mem_at (x ∷ xs) (suc i) h = tail (mem_at xs i (le_of_suc-le-suc h))

  pub at_mem : (xs : List A) (x : A) → Mem x xs → (i : ℕ) × (i < length xs) × (get_or xs i d ≡ x)
  at_mem [] x h = absurd (not-nil h)
  at_mem (y ∷ xs) x h =
      ⊎_elim (λ e. (0, omega arith, sym e)) (λ k. let u = at_mem xs x k in (suc u.0, (let lt = u.1 in omega arith), u.2)) (cases_cons h)

  -- a test of the whole list by what was found of its places
  pub any_found : (f : A → Bool) (xs : List A) {r : Bool} → MatchBool r ((k : ℕ) × (k < length xs) × (f (get_or xs k d) ≡ true)) ((k : ℕ) → k < length xs → f (get_or xs k d) ≡ false) → r ≡ any f xs
  any_found f xs {r = true} u = sym (any_in f xs (get_or xs u.0 d) (mem_at xs u.0 u.1) u.2)
  any_found f xs {r = false} each =
      sym (false_from_ne_true (any f xs) (λ e. let u = any_out f xs e in let v = at_mem xs u.0 u.1 in false≢true (sym (each v.0 v.1) ∙ ap f v.2 ∙ u.2)))

-- ---- the numbers below n

pub in_below : (n i : ℕ) → i < n → Mem i (below n)
unfolding below
in_below zero i h = absurd (omega arith)
in_below (suc n) i h =
    ⊎_elim (λ e. append_right (below n) (head e)) (λ l. append_left (n ∷ []) (in_below n i l)) (eq-or-lt_of_le (le_of_suc-le-suc h))

pub below_in : (n i : ℕ) → Mem i (below n) → i < n
unfolding below
below_in zero i h = absurd (not-nil h)
below_in (suc n) i h =
    ⊎_elim (λ k. let lt = below_in n i k in omega arith) (λ k. let e = eq_of_singleton k in omega arith) (append_cases (below n) h)

-- ---- no entry stands twice

module _ {A : Type 0} where
  pub distinct_snoc : (xs : List A) (x : A) → Distinct xs → (Mem x xs → ⊥) → Distinct (xs ++ (x ∷ []))
  distinct_snoc [] x d n = (λ h. not-nil h, tt)
  distinct_snoc (y ∷ xs) x d n =
      (λ h. ⊎_elim d.0 (λ k. n (head (sym (eq_of_singleton k)))) (append_cases xs h), distinct_snoc xs x d.1 (λ h. n (tail h)))

  -- the list without one of its entries
  abbrev without : {x : A} {ys : List A} → Mem x ys → List A
  without (head {xs = ys} e) = ys
  without (tail {x = y} h) = y ∷ without h

  without_length : {x : A} {ys : List A} (h : Mem x ys) → length ys ≡ suc (length (without h))
  without_length (head e) = refl
  without_length (tail h) = ap suc (without_length h)

  without_mem : {x z : A} {ys : List A} (h : Mem x ys) → Mem z ys → (z ≡ x → ⊥) → Mem z (without h)
  without_mem (head e) k n = ⊎_elim (λ e'. absurd (n (e' ∙ sym e))) (λ k'. k') (cases_cons k)
  without_mem (tail h) k n = ⊎_elim (λ e'. head e') (λ k'. tail (without_mem h k' n)) (cases_cons k)

  -- distinct entries of a list are no more than the list has
  pub distinct_fit : (xs ys : List A) → Distinct xs → ((x : A) → Mem x xs → Mem x ys) → length xs ≤ length ys
  distinct_fit [] ys d h = omega arith
  distinct_fit (x ∷ xs) ys d h =
      let hx : Mem x ys = h x (head refl) in
      omega (
        arith,
        without_length hx,
        distinct_fit xs (without hx) d.1 (λ z k. without_mem hx (h z (tail k)) (λ e. d.0 (cast (sym e) k))),
      )

pub distinct_below : (n : ℕ) → Distinct (below n)
unfolding below
distinct_below zero = tt
distinct_below (suc n) = distinct_snoc (below n) n (distinct_below n) (λ h. let lt = below_in n n h in omega arith)
