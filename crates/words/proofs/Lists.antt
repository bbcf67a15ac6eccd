-- Tests over lists, one entry after the other, as a loop goes through them. Assumes nothing.
use Rattle.std.proofs.Common.{ℕ, zero, suc, ◌+◌, ◌-◌, ◌≤◌, ◌<◌, Bool, true, false, List, [], ◌∷◌, ◌++◌, map, ⊎_elim, ◌≡◌, refl, sym, ap, ◌∙◌, subst, eq-or-lt_of_le, le_of_suc-le-suc, add-one, arith, length, get_or, take, drop, set, drop_of_length-le}
use Rattle.std.proofs.lemmas.List.{drop_more, length_push, length-take, map-append, get_or_at, set_at}
use Rattle.std.proofs.Math.ListN.{get_or-append}
use Rattle.std.proofs.Math.Seq.{append_snoc}
use Rattle.words.specs.Lists.{any, all, over, below}

module _ {A : Type 0} (f : A → Bool) (d : A) (xs : List A) (i : ℕ) where
  pub any_next : {b : Bool} → i < length xs → f (get_or xs i d) ≡ b → any f (drop i xs) ≡ elim b [ true ↦ true | false ↦ any f (drop (i + 1) xs) ]
  any_next h e =
      ap (any f) (drop_more xs i d h) ∙ ap (λ (b : Bool). elim b as (λ _. Bool) [ true ↦ true | false ↦ any f (drop (i + 1) xs) ]) e

  pub any_end : length xs ≤ i → any f (drop i xs) ≡ false
  any_end h = ap (any f) (drop_of_length-le xs h)

  pub all_next : {b : Bool} → i < length xs → f (get_or xs i d) ≡ b → all f (drop i xs) ≡ elim b [ true ↦ all f (drop (i + 1) xs) | false ↦ false ]
  all_next h e =
      ap (all f) (drop_more xs i d h) ∙ ap (λ (b : Bool). elim b as (λ _. Bool) [ true ↦ all f (drop (i + 1) xs) | false ↦ false ]) e

  pub all_end : length xs ≤ i → all f (drop i xs) ≡ true
  all_end h = ap (all f) (drop_of_length-le xs h)

-- ---- the numbers below n

pub length_below : (n : ℕ) → length (below n) ≡ n
unfolding below
length_below zero = refl
length_below (suc n) = length_push (below n) n ∙ ap (λ (k : ℕ). k + 1) (length_below n) ∙ add-one n

pub get_or_below : (n i : ℕ) → i < n → get_or (below n) i 0 ≡ i
unfolding below
get_or_below zero i h = absurd (omega arith)
get_or_below (suc n) i h = ⊎_elim last (λ l. earlier l (get_or_below n i l)) (eq-or-lt_of_le (le_of_suc-le-suc h))
  where
    last : i ≡ n → get_or (below n ++ (n ∷ [])) i 0 ≡ i
    last e = get_or_at (below n) n [] 0 i (length_below n ∙ sym e) ∙ sym e

    earlier : i < n → get_or (below n) i 0 ≡ i → get_or (below n ++ (n ∷ [])) i 0 ≡ i
    earlier l e = get_or-append (below n) (n ∷ []) 0 i (subst (λ (k : ℕ). i < k) (sym (length_below n)) l) ∙ e

-- from the end back: the number before i, and those from i on
pub numbers_back : (n i : ℕ) → 0 < i → i ≤ n → drop (i - 1) (below n) ≡ (i - 1) ∷ drop i (below n)
numbers_back n i some h =
    let at : i - 1 + 1 ≡ i = omega arith in
    drop_more (below n) (i - 1) 0 (subst (λ (k : ℕ). i - 1 < k) (sym (length_below n)) (omega arith))
    ∙ (λ j. get_or_below n (i - 1) (omega arith) j ∷ drop (at j) (below n))

module _ (f : ℕ → Bool) (n i : ℕ) where
  still_below : i < n → i < length (below n)
  still_below h = subst (λ (k : ℕ). i < k) (sym (length_below n)) h

  past_below : n ≤ i → length (below n) ≤ i
  past_below h = subst (λ (k : ℕ). k ≤ i) (sym (length_below n)) h

  pub any_number : {b : Bool} → i < n → f i ≡ b → any f (drop i (below n)) ≡ elim b [ true ↦ true | false ↦ any f (drop (i + 1) (below n)) ]
  any_number h e = any_next f 0 (below n) i (still_below h) (ap f (get_or_below n i h) ∙ e)

  pub any_numbers_end : n ≤ i → any f (drop i (below n)) ≡ false
  any_numbers_end h = any_end f 0 (below n) i (past_below h)

  pub all_number : {b : Bool} → i < n → f i ≡ b → all f (drop i (below n)) ≡ elim b [ true ↦ all f (drop (i + 1) (below n)) | false ↦ false ]
  all_number h e = all_next f 0 (below n) i (still_below h) (ap f (get_or_below n i h) ∙ e)

  pub all_numbers_end : n ≤ i → all f (drop i (below n)) ≡ true
  all_numbers_end h = all_end f 0 (below n) i (past_below h)

-- what can be taken whole is there
pub taken_fits : {A : Type 0} (n : ℕ) (xs : List A) → length (take n xs) ≡ n → n ≤ length xs
taken_fits n xs e = omega (arith, length-take n xs, e)

-- ---- a list that is filled from the front

put_next : {A : Type 0} (xs d : List A) (i : ℕ) (v z : A) → length xs ≡ i → i < length d → set (xs ++ drop i d) i v ≡ (xs ++ (v ∷ [])) ++ drop (i + 1) d
put_next xs d i v z e h =
    ap (λ l. set (xs ++ l) i v) (drop_more d i z h) ∙ set_at xs (get_or d i z) (drop (i + 1) d) v i e ∙ sym (append_snoc xs v (drop (i + 1) d))

pub put_over : {A : Type 0} (xs d : List A) (i : ℕ) (v z : A) → length xs ≡ i → i < length d → set (over xs d) i v ≡ over (xs ++ (v ∷ [])) d
put_over xs d i v z e h =
    ap (λ (k : ℕ). set (xs ++ drop k d) i v) e
    ∙ put_next xs d i v z e h
    ∙ ap (λ (k : ℕ). (xs ++ (v ∷ [])) ++ drop k d) (sym (length_push xs v ∙ ap (λ (k : ℕ). k + 1) e))

pub map_below_next : {B : Type 0} (f : ℕ → B) (i : ℕ) → map f (below (i + 1)) ≡ map f (below i) ++ (f i ∷ [])
unfolding below
map_below_next f i = ap (λ (k : ℕ). map f (below k)) (add-one i) ∙ map-append f (below i) (i ∷ [])
