-- What the theory of the search tells of an answer is what the demands ask of it. Assumes nothing.
use Prim.Native.Nat.{ℕ}
use mathlib.Core.Bool.{Bool, true, false, not}
use mathlib.Core.List.Memᴰ.{append_cases}
use mathlib.Core.List.Memᴰ.{cases_cons}
use mathlib.Core.List.{Memᴰ as Mem}
use mathlib.Core.Logic.{◌⊎◌, inl, inr, ⊎_elim}
use mathlib.Core.Path.{◌≡◌, refl, ap, ◌∙◌, subst}
use Rattle.search.proofs.Closing.{Closes}
use Rattle.search.proofs.Entries.{Sorted, sorted_later}
use Rattle.search.proofs.Fair.{tops, Unbeaten, FirstUnbeaten}
use Rattle.search.proofs.FairGame.{fair}
use Rattle.search.proofs.Nodes.{holds_complement}
use Rattle.search.proofs.Preferring.{Sensible}
use Rattle.search.proofs.ReadingOrder.{leaves_sorted}
use Rattle.search.proofs.WellFormed.{WellFormed}
use Rattle.search.proofs.Walking.{leaves}
use Rattle.search.specs.Demands.{First}
use Rattle.search.specs.Grown.{Rule, candidate_clauses, game}
use Rattle.search.specs.Maximal.{maximal_parts}
use Rattle.search.specs.Models.{holds, models, affirming, denying, Preference, Optimal, earlier}
use Rattle.sheet.specs.Literals.{Lit, complement, atom}
use Rattle.sheet.specs.Order.{valued}
use Rattle.sheet.specs.Reading.{Sheet}
use Rattle.words.proofs.Members.{pick_in, pick_out}

module _ (rule : Rule) (p : Preference) (x : Sheet) (q : Lit) where
  -- ---- the numbers of demand 3

  pub tops_affirming : tops (game rule p x q) (affirming x q) ≡ maximal_parts p x (affirming x q)
  unfolding game maximal_parts
  tops_affirming = refl

  pub tops_denying : tops (game rule p x q) (denying x q) ≡ maximal_parts p x (denying x q)
  unfolding game maximal_parts
  tops_denying = refl

  -- ---- unbeaten models are the optimal ones

  pub affirming_in : (m : ℕ) → Mem m (models x) → holds m q ≡ true → Mem m (affirming x q)
  affirming_in = pick_in (λ m. holds m q) (models x)

  -- a model affirms or denies
  sided : (m : ℕ) → Mem m (models x) → Mem m (affirming x q) ⊎ Mem m (denying x q)
  sided m is = go (holds m q) refl
    where
      go : (b : Bool) → holds m q ≡ b → Mem m (affirming x q) ⊎ Mem m (denying x q)
      go true e = inl (affirming_in m is e)
      go false e = inr (pick_in (λ m. holds m (complement q)) (models x) m is (holds_complement m q ∙ ap not e))

  pub optimal_unbeaten : (m : ℕ) → Optimal p x m → Unbeaten (game rule p x q) (affirming x q) (denying x q) m
  unfolding game
  optimal_unbeaten m o u side =
      o.unbeaten u (⊎_elim (λ h. (pick_out (λ m. holds m q) (models x) u h).0) (λ h. (pick_out (λ m. holds m (complement q)) (models x) u h).0) side)

  unbeaten_optimal : (m : ℕ) → Mem m (models x) → Unbeaten (game rule p x q) (affirming x q) (denying x q) m → Optimal p x m
  unfolding game
  unbeaten_optimal m is unbeaten = record { model = is; unbeaten = λ u model. unbeaten u (sided u model) }

  -- ---- the first candidate that nothing beats

  module _ (closes : Closes rule) (form : WellFormed x) (sensible : Sensible p x) (asked : Mem (atom q) (valued x)) where
    candidates_sorted : Sorted (earlier x) (leaves (game rule p x q).candidates)
    unfolding game
    candidates_sorted = leaves_sorted x form.from_one form.once (rule (candidate_clauses x q))

    -- an optimal model that satisfies q is a candidate: one before m would be unbeaten too, and one after it is later in reading order
    pub first_right : (m : ℕ) → FirstUnbeaten (game rule p x q) (affirming x q) (denying x q) m → First p x q m
    first_right m f =
        record {
          optimal = unbeaten_optimal m is.0 f.unbeaten;
          affirms = is.1;
          first = λ u o t.
              let walked = subst (Mem u) f.place ((fair rule closes x form p sensible q asked).affirming_walked u (affirming_in u o.model t)) in
              ⊎_elim (λ h. absurd (f.none u h (optimal_unbeaten u o))) (λ h. ⊎_elim (λ e. inl e) (λ k. inr (later u k)) (cases_cons h))
              (append_cases f.before walked);
        }
      where
        is : Mem m (models x) × (holds m q ≡ true)
        is = pick_out (λ m. holds m q) (models x) m f.affirms

        later : (u : ℕ) → Mem u f.after → earlier x m u ≡ true
        later u = sorted_later (earlier x) f.before f.after m u (subst (Sorted (earlier x)) f.place candidates_sorted)
