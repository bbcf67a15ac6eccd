-- The reading order is total on the models of a sheet, and "the first such model" is one. Assumes nothing.
use Prim.Native.Nat.{ℕ}
use mathlib.Core.Bool.{true}
use mathlib.Core.List.Memᴰ.{append_right}
use mathlib.Core.List.Memᴰ.{map as mem_map}
use mathlib.Core.List.{Memᴰ as Mem}
use mathlib.Core.Logic.{◌⊎◌, inl, inr, ⊎_elim}
use mathlib.Core.Path.{◌≡◌, sym}
use Rattle.search.proofs.Earlier.{before_total, earlier_asymmetric}
use Rattle.search.proofs.Valuations.{valuation_one}
use Rattle.search.proofs.WellFormed.{WellFormed}
use Rattle.search.specs.Demands.{First}
use Rattle.search.specs.Models.{value, satisfies, valuations, models, Preference, earlier}
use Rattle.sheet.specs.Literals.{Lit, pos}
use Rattle.sheet.specs.Order.{valued, readings}
use Rattle.sheet.specs.Reading.{Sheet}
use Rattle.words.proofs.Members.{pick_out}

module _ (x : Sheet) where
  -- models that agree on all that is read have the same values
  pub earlier_total : WellFormed x → (m u : ℕ) → Mem m (models x) → Mem u (models x) → (m ≡ u) ⊎ ((earlier x m u ≡ true) ⊎ (earlier x u m ≡ true))
  unfolding earlier models value
  earlier_total form m u hm hu =
      ⊎_elim (λ same. inl (valuation_one (valued x) form.from_one m u (valued_as m hm) (valued_as u hu) (λ a h. same (pos a) (append_right x.objectives (mem_map pos h)))))
      (λ sided. inr sided) (before_total (readings x) m u)
    where
      valued_as : (w : ℕ) → Mem w (models x) → Mem w (valuations (valued x))
      valued_as w h = (pick_out (satisfies x.clauses) (valuations (valued x)) w h).0

  pub first_alone : (p : Preference) (q : Lit) (m u : ℕ) → First p x q m → First p x q u → m ≡ u
  first_alone p q m u f g =
      ⊎_elim (λ e. sym e) (λ l. ⊎_elim (λ e. e) (λ k. absurd (earlier_asymmetric x m u l k)) (g.first m f.optimal f.affirms))
      (f.first u g.optimal g.affirms)
