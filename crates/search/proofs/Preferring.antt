-- What the theory asks of a preference among parts, and that containment has it. Assumes nothing.
use Prim.Native.Nat.{ℕ, ◌≤◌}
use mathlib.Core.Bool.{true, false≢true}
use mathlib.Core.List.{map, Memᴰ as Mem}
use mathlib.Core.Path.{◌≡◌, sym, ◌∙◌}
use lib.ListN.{length}
use Rattle.search.proofs.Earlier.{before_more}
use Rattle.search.proofs.Parts.{Keeps, keeps_within, within_keeps}
use Rattle.search.specs.Models.{holds, part, Preference, containment, earlier}
use Rattle.sheet.specs.Literals.{Lit, pos}
use Rattle.sheet.specs.Order.{valued}
use Rattle.sheet.specs.Reading.{Sheet}
use Rattle.words.proofs.Containment.{strictly_says, strictly_irreflexive, strictly_transitive}

-- It is a strict order; what is better comes earlier, and keeps what a test keeps.
pub record Sensible (p : Preference) (x : Sheet) : Type 0 where
  pub irreflexive : (a : ℕ) → p.worse a a ≡ true → ⊥
  pub transitive : (a b c : ℕ) → p.worse a b ≡ true → p.worse b c ≡ true → p.worse a c ≡ true
  pub comes_first : (m u : ℕ) → p.worse (part x.objectives m) (part x.objectives u) ≡ true → earlier x u m ≡ true
  pub keeps : (m u : ℕ) → p.worse (part x.objectives m) (part x.objectives u) ≡ true → Keeps (holds m) (holds u) (p.kept x.objectives)
  pub from_them : (o : Lit) → Mem o (p.kept x.objectives) → Mem o x.objectives

pub containment_sensible : (x : Sheet) → length x.objectives ≤ 64 → Sensible containment x
unfolding earlier
containment_sensible x few =
    record {
      irreflexive = strictly_irreflexive;
      transitive = strictly_transitive;
      comes_first = λ m u e.
          let os = x.objectives in
          let says = strictly_says (part os m) (part os u) e in
          before_more u m os (map pos (valued x)) (within_keeps os m u few says.0) (λ each. false≢true (sym says.1 ∙ keeps_within os u m each));
      keeps = λ m u e. within_keeps x.objectives m u few (strictly_says _ _ e).0;
      from_them = λ o h. h;
    }
