-- Tests joined by `and`, `or` and `not`: what the library does not have of them. Assumes nothing.
use Rattle.std.proofs.Common.{Bool, true, false, not, ◌&&◌, ◌||◌, ◌≡◌, refl, sym}
use Rattle.std.proofs.lemmas.Bool.{false≢true}
-- the library's laws that `search` cites from here
pub use Rattle.std.proofs.Math.Bool.{or-true as or_true}
pub use Rattle.std.proofs.lemmas.Bool.{or_cases, false_from_ne_true as refuted}

-- two tests that follow from one another are equal
pub same_test : (a b : Bool) → (a ≡ true → b ≡ true) → (b ≡ true → a ≡ true) → a ≡ b
same_test true b f g = sym (f refl)
same_test false true f g = g refl
same_test false false f g = refl

pub and_absorbs : (a b : Bool) → (a ≡ true → b ≡ true) → (a && b) ≡ a
and_absorbs true b f = f refl
and_absorbs false b f = refl

-- if a, then b
pub implied : (a b : Bool) → (not a || b) ≡ true → a ≡ true → b ≡ true
implied true b e h = e
implied false b e h = absurd (false≢true h)

pub implies : (a b : Bool) → (a ≡ true → b ≡ true) → (not a || b) ≡ true
implies true b f = f refl
implies false b f = refl
