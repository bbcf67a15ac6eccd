-- Going back through literal bytes from their end: the one that is taken stands in front of those that were. Assumes nothing.
use Rattle.std.proofs.Common.{ℕ, ◌+◌, true, List, [], ◌∷◌, ◌++◌, append-nil, ◌≡◌, refl, sym, ap, ◌∙◌, subst, length}
use Rattle.std.proofs.Math.Seq.{append_snoc}
use Rattle.std.proofs.lemmas.List.{length-append, length_push, get_or_at}
use mathlib.Core.List.Memᴰ.{append_right, head}
use Rattle.sheet.specs.Layout.{byte}
use Rattle.sheet.specs.Literals.{is_literal}
use Rattle.words.proofs.Members.{all_out}
use Rattle.words.specs.Lists.{all}

-- before any was taken
pub none_taken : {left bytes : List ℕ} → left ≡ bytes → bytes ≡ left ++ []
none_taken e = sym (ap (λ (l : List ℕ). l ++ []) e ∙ append-nil _)

-- b is taken from the end of those that are left
module _ {left bytes : List ℕ} (rest done : List ℕ) (b : ℕ) (last : left ≡ rest ++ (b ∷ [])) (parts : bytes ≡ left ++ done) where
  pub moved : bytes ≡ rest ++ (b ∷ done)
  moved = parts ∙ ap (λ (l : List ℕ). l ++ done) last ∙ append_snoc rest b done

  pub is_one : all (is_literal 64) bytes ≡ true → is_literal 64 b ≡ true
  is_one each =
      let all_ones = subst (λ (l : List ℕ). all (is_literal 64) l ≡ true) moved each in all_out (is_literal 64) (rest ++ (b ∷ done)) all_ones b (append_right rest (head refl))

  pub its_place : byte bytes (length rest) ≡ b
  its_place = ap (λ (l : List ℕ). byte l (length rest)) moved ∙ get_or_at rest b done 0 (length rest) refl

  pub one_fewer : length left ≡ length rest + 1
  one_fewer = ap length last ∙ length_push rest b

  pub as_many : length left + length done ≡ length bytes
  as_many = sym (ap length parts ∙ length-append left done)
