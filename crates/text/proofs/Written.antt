-- Putting a text into a buffer: a copy over a part of it, nothing, a text behind another. Assumes nothing.
use Rattle.std.proofs.Common.{ℕ, ◌+◌, ◌-◌, ◌≤◌, ◌≡◌, List, ◌++◌, length, take, drop, refl, sym, ap, ap₂, subst, ◌∙◌, arith, length-append, append_assoc, MutBor}
use Rattle.std.proofs.Math.Seq.{paste}
use Rattle.std.proofs.lemmas.List.Edits.{paste_all, paste-paste, length-paste}
use Rattle.std.proofs.lemmas.Slice.{put_mid-paste}
use borrow.Rule.Slice.PartMut.{put_mid}
use Rattle.text.specs.declared.Text.{Text}
use Rattle.text.specs.Text.{written, Puts, Adds}

-- it is what the library calls a paste
written_is : (t : List ℕ) (at : ℕ) (b : List ℕ) → written t at b ≡ paste b at t (length t)
unfolding written
written_is t at b = append_assoc (take at b) t (drop (at + length t) b) ∙ sym (paste_all b at t (length t) refl)

length-written : (t : List ℕ) (at : ℕ) (b : List ℕ) → at + length t ≤ length b → length (written t at b) ≡ length b
length-written t at b room = ap length (written_is t at b) ∙ length-paste b at t (length t) room (omega arith)

written_behind : (t u : List ℕ) (at : ℕ) (b : List ℕ) → at ≤ length b → written u (at + length t) (written t at b) ≡ written (t ++ u) at b
written_behind t u at b h =
    written_is u (at + length t) (written t at b)
    ∙ ap (λ (l : List ℕ). paste l (at + length t) u (length u)) (written_is t at b)
    ∙ paste-paste b at t u (length t) (length u) refl refl h
    ∙ ap (paste b at (t ++ u)) (sym (length-append t u))
    ∙ sym (written_is (t ++ u) at b)

-- a text copied over a part of the buffer
pub copied : (t : List ℕ) (s : Text) (part : List ℕ) → s.end + length t ≤ length s.bytes.now → part ≡ t
    → Adds t s (record { bytes = record s.bytes { now = put_mid s.end (s.end + length t - s.end) s.bytes.now part }; end = s.end + length t })
copied t s part room same =
    let is = put_mid-paste s.end (s.end + length t - s.end) s.bytes.now part t (length t) same (omega arith) refl ∙ sym (written_is t s.end s.bytes.now) in record {
      ends = refl;
      filled = ap (λ (l : List ℕ). record s.bytes { now = l }) is;
      long = ap length is ∙ length-written t s.end s.bytes.now room;
    }

-- a text put behind another
pub put_behind : {t u : List ℕ} {at : ℕ} {b b' b'' : List ℕ} {e e' : ℕ} → at ≤ length b → Puts t at b b' e → Puts u e b' b'' e' → Puts (t ++ u) at b b'' e'
put_behind {t} {u} {at} {b} h p q = record {
  ends = omega (arith, p.ends, q.ends, length-append t u);
  filled = q.filled ∙ ap₂ (λ (k : ℕ) (o : List ℕ). written u k o) p.ends p.filled ∙ written_behind t u at b h;
}

pub added_behind : {t u : List ℕ} {a b c : Text} → a.end ≤ length a.bytes.now → Adds t a b → Adds u b c → Adds (t ++ u) a c
added_behind {t} {u} {a} {b} h p q = record {
  ends = omega (arith, p.ends, q.ends, length-append t u);
  filled =
      q.filled
      ∙ ap₂ (λ (k : ℕ) (o : MutBor (List ℕ)). record o { now = written u k o.now }) p.ends p.filled
      ∙ ap (λ (l : List ℕ). record a.bytes { now = l }) (written_behind t u a.end a.bytes.now h);
  long = q.long ∙ p.long;
}

pub same_text : {t u : List ℕ} {a b : Text} → t ≡ u → Adds t a b → Adds u a b
same_text {a} {b} same p = subst (λ (l : List ℕ). Adds l a b) same p

-- what the lent buffer then holds
pub as_put : {t : List ℕ} {a b : Text} → Adds t a b → Puts t a.end a.bytes.now b.bytes.now b.end
as_put p = record { ends = p.ends; filled = ap (λ (o : MutBor (List ℕ)). o.now) p.filled }
