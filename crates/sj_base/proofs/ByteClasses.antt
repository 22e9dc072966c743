-- The bytes of words are those of ASCII.
use Rattle.std.proofs.Common.{◌≡◌, ℕ, ◌<◌, ◌≤◌, Bool, true, false, ◌&&◌, ◌||◌, ◌==◌, nat_le, refl, sym, ap, ◌∙◌, arith, leb-true, leb-false, ne_eqb}
use Rattle.std.specs.Char.{is_ascii_digit}
use Rattle.sj_base.specs.ByteClasses.{is_letter, is_word_byte}

nat_gt : (a b : ℕ) → b < a → nat_le a b ≡ false
nat_gt a b h = go (nat_le a b) refl
  where
    go : (x : Bool) → nat_le a b ≡ x → nat_le a b ≡ false
    go true q = absurd (omega (arith, leb-true a b q))
    go false q = q

-- a letter, a digit or _ is below 128
pub word_ascii : (b : ℕ) → is_word_byte b ≡ true → b < 128
word_ascii b h = go (nat_le 128 b) refl
  where
    apart : false ≡ true → ⊥
    apart q = cc

    above : 128 ≤ b → is_word_byte b ≡ false
    above l =
        ap (λ x. (nat_le 65 b && x) || (nat_le 97 b && nat_le b 122) || (b == 95) || (nat_le 48 b && nat_le b 57)) (nat_gt b 90 (omega arith))
        ∙ ap (λ x. (nat_le 65 b && false) || (nat_le 97 b && x) || (b == 95) || (nat_le 48 b && nat_le b 57)) (nat_gt b 122 (omega arith))
        ∙ ap (λ x. (nat_le 65 b && false) || (nat_le 97 b && false) || x || (nat_le 48 b && nat_le b 57)) (ne_eqb b 95 (λ q. absurd (omega arith)))
        ∙ ap (λ x. (nat_le 65 b && false) || (nat_le 97 b && false) || false || (nat_le 48 b && x)) (nat_gt b 57 (omega arith))
        ∙ none (nat_le 65 b) (nat_le 97 b) (nat_le 48 b)
      where
        none : (x y z : Bool) → ((x && false) || (y && false) || false || (z && false)) ≡ false
        none true true true = refl
        none true true false = refl
        none true false true = refl
        none true false false = refl
        none false true true = refl
        none false true false = refl
        none false false true = refl
        none false false false = refl

    go : (x : Bool) → nat_le 128 b ≡ x → b < 128
    go true q = absurd (apart (sym (above (leb-true 128 b q)) ∙ h))
    go false q = omega (arith, leb-false 128 b q)

pub letter_ascii : (b : ℕ) → is_letter b ≡ true → b < 128
letter_ascii b h = word_ascii b (ap (λ x. x || is_ascii_digit b) h)
