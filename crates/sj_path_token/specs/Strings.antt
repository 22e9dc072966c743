-- Strings of RFC 8259 without a lone surrogate, and what they stand for in UTF-8.
use Rattle.std.specs.Prelude.{◌≡◌, ℕ, ◌+◌, ◌-◌, ◌*◌, true, false, ◌&&◌, nat_le, List, [], ◌∷◌, ◌++◌, Option, Some, None, if◌then◌else◌, encode_utf8}
use Rattle.std.specs.Char.{is_ascii_digit}
use Rattle.std.specs.Char.Utf16.{is_high_surrogate, is_low_surrogate, surrogate_pair_char}
use Rattle.sj_base.specs.ByteClasses.{is_plain, letter_char}
use Rattle.sj_base.specs.Options.{◌>>=◌}

abbrev pub hex_digit : ℕ → Option ℕ
hex_digit b =
    if is_ascii_digit b then Some (b - 48)
    else (if nat_le 65 b && nat_le b 70 then Some (b - 55)
    else (if nat_le 97 b && nat_le b 102 then Some (b - 87)
    else None))

-- four hexadecimal digits as a number
abbrev pub unit_of : ℕ → ℕ → ℕ → ℕ → Option ℕ
unit_of a b c d = do
  p ← hex_digit a
  q ← hex_digit b
  r ← hex_digit c
  s ← hex_digit d
  Some (4096 * p + 256 * q + 16 * r + s)

-- behind a backslash these bytes stand for the character c
pub data IsEscape : List ℕ → ℕ → Type 0 where
  short : {e c : ℕ} → letter_char e ≡ Some c → IsEscape (e ∷ []) c
  -- u and four digits
  unit : {a b c d n : ℕ} → unit_of a b c d ≡ Some n → is_high_surrogate n ≡ false → is_low_surrogate n ≡ false → IsEscape (117 ∷ a ∷ b ∷ c ∷ d ∷ []) n
  -- u, four digits, a backslash, u and four digits
  pair : {a b c d e f g h high low : ℕ} → unit_of a b c d ≡ Some high → is_high_surrogate high ≡ true → unit_of e f g h ≡ Some low → is_low_surrogate low ≡ true
      → IsEscape (117 ∷ a ∷ b ∷ c ∷ d ∷ 92 ∷ 117 ∷ e ∷ f ∷ g ∷ h ∷ []) (surrogate_pair_char high low)

-- behind its first quotation mark a string has these bytes, the last quotation mark among them, and stands for the text
pub data IsInside : List ℕ → List ℕ → Type 0 where
  end : IsInside (34 ∷ []) []
  plain : {b : ℕ} {bs text : List ℕ} → is_plain b ≡ true → IsInside bs text → IsInside (b ∷ bs) (b ∷ text)
  escape : {c : ℕ} {es bs text : List ℕ} → IsEscape es c → IsInside bs text → IsInside (92 ∷ es ++ bs) (encode_utf8 c ++ text)
