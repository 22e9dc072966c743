-- Numbers as RFC 8259, section 6, writes them, and the number that each spells.
use Rattle.std.specs.Prelude.{◌≡◌, ◌≢◌, ℕ, suc, ◌*◌, ◌^◌, ◌<◌, ◌⊎◌, Bool, true, false, ◌||◌, ◌==◌, List, [], ◌∷◌, ◌++◌, length, slice_index, ℤ, pos, negsuc, ◌-ℤ◌}
use Rattle.std.specs.Str.Parse.{IsNumeral, digits_value}
use Rattle.std.specs.Char.{is_ascii_digit}
use Rattle.std.specs.Fmt.{sign_text}
use Rattle.sj_decimal.specs.Signed.{signed}
use Rattle.sj_decimal.specs.Normal.{normal, IsExact}

-- what the text of a number says: its digits before and after the point, and the digits and the sign of its exponent
pub record NumberParts : Type 0 where
  pub negative : Bool
  pub whole : List ℕ
  pub fraction : List ℕ
  pub exponent_negative : Bool
  pub exponent : List ℕ

-- int: "0", or digits of which the first is not 0
abbrev pub IsWhole : List ℕ → Type 0
IsWhole ds = IsNumeral 10 ds × (1 < length ds → slice_index ds 0 ≢ 48)

-- frac: nothing, or "." and the digits ds
abbrev pub IsFraction : List ℕ → List ℕ → Type 0
IsFraction ds b = ((ds ≡ []) × (b ≡ [])) ⊎ (IsNumeral 10 ds × (b ≡ 46 ∷ ds))

-- "-" where the exponent is negative, else nothing or "+"
abbrev pub IsExponentSign : Bool → List ℕ → Type 0
IsExponentSign true b = b ≡ 45 ∷ []
IsExponentSign false b = (b ≡ []) ⊎ (b ≡ 43 ∷ [])

-- exp: nothing, or "e" or "E", a sign and the digits ds
pub record IsWrittenExponent (negative : Bool) (ds b : List ℕ) : Type 0 where
  pub mark : ℕ
  pub sign : List ℕ
  pub is_mark : (mark ≡ 101) ⊎ (mark ≡ 69)
  pub is_sign : IsExponentSign negative sign
  pub digits : IsNumeral 10 ds
  pub text : b ≡ mark ∷ (sign ++ ds)

abbrev pub IsExponent : Bool → List ℕ → List ℕ → Type 0
IsExponent negative ds b = ((negative ≡ false) × (ds ≡ []) × (b ≡ [])) ⊎ IsWrittenExponent negative ds b

-- number = [ minus ] int [ frac ] [ exp ]
pub record IsNumberOf (p : NumberParts) (b : List ℕ) : Type 0 where
  pub fraction_text : List ℕ
  pub exponent_text : List ℕ
  pub whole : IsWhole p.whole
  pub fraction : IsFraction p.fraction fraction_text
  pub exponent : IsExponent p.exponent_negative p.exponent exponent_text
  pub text : b ≡ sign_text p.negative ++ (p.whole ++ (fraction_text ++ exponent_text))

-- the number of this sign and magnitude times 10 ^ e
abbrev pub shifted : Bool → ℕ → ℤ → ℤ × ℕ
shifted negative m (pos e) = (signed negative (m * 10 ^ e), 0)
shifted negative m (negsuc e) = (signed negative m, suc e)

-- the number that the exponent writes, 0 where there is none
abbrev pub exponent_of : NumberParts → ℤ
exponent_of p = signed p.exponent_negative (digits_value 10 p.exponent)

-- the number that the parts stand for: all digits as one whole number, with the point moved
abbrev pub value_of : NumberParts → ℤ × ℕ
value_of p = shifted p.negative (digits_value 10 (p.whole ++ p.fraction)) (exponent_of p -ℤ pos (length p.fraction))

-- the bytes are a number, and v is the number that they spell
pub record SpellsNumber (b : List ℕ) (v : ℤ × ℕ) : Type 0 where
  pub parts : NumberParts
  pub number : IsNumberOf parts b
  pub value : v ≡ value_of parts

-- the bytes are a number
abbrev pub IsNumber : List ℕ → Type 0
IsNumber b = (v : ℤ × ℕ) × SpellsNumber b v

-- the bytes are a number whose value is exact, and d is that value in normal form
pub record SpellsExact (b : List ℕ) (d : ℤ × ℕ) : Type 0 where
  pub value : ℤ × ℕ
  pub spells : SpellsNumber b value
  pub exact : IsExact value
  pub normal_form : d ≡ normal value

-- the bytes are a number whose value is not exact
pub record SpellsWide (b : List ℕ) : Type 0 where
  pub value : ℤ × ℕ
  pub spells : SpellsNumber b value
  pub wide : ¬ (IsExact value)

-- ---- the bytes of a number, for a reader that looks for its end

-- a digit, or one of "+", "-", ".", "E" and "e"
abbrev pub is_number_byte : ℕ → Bool
is_number_byte c = is_ascii_digit c || ((c == 43) || ((c == 45) || ((c == 46) || ((c == 69) || (c == 101)))))

-- a digit or "-"
abbrev pub begins_number : ℕ → Bool
begins_number c = is_ascii_digit c || (c == 45)
