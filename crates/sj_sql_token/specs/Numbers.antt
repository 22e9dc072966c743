-- Numbers: digits, and then maybe a point and digits.
use Rattle.std.specs.Prelude.{ℕ, suc, ◌&&◌, ◌==◌, ℤ, pos, List, [], ◌∷◌, ◌++◌, length, Option, Some, None, if◌then◌else◌}
use Rattle.std.specs.List.{take_while}
use Rattle.std.specs.Str.Parse.{digits_value}
use Rattle.std.specs.Char.{is_ascii_digit}
use Rattle.sj_base.specs.ByteClasses.{next_is_digit}
use Rattle.sj_decimal.specs.Normal.{normal}
use Rattle.sj_decimal.specs.Exact.{is_exact}

-- the number that digits before and behind a point stand for
abbrev pub value_of : List ℕ → List ℕ → ℤ × ℕ
value_of whole fraction = (pos (digits_value 10 (whole ++ fraction)), length fraction)

-- that number in normal form, if it is exact
abbrev pub exact_of : ℤ × ℕ → Option (ℤ × ℕ)
exact_of v = if is_exact v then Some (normal v) else None

-- digits with the point before them, which goes where there are none
abbrev pub pointed : List ℕ → List ℕ
pointed [] = []
pointed (b ∷ bs) = 46 ∷ b ∷ bs

-- the digits behind a point, if they stand at the front
abbrev pub fraction_of : List ℕ → List ℕ
fraction_of [] = []
fraction_of (b ∷ bs) = if b == 46 && next_is_digit bs then take_while is_ascii_digit bs else []

-- how many bytes they have with the point
abbrev pub fraction_len : List ℕ → ℕ
fraction_len bs = if length (fraction_of bs) == 0 then 0 else suc (length (fraction_of bs))
