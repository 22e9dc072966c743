-- Sums, differences, products, quotients and remainders of decimals.
use Rattle.std.specs.Prelude.{ℕ, ◌+◌, ◌-◌, ◌^◌, max, Bool, ◌&&◌, ◌==◌, nat_lt, nat_le, if◌then◌else◌, ℤ, pos, ◌+ℤ◌, ◌-ℤ◌, ◌*ℤ◌, unsigned_abs, int_div, Result, Ok, Err}
use Rattle.sj_decimal.specs.declared.arithmetic.NumFault.{NumFault}
use Rattle.sj_decimal.specs.declared.arithmetic.NumFault.TheVariants.{Range, ZeroDivide}
use Rattle.sj_decimal.specs.Limits.{max_scale, magnitude_limit}
use Rattle.sj_decimal.specs.Normal.{normal}

-- the coefficient is below the limit in magnitude
abbrev pub is_below_limit : ℤ → Bool
is_below_limit c = nat_lt (unsigned_abs c) magnitude_limit

-- c / 10 ^ s in normal form, where c is below the limit before it is reduced, and the normal form has no more decimals than may be
unfoldable pub limited : ℤ → ℕ → Result (ℤ × ℕ) NumFault
limited c s = if is_below_limit c && nat_le (normal (c, s)).1 max_scale then Ok (normal (c, s)) else Err Range

-- the coefficient of d at the scale s, which is not below its own
abbrev pub coefficient_at : ℕ → ℤ × ℕ → ℤ
coefficient_at s d = d.0 *ℤ pos (10 ^ (s - d.1))

-- an operation on the coefficients at the larger of the two scales: both are below the limit, and so is what they give
unfoldable pub at_larger_scale : (ℤ → ℤ → ℤ) → ℤ × ℕ → ℤ × ℕ → Result (ℤ × ℕ) NumFault
at_larger_scale op a b = let s = max a.1 b.1 in
    if is_below_limit (coefficient_at s a) && is_below_limit (coefficient_at s b) then limited (op (coefficient_at s a) (coefficient_at s b)) s else Err Range

abbrev pub sum : ℤ × ℕ → ℤ × ℕ → Result (ℤ × ℕ) NumFault
sum a b = at_larger_scale (λ x y. x +ℤ y) a b

abbrev pub difference : ℤ × ℕ → ℤ × ℕ → Result (ℤ × ℕ) NumFault
difference a b = at_larger_scale (λ x y. x -ℤ y) a b

abbrev pub product : ℤ × ℕ → ℤ × ℕ → Result (ℤ × ℕ) NumFault
product a b = limited (a.0 *ℤ b.0) (a.1 + b.1)

-- a zero divisor is found before anything else
abbrev pub unless_zero : ℤ × ℕ → Result (ℤ × ℕ) NumFault → Result (ℤ × ℕ) NumFault
unless_zero divisor r = if unsigned_abs divisor.0 == 0 then Err ZeroDivide else r

-- x - y * t, where t is x / y cut toward zero to a whole number
abbrev pub rest : ℤ → ℤ → ℤ
rest x y = x -ℤ int_div x y *ℤ y

abbrev pub remainder : ℤ × ℕ → ℤ × ℕ → Result (ℤ × ℕ) NumFault
remainder a b = unless_zero b (at_larger_scale rest a b)

-- d in normal form, where that is exact
unfoldable pub exact_or_range : ℤ × ℕ → Result (ℤ × ℕ) NumFault
exact_or_range d = if is_below_limit (normal d).0 && nat_le (normal d).1 max_scale then Ok (normal d) else Err Range

-- a / b times 10 ^ 16, cut toward zero
abbrev pub quotient_16 : ℤ × ℕ → ℤ × ℕ → ℤ
quotient_16 a b = int_div (a.0 *ℤ pos (10 ^ (b.1 + 16))) (b.0 *ℤ pos (10 ^ a.1))

abbrev pub quotient : ℤ × ℕ → ℤ × ℕ → Result (ℤ × ℕ) NumFault
quotient a b = unless_zero b (exact_or_range (quotient_16 a b, 16))
