-- A whole number as a sign and a magnitude.
use Rattle.std.specs.Prelude.{◌≡◌, ℕ, zero, suc, Bool, true, false, ℤ, pos, negsuc, neg_ℤ, unsigned_abs, refl}
use Rattle.std.proofs.Common.{sym}

-- the whole number with this sign and magnitude
abbrev pub signed : Bool → ℕ → ℤ
signed false m = pos m
signed true m = neg_ℤ (pos m)

abbrev pub is_negative : ℤ → Bool
is_negative (pos n) = false
is_negative (negsuc n) = true

pub unsigned_abs-signed : (b : Bool) (m : ℕ) → unsigned_abs (signed b m) ≡ m
unsigned_abs-signed false m = refl
unsigned_abs-signed true zero = refl
unsigned_abs-signed true (suc m) = refl

-- zero has no sign
abbrev pub IsSignOf : Bool → ℕ → Type 0
IsSignOf b m = m ≡ 0 → b ≡ false

pub is_negative-signed : (b : Bool) (m : ℕ) → IsSignOf b m → is_negative (signed b m) ≡ b
is_negative-signed false m h = refl
is_negative-signed true zero h = sym (h refl)
is_negative-signed true (suc m) h = refl

pub signed_parts : (c : ℤ) → signed (is_negative c) (unsigned_abs c) ≡ c
signed_parts (pos n) = refl
signed_parts (negsuc n) = refl
