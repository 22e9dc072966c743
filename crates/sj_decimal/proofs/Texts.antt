-- The text of a decimal, and that it spells the decimal.
use Rattle.std.proofs.Common.{◌≡◌, ℕ, zero, suc, ◌+◌, ◌-◌, ◌*◌, ◌/◌, ◌%◌, ◌^◌, ◌<◌, ◌≤◌, List, [], ◌∷◌, ◌++◌, length, decimal, refl, sym, ap, ap₂, ◌∙◌, arith, lit<, pow-suc, length-append, append_assoc, append-nil, take, drop}
use Rattle.std.proofs.lemmas.Fmt.{decimal_digit, decimal_step_wide}
use Rattle.std.proofs.Math.Seq.{take-append_seam, drop-append_seam}
use Rattle.std.proofs.Math.Nat.{div-div-eq-div-mul, div-eq_of_lt, pow-succ'}
use Rattle.sj_decimal.specs.Limits.{max_scale, magnitude_limit}
use Rattle.sj_decimal.specs.Text.{last_digits, decimals_text}
use Rattle.sj_decimal.proofs.Powers.{power_pos, power_le}

pub last_digits_none : (n : ℕ) → last_digits 0 n ≡ []
unfolding last_digits
last_digits_none n = refl

pub last_digits_more : (k n : ℕ) → last_digits (suc k) n ≡ last_digits k (n / 10) ++ ((48 + n % 10) ∷ [])
unfolding last_digits
last_digits_more k n = refl

pub length-last_digits : (k n : ℕ) → length (last_digits k n) ≡ k
length-last_digits zero n = ap length (last_digits_none n)
length-last_digits (suc k) n =
    ap length (last_digits_more k n) ∙ length-append (last_digits k (n / 10)) ((48 + n % 10) ∷ []) ∙ omega (arith, length-last_digits k (n / 10))

-- a one before k digits is the first of the digits
pub decimal_after_one : (k f : ℕ) → k ≤ 60 → f < 10 ^ k → decimal (10 ^ k + f) ≡ 49 ∷ last_digits k f
decimal_after_one zero f few small =
    let none : f ≡ 0 = omega (arith, small) in
    rw (none, last_digits_none) (decimal_digit 1 (lit< tt))
decimal_after_one (suc k) f few small =
    let power : 10 ^ suc k ≡ 10 ^ k * 10 = pow-suc 10 k in
    let below : f < 10 ^ k * 10 = rw power at small in
    let tenth : f / 10 < 10 ^ k = omega (arith, below) in
    let bound : 10 ^ suc k ≤ 10 ^ 60 = power_le (suc k) 60 few in
    let wide : 10 ^ suc k + f < 10 ^ 64 = omega (arith, bound, small) in
    let some : 1 ≤ 10 ^ k = power_pos k in
    let two : 10 ≤ 10 ^ suc k + f = omega (arith, power, some) in
    let quotient : (10 ^ suc k + f) / 10 ≡ 10 ^ k + f / 10 = omega (arith, power) in
    let remainder : (10 ^ suc k + f) % 10 ≡ f % 10 = omega (arith, power) in
    decimal_step_wide (10 ^ suc k + f) two wide
    ∙ ap₂ (λ (q r : ℕ). decimal q ++ ((48 + r) ∷ [])) quotient remainder
    ∙ ap (λ (xs : List ℕ). xs ++ ((48 + f % 10) ∷ [])) (decimal_after_one k (f / 10) (omega arith) tenth)
    ∙ ap (λ (xs : List ℕ). 49 ∷ xs) (sym (last_digits_more k f))

-- what the code writes with a one before it
pub digits_after_one : (k rest p : ℕ) (text : List ℕ) → k ≤ max_scale → rest < 10 ^ k → p ≡ 10 ^ k → text ≡ decimal (p + rest) → text ≡ 49 ∷ last_digits k rest
digits_after_one k rest p text few small power is =
    is ∙ ap (λ (x : ℕ). decimal (x + rest)) power ∙ decimal_after_one k rest (omega arith) small

pub decimals_text-positive : (s m : ℕ) → 0 < s → decimals_text s m ≡ 46 ∷ last_digits s m
decimals_text-positive zero m h = absurd (omega arith)
decimals_text-positive (suc s) m h = refl

-- the digits of a number are those of its whole part and its decimals
decimal_parts : (s m : ℕ) → 10 ^ s ≤ m → m < magnitude_limit → decimal m ≡ decimal (m / 10 ^ s) ++ last_digits s m
decimal_parts zero m some small = ap decimal (omega arith) ∙ sym (append-nil (decimal (m / 10 ^ 0))) ∙ ap (λ (xs : List ℕ). decimal (m / 10 ^ 0) ++ xs) (sym (last_digits_none m))
decimal_parts (suc s) m some small =
    let power : 10 ^ suc s ≡ 10 ^ s * 10 = pow-suc 10 s in
    let least : 1 ≤ 10 ^ s = power_pos s in
    let tenth : 10 ^ s ≤ m / 10 = omega (arith, power, some) in
    let quotient : m / 10 / 10 ^ s ≡ m / 10 ^ suc s = div-div-eq-div-mul m 10 (10 ^ s) ∙ ap (λ (p : ℕ). m / p) (sym (pow-succ' 10 s)) in
    decimal_step_wide m (omega (arith, power, some, least)) (omega (arith, small))
    ∙ ap (λ (xs : List ℕ). xs ++ ((48 + m % 10) ∷ [])) (decimal_parts s (m / 10) tenth (omega (arith, small)) ∙ ap (λ (q : ℕ). decimal q ++ last_digits s (m / 10)) quotient)
    ∙ append_assoc (decimal (m / 10 ^ suc s)) (last_digits s (m / 10)) ((48 + m % 10) ∷ [])
    ∙ ap (λ (xs : List ℕ). decimal (m / 10 ^ suc s) ++ xs) (sym (last_digits_more s m))

-- ---- what the code appends

-- the digits, cut before the last s
pub cut_digits : (s m : ℕ) (digits : List ℕ) → 10 ^ s ≤ m → m < magnitude_limit → digits ≡ decimal m
    → (s ≤ length digits) × (take (length digits - s) digits ≡ decimal (m / 10 ^ s)) × (drop (length digits - s) digits ≡ last_digits s m)
cut_digits s m digits some small is =
    let whole : List ℕ = decimal (m / 10 ^ s) in
    let parts : digits ≡ whole ++ last_digits s m = is ∙ decimal_parts s m some small in
    let total : length digits ≡ length whole + s = ap length parts ∙ length-append whole (last_digits s m) ∙ ap (λ (n : ℕ). length whole + n) (length-last_digits s m) in
    let cut : length digits - s ≡ length whole = omega (arith, total) in (
      omega (arith, total),
      ap₂ (λ (n : ℕ) (xs : List ℕ). take n xs) cut parts ∙ take-append_seam whole (last_digits s m),
      ap₂ (λ (n : ℕ) (xs : List ℕ). drop n xs) cut parts ∙ drop-append_seam whole (last_digits s m),
    )

-- the whole part, a point and the decimals, one after the other
pub digits_pushed : (s m : ℕ) (old front point text whole decimals : List ℕ) → 0 < s → front ≡ old ++ whole → point ≡ front ++ (46 ∷ []) → text ≡ point ++ decimals
    → whole ≡ decimal (m / 10 ^ s) → decimals ≡ last_digits s m → text ≡ old ++ (decimal (m / 10 ^ s) ++ decimals_text s m)
digits_pushed s m old front point text whole decimals some first second third is are =
    third ∙ ap (λ (x : List ℕ). x ++ decimals) (second ∙ ap (λ (x : List ℕ). x ++ (46 ∷ [])) first)
    ∙ append_assoc (old ++ whole) (46 ∷ []) decimals
    ∙ append_assoc old whole (46 ∷ decimals)
    ∙ ap₂ (λ (x y : List ℕ). old ++ (x ++ y)) is (ap (λ (x : List ℕ). 46 ∷ x) are ∙ sym (decimals_text-positive s m some))

-- a zero, a point and the decimals
pub fraction_pushed : (s m : ℕ) (old point text decimals : List ℕ) → 0 < s → m < 10 ^ s → point ≡ old ++ (48 ∷ 46 ∷ []) → text ≡ point ++ decimals
    → decimals ≡ last_digits s m → text ≡ old ++ (decimal (m / 10 ^ s) ++ decimals_text s m)
fraction_pushed s m old point text decimals some below first second are =
    let zero : decimal (m / 10 ^ s) ≡ 48 ∷ [] = ap decimal (div-eq_of_lt below) ∙ decimal_digit 0 (lit< tt) in
    second ∙ ap (λ (x : List ℕ). x ++ decimals) first
    ∙ append_assoc old (48 ∷ 46 ∷ []) decimals
    ∙ ap₂ (λ (x y : List ℕ). old ++ (x ++ y)) (sym zero) (ap (λ (x : List ℕ). 46 ∷ x) are ∙ sym (decimals_text-positive s m some))
