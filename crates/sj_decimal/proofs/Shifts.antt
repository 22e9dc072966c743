-- A number with its point moved: its normal form, and where it is not exact.
use Rattle.std.proofs.Common.{◌≡◌, ◌≢◌, ℕ, suc, ◌+◌, ◌*◌, ◌%◌, ◌^◌, ◌<◌, ◌≤◌, min, ◌⊎◌, Bool, true, false, ℤ, pos, negsuc, ◌+ℤ◌, ◌-ℤ◌, ◌<ℤ◌, unsigned_abs, int_lt, true≢false, to_z, of_z, Option, Some, None, SomeIff, refl, sym, ap, ap₂, ◌∙◌, subst, inl, inr, ⊎_elim, arith, pow-add, mul_assoc, zero-mul, le_refl, pos_of_ne-zero}
use Rattle.std.specs.Int.{w128}
use Rattle.std.proofs.lemmas.Int.{ints}
use Rattle.std.proofs.lemmas.Bool.{cases_eq, cases_lt}
use Rattle.sj_decimal.specs.Limits.{max_scale, magnitude_limit}
use Rattle.sj_decimal.specs.declared.parsing.Parsed.{Parsed}
use Rattle.sj_decimal.specs.declared.parsing.Parsed.TheVariants.{Exact, Wide, NotNumber}
use Rattle.sj_decimal.specs.Signed.{signed}
use Rattle.sj_decimal.specs.Normal.{reduced, normal, IsWithinLimits, IsExact}
use Rattle.sj_decimal.specs.Number.{shifted}
use Rattle.sj_decimal.specs.Parses.{Evaluates, option_parsed}
use Rattle.sj_decimal.proofs.Reduced.{reduced_zero, reduced_same, reduced_scaled, reduced_whole}
use Rattle.sj_decimal.proofs.NormalForm.{normal-signed, reduced_from_exact, exact_from_limits, limits_from_exact}
use Rattle.sj_decimal.proofs.Powers.{scaled_too_far}

pub exact_along : (v w : ℤ × ℕ) → normal v ≡ normal w → IsExact v → IsExact w
exact_along v w e h = exact_from_limits w (subst IsWithinLimits e (limits_from_exact v h))

pub evaluates_along : (v w : ℤ × ℕ) (r : Parsed) → normal v ≡ normal w → Evaluates v r → Evaluates w r
evaluates_along v w (Exact d) e h = (exact_along v w e h.0, h.1 ∙ e)
evaluates_along v w Wide e h = λ k. h (exact_along w v (sym e) k)
evaluates_along v w NotNumber e h = h

pub evaluates_option : (v : ℤ × ℕ) (o : Option (ℤ × ℕ)) → SomeIff o (IsExact v) (normal v) → Evaluates v (option_parsed o)
evaluates_option v (Some d) h = h
evaluates_option v None h = h

-- two numbers that are not exact have one answer
pub evaluates_wide : (v w : ℤ × ℕ) (r : Parsed) → ¬ (IsExact v) → ¬ (IsExact w) → Evaluates v r → Evaluates w r
evaluates_wide v w (Exact d) f g h = absurd (f h.0)
evaluates_wide v w Wide f g h = g
evaluates_wide v w NotNumber f g h = h

normal_zero : (b : Bool) (s : ℕ) → normal (signed b 0, s) ≡ (signed b 0, 0)
normal_zero b s = normal-signed b 0 s ∙ ap (λ (q : ℕ × ℕ). (signed b q.0, q.1)) (reduced_zero s)

normal_shifted_zero : (b : Bool) (e : ℤ) → normal (shifted b 0 e) ≡ (signed b 0, 0)
normal_shifted_zero b (pos n) = rw zero-mul (normal_zero b 0)
normal_shifted_zero b (negsuc n) = normal_zero b (suc n)

-- the point of 0 may stand anywhere
pub shifted_zero : (b : Bool) (e x : ℤ) → normal (shifted b 0 e) ≡ normal (shifted b 0 x)
shifted_zero b e x = normal_shifted_zero b e ∙ sym (normal_shifted_zero b x)

pub too_big : (b : Bool) (n : ℕ) → magnitude_limit ≤ n → ¬ (IsExact (signed b n, 0))
too_big b n h exact =
    let small : (n < magnitude_limit) × (0 ≤ max_scale) = reduced_from_exact b n 0 (n, 0) (sym (reduced_whole n)) exact in
    omega (arith, small.0, h)

pub too_fine : (b : Bool) (m s : ℕ) → m % 10 ≢ 0 → max_scale < s → ¬ (IsExact (signed b m, s))
too_fine b m s ends h exact =
    let few : (m < magnitude_limit) × (s ≤ max_scale) = reduced_from_exact b m s (m, s) (sym (reduced_same m s (λ _. ends))) exact in
    omega (arith, few.1, h)

-- the point of a number that ends in no zero is moved too far
pub too_far_left : (b : Bool) (m : ℕ) (e : ℤ) → m % 10 ≢ 0 → e <ℤ negsuc 37 → ¬ (IsExact (shifted b m e))
too_far_left b m (pos n) ends h = absurd (omega (arith, ints, h))
too_far_left b m (negsuc n) ends h = too_fine b m (suc n) ends (omega (arith, ints, h))

pub too_far_right : (b : Bool) (m : ℕ) (e : ℤ) → 0 < m → pos max_scale <ℤ e → ¬ (IsExact (shifted b m e))
too_far_right b m (pos n) some h = too_big b (m * 10 ^ n) (scaled_too_far m n some (omega (arith, ints, h)))
too_far_right b m (negsuc n) some h = absurd (omega (arith, ints, h))

-- zeros at the end of a number move its point
pub shifted_zeros : (b : Bool) (m z : ℕ) (e x : ℤ) → x ≡ e +ℤ pos z → normal (shifted b (m * 10 ^ z) e) ≡ normal (shifted b m x)
shifted_zeros b m z (pos n) (pos k) h =
    let sum : k ≡ z + n = omega (arith, ints, h) in
    rw (sum, pow-add 10 z n, ← mul_assoc) refl
shifted_zeros b m z (pos n) (negsuc k) h = absurd (omega (arith, ints, h))
shifted_zeros b m z (negsuc n) (pos k) h =
    let sum : z ≡ k + suc n = omega (arith, ints, h) in
    let same : reduced (m * 10 ^ k * 10 ^ suc n) (0 + suc n) ≡ reduced (m * 10 ^ k) 0 = reduced_scaled (m * 10 ^ k) 0 (suc n) in
    let power : m * 10 ^ z ≡ m * 10 ^ k * 10 ^ suc n = rw (sum, pow-add 10 k (suc n), ← mul_assoc) refl in
    let scale : suc n ≡ 0 + suc n = omega arith in
    normal-signed b (m * 10 ^ z) (suc n)
    ∙ ap (λ (q : ℕ × ℕ). (signed b q.0, q.1)) (ap₂ reduced power scale ∙ same)
    ∙ sym (normal-signed b (m * 10 ^ k) 0)
shifted_zeros b m z (negsuc n) (negsuc k) h =
    let sum : suc n ≡ suc k + z = omega (arith, ints, h) in
    normal-signed b (m * 10 ^ z) (suc n)
    ∙ ap (λ (q : ℕ × ℕ). (signed b q.0, q.1)) (ap (reduced (m * 10 ^ z)) sum ∙ reduced_scaled m (suc k) z)
    ∙ sym (normal-signed b m (suc k))

pub too_big_shifted : (b : Bool) (m : ℕ) (e : ℤ) → int_lt e (pos 0) ≡ false → (m * 10 ^ unsigned_abs e < magnitude_limit → ⊥) → ¬ (IsExact (shifted b m e))
too_big_shifted b m (pos n) sign h = too_big b (m * 10 ^ n) (omega (arith, h))
too_big_shifted b m (negsuc n) sign h = absurd (true≢false sign)

pub far_below : (e : ℤ) (n : ℕ) → int_lt e (pos 0) ≡ true → n ≡ unsigned_abs e → max_scale < n → e <ℤ negsuc 37
far_below (pos k) n sign size far = absurd (grind (arith, ints))
far_below (negsuc k) n sign size far = omega (arith, ints)

too_far : (b : Bool) (m : ℕ) (e : ℤ) → m % 10 ≢ 0 → (e <ℤ negsuc 37) ⊎ (pos max_scale <ℤ e) → ¬ (IsExact (shifted b m e))
too_far b m e ends (inl left) = too_far_left b m e ends left
too_far b m e ends (inr right) = too_far_right b m e (pos_of_ne-zero (λ none. ends (ap (λ k. k % 10) none))) right

-- a great exponent moves the point out of reach, whatever the digits do
out_of_reach : (s : Bool) (y z l : ℕ) (e : ℤ) → 10 ^ 30 ≤ y → z < 2 ^ 65 → l < 2 ^ 64 → e ≡ (signed s y +ℤ pos z) -ℤ pos l → (e <ℤ negsuc 37) ⊎ (pos max_scale <ℤ e)
out_of_reach false y z l e great few less is = inr (omega (arith, ints))
out_of_reach true y z l e great few less is = inl (omega (arith, ints))

same_shift : (s : Bool) (x z l : ℕ) (e : ℤ) → e ≡ (signed s x +ℤ pos z) -ℤ pos l → e ≡ (signed s x -ℤ pos l) +ℤ pos z
same_shift false x z l e is = omega (arith, ints)
same_shift true x z l e is = omega (arith, ints)

cases_le : (m n : ℕ) → (m ≤ n) ⊎ (n < m)
cases_le m n = ⊎_elim (λ h. inr h) (λ h. inl h) (cases_lt n m)

-- the number with the digits n, of which z at the end are zeros, l decimals and the exponent x
pub evaluates_value : (b : Bool) (n m z l : ℕ) (s : Bool) (x : ℕ) (e : ℤ) (r : Parsed) → n ≡ m * 10 ^ z → (m % 10 ≡ 0 → m ≡ 0) → z < 2 ^ 65 → l < 2 ^ 64
    → e ≡ (signed s (min x (10 ^ 30)) +ℤ pos z) -ℤ pos l → Evaluates (shifted b m e) r → Evaluates (shifted b n (signed s x -ℤ pos l)) r
evaluates_value b n m z l s x e r digits ends few less is h =
    rw digits (⊎_elim
    (λ small.
    let cap : min x (10 ^ 30) ≡ x = omega arith in
    let moved : e ≡ (signed s x +ℤ pos z) -ℤ pos l = rw cap at is in
    evaluates_along (shifted b m e) (shifted b (m * 10 ^ z) (signed s x -ℤ pos l)) r
    (sym (shifted_zeros b m z (signed s x -ℤ pos l) e (same_shift s x z l e moved))) h)
    (λ great. ⊎_elim
    (λ none. let same : shifted b (m * 10 ^ z) (signed s x -ℤ pos l) ≡ shifted b 0 (signed s x -ℤ pos l) = ap (λ k. shifted b k (signed s x -ℤ pos l)) (ap (λ k. k * 10 ^ z) none ∙ zero-mul (10 ^ z)) in
    rw same (evaluates_along (shifted b 0 e) (shifted b 0 (signed s x -ℤ pos l)) r (shifted_zero b e (signed s x -ℤ pos l)) (rw none at h)))
    (λ some.
    let last : m % 10 ≢ 0 = λ zero_end. some (ends zero_end) in
    let cap : min x (10 ^ 30) ≡ 10 ^ 30 = omega arith in
    let moved : e ≡ (signed s (10 ^ 30) +ℤ pos z) -ℤ pos l = rw cap at is in
    let there : ℤ = (signed s x +ℤ pos z) -ℤ pos l in
    let wide : IsExact (shifted b (m * 10 ^ z) (signed s x -ℤ pos l)) → ⊥ = λ exact.
    too_far b m there last (out_of_reach s x z l there (omega arith) few less refl)
    (exact_along (shifted b (m * 10 ^ z) (signed s x -ℤ pos l)) (shifted b m there) (shifted_zeros b m z (signed s x -ℤ pos l) there (same_shift s x z l there refl)) exact) in
    evaluates_wide (shifted b m e) (shifted b (m * 10 ^ z) (signed s x -ℤ pos l)) r
    (too_far b m e last (out_of_reach s (10 ^ 30) z l e (le_refl (10 ^ 30)) few less moved)) wide h)
    (cases_eq m 0))
    (cases_le x (10 ^ 30)))

-- the shift as 128 bits hold it
pub shift_fits : (s : Bool) (y z l : ℕ) (e : ℤ) → e ≡ signed s y → y ≤ 10 ^ 30 → z < 2 ^ 65 → l < 2 ^ 64
    → to_z w128 (of_z w128 (to_z w128 (of_z w128 (to_z w128 (of_z w128 e) +ℤ to_z w128 z)) -ℤ to_z w128 l)) ≡ (signed s y +ℤ pos z) -ℤ pos l
shift_fits false y z l e is small few less = rw is (omega (arith, ints))
shift_fits true y z l e is small few less = rw is (omega (arith, ints))
