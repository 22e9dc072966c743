-- Numerals of digits alone spell whole numbers.
use Rattle.std.proofs.Common.{◌≡◌, ◌≢◌, ℕ, ◌-◌, ◌^◌, ◌<◌, ◌≤◌, false, List, length, get_or, pos, refl, subst, arith}
use Rattle.sj_decimal.specs.Signed.{signed}
use Rattle.sj_decimal.specs.Normal.{normal, reduced, IsExact}
use Rattle.sj_decimal.specs.Number.{SpellsExact}
use Rattle.sj_decimal.specs.Shorts.{ReadsDigits}
use Rattle.sj_decimal.proofs.NormalForm.{exact_from_limits}
use Rattle.sj_decimal.proofs.OnePass.{whole_reads, no_fraction, short_spells}

whole_normal : (n : ℕ) → normal (pos n, 0) ≡ (pos n, 0)
unfolding normal reduced
whole_normal n = refl

whole_exact : (n : ℕ) → n < 10 ^ 18 → IsExact (pos n, 0)
whole_exact n h = exact_from_limits (pos n, 0) (rw (whole_normal n) (record { coefficient = omega (arith, h); scale = omega arith }))

pub digits_spell : (bytes : List ℕ) (end n : ℕ) → ReadsDigits bytes 0 0 end n → n < 10 ^ 18 → length bytes ≤ end → end ≢ 0 → (1 < end → get_or bytes 0 0 ≢ 48) → SpellsExact bytes (pos n, 0)
digits_spell bytes end n r small all some first =
    let none : end - end - 1 ≡ 0 = omega arith in
    subst (SpellsExact bytes) (whole_normal n)
    (subst (λ (k : ℕ). SpellsExact bytes (normal (pos n, k))) none
    (short_spells bytes 0 end end n n false (record { minus = λ e. absurd cc; plain = λ e. refl }) (whole_reads bytes 0 end n r some (λ h. first (omega (arith, h)))) (no_fraction bytes end n r.passes.within) all
    (rw none (whole_exact n small))))
