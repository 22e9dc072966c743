use Rattle.std.proofs.Common.{◌≡◌, ◌<◌, ◌++◌, ℤ, ℕ, pos, negsuc, unsigned_abs, sym, ap, ◌∙◌, subst, arith, to_z, of_z, to_z-of_z, FitsSigned, OnOk}
use Rattle.std.specs.Int.{w64, w128}
use Rattle.std.proofs.lemmas.Int.{ints, fits_signed_from_abs}
use Rattle.sj_decimal.specs.Limits.{magnitude_limit}
use Rattle.sj_decimal.specs.Signed.{is_negative, signed_parts}
use Rattle.sj_decimal.specs.Normal.{normal, IsExact, IsDecimal}
use Rattle.sj_decimal.specs.Text.{decimal_text}
use Rattle.sj_decimal.proofs.NormalForm.{normal_decimal, IsExact-decimal, whole_decimal}
use Rattle.sj_text.proofs.scalar.whole_text.Goals as goal

small : (z : ℤ) → FitsSigned w64 z → unsigned_abs z < magnitude_limit
small (pos n) h = omega (arith, ints, h)
small (negsuc n) h = omega (arith, ints, h)

-- a number of 64 bits is read from 128 as it is
read_back : (z r : ℤ) → FitsSigned w64 z → r ≡ to_z w64 (of_z w64 z) → to_z w128 (of_z w128 r) ≡ z
read_back z r h e =
    let same : r ≡ z = e ∙ to_z-of_z h in
    ap (λ x. to_z w128 (of_z w128 x)) same ∙ to_z-of_z (fits_signed_from_abs w128 z (omega (arith, small z h)))

is_decimal : (z : ℤ) → FitsSigned w64 z → IsDecimal (z, 0)
is_decimal z h = subst (λ x. IsDecimal (x, 0)) (signed_parts z) (whole_decimal (is_negative z) (unsigned_abs z) (small z h))

pub unreachable-requires : goal.unreachable-requires
unreachable-requires c =
    c.in-None.ensures.value (subst (λ x. IsExact (x, 0)) (sym (read_back c.args.value c.from.result c.ranges.value c.from.ensures)) (IsExact-decimal (c.args.value, 0) (is_decimal c.args.value c.ranges.value)))

pub returns-clause-ok : goal.returns-clause-ok
returns-clause-ok c =
    let same : c.in-Some.value ≡ (c.args.value, 0) =
    c.in-Some.ensures.value.1 ∙ ap (λ x. normal (x, 0)) (read_back c.args.value c.from.result c.ranges.value c.from.ensures)
    ∙ normal_decimal (c.args.value, 0) (is_decimal c.args.value c.ranges.value) in
    subst (λ (d : ℤ × ℕ). OnOk c.decimal_text.result (c.decimal_text.new.out ≡ c.args.out.now ++ decimal_text d)) same c.decimal_text.ensures.ok
