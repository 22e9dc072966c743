use Rattle.std.proofs.Common.{◌≡◌, ℕ, ◌-◌, subst, sym, ap, ◌∙◌, arith}
use Rattle.sj_decimal.specs.Signed.{signed}
use Rattle.sj_decimal.specs.Normal.{normal, IsExact}
use Rattle.sj_decimal.specs.Number.{SpellsExact}
use Rattle.sj_decimal.proofs.OnePass.{short_spells}
use Rattle.sj_decimal.proofs.decimal.Decimal.parse_short.Goals as goal

pub returns-clause-value : goal.returns-clause-value
returns-clause-value c =
    let b = c.args.bytes.now in
    let m = c.in_ok-magnitude.magnitude in
    let negative = c.minus_end-negative.result.0 in
    let places = c.in_ok-magnitude.end - c.in_ok-whole.point - 1 in
    let scale : c.saturating_sub-scale.result ≡ places = c.saturating_sub-scale.ensures in
    let exact : IsExact (signed negative m, places) = subst (λ (k : ℕ). IsExact (signed negative m, k)) scale c.from_short.ensures.exact in
    let value : c.from_short.result ≡ normal (signed negative m, places) = c.from_short.ensures.value ∙ ap (λ (k : ℕ). normal (signed negative m, k)) scale in
    subst (SpellsExact b) (sym value)
    (short_spells b c.minus_end-negative.result.1 c.in_ok-whole.point c.in_ok-magnitude.end c.in_ok-whole.whole m negative c.minus_end-negative.ensures.sign (c.in_ok-whole.ensures {u = tt}).whole (c.in_ok-magnitude.ensures {u = tt}).fraction (omega (arith, c.if-end-bytes.false)) exact)
