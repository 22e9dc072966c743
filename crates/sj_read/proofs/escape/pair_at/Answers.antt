use Rattle.std.proofs.Common.{◌+◌, ℕ, Option, MatchOption, sym, subst, arith}
use Rattle.sj_json.specs.Machine.{high}
use Rattle.sj_read.specs.Strings.{FailsFrom, FindsFrom}
use Rattle.sj_read.proofs.Steps.{ne_false}
use Rattle.sj_read.proofs.Escapes.{short_pair, no_backslash, no_u, no_second, not_low, finds_pair}
use Rattle.sj_read.proofs.escape.pair_at.Goals as goal

pub returns-then-bytes-from-lt2 : goal.returns-then-bytes-from-lt2
returns-then-bytes-from-lt2 c = short_pair c.args.bytes.now c.args.from c.args.high c.requires.within (omega (arith, c.if-bytes-from-lt2.true))

pub returns-then-bytes-from-ne92 : goal.returns-then-bytes-from-ne92
returns-then-bytes-from-ne92 c =
    no_backslash c.args.bytes.now c.args.from c.args.high (omega (arith, c.requires.within, c.if-bytes-from-lt2.false)) (ne_false _ 92 (λ e. absurd (omega (arith, c.if-bytes-from-ne92.true, e))))

pub returns-then-bytes-from-ne117 : goal.returns-then-bytes-from-ne117
returns-then-bytes-from-ne117 c =
    no_u c.args.bytes.now c.args.from c.args.high (omega (arith, c.requires.within, c.if-bytes-from-lt2.false)) (omega (arith, c.if-bytes-from-ne92.false)) (ne_false _ 117 (λ e. absurd (omega (arith, c.if-bytes-from-ne117.true, e))))

pub returns-in_err-low : goal.returns-in_err-low
returns-in_err-low c =
    let t = c.args.bytes.now in
    subst (λ (o : Option _). MatchOption o (FailsFrom (high c.args.high) t c.args.from) (λ r. FindsFrom (high c.args.high) t c.args.from r.0 r.1)) (sym c.from_residual.ensures)
    (no_second t c.args.from c.args.high (omega (arith, c.requires.within, c.if-bytes-from-lt2.false)) (omega (arith, c.if-bytes-from-ne92.false)) (omega (arith, c.if-bytes-from-ne117.false)) c.in_err-low.ensures)

pub returns-then-not-is_low_surrogate : goal.returns-then-not-is_low_surrogate
returns-then-not-is_low_surrogate c =
    not_low c.args.bytes.now c.args.from c.args.high (omega (arith, c.requires.within, c.if-bytes-from-lt2.false)) (omega (arith, c.if-bytes-from-ne92.false)) (omega (arith, c.if-bytes-from-ne117.false)) c.in_ok-low.low c.in_ok-low.ensures
    (sym c.if-not-is_low_surrogate.ensures)

pub returns : goal.returns
returns c =
    let t = c.args.bytes.now in
    subst (λ (n : ℕ). FindsFrom (high c.args.high) t c.args.from n (c.args.from + 6)) (sym c.surrogate_pair_char.ensures)
    (finds_pair t c.args.from c.args.high (omega (arith, c.requires.within, c.if-bytes-from-lt2.false)) (omega (arith, c.if-bytes-from-ne92.false)) (omega (arith, c.if-bytes-from-ne117.false)) c.in_ok-low.low c.in_ok-low.ensures
    (sym c.if-not-is_low_surrogate.ensures))
