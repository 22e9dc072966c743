use Rattle.std.proofs.Common.{ℕ, ◌+◌, Option, Some, None, MatchOption, sym, arith}
use Rattle.sj_json.specs.Machine.{begun, unit}
use Rattle.sj_read.specs.Strings.{FindsFrom, FailsFrom, FindsEscape, NoEscape}
use Rattle.sj_read.proofs.Steps.{ne_false}
use Rattle.sj_read.proofs.Escapes.{escape_cut, one_letter, no_letter, unit_finds, unit_fails}
use Rattle.sj_read.proofs.escape.escaped_char.Goals as goal

pub returns-then-from-bytes : goal.returns-then-from-bytes
returns-then-from-bytes c = escape_cut c.args.bytes.now c.args.from begun (omega (arith, c.if-from-bytes.true))

pub returns-then-c-ne0 : goal.returns-then-c-ne0
returns-then-c-ne0 c = one_letter c.args.bytes.now c.args.from c.letter-c.result (omega (arith, c.requires, c.if-from-bytes.false)) (sym c.letter-c.ensures) (omega (arith, c.if-c-ne0.true))

pub returns-then-bytes-from-ne117 : goal.returns-then-bytes-from-ne117
returns-then-bytes-from-ne117 c =
    no_letter c.args.bytes.now c.args.from (omega (arith, c.requires, c.if-from-bytes.false)) (omega (arith, c.letter-c.ensures, c.if-c-ne0.false)) (ne_false _ 117 (λ e. absurd (omega (arith, c.if-bytes-from-ne117.true, e))))

pub returns : goal.returns
returns c = by c.unit_char.result c.unit_char.ensures
  where
    by : (o : Option (ℕ × ℕ)) → MatchOption o (FailsFrom (unit None 0 0) c.args.bytes.now (c.args.from + 1)) (λ r. FindsFrom (unit None 0 0) c.args.bytes.now (c.args.from + 1) r.0 r.1)
        → MatchOption o (NoEscape c.args.bytes.now c.args.from) (λ r. FindsEscape c.args.bytes.now c.args.from r.0 r.1)
    by None f = unit_fails c.args.bytes.now c.args.from (omega (arith, c.requires, c.if-from-bytes.false)) (omega (arith, c.if-bytes-from-ne117.false)) f
    by (Some r) f = unit_finds c.args.bytes.now c.args.from (omega (arith, c.requires, c.if-from-bytes.false)) (omega (arith, c.if-bytes-from-ne117.false)) r.0 r.1 f
