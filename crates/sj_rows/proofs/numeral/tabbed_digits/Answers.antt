use Rattle.sj_rows.proofs.Numerals.{copied_more}
use Rattle.sj_rows.proofs.numeral.tabbed_digits.Goals as goal
use Rattle.sj_rows.proofs.numeral.tabbed_digits.Goals.{else-not-is_ascii_digit-via-then-not-is_ascii_digit+else-at-point, else-not-is_ascii_digit-via-else-not-is_ascii_digit}

pub loop-at-preserved : goal.loop-at-preserved
loop-at-preserved c =
    elim c.else-not-is_ascii_digit.branch [
      | else-not-is_ascii_digit-via-then-not-is_ascii_digit+else-at-point w ↦
          copied_more c.args.point c.loop-at.at c.args.bytes.now c.loop-at.window c.loop-at.invariant c.loop-at-test.true c.requires (λ no. absurd (no w.if-at-point.false))
      | else-not-is_ascii_digit-via-else-not-is_ascii_digit w ↦
          copied_more c.args.point c.loop-at.at c.args.bytes.now c.loop-at.window c.loop-at.invariant c.loop-at-test.true c.requires (λ _. w.if-not-is_ascii_digit.ensures.cases)
    ]
