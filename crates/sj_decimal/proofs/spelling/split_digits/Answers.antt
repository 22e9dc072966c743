use Rattle.std.proofs.Common.{◌≡◌, sym, ap, ◌∙◌, arith, take, drop, rules}
use Rattle.std.specs.List.{prefix_len}
use Rattle.std.specs.Char.{is_ascii_digit}
use Rattle.std.proofs.lemmas.List.Sums.{prefix_len_is}
use Rattle.sj_decimal.specs.Reading.{leading_digits, after_digits}
use Rattle.sj_decimal.proofs.spelling.split_digits.Goals as goal
use Rattle.sj_decimal.proofs.spelling.split_digits.Goals.{then-loop-count-test+else-is_ascii_digit, else-loop-count-test}

counted : (c : goal.After-split_at) → prefix_len is_ascii_digit c.args.bytes.now ≡ c.loop-count.count
counted c =
    prefix_len_is is_ascii_digit c.args.bytes.now c.loop-count.count 0 c.loop-count.invariant.0 c.loop-count.invariant.1
    (λ below. elim c.loop-count-test.branch [
      | then-loop-count-test+else-is_ascii_digit w ↦ search rules
      | else-loop-count-test w ↦ absurd (omega arith)
    ])

pub returns-clause-digits : goal.returns-clause-digits
unfolding leading_digits
returns-clause-digits c = c.split_at.ensures.front ∙ ap (λ n. take n c.args.bytes.now) (sym (counted c))

pub returns-clause-rest : goal.returns-clause-rest
unfolding after_digits
returns-clause-rest c = c.split_at.ensures.back ∙ ap (λ n. drop n c.args.bytes.now) (sym (counted c))
