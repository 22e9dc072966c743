use Rattle.std.proofs.Common.{◌≡◌, ap, arith}
use Rattle.sj_rows.specs.RowHead.{HeadOf}
use Rattle.sj_rows.proofs.NextHead.{last_digit, next_head}
use Rattle.sj_rows.proofs.row.RowHead.advance.Goals as goal

pub overflow_add-self : goal.overflow_add-self
overflow_add-self c =
    let next = c.has_next.ensures.0 c.if-has_next.true in
    let head = c.self.inside in
    let line : head.line ≡ c.args.self.now.line = ap (λ (h : HeadOf). h.line) c.self.view_is in
    omega (arith, line, last_digit head.text head.line head.statement 82 c.self.invariant (omega (arith, line, next.1)), next.0)

pub invariant_of-self : goal.invariant_of-self
invariant_of-self c =
    let next = c.has_next.ensures.0 c.if-has_next.true in
    let head = c.self.inside in
    let line : head.line ≡ c.args.self.now.line = ap (λ (h : HeadOf). h.line) c.self.view_is in
    let digit = last_digit head.text head.line head.statement 82 c.self.invariant (omega (arith, line, next.1)) in
    next_head head.text head.line head.statement 82 c.self.invariant (omega (arith, line, next.1)) (omega (arith, line, digit, next.0))
