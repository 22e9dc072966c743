use Rattle.std.proofs.Common.{◌≡◌, ℕ, ◌<◌, get_or, IsTrue, nat_lt, ap, arith}
use Rattle.sj_rows.specs.RowHead.{HeadOf}
use Rattle.sj_rows.proofs.NextHead.{last_digit}
use Rattle.sj_rows.proofs.row.RowHead.has_next.Goals as goal

less : (a b : ℕ) → IsTrue (nat_lt a b) → a < b
less a b h = grind (arith, h)

is_less : (a b : ℕ) → a < b → IsTrue (nat_lt a b)
is_less a b h = grind (arith, h)

pub returns-then-self-lt57 : goal.returns-then-self-lt57
returns-then-self-lt57 c =
    let text = c.self.inside in
    let line : text.line ≡ c.args.self.now.line = ap (λ (h : HeadOf). h.line) c.self.view_is in (
      λ h.
          let small : text.line < 18446744073709551615 = less text.line 18446744073709551615 h in
          (omega (arith, line, last_digit text.text text.line text.statement 82 c.self.invariant (omega (arith, small)), c.if-self-lt57.true), omega (arith, line, small)),
      λ h. is_less text.line 18446744073709551615 (omega (arith, line, h.1)),
    )

pub returns-else-self-lt57 : goal.returns-else-self-lt57
returns-else-self-lt57 c =
    let text = c.self.inside in
    let line : text.line ≡ c.args.self.now.line = ap (λ (h : HeadOf). h.line) c.self.view_is in (
      λ h. absurd (omega (arith, less (get_or text.text.bytes text.text.last 0) 57 h, c.if-self-lt57.false)),
      λ h. absurd (omega (arith, line, last_digit text.text text.line text.statement 82 c.self.invariant (omega (arith, line, h.1)), c.if-self-lt57.false, h.0)),
    )
