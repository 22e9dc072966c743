use Rattle.std.proofs.Common.{◌≡◌, ◌+◌, ◌-◌, ◌*◌, ℕ, get_or, true, arith, sym, subst, inl, inr, ◌∙◌}
use Rattle.std.proofs.lemmas.Bool.{cases_order}
use Rattle.std.specs.Char.{is_ascii_digit}
use Rattle.sj_decimal.proofs.OnePass.{digits_none, digits_more}
use Rattle.sj_read.proofs.numeral.digits_end.Goals as goal

pub loop-at-init : goal.loop-at-init
loop-at-init c = record {
  digits = (0, digits_none c.args.bytes.now c.args.from 0 c.requires);
  first = λ some. absurd (omega (arith, some));
}

pub loop-at-preserved : goal.loop-at-preserved
loop-at-preserved c =
    let l = c.loop-at in
    let from = c.args.from in
    let t = c.args.bytes.now in
    let read = l.invariant.digits in
    let b = get_or t l.at 0 in
    let yes : is_ascii_digit b ≡ true = sym c.is_ascii_digit.ensures.value ∙ c.if-is_ascii_digit.true in
    record {
      digits = (read.0 * 10 + (b - 48), digits_more t from 0 l.at read.0 read.1 (omega (arith, c.loop-at-test.true)) yes);
      first = λ _. elim (cases_order from l.at) [
        | inl e ↦ subst (λ (i : ℕ). is_ascii_digit (get_or t i 0) ≡ true) (sym e) yes
        | inr (inl before) ↦ l.invariant.first before
        | inr (inr after) ↦ absurd (omega (arith, after, read.1.passes.later))
      ];
    }
