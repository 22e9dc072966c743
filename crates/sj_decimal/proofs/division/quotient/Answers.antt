use Rattle.std.proofs.Common.{◌<◌, ◌*◌, ◌/◌, ◌^◌, sym, subst, arith}
use Rattle.sj_decimal.specs.declared.parsing.Parsed.{Parsed}
use Rattle.sj_decimal.specs.Signed.{signed}
use Rattle.sj_decimal.specs.Parses.{Evaluates}
use Rattle.sj_decimal.proofs.Divisions.{quotient_wide, quotient_answer, result_is, fault_of, shift_of_zeros}
use Rattle.sj_decimal.proofs.division.quotient.Goals as goal

pub returns-in_default-clause-value : goal.returns-in_default-clause-value
returns-in_default-clause-value c =
    sym (quotient_wide c.args.negative (c.args.left * 10 ^ c.args.count / c.args.right) (c.in_default.ensures {u = tt}).value)

pub returns-in-Exact-clause-value : goal.returns-in-Exact-clause-value
returns-in-Exact-clause-value c =
    let few : c.in-Fits.zeros < 2 ^ 64 = omega (arith, (c.in-Fits.ensures {u = tt}).bound, c.requires.count) in
    let answer : Evaluates (signed c.args.negative (c.args.left * 10 ^ c.args.count / c.args.right), 16) c.shifted.result =
    quotient_answer c.args.negative (c.args.left * 10 ^ c.args.count / c.args.right) c.in-Fits.magnitude c.in-Fits.zeros _ c.shifted.result
    (c.in-Fits.ensures {u = tt}).value.0 (shift_of_zeros c.in-Fits.zeros few) c.shifted.ensures.value in
    result_is (signed c.args.negative (c.args.left * 10 ^ c.args.count / c.args.right), 16) c.in-Exact.number
    (subst (λ (r : Parsed). Evaluates (signed c.args.negative (c.args.left * 10 ^ c.args.count / c.args.right), 16) r) c.in-Exact.is answer)

pub returns-in-Wide : goal.returns-in-Wide
returns-in-Wide c =
    let few : c.in-Fits.zeros < 2 ^ 64 = omega (arith, (c.in-Fits.ensures {u = tt}).bound, c.requires.count) in
    record {
      value = fault_of (signed c.args.negative (c.args.left * 10 ^ c.args.count / c.args.right), 16) c.shifted.result
          (quotient_answer c.args.negative (c.args.left * 10 ^ c.args.count / c.args.right) c.in-Fits.magnitude c.in-Fits.zeros _ c.shifted.result
          (c.in-Fits.ensures {u = tt}).value.0 (shift_of_zeros c.in-Fits.zeros few) c.shifted.ensures.value)
          c.in-Wide.is;
      decimal = tt;
    }
