use Rattle.std.proofs.Common.{Some, subst, ⊎_elim}
use Rattle.sj_value.specs.declared.types.SqlType.TheVariants.{Varchar, VarcharMax, Numeric, NumericFixed, Integer, Bigint}
use Rattle.sj_value.specs.Types.{AreDigits, IsCastType}
use Rattle.sj_text.specs.Numerals.{IsDecimalText}
use Rattle.sj_rows.specs.Numerals.{IsTextOf}
use Rattle.sj_rows.proofs.Casts.{integer_printed, bigint_printed, numeric_printed, varchar_printed, varchar_within_printed, fixed_printed, at_type}
use Rattle.sj_rows.proofs.cast.numeral_point.Goals as goal

pub returns-in-Integer-clause-field : goal.returns-in-Integer-clause-field
returns-in-Integer-clause-field c =
    let b = c.args.numeral.now in
    let end = c.whole_end in
    at_type (IsTextOf 9 0 b) c.args.ty Integer b end.result end.ensures.text (integer_printed b) c.in-Integer.is

pub returns-in-Bigint-clause-field : goal.returns-in-Bigint-clause-field
returns-in-Bigint-clause-field c =
    let b = c.args.numeral.now in
    let end = c.whole_end-in-Bigint in
    at_type (IsTextOf 18 0 b) c.args.ty Bigint b end.result end.ensures.text (bigint_printed b) c.in-Bigint.is

pub returns-in_ok-plain_point-in-Numeric-clause-field : goal.returns-in_ok-plain_point-in-Numeric-clause-field
returns-in_ok-plain_point-in-Numeric-clause-field c =
    let b = c.args.numeral.now in
    let found = c.in_ok-plain_point-in-Numeric in
    ⊎_elim (at_type (IsDecimalText b) c.args.ty Numeric b (Some found.field-0) found.ensures.text (numeric_printed b))
    (at_type (IsDecimalText b) c.args.ty Varchar b (Some found.field-0) found.ensures.text (varchar_printed b)) c.in-Numeric.is

pub returns-in_ok-plain_point-in-VarcharMax-clause-field : goal.returns-in_ok-plain_point-in-VarcharMax-clause-field
returns-in_ok-plain_point-in-VarcharMax-clause-field c =
    let b = c.args.numeral.now in
    let arm = c.in-VarcharMax in
    let found = c.in_ok-plain_point-in-VarcharMax in
    at_type (IsDecimalText b) c.args.ty (VarcharMax arm.n) b (Some found.field-0) found.ensures.text (varchar_within_printed arm.n b c.if-numeral-n.true) arm.is

pub returns-in-NumericFixed-clause-field : goal.returns-in-NumericFixed-clause-field
returns-in-NumericFixed-clause-field c =
    let b = c.args.numeral.now in
    let arm = c.in-NumericFixed in
    let point = c.fixed_point in
    let are : AreDigits arm.digits arm.places = subst IsCastType arm.is c.requires in
    at_type (IsTextOf arm.digits arm.places b) c.args.ty (NumericFixed arm.digits arm.places) b point.result point.ensures.text (fixed_printed arm.digits arm.places b are) arm.is
