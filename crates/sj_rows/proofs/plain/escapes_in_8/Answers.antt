use Rattle.std.proofs.Common.{arith}
use Rattle.std.proofs.lemmas.Simd.{zip2_splat}
use Rattle.sj_rows.specs.RowText.{has_escape}
use Rattle.sj_text.proofs.Lanes.{hit, either, masked}
use Rattle.sj_rows.proofs.plain.escapes_in_8.Goals as goal

pub returns : goal.returns
returns c =
    let v = c.args.v in
    let long = c.fits-v.0 in
    masked _ has_escape v _ (omega arith) c.fits-v.1 (either _ _ v (either _ _ v (either _ _ v (zip2_splat hit v 8 92 long) (zip2_splat hit v 8 9 long)) (zip2_splat hit v 8 10 long)) (zip2_splat hit v 8 13 long)) tt
