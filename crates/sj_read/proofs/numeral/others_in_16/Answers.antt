use Rattle.std.proofs.Common.{arith}
use Rattle.std.proofs.lemmas.Simd.{zip2_splat, zip2_splat_left}
use Rattle.sj_read.specs.Scans.{is_other}
use Rattle.sj_read.proofs.Lanes.{below, either, masked}
use Rattle.sj_read.proofs.numeral.others_in_16.Goals as goal

pub returns : goal.returns
returns c =
    let v = c.args.v in
    let long = c.fits-v.0 in
    masked _ is_other v _ (omega arith) c.fits-v.1 (either _ _ v (zip2_splat below v 16 48 long) (zip2_splat_left below 57 16 v long)) tt
