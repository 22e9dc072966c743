use Rattle.std.proofs.Common.{arith}
use Rattle.std.proofs.lemmas.Simd.{zip2_splat_left}
use Rattle.sj_read.specs.Scans.{is_high}
use Rattle.sj_read.proofs.Lanes.{below, masked}
use Rattle.sj_read.proofs.utf8.high_in_8.Goals as goal

pub returns : goal.returns
returns c = masked _ is_high c.args.v _ (omega arith) c.fits-v.1 (zip2_splat_left below 127 8 c.args.v c.fits-v.0) tt
