use Rattle.std.proofs.Common.{arith}
use Rattle.std.proofs.lemmas.Simd.{zip2_splat}
use Rattle.sj_text.proofs.Lanes.{hit, masked}
use Rattle.sj_rows.specs.HeldLines.{is_feed}
use Rattle.sj_rows.proofs.scan.feeds_in_32.Goals as goal

pub returns : goal.returns
returns c = masked _ is_feed c.args.v _ (omega arith) c.fits-v.1 (zip2_splat hit c.args.v 32 10 c.fits-v.0) tt
