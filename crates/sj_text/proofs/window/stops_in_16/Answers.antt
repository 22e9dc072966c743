use Rattle.std.proofs.Common.{arith, ℕ, not}
use Rattle.std.proofs.lemmas.Simd.{zip2_splat}
use Rattle.sj_base.specs.ByteClasses.{is_plain}
use Rattle.sj_text.proofs.Lanes.{hit, below, either, masked}
use Rattle.sj_text.proofs.window.stops_in_16.Goals as goal

pub returns : goal.returns
returns c =
    let v = c.args.v in
    let long = c.fits-v.0 in
    masked _ (λ (x : ℕ). not (is_plain x)) v _ (omega arith) c.fits-v.1 (either _ _ v (either _ _ v (zip2_splat hit v 16 34 long) (zip2_splat hit v 16 92 long)) (zip2_splat below v 16 32 long)) tt
