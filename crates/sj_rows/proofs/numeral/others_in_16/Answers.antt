use Rattle.std.proofs.Common.{arith, ℕ, not}
use Rattle.std.proofs.lemmas.Simd.{zip2_splat, zip2_splat_left}
use Rattle.std.specs.Char.{is_ascii_digit}
use Rattle.sj_text.proofs.Lanes.{below, either, masked}
use Rattle.sj_rows.proofs.numeral.others_in_16.Goals as goal

pub returns : goal.returns
returns c =
    let v = c.args.v in
    let long = c.fits-v.0 in
    masked _ (λ (x : ℕ). not (is_ascii_digit x)) v _ (omega arith) c.fits-v.1 (either _ _ v (zip2_splat below v 16 48 long) (zip2_splat_left below 57 16 v long)) tt
