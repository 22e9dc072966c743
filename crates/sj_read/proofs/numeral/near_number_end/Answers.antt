use Rattle.std.proofs.Common.{◌+◌, ◌<◌, sym, subst, arith}
use Rattle.sj_decimal.proofs.OnePass.{no_fraction}
use Rattle.sj_read.specs.Numerals.{HasFraction}
use Rattle.sj_read.proofs.numeral.near_number_end.Goals as goal
use Rattle.sj_read.proofs.numeral.near_number_end.Goals.{then-bytes-point-eq46+in_ok-end, else-bytes-point-eq46}

pub returns-else-goes_on : goal.returns-else-goes_on
returns-else-goes_on c =
    let b = c.args.bytes.now in
    let point = c.in_ok-point.point in
    let end = c.if-bytes-point-eq46.end in
    let near = c.in_ok-point.ensures {u = tt} in
    let whole = c.is_whole.ensures in
    let behind : HasFraction b point end × (end < c.args.from + 32) = elim c.if-bytes-point-eq46.branch [
      | then-bytes-point-eq46+in_ok-end w ↦
          let f = w.in_ok-end.ensures {u = tt} in
          (subst (HasFraction b point) (sym w.end-is) f.fraction, omega (arith, f.near, w.end-is, near.near))
      | else-bytes-point-eq46 w ↦ (subst (HasFraction b point) (sym w.end-is) (λ n. (n, no_fraction b point n (omega (arith, near.within)))), omega (arith, w.end-is, near.near))
    ] in
    record {
      point = point;
      whole = whole.whole c.if-not-is_whole.false;
      fraction = behind.0;
      stops = c.goes_on.ensures c.if-goes_on.false;
      first = near.first (whole.some c.if-not-is_whole.false);
      near = omega (arith, behind.1);
    }
