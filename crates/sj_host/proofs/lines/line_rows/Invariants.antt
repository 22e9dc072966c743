use Rattle.std.proofs.Common.{◌≡◌, ◌≤◌, length}
use Rattle.sj_host.specs.Host.{EndsLine, HasNoLine}
use Rattle.sj_host.proofs.lines.line_rows.Given as goal

-- whole lines are tried
abbrev pub invariant-loop-written : goal.invariant-loop-written
invariant-loop-written l = record {
  within : l.taken ≤ length l.input;
  ends : EndsLine l.fn.part l.input l.taken;
  room : length l.out ≡ length l.fn.out;
  some : l.taken ≡ 0 → HasNoLine l.fn.part l.input;
}

abbrev pub decreases-loop-written : goal.decreases-loop-written
decreases-loop-written l = l.taken
