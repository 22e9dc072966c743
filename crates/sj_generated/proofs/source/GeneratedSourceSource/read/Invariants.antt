use Rattle.std.proofs.Common.{◌≡◌, ◌-◌, ◌≤◌, ◌++◌, length, take}
use Rattle.sj_generated.proofs.source.GeneratedSourceSource.read.Given as goal

-- the bytes so far and those that are left are all
abbrev pub invariant-loop-filled : goal.invariant-loop-filled
invariant-loop-filled l = record {
  within : l.filled ≤ length l.buf;
  bytes : l.fn.self ≡ take l.filled l.buf ++ l.self;
}

abbrev pub decreases-loop-filled : goal.decreases-loop-filled
decreases-loop-filled l = length l.initial.buf - l.filled
