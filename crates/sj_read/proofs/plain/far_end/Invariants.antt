use Rattle.std.proofs.Common.{◌≡◌, ◌+◌, ◌-◌, ◌≤◌, length, drop}
use Rattle.std.specs.List.{prefix_len}
use Rattle.sj_base.specs.ByteClasses.{is_plain}
use Rattle.sj_doc.specs.Builders.{feeds_behind}
use Rattle.sj_read.proofs.plain.far_end.Given as goal

abbrev pub invariant-steps : goal.invariant-steps
invariant-steps l =
    (l.from + prefix_len is_plain (drop l.from l.text) ≡ l.at + prefix_len is_plain (drop l.at l.text)) × (l.at + feeds_behind ≤ length l.text)

abbrev pub decreases-steps : goal.decreases-steps
decreases-steps l = length l.text - l.at
