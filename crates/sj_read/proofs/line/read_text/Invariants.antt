use Rattle.std.proofs.Common.{◌≡◌, ◌+◌, ◌-◌, ◌≤◌, length, drop}
use Rattle.sj_json.specs.Machine.{run, reading}
use Rattle.sj_doc.specs.Builders.{feeds_behind, held, node_total}
use Rattle.sj_read.specs.declared.reader.TheConstants.{MAX_DEPTH}
use Rattle.sj_read.specs.Turns.{mode_of, Ready}
use Rattle.sj_read.proofs.line.read_text.Given as goal

abbrev pub invariant-loop-at : goal.invariant-loop-at
invariant-loop-at l = record {
  within : l.at + feeds_behind ≤ length (held l.text);
  line : l.builder.1 ≡ held l.text;
  ready : Ready (mode_of l.mode) l.builder.0;
  room : node_total l.builder.0 ≤ l.at;
  same : run MAX_DEPTH (mode_of l.mode) l.builder.0 (drop l.at (held l.text)) ≡ reading MAX_DEPTH l.text;
}

abbrev pub decreases-loop-at : goal.decreases-loop-at
decreases-loop-at l = length l.text - l.at
