use Rattle.std.proofs.Common.{◌≡◌, ◌+◌, ◌-◌, ◌<◌, ◌≤◌, length, drop, get_or, false}
use Rattle.sj_base.specs.ByteClasses.{is_blank}
use Rattle.sj_json.specs.Machine.{after_value, run}
use Rattle.sj_doc.specs.Builders.{feeds_behind, node_total}
use Rattle.sj_read.specs.declared.reader.TheConstants.{MAX_DEPTH}
use Rattle.sj_read.specs.Turns.{Ready}
use Rattle.sj_read.proofs.reader.separators.Given as goal

abbrev pub invariant-separators : goal.invariant-separators
invariant-separators l = record {
  line : l.builder.1 ≡ l.fn.builder.1;
  within : l.from + feeds_behind < length l.builder.1;
  here : get_or l.builder.1 l.from 0 ≡ l.first;
  not_blank : is_blank l.first ≡ false;
  ready : Ready after_value l.builder.0;
  room : node_total l.builder.0 ≤ l.from;
  later : l.at ≤ l.from;
  same : run MAX_DEPTH after_value l.fn.builder.0 (drop l.at l.builder.1) ≡ run MAX_DEPTH after_value l.builder.0 (drop l.from l.builder.1);
}

abbrev pub decreases-separators : goal.decreases-separators
decreases-separators l = length l.builder.1 - l.from
