use Rattle.std.proofs.Common.{◌≡◌, [], map}
use Rattle.std.specs.List.{All, AllWithin}
use Rattle.sj_select_list.specs.Line.{Line}
use Rattle.sj_select_list.specs.Taking.{aggregate_of, IsReady, HasTaken}
use Rattle.sj_select_list.proofs.aggregate.begin_all.Given as goal

-- those that were gone over have taken nothing
abbrev pub invariant-loop-aggregate : goal.invariant-loop-aggregate
invariant-loop-aggregate l = record {
  calls : map aggregate_of l.all ≡ map aggregate_of l.fn.all;
  ready : All IsReady l.all;
  begun : (line : Line) → AllWithin (HasTaken line []) l.all 0 l.aggregate-index;
}
