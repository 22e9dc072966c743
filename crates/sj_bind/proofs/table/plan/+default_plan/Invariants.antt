use Rattle.std.proofs.Common.{◌≡◌, ◌≤◌, ◌+◌, length, option_map, None}
use Rattle.sj_value.specs.Plans.{plan_tree}
use Rattle.sj_bind.specs.FlatView.{paths_at}
use Rattle.sj_bind.specs.Grown.{with_all}
use Rattle.sj_bind.specs.Plans.{default_in}
use Rattle.sj_bind.proofs.table.plan.+default_plan.Given as goal

abbrev pub decreases-default_plan : goal.decreases-default_plan
decreases-default_plan l = length l.paths.now

-- the numbers go on, and the plans so far with those that are left are all
abbrev pub invariant-loop-path : goal.invariant-loop-path
invariant-loop-path l = record {
  depth : length l.rest ≤ length l.paths;
  total : l.next + length l.rest ≡ l.fn.next + length l.paths;
  plans : with_all l.siblings (option_map plan_tree l.below) (default_in l.in_out l.siblings l.number l.next (paths_at l.rest)) ≡ with_all l.siblings None (default_in l.in_out l.siblings l.number l.fn.next (paths_at l.paths));
}

abbrev pub decreases-loop-path : goal.decreases-loop-path
decreases-loop-path l = length l.rest
