use Rattle.std.proofs.Common.{◌≡◌, drop}
use Rattle.sj_sql_tree.specs.View.{plan_of}
use Rattle.sj_bind.specs.FlatView.{paths_at}
use Rattle.sj_bind.specs.Plans.{standing, each_once}
use Rattle.sj_bind.proofs.table.matching.stand_once.Given as goal

-- the paths so far keep the rule
abbrev pub invariant-loop-path : goal.invariant-loop-path
invariant-loop-path l = each_once (paths_at (drop l.path-index l.paths)) (standing (plan_of l.plan)) l.parent ≡ each_once (paths_at l.paths) (standing (plan_of l.plan)) l.parent
