use Rattle.std.proofs.Common.{[]}
use Rattle.sj_group.proofs.Growth.{begun}
use Rattle.sj_group.proofs.group.Group.first.Goals as goal

pub returns-clause-group : goal.returns-clause-group
returns-clause-group c = begun c.args.row.now c.add.new.self (c.in_ok-add.ensures.gathers [] c.new-gathered.ensures.none)
