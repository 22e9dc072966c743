use Rattle.sj_group.proofs.Growth.{grown}
use Rattle.sj_group.proofs.group.Group.add.Goals as goal

pub returns-clause-group : goal.returns-clause-group
returns-clause-group c = λ rows g. grown rows c.args.row.now c.args.self.now c.saturating_add-self.result c.add.new.self g c.saturating_add-self.ensures (c.in_ok-add.ensures.gathers rows g.gathers)
