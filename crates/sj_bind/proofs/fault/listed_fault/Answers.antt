use Rattle.sj_sql_tree.specs.View.{items_of}
use Rattle.sj_bind.specs.FlatView.{flat_of}
use Rattle.sj_bind.proofs.Groups.{listed_stops}
use Rattle.sj_bind.proofs.fault.listed_fault.Goals as goal

pub returns-then-is_some : goal.returns-then-is_some
returns-then-is_some c = listed_stops (items_of c.args.items.now) (flat_of c.args.table.now) c.in_ok-fault.fault (cc) c.in_ok-fault.ensures (cc)
