use Rattle.sj_sql_tree.proofs.Rows.{object}
use Rattle.sj_sql.proofs.value.object_of.Goals as goal

pub returns : goal.returns
returns c = object c.args.members c.args.nulls c.args.unique
