use Rattle.sj_sql_tree.proofs.Rows.{array}
use Rattle.sj_sql.proofs.value.array_of.Goals as goal

pub returns : goal.returns
returns c = array c.args.values c.args.nulls
