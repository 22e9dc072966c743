use Rattle.sj_sql_tree.proofs.Rows.{nested}
use Rattle.sj_sql.proofs.column.nested_of.Goals as goal

pub returns : goal.returns
returns c = nested c.args.path c.args.name c.args.columns
