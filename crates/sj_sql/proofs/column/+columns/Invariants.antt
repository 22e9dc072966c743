use Rattle.sj_sql.proofs.column.+columns.Given as goal

abbrev pub decreases-columns : goal.decreases-columns
decreases-columns l = l.depth
