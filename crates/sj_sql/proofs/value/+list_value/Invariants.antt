use Rattle.sj_sql.proofs.value.+list_value.Given as goal

abbrev pub decreases-list_value : goal.decreases-list_value
decreases-list_value l = l.depth
