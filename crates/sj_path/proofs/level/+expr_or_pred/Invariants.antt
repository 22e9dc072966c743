use Rattle.sj_path.proofs.level.+expr_or_pred.Given as goal

abbrev pub decreases-expr_or_pred : goal.decreases-expr_or_pred
decreases-expr_or_pred l = l.depth
