-- An expression or a predicate that the parser holds, as the grammar has it.
use Rattle.sj_path_tree.specs.View.{expr_of, pred_of}
use Rattle.sj_path.specs.declared.found.ExprOrPred.{ExprOrPred}
use Rattle.sj_path.specs.declared.found.ExprOrPred.TheVariants as either
use Rattle.sj_path_grammar.specs.Reading as r

abbrev pub expr_or_pred_of : ExprOrPred → r.ExprOrPred
expr_or_pred_of (either.Value e) = r.Value (expr_of e.value)
expr_or_pred_of (either.Test p) = r.Test (pred_of p.value)
