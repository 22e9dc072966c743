use Rattle.std.proofs.Common.{◌≡◌, ◌-◌, length}
use Rattle.sj_path_grammar.specs.Reading.{expr_or_pred_at, product_from}
use Rattle.sj_path_tree.specs.View.{expr_of}
use Rattle.sj_path.proofs.level.Level.product_from.Given as goal

abbrev pub invariant-loop-turn : goal.invariant-loop-turn
invariant-loop-turn g l =
    product_from (expr_or_pred_at l.self.depth) (length l.tokens) (expr_of l.fn.x.value) l.tokens
    ≡ product_from (expr_or_pred_at l.self.depth) (l._turn-end - l._turn) (expr_of l.e.value) l.rest
