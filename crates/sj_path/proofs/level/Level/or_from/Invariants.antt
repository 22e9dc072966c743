use Rattle.std.proofs.Common.{◌≡◌, ◌-◌, length}
use Rattle.sj_path_grammar.specs.Reading.{expr_or_pred_at, or_from}
use Rattle.sj_path_tree.specs.View.{pred_of}
use Rattle.sj_path.proofs.level.Level.or_from.Given as goal

abbrev pub invariant-loop-turn : goal.invariant-loop-turn
invariant-loop-turn g l =
    or_from (expr_or_pred_at l.self.depth) (length l.tokens) (pred_of l.fn.p.value) l.tokens
    ≡ or_from (expr_or_pred_at l.self.depth) (l._turn-end - l._turn) (pred_of l.q.value) l.rest
