use Rattle.std.proofs.Common.{◌≡◌, ◌-◌, length}
use Rattle.sj_path_grammar.specs.Reading.{expr_or_pred_at, and_from}
use Rattle.sj_path_tree.specs.View.{pred_of}
use Rattle.sj_path.proofs.level.Level.and_from.Given as goal

abbrev pub invariant-loop-turn : goal.invariant-loop-turn
invariant-loop-turn g l =
    and_from (expr_or_pred_at l.self.depth) (length l.tokens) (pred_of l.fn.p.value) l.tokens
    ≡ and_from (expr_or_pred_at l.self.depth) (l._turn-end - l._turn) (pred_of l.q.value) l.rest
