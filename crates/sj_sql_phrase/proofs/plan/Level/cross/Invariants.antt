use Rattle.std.proofs.Common.{◌≡◌, ◌-◌, length}
use Rattle.sj_sql_grammar.specs.Reading.{plan_expr_at, cross_from}
use Rattle.sj_sql_tree.specs.View.{plan_of}
use Rattle.sj_sql_phrase.proofs.plan.Level.cross.Given as goal

abbrev pub invariant-loop-turn : goal.invariant-loop-turn
invariant-loop-turn g l =
    cross_from (plan_expr_at l.self.depth) (length l.tokens) (plan_of l.fn.first) l.tokens
    ≡ cross_from (plan_expr_at l.self.depth) (l._turn-end - l._turn) (plan_of l.plan) l.left.tokens.now
