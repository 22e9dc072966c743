use Rattle.std.proofs.Common.{ap, ◌∙◌}
use Rattle.sj_path_tree.specs.View.{pred_of}
use Rattle.sj_cursor.proofs.PathMoves.{moves_all, moves_member, moves_filter}
use Rattle.sj_cursor.proofs.moves.add.Goals as goal

pub returns-in-AllElements-clause-means : goal.returns-in-AllElements-clause-means
returns-in-AllElements-clause-means c = λ yes e h. rw c.in-AllElements.is (moves_all e _ _ c.in_ok-push.ensures.items h)

pub returns-in_ok-push-in-Member-clause-means : goal.returns-in_ok-push-in-Member-clause-means
returns-in_ok-push-in-Member-clause-means c = λ yes e h. rw c.in-Member.is (moves_member e _ _ _ _ _ c.as_str.ensures.value c.in_ok-push.ensures.items c.in_ok-push-in-Member.ensures.items h)

pub returns-in_ok-push-in-Some-clause-means : goal.returns-in_ok-push-in-Some-clause-means
returns-in_ok-push-in-Some-clause-means c = λ yes e h.
    rw c.in-Filter.is
    (moves_filter e _ c.in-Some.test _ _ _ (c.in-Some.ensures ∙ ap pred_of c.deref.ensures) c.in_ok-push.ensures.items c.in_ok-push-in-Some.ensures.items h)
