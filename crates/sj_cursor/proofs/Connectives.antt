-- Connectives, and the item that a filter keeps.
use Rattle.std.proofs.Common.{◌≡◌, ℕ, ap, refl, arith}
use Rattle.sj_item.specs.Items.{item_value}
use Rattle.sj_item.specs.declared.item.Item.{Item}
use Rattle.sj_item.specs.Truths.{conjunction, disjunction, negation}
use Rattle.sj_item.specs.declared.truth.Truth.{Truth}
use Rattle.sj_item.specs.declared.truth.Truth.TheVariants.{True, False, Unknown}
use Rattle.sj_step.specs.Answers.{answer_value}
use Rattle.sj_step.specs.Trace.{stop}
use Rattle.sj_cursor.specs.Decides.{Decides}
use Rattle.sj_cursor.specs.Draws.{Draws}
use Rattle.sj_cursor.specs.Verdicts.{Verdict, and_verdict, or_verdict, not_verdict, unknown_verdict, filtered, kept}
use Rattle.sj_cursor.specs.Left.{unknown_truth, kept_answer}
use Rattle.sj_cursor.proofs.Draws.{paid, draws_after}

pub and_false : (v w : Verdict) (a b : ℕ) → Decides v False a b → Decides (and_verdict v w) False a b
unfolding and_verdict
and_false v w a b d = rw (← d.answers) (record { answers = no_more w.truth; costs = omega (arith, d.costs) })
  where
    no_more : (s : Truth) → False ≡ conjunction False s
    no_more True = refl
    no_more False = refl
    no_more Unknown = refl

pub and_other : (v w : Verdict) (r s : Truth) (a b c : ℕ) → (r ≡ False → ⊥) → Decides v r a b → Decides w s b c → Decides (and_verdict v w) (conjunction r s) a c
unfolding and_verdict
and_other v w True s a b c other d e = record { answers = rw (← d.answers, ← e.answers) refl; costs = rw (← d.answers) (omega (arith, d.costs, e.costs)) }
and_other v w False s a b c other d e = absurd (other refl)
and_other v w Unknown s a b c other d e = record { answers = rw (← d.answers, ← e.answers) refl; costs = rw (← d.answers) (omega (arith, d.costs, e.costs)) }

pub or_true : (v w : Verdict) (a b : ℕ) → Decides v True a b → Decides (or_verdict v w) True a b
unfolding or_verdict
or_true v w a b d = rw (← d.answers) (record { answers = no_more w.truth; costs = omega (arith, d.costs) })
  where
    no_more : (s : Truth) → True ≡ disjunction True s
    no_more True = refl
    no_more False = refl
    no_more Unknown = refl

pub or_other : (v w : Verdict) (r s : Truth) (a b c : ℕ) → (r ≡ True → ⊥) → Decides v r a b → Decides w s b c → Decides (or_verdict v w) (disjunction r s) a c
unfolding or_verdict
or_other v w True s a b c other d e = absurd (other refl)
or_other v w False s a b c other d e = record { answers = rw (← d.answers, ← e.answers) refl; costs = rw (← d.answers) (omega (arith, d.costs, e.costs)) }
or_other v w Unknown s a b c other d e = record { answers = rw (← d.answers, ← e.answers) refl; costs = rw (← d.answers) (omega (arith, d.costs, e.costs)) }

pub not_decides : (v : Verdict) (r : Truth) (a b : ℕ) → Decides v r a b → Decides (not_verdict v) (negation r) a b
unfolding not_verdict
not_decides v r a b d = record { answers = ap negation d.answers; costs = d.costs }

pub unknown_decides : (v : Verdict) (r : Truth) (a b : ℕ) → Decides v r a b → Decides (unknown_verdict v) (unknown_truth r) a b
unfolding unknown_verdict
unknown_decides v r a b d = record { answers = ap unknown_truth d.answers; costs = d.costs }

-- an item is kept or not, behind what its predicate took
kept_draws : (x : Item) (r : Truth) (a : ℕ) → Draws (kept r (item_value x)) (answer_value (kept_answer r) x) stop a a
kept_draws x True a = record { answers = refl; leaves = refl; costs = omega arith }
kept_draws x False a = record { answers = refl; leaves = refl; costs = omega arith }
kept_draws x Unknown a = record { answers = refl; leaves = refl; costs = omega arith }

pub filter_draws : (v : Verdict) (x : Item) (r : Truth) (a b : ℕ) → Decides v r a b → Draws (filtered v (item_value x)) (answer_value (kept_answer r) x) stop a b
unfolding filtered
filter_draws v x r a b d =
    draws_after _ _ _ _ _ _ _ (rw d.answers (paid v.allow (kept v.truth (item_value x)) a b d.costs)) (kept_draws x r b)
