use Rattle.std.proofs.Common.{IfOk, subst}
use Rattle.sj_build.specs.Constructors.{object_value}
use Rattle.sj_select_list.specs.Performing.{StackView, EndsIn, held, last_of, put}
use Rattle.sj_select_list.specs.Values.{outcome_of}
use Rattle.sj_select_list.proofs.stack.Stack.put_object.Goals as goal

pub returns-clause-does : goal.returns-clause-does
returns-clause-does c =
    let object = outcome_of (object_value c.args.nulls c.args.unique (last_of c.args.count (held c.args.self.now).members)) in
    subst (λ (left : StackView). IfOk c.put.result (λ raised. EndsIn (put object left) raised (held c.put.new.self))) c.in_ok-outcome.ensures.rest (c.put.ensures.does object c.in_ok-outcome.ensures.outcome)
