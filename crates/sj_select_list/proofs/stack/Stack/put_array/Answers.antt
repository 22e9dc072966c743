use Rattle.std.proofs.Common.{IfOk, subst}
use Rattle.sj_build.specs.Constructors.{array_value}
use Rattle.sj_func.specs.declared.context.Outcome.TheVariants.{Value}
use Rattle.sj_select_list.specs.Performing.{StackView, EndsIn, held, last_of, put}
use Rattle.sj_select_list.proofs.stack.Stack.put_array.Goals as goal

pub returns-clause-does : goal.returns-clause-does
returns-clause-does c =
    let array = Value (array_value c.args.nulls (last_of c.args.count (held c.args.self.now).values)) in
    subst (λ (left : StackView). IfOk c.put.result (λ raised. EndsIn (put array left) raised (held c.put.new.self))) c.in_ok-outcome.ensures.rest (c.put.ensures.does array c.in_ok-outcome.ensures.outcome)
