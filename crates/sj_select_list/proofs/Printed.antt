-- The outcome of JSON_EXISTS can be printed.
use Rattle.std.proofs.Common.{Bool, Result, Ok, Err}
use Rattle.sj_base.specs.declared.state.State.{State}
use Rattle.sj_path_tree.specs.declared.parts.Mode.{Mode}
use Rattle.sj_item.specs.Items.{ItemValue}
use Rattle.sj_step.specs.Trace.{Trace}
use Rattle.sj_cursor.specs.Answers.{exists_answer}
use Rattle.sj_value.specs.declared.clauses.ExistsAction.{ExistsAction}
use Rattle.sj_value.specs.declared.clauses.ExistsAction.TheVariants as exists
use Rattle.sj_func.specs.Functions.{ContextValue, answer_on, exists_given, exists_outcome, IsPrinted}

given_printed : (action : ExistsAction) (answer : Result Bool State) → IsPrinted (exists_given action answer)
given_printed action (Ok b) = tt
given_printed exists.True (Err s) = tt
given_printed exists.False (Err s) = tt
given_printed exists.Unknown (Err s) = tt
given_printed exists.Error (Err s) = tt

pub exists_printed : (action : ExistsAction) (mode : Mode) (context : ContextValue) (trace : ItemValue → Trace) → IsPrinted (exists_outcome action mode context trace)
unfolding exists_outcome
exists_printed action mode context trace = given_printed action (answer_on context (λ x. exists_answer mode (trace x)))
