use Rattle.std.proofs.Common.{Ok, None}
use Rattle.sj_func.proofs.Outcomes.{value_appends, cast_appends, refused_appends}
use Rattle.sj_func.proofs.field.json_value_field.Goals as goal

pub returns-in-Ok-clause-appends : goal.returns-in-Ok-clause-appends
returns-in-Ok-clause-appends c = value_appends _ _ _ _ _ (Ok None) _ _ (rw c.in-Ok-Some.field-0-is at c.in-Ok-Some.ensures.answers) (cast_appends _ _ _ _ c.in-Ok.ensures)

pub returns-in-Err-State-clause-appends : goal.returns-in-Err-State-clause-appends
returns-in-Err-State-clause-appends c =
    let refused = rw c.in-Err-State.field-0-is at c.in-Err-State.ensures in
    value_appends _ _ _ _ _ _ _ _ (rw c.in-Ok-Some.field-0-is at c.in-Ok-Some.ensures.answers) (refused_appends _ _ _ _ _ _ _ refused.0 refused.1 c.rare_field.ensures)

pub returns-in-Ok-None-clause-appends : goal.returns-in-Ok-None-clause-appends
returns-in-Ok-None-clause-appends c = value_appends _ _ _ _ _ _ _ _ (rw c.in-Ok-None.field-0-is at c.in-Ok-None.ensures.answers) c.rare_field-in-Ok-None.ensures

pub returns-in-Err-clause-appends : goal.returns-in-Err-clause-appends
returns-in-Err-clause-appends c = value_appends _ _ _ _ _ _ _ _ c.in-Err.ensures.answers c.rare_field-in-Err.ensures
