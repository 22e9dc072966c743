use Rattle.std.proofs.Common.{Ok, subst}
use Rattle.sj_sql.specs.File.{IsFirst, IsNext}
use Rattle.sj_sql.specs.declared.file.NextStatement.{NextStatement}
use Rattle.sj_sql_tree.specs.View.{statement_of}
use Rattle.sj_bind.proofs.Accepting.{accepted_bindable}
use Rattle.sj_row_tests.proofs.selects.bound.Goals as goal

pub bind-requires : goal.bind-requires
bind-requires c =
    let file = c.as_bytes.result.now in
    let s = statement_of c.in-Ok-Statement.statement in
    let first : IsFirst file s _ = subst (λ (x : NextStatement). IsNext file (Ok x)) c.in-Ok-Statement.field-0-is c.in-Ok-Statement.ensures in
    accepted_bindable first.tokens s first.accepted
