use Rattle.sj_sql_tree.specs.View.{statement_of}
use Rattle.sj_bind.proofs.Accepting.{accepted_bindable}
use Rattle.sj_bound.specs.View.{bound_of}
use Rattle.sj_file.proofs.Verdicts.{first_so, bound_first, unbound, refused_so}
use Rattle.sj_file.proofs.verdict.next_bound.Goals as goal

pub bound_as-requires : goal.bound_as-requires
bound_as-requires c =
    let s = c.in-Ok-Statement.statement in
    let first = first_so c.args.rest.now c.in-Ok-Statement.field-0 s c.in-Ok-Statement.behind c.in-Ok-Statement.field-0-is c.in-Ok-Statement.ensures in
    accepted_bindable first.tokens (statement_of s) first.accepted

pub returns-in-Err-bound_as : goal.returns-in-Err-bound_as
returns-in-Err-bound_as c =
    let s = c.in-Ok-Statement.statement in
    let behind = c.in-Ok-Statement.behind in
    let first = first_so c.args.rest.now c.in-Ok-Statement.field-0 s behind c.in-Ok-Statement.field-0-is c.in-Ok-Statement.ensures in
    unbound c.args.number c.args.rest.now behind.now (statement_of s) c.in-Err-bound_as.refusal first c.in-Err-bound_as.ensures

pub returns-in-Ok : goal.returns-in-Ok
returns-in-Ok c =
    let s = c.in-Ok-Statement.statement in
    let behind = c.in-Ok-Statement.behind in
    let first = first_so c.args.rest.now c.in-Ok-Statement.field-0 s behind c.in-Ok-Statement.field-0-is c.in-Ok-Statement.ensures in
    (bound_first c.args.rest.now behind.now (statement_of s) (bound_of c.in-Ok.bound) first c.in-Ok.ensures.0, c.in-Ok.ensures.1)

pub returns-in-Err : goal.returns-in-Err
returns-in-Err c = refused_so c.args.number c.args.rest.now c.in-Err.refused c.refusal_of.result c.refusal_of.ensures c.in-Err.ensures
