use Rattle.std.proofs.Common.{subst}
use Rattle.sj_base.specs.Gives.{Fails}
use Rattle.sj_sql_grammar.specs.Faults.{nothing_noted, parsing}
use Rattle.sj_sql_grammar.specs.Reading.{select_at}
use Rattle.sj_sql_grammar.proofs.Verdicts.{no_tree, path_fault, lacking, clean}
use Rattle.sj_sql.specs.Noted.{faults_of}
use Rattle.sj_sql_tree.specs.View.{statement_of}
use Rattle.sj_sql.proofs.answer.answer.Goals as goal

pub returns-in-Some : goal.returns-in-Some
returns-in-Some c = path_fault c.args.tokens.now (statement_of c.in-Ok.statement) (faults_of c.in-Ok.faults) c.in-Some.fault (c.too_deep.ensures.no c.if-too_deep.false) c.in-Ok.ensures c.in-Some.is

pub returns-in-Some-unsupported : goal.returns-in-Some-unsupported
returns-in-Some-unsupported c =
    lacking c.args.tokens.now (statement_of c.in-Ok.statement) (faults_of c.in-Ok.faults) c.in-Some-unsupported.name (c.too_deep.ensures.no c.if-too_deep.false) c.in-Ok.ensures c.in-None.is c.in-Some-unsupported.is

pub returns-in-None-unsupported : goal.returns-in-None-unsupported
returns-in-None-unsupported c = clean c.args.tokens.now (statement_of c.in-Ok.statement) (faults_of c.in-Ok.faults) (c.too_deep.ensures.no c.if-too_deep.false) c.in-Ok.ensures c.in-None.is c.in-None-unsupported.is

pub returns-in-Err-Syntax : goal.returns-in-Err-Syntax
returns-in-Err-Syntax c = no_tree c.args.tokens.now (subst (λ e. Fails e (select_at parsing nothing_noted c.args.tokens.now)) c.in-Err-Syntax.field-0-is c.in-Err-Syntax.ensures)
