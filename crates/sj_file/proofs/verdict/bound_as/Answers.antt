use Rattle.std.proofs.Common.{Err, refl, sym, ap, ◌∙◌}
use Rattle.sj_sql_grammar.specs.declared.refusal.FileKind.TheVariants.{Bind}
use Rattle.sj_sql_tree.specs.View.{statement_of}
use Rattle.sj_bound.specs.View.{bound_of}
use Rattle.sj_file.proofs.Verdicts.{answered, refused_by_rule}
use Rattle.sj_file.proofs.verdict.bound_as.Goals as goal

pub returns-in-Ok : goal.returns-in-Ok
returns-in-Ok c = (answered (statement_of c.args.statement) (bound_of c.in-Ok.bound) c.in-Ok.ensures.binds.0 c.in-Ok.ensures.binds.1, c.in-Ok.ensures.sound)

pub returns-in-Err-Kind : goal.returns-in-Err-Kind
returns-in-Err-Kind c = (
  refl,
  refused_by_rule (statement_of c.args.statement) c.in-Err-Kind.field-0 c.in-Err-Kind.why c.in-Err-Kind.field-0-is c.in-Err-Kind.ensures.binds ∙ ap (λ k. Err (Bind k)) (sym c.in-Err-Kind.why-is),
)
