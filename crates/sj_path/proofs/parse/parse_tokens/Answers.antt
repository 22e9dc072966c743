use Rattle.std.proofs.Common.{◌≡◌, sym, subst, ◌∙◌}
use Rattle.sj_base.specs.Gives.{Fails}
use Rattle.sj_path_grammar.specs.Reading.{path_at}
use Rattle.sj_path_grammar.proofs.Paths.{unread, spelled}
use Rattle.sj_path_tree.specs.View.{path_of}
use Rattle.sj_path.proofs.parse.parse_tokens.Goals as goal

pub returns-in-Err-Syntax : goal.returns-in-Err-Syntax
returns-in-Err-Syntax c = unread c.args.tokens.now (c.is_too_deep.ensures.no c.if-is_too_deep.false) (subst (λ e. Fails e (path_at c.args.tokens.now)) c.in-Err-Syntax.field-0-is c.in-Err-Syntax.ensures)

pub returns-then-misplaced_expr : goal.returns-then-misplaced_expr
returns-then-misplaced_expr c =
    (path_of c.in-Ok.path, spelled _ _ (c.is_too_deep.ensures.no c.if-is_too_deep.false) c.in-Ok.ensures, sym c.misplaced_expr.ensures ∙ c.if-misplaced_expr.true)

pub returns-in-Some : goal.returns-in-Some
returns-in-Some c =
    (path_of c.in-Ok.path, spelled _ _ (c.is_too_deep.ensures.no c.if-is_too_deep.false) c.in-Ok.ensures, sym c.misplaced_expr.ensures ∙ c.if-misplaced_expr.false, sym c.unsupported.ensures ∙ c.in-Some.is)

pub returns-in-None : goal.returns-in-None
returns-in-None c = record {
  spells = spelled _ _ (c.is_too_deep.ensures.no c.if-is_too_deep.false) c.in-Ok.ensures;
  placed = sym c.misplaced_expr.ensures ∙ c.if-misplaced_expr.false;
  supported = sym c.unsupported.ensures ∙ c.in-None.is;
}
