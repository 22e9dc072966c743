use Rattle.std.proofs.Common.{◌≡◌, ◌==◌, false, List, [], ◌∷◌, ◌++◌, length, refl, sym, ap, ◌∙◌}
use Rattle.std.proofs.lemmas.Bool.{true≢false}
use Rattle.std.proofs.lemmas.Result.{on_ok_weaker}
use Rattle.sj_value.specs.declared.clauses.Nulls.{Nulls}
use Rattle.sj_sql_tree.specs.declared.tree.Value.{Value}
use Rattle.sj_sql_tree.specs.View.{values_of}
use Rattle.sj_sql_text.specs.Pieces.{Pieces}
use Rattle.sj_sql_text.specs.Phrases.{nulls_on}
use Rattle.sj_sql_text.specs.Statements.{array_clause_on}
use Rattle.sj_sql_text.proofs.value.array_clause.Goals as goal

stands : (values : List Value) (clause : Nulls) (ps : Pieces) → length values == 0 ≡ false → nulls_on clause ps ≡ array_clause_on (values_of values) clause ps
stands [] clause ps some = absurd (true≢false some)
stands (x ∷ xs) clause ps some = refl

pub returns-else-is_empty : goal.returns-else-is_empty
returns-else-is_empty c = on_ok_weaker c.nulls.result
    (λ came rest. came rest ∙ ap (λ ps. c.args.out.now ++ ps) (stands c.args.values.now c.args.on_null rest (sym c.is_empty.ensures ∙ c.if-is_empty.false)))
    c.nulls.ensures
