use Rattle.std.proofs.Common.{◌≡◌, ◌==◌, Bool, false, List, [], ◌∷◌, ◌++◌, length, refl, sym, ap, ◌∙◌}
use Rattle.std.proofs.lemmas.Bool.{true≢false}
use Rattle.std.proofs.lemmas.Result.{on_ok_weaker}
use Rattle.sj_value.specs.declared.clauses.Nulls.{Nulls}
use Rattle.sj_sql_tree.specs.declared.tree.Member.{Member}
use Rattle.sj_sql_tree.specs.View.{members_of}
use Rattle.sj_sql_text.specs.Pieces.{Pieces}
use Rattle.sj_sql_text.specs.Phrases.{nulls_on, unique_on}
use Rattle.sj_sql_text.specs.Statements.{object_clauses_on}
use Rattle.sj_sql_text.proofs.value.object_clauses.Goals as goal

stand : (members : List Member) (clause : Nulls) (unique : Bool) (ps : Pieces) → length members == 0 ≡ false
    → nulls_on clause (unique_on unique ps) ≡ object_clauses_on (members_of members) clause unique ps
stand [] clause unique ps some = absurd (true≢false some)
stand (x ∷ xs) clause unique ps some = refl

pub returns : goal.returns
returns c = on_ok_weaker c.unique.result
    (λ came rest.
    came rest
    ∙ c.in_ok-nulls.ensures (unique_on c.args.keys rest)
    ∙ ap (λ ps. c.args.out.now ++ ps) (stand c.args.members.now c.args.on_null c.args.keys rest (sym c.is_empty.ensures ∙ c.if-is_empty.false)))
    c.unique.ensures
