use Rattle.std.proofs.Common.{ap, ◌∙◌, sym, List, ℕ, arith, Ok}
use Rattle.sj_json.specs.Tree.{string}
use Rattle.sj_value.specs.Casts.{tree_cast}
use Rattle.sj_value.specs.declared.value.SqlValue.TheVariants.{Text}
use Rattle.sj_rows.proofs.Casts.{string_as_it_stands, string_within}
use Rattle.sj_rows.proofs.cast.whole_text.Goals as goal

pub returns-in-Varchar-clause-cast : goal.returns-in-Varchar-clause-cast
returns-in-Varchar-clause-cast c =
    ap (tree_cast (string c.args.text.now)) c.in-Varchar.is ∙ string_as_it_stands c.args.text.now ∙ ap (λ (s : List ℕ). Ok (Text s)) (sym c.as_bytes-bytes.ensures.value)

pub returns-in-VarcharMax-clause-cast : goal.returns-in-VarcharMax-clause-cast
returns-in-VarcharMax-clause-cast c =
    ap (tree_cast (string c.args.text.now)) c.in-VarcharMax.is ∙ string_within c.in-VarcharMax.n c.args.text.now c.utf8.text (omega arith)
    ∙ ap (λ (s : List ℕ). Ok (Text s)) (sym c.as_bytes-bytes.ensures.value)
