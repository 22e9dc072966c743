use Rattle.std.proofs.Common.{◌∷◌, ◌∙◌, codes}
use Rattle.std.proofs.lemmas.Result.{on_ok_weaker}
use Rattle.sj_sql_text.specs.Pieces.{Word}
use Rattle.sj_sql_text.proofs.Growth.{puts}
use Rattle.sj_sql_text.proofs.phrase.with_wrapper.Goals as goal

pub returns : goal.returns
returns c = on_ok_weaker c.word-3.result
    (λ came rest.
    puts _ _ _ came rest
    ∙ puts _ _ _ c.in_ok-word-2.ensures (Word (codes "WRAPPER") ∷ rest)
    ∙ puts _ _ _ c.in_ok-word.ensures (Word c.args.kind.now ∷ Word (codes "WRAPPER") ∷ rest))
    c.word-3.ensures
