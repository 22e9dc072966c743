use Rattle.sj_sql_token.proofs.Pieces.{word_is_text}
use Rattle.sj_sql_token.proofs.lex.word.Goals as goal

pub returns-in-None-clause-value : goal.returns-in-None-clause-value
returns-in-None-clause-value c =
    absurd (word_is_text c.args.first c.word_len-len.result c.args.after.now c.args.bytes.now c.requires.letter c.requires.bytes c.word_len-len.ensures.value c.in-None.ensures)
