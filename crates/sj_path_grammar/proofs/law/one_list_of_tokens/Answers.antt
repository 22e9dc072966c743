use Rattle.sj_path_token.proofs.Texts.{same_tokens}
use Rattle.sj_path_grammar.proofs.law.one_list_of_tokens.Goals as goal

pub returns : goal.returns
returns c = same_tokens
