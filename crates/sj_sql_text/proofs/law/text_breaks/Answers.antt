use Rattle.std.proofs.Common.{true}
use Rattle.sj_sql_text.proofs.Breaking.{text_breaks}
use Rattle.sj_sql_text.proofs.law.text_breaks.Goals as goal

pub returns : goal.returns
returns c = text_breaks true
