use Rattle.sj_json.proofs.Printed.{printed_spells, spelled_made}
use Rattle.sj_json.proofs.printed_text.Goals as goal

pub returns-clause-spells : goal.returns-clause-spells
returns-clause-spells c = printed_spells

pub returns-clause-made : goal.returns-clause-made
returns-clause-made c = spelled_made
