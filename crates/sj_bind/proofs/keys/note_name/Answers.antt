use Rattle.sj_bind.proofs.AddedNames.{one_added}
use Rattle.sj_bind.proofs.keys.note_name.Goals as goal

pub returns : goal.returns
returns c = one_added c.args.names.now.names.keys c.insert.new.self.keys c.args.name c.in_ok-insert.ensures.keys
