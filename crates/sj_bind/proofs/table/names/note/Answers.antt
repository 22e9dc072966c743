use Rattle.sj_bind.proofs.NameLists.{noted_key}
use Rattle.sj_bind.proofs.table.names.note.Goals as goal

pub returns-clause-twice : goal.returns-clause-twice
returns-clause-twice c = (noted_key c.args.seen.now.names.keys c.insert.new.self.keys c.args.name c.in_ok-insert.field-0 c.requires c.in_ok-insert.ensures.added c.in_ok-insert.ensures.keys).0

pub returns-clause-noted : goal.returns-clause-noted
returns-clause-noted c = (noted_key c.args.seen.now.names.keys c.insert.new.self.keys c.args.name c.in_ok-insert.field-0 c.requires c.in_ok-insert.ensures.added c.in_ok-insert.ensures.keys).1
