use Rattle.std.proofs.Common.{string_bytes}
use Rattle.sj_build.proofs.Inserted.{inserted_is_new, inserted_last, inserted_again}
use Rattle.sj_build.proofs.keys.insert_copy.Goals as goal

pub returns-clause-new : goal.returns-clause-new
returns-clause-new c = inserted_is_new string_bytes c.args.keys.now.keys c.in_ok-from_str.field-0 c.args.key.now c.in_ok-insert.field-0 c.in_ok-from_str.ensures.ok c.in_ok-insert.ensures.added

pub returns-clause-noted : goal.returns-clause-noted
returns-clause-noted c =
    inserted_last string_bytes c.args.keys.now.keys c.insert.new.self.keys c.in_ok-from_str.field-0 c.args.key.now c.in_ok-insert.field-0 c.in_ok-from_str.ensures.ok c.in_ok-insert.ensures.added
    c.in_ok-insert.ensures.keys

pub returns-clause-same : goal.returns-clause-same
returns-clause-same c = inserted_again string_bytes c.args.keys.now.keys c.insert.new.self.keys c.in_ok-from_str.field-0 c.in_ok-insert.field-0 c.in_ok-insert.ensures.added c.in_ok-insert.ensures.keys
