use Rattle.std.proofs.Common.{rules}
use Rattle.sj_file.specs.File.{shelf_at}
use Rattle.sj_file.proofs.Texts.{accepted_text_so}
use Rattle.sj_file.proofs.statements.accept_text.Goals as goal

pub returns-in-Ok-text_of : goal.returns-in-Ok-text_of
returns-in-Ok-text_of g c =
    accepted_text_so c.args.name.now (shelf_at g.H.Shelf c.args.shelf.now) (shelf_at g.H.Shelf c.load.new.shelf) c.as_slice.result.now c.in-Ok-text_of.text (search rules) c.in-Ok-text_of.ensures.accepted
