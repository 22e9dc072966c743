use Rattle.std.proofs.Common.{List, ℕ, sym, subst}
use Rattle.sj_file.specs.File.{shelf_at}
use Rattle.sj_file.specs.Accepted.{AcceptedWithText}
use Rattle.sj_stream.specs.Out.{out_at}
use Rattle.sj_run.proofs.Telling.{show_done, show_cut}
use Rattle.sj_run.proofs.show.show_file.Goals as goal

pub returns-in-Ok-write_all-clause-ran : goal.returns-in-Ok-write_all-clause-ran
returns-in-Ok-write_all-clause-ran g c = λ from.
    let old = shelf_at g.H.Shelf c.args.shelf.now in
    let new = shelf_at g.H.Shelf c.accept_text.new.shelf in
    show_done c.args.name.now old new from (out_at g.O.Sink c.args.out.now) (out_at g.O.Sink c.write_all.new.out)
    c.as_slice.result.now c.write_all.result c.in-Ok-write_all.field-0
    (subst (λ (text : List ℕ). AcceptedWithText c.args.name.now old new text) (sym c.as_slice.ensures) c.in-Ok.ensures) c.write_all.ensures c.in-Ok-write_all.is

pub returns-clause-ran : goal.returns-clause-ran
returns-clause-ran g c = λ from.
    let old = shelf_at g.H.Shelf c.args.shelf.now in
    let new = shelf_at g.H.Shelf c.accept_text.new.shelf in
    show_cut c.args.name.now old new from (out_at g.O.Sink c.args.out.now) (out_at g.O.Sink c.write_all.new.out)
    c.as_slice.result.now c.write_all.result c.in-Err-write_all.field-0
    (subst (λ (text : List ℕ). AcceptedWithText c.args.name.now old new text) (sym c.as_slice.ensures) c.in-Ok.ensures) c.write_all.ensures c.in-Err-write_all.is
