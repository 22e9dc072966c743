use Rattle.std.proofs.Common.{Some, None, slice_get, length, refl, sym}
use Rattle.std.proofs.lemmas.Option.{slice_get_read, slice_get_past}
use Rattle.sj_bound.specs.Sound.{IsTextColumn}
use Rattle.sj_bound.specs.View.{column_of, columns_of}
use Rattle.sj_bound.proofs.ViewLists.{column_at, some_is, none_is}
use Rattle.sj_bound.proofs.key.is_text_at.Goals as goal

pub returns-in-Some : goal.returns-in-Some
returns-in-Some c =
    let columns = c.args.columns.now in
    let found = c.in-Some.ensures.lookup in
    let column = c.in-Some.column.now in
    some_is IsTextColumn c.is_text_column.result (slice_get (columns_of columns) c.args.number) (column_of column)
    (column_at columns c.args.number (Some column) (sym (slice_get_read columns (length columns) c.args.number column refl found.3.0 found.1))) c.is_text_column.ensures

pub returns-in-None : goal.returns-in-None
returns-in-None c =
    let columns = c.args.columns.now in
    none_is IsTextColumn (slice_get (columns_of columns) c.args.number) (column_at columns c.args.number None (sym (slice_get_past columns c.args.number c.in-None.ensures.lookup.3)))
