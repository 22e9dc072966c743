use Rattle.std.proofs.Common.{◌++◌, codes, sym, append_assoc}
use Rattle.std.specs.List.{flat_map}
use Rattle.sj_text.proofs.Appends.{at_error, stops}
use Rattle.sj_rows.specs.RowText.{row_head, row_front, row_bytes, tabbed}
use Rattle.sj_rows.proofs.row.row_text.Goals as goal

pub returns-in_err-fields_text-clause-err : goal.returns-in_err-fields_text-clause-err
returns-in_err-fields_text-clause-err c =
    let fields = flat_map tabbed c.args.fields.now in
    at_error c.from_residual-in_err-fields_text.result
    (stops c.args.out.now (row_bytes c.args.line c.args.statement c.args.fields.now) c.begin.new.out fields (codes "\n") c.fields_text.new.out
    (record {
      part = row_front c.args.line c.args.statement;
      grown = c.in_ok-begin.ensures.ok;
      splits = sym (append_assoc (row_head c.args.line c.args.statement) (codes "\tR") (fields ++ codes "\n"));
    }) c.in_err-fields_text.ensures.err)
