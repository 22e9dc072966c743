use Rattle.std.proofs.Common.{drop}
use Rattle.std.specs.List.{flat_map}
use Rattle.sj_text.proofs.Appends.{Appending}
use Rattle.sj_rows.specs.RowText.{tabbed}
use Rattle.sj_rows.proofs.row.fields_text.Given as goal

abbrev pub invariant-loop-value : goal.invariant-loop-value
invariant-loop-value l = Appending l.initial.out (flat_map tabbed l.fields) l.out (flat_map tabbed (drop l.value-index l.fields))
