use Rattle.std.proofs.Common.{◌≤◌, ◌+◌, ◌-◌, length}
use Rattle.sj_sql_grammar.specs.Answers.{max_file}
use Rattle.sj_file.specs.File.{shelf_at}
use Rattle.sj_file.proofs.Loading.{Loading}
use Rattle.sj_file.proofs.file.load_by.Given as goal

abbrev pub invariant-reading : goal.invariant-reading
invariant-reading g l =
    let side = shelf_at g.H.Shelf in
    record {
      loading : Loading l.name (side l.fn.shelf) (side l.shelf) (g.H.Shelf.left l.shelf) l.file;
      within : length l.file ≤ max_file + 1;
    }

abbrev pub decreases-reading : goal.decreases-reading
decreases-reading g l = max_file + 1 - length l.file
