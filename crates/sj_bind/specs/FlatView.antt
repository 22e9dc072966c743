-- A flat table, without where its parts lie in memory.
use Rattle.std.specs.Prelude.{List, map}
use Rattle.sj_path_tree.specs.View.{path_of}
use Rattle.sj_sql_tree.specs.View.{column_of, plan_tree_of}
use Rattle.sj_bind.specs.declared.flat.FlatPath.{FlatPath}
use Rattle.sj_bind.specs.declared.flat.FlatColumn.{FlatColumn}
use Rattle.sj_bind.specs.declared.flat.FlatTable.{FlatTable}
use Rattle.sj_bind.specs.Flat as f

abbrev pub flat_path_of : FlatPath → f.TablePath
flat_path_of x = record { path = path_of x.path; name = x.name; parent = x.parent }

abbrev pub flat_column_of : FlatColumn → f.TableColumn
flat_column_of x = record { path = x.path; column = column_of x.column }

abbrev pub paths_at : List FlatPath → List f.TablePath
paths_at xs = map flat_path_of xs

abbrev pub columns_at : List FlatColumn → List f.TableColumn
columns_at xs = map flat_column_of xs

abbrev pub flat_of : FlatTable → f.FlatTable
flat_of x = record { passing = x.passing; paths = paths_at x.paths.items; columns = columns_at x.columns.items; plan = plan_tree_of x.plan; on_error = x.on_error }
