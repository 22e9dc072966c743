-- What holds of each part holds of the one at an index.
use Rattle.std.proofs.Common.{ℕ, zero, suc, ◌<◌, List, [], ◌∷◌, length, get_or, arith}
use Rattle.std.specs.List.{All}
use Rattle.std.proofs.lemmas.List.Elements.{All-head, All-tail}
use Rattle.sj_path_tree.specs.Tree.{Path}
use Rattle.sj_sql_grammar.specs.Tree as t
use Rattle.sj_sql_tree.specs.View.{column_of}
use Rattle.sj_bind.specs.Parts as p
use Rattle.sj_bind.specs.PartsView.{call_of, calls_of}
use Rattle.sj_bind.specs.FlatView.{columns_at}
use Rattle.sj_bind.specs.Rules.{columns_alone}
use Rattle.sj_bind.specs.declared.flat.FlatColumn.{FlatColumn}
use Rattle.sj_bind.specs.declared.parts.Call.{Call}

pub call_at : (P : p.Call Path → Type 0) (xs : List Call) (i : ℕ) (d : Call) → All P (calls_of xs) → i < length xs → P (call_of (get_or xs i d))
call_at P [] i d all h = absurd (omega arith)
call_at P (x ∷ xs) zero d all h = All-head P (call_of x) (calls_of xs) all
call_at P (x ∷ xs) (suc i) d all h = call_at P xs i d (All-tail P (call_of x) (calls_of xs) all) (omega arith)

pub column_at : (P : t.ColumnOf Path → Type 0) (xs : List FlatColumn) (i : ℕ) (d : FlatColumn) → All P (columns_alone (columns_at xs)) → i < length xs → P (column_of (get_or xs i d).column)
column_at P [] i d all h = absurd (omega arith)
column_at P (x ∷ xs) zero d all h = All-head P (column_of x.column) (columns_alone (columns_at xs)) all
column_at P (x ∷ xs) (suc i) d all h = column_at P xs i d (All-tail P (column_of x.column) (columns_alone (columns_at xs)) all) (omega arith)
