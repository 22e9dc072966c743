-- Which numbers the paths of columns have.
use Rattle.std.proofs.Common.{ℕ, ◌+◌, ◌<◌, ◌≤◌, [], length, arith, length-append}
use Rattle.std.specs.List.{All}
use Rattle.std.proofs.lemmas.List.Elements.{All-nil, All-cons, All-append}
use Rattle.sj_path_tree.specs.Tree.{Path}
use Rattle.sj_sql_grammar.specs.Tree.{Table, Columns, Last, More, ColumnOf, Ordinality, Regular, Formatted, Existence, Nested}
use Rattle.sj_bind.specs.Flat.{TableColumn, paths_in, paths_below, columns_in, columns_below, flat}

IsUnder : ℕ → TableColumn → Type 0
IsUnder m c = c.path < m

mutual
  unfolding IsUnder

  under_in : (m parent next : ℕ) (column : ColumnOf Path) → parent < m → next + length (paths_in parent next column) ≤ m → All (IsUnder m) (columns_in parent next column)
  under_in m parent next (Ordinality name) below room = All-cons (IsUnder m) (record { path = parent; column = Ordinality name }) [] below (All-nil (IsUnder m))
  under_in m parent next (Regular column) below room = All-cons (IsUnder m) (record { path = parent; column = Regular column }) [] below (All-nil (IsUnder m))
  under_in m parent next (Formatted column) below room = All-cons (IsUnder m) (record { path = parent; column = Formatted column }) [] below (All-nil (IsUnder m))
  under_in m parent next (Existence name own on_error) below room = All-cons (IsUnder m) (record { path = parent; column = Existence name own on_error }) [] below (All-nil (IsUnder m))
  under_in m parent next (Nested path name columns) below room = under_below m next (next + 1) columns (omega arith) (omega arith)

  under_below : (m parent next : ℕ) (columns : Columns Path) → parent < m → next + length (paths_below parent next columns) ≤ m → All (IsUnder m) (columns_below parent next columns)
  under_below m parent next (Last column) below room = under_in m parent next column below room
  under_below m parent next (More column others) below room =
      let n = next + length (paths_in parent next column) in
      let l = length-append (paths_in parent next column) (paths_below parent n others) in
      All-append (IsUnder m) (columns_in parent next column) (columns_below parent n others)
      (under_in m parent next column below (omega arith)) (under_below m parent n others below (omega arith))

-- each column is one of a path of the table
pub columns_have_paths : (table : Table Path) → All (λ c. c.path < length (flat table).paths) (flat table).columns
unfolding IsUnder
columns_have_paths table = under_below (length (flat table).paths) 0 1 table.columns (omega arith) (omega arith)
