-- The columns of a table that breaks no rule can be bound.
use Rattle.std.proofs.Common.{◌≡◌, ℕ, ◌<◌, ◌≤◌, false, List, [], ◌∷◌, length, sym, subst, arith}
use Rattle.std.specs.List.{All, list_any}
use Rattle.std.proofs.lemmas.List.Elements.{All-head, All-tail}
use Rattle.sj_path_tree.specs.Tree.{Path}
use Rattle.sj_sql_grammar.specs.Tree.{Table, ColumnOf, Ordinality, Regular, Formatted, Existence, Nested}
use Rattle.sj_bound.specs.Limits.{most_paths}
use Rattle.sj_bind.specs.Bindable.{IsBindableColumn, IsBindableTable}
use Rattle.sj_bind.specs.Clauses.{sql_type, default_fails}
use Rattle.sj_bind.specs.Flat.{TableColumn, FlatTable, flat}
use Rattle.sj_bind.specs.Rules.{columns_alone, column_default_fails}
use Rattle.sj_bind.specs.FitColumns.{IsFitColumn, CanBindAll}
use Rattle.sj_bind.proofs.Lists.{neither}
use Rattle.sj_bind.proofs.ColumnPaths.{columns_have_paths}
use Rattle.sj_bind.proofs.UnbrokenRules.{IsCleanTable, few_paths}

fit_column : (column : ColumnOf Path) → IsBindableColumn column → column_default_fails column ≡ false → IsFitColumn column
fit_column (Ordinality name) good fine = tt
fit_column (Regular c) good fine =
    let casts = neither (default_fails (sql_type c.ty) c.on_empty) (default_fails (sql_type c.ty) c.on_error) fine in
    record { bindable = good; empty_casts = casts.0; error_casts = casts.1 }
fit_column (Formatted c) good fine = tt
fit_column (Existence name own on_error) good fine = tt
fit_column (Nested path name columns) good fine = tt

each_can : (n : ℕ) → n ≤ most_paths → (cs : List TableColumn) → All (λ c. c.path < n) cs → All IsBindableColumn (columns_alone cs) → list_any column_default_fails (columns_alone cs) ≡ false → CanBindAll cs
each_can n few [] low good fine = tt
each_can n few (c ∷ cs) low good fine =
    let own = neither (column_default_fails c.column) (list_any column_default_fails (columns_alone cs)) fine in
    let below = All-head (λ (x : TableColumn). x.path < n) c cs low in (
      (omega arith, fit_column c.column (All-head IsBindableColumn c.column (columns_alone cs) good) own.0),
      each_can n few cs (All-tail (λ (x : TableColumn). x.path < n) c cs low) (All-tail IsBindableColumn c.column (columns_alone cs) good) own.1,
    )

pub can_bind : (table : Table Path) (t : FlatTable) → t ≡ flat table → IsBindableTable table → IsCleanTable t → CanBindAll t.columns
can_bind table t same good clean =
    let own : IsCleanTable (flat table) = subst IsCleanTable same clean in
    subst (λ (u : FlatTable). CanBindAll u.columns) (sym same)
    (each_can (length (flat table).paths) (few_paths (flat table) own.few) (flat table).columns (columns_have_paths table) good.columns own.casts)
