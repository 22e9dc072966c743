-- What a statement with a table is bound to, once its table is read flat.
use Rattle.std.proofs.Common.{◌≡◌, List, length, Some, ap, ◌∙◌}
use Rattle.sj_path_tree.specs.Tree.{Path}
use Rattle.sj_sql_grammar.specs.Tree.{Item, Table, All, Listed}
use Rattle.sj_bound.specs.Bound as b
use Rattle.sj_bind.specs.Flat.{FlatTable, flat}
use Rattle.sj_bind.specs.Meaning.{bound, bound_items, bound_table, columns_below}
use Rattle.sj_bind.specs.Tables.{column_names}

abbrev both : List b.Item → b.Table → b.Bound
both items table = record { items = items; table = Some table }

pub all_bound : (x : Table Path) (t : FlatTable) (items : List b.Item) (table : b.Table) → t ≡ flat x → items ≡ columns_below (length t.columns) → table ≡ bound_table t → both items table ≡ bound (All x)
all_bound x t items table same e f =
    ap (λ (i : List b.Item). both i table) e ∙ ap (both (columns_below (length t.columns))) f
    ∙ ap (λ (u : FlatTable). both (columns_below (length u.columns)) (bound_table u)) same

pub list_bound : (xs : List (Item Path)) (x : Table Path) (t : FlatTable) (items : List b.Item) (table : b.Table) → t ≡ flat x → items ≡ bound_items (column_names t) xs → table ≡ bound_table t
    → both items table ≡ bound (Listed xs x)
list_bound xs x t items table same e f =
    ap (λ (i : List b.Item). both i table) e ∙ ap (both (bound_items (column_names t) xs)) f
    ∙ ap (λ (u : FlatTable). both (bound_items (column_names u) xs) (bound_table u)) same
