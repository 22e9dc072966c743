-- Lists of bound items, which grow by one.
use Rattle.std.proofs.Common.{◌≡◌, ℕ, ◌+◌, List, [], ◌∷◌, ◌++◌, length, refl, sym, ap, subst, ◌∙◌, append_assoc, add-one, length-append, arith}
use Rattle.sj_sql_tree.specs.declared.tree.Value.{Value as ParsedValue}
use Rattle.sj_sql_tree.specs.declared.tree.Item.{Item as ParsedItem}
use Rattle.sj_sql_tree.specs.View as sql
use Rattle.sj_bound.specs.Bound as b
use Rattle.sj_bound.specs.declared.bound.BoundItem.{BoundItem}
use Rattle.sj_bound.specs.declared.bound.BoundItem.TheVariants as i
use Rattle.sj_bound.specs.declared.bound.BoundValue.{Column}
use Rattle.sj_bind.specs.Fits.{AreListFit, AreItemsFit}
use Rattle.sj_bind.specs.Meaning.{bound_value, bound_item, bound_list, bound_items, bound_column, bound_columns, columns_below}
use Rattle.sj_bind.specs.FlatView.{flat_column_of, columns_at}
use Rattle.sj_bind.specs.FitColumns.{CanBindAll}
use Rattle.sj_bind.specs.declared.flat.FlatColumn.{FlatColumn}
use Rattle.sj_bound.specs.declared.bound.BoundColumn.{BoundColumn}
use Rattle.sj_bound.specs.View.{item_of, items_of, column_of, columns_of}

pub items_of-push : (xs : List BoundItem) (x : BoundItem) → items_of (xs ++ x ∷ []) ≡ items_of xs ++ item_of x ∷ []
items_of-push [] x = refl
items_of-push (y ∷ xs) x = ap (λ r. item_of y ∷ r) (items_of-push xs x)

one_more : {A B : Type 0} (items after : List B) (x : B) (first : A) (left rest : List A) (n : ℕ) → left ≡ first ∷ rest → after ≡ items ++ x ∷ []
    → length items + length left ≡ n → length after + length rest ≡ n
one_more items after x first left rest n e1 e2 h = omega (arith, ap length e2, length-append items (x ∷ []), ap length e1, h)

grown : (items after : List BoundItem) (x : BoundItem) (others : List b.Item) → after ≡ items ++ x ∷ [] → items_of after ++ others ≡ items_of items ++ item_of x ∷ others
grown items after x others e = ap (λ z. items_of z ++ others) e ∙ ap (λ z. z ++ others) (items_of-push items x) ∙ append_assoc (items_of items) (item_of x ∷ []) others

-- one value more is bound
pub value_step : (items after : List BoundItem) (x : BoundItem) (value : ParsedValue) (left rest : List ParsedValue) (n : ℕ) (all : List b.Item) → left ≡ value ∷ rest → after ≡ items ++ x ∷ []
    → item_of x ≡ b.Single (bound_value [] (sql.value_of value)) → AreListFit (sql.plain_of left) → length items + length left ≡ n → items_of items ++ bound_list (sql.plain_of left) ≡ all
    → AreListFit (sql.plain_of rest) × (length after + length rest ≡ n) × (items_of after ++ bound_list (sql.plain_of rest) ≡ all)
value_step items after x value left rest n all e1 e2 e3 fit few h =
    let fits = subst (λ (vs : List ParsedValue). AreListFit (sql.plain_of vs)) e1 fit in (
      fits.1,
      one_more items after x value left rest n e1 e2 few,
      grown items after x (bound_list (sql.plain_of rest)) e2
          ∙ ap (λ y. items_of items ++ y ∷ bound_list (sql.plain_of rest)) e3
          ∙ ap (λ (vs : List ParsedValue). items_of items ++ bound_list (sql.plain_of vs)) (sym e1)
          ∙ h,
    )

-- one item more is bound
pub item_step : (names : List (List ℕ)) (items after : List BoundItem) (x : BoundItem) (item : ParsedItem) (left rest : List ParsedItem) (n : ℕ) (all : List b.Item) → left ≡ item ∷ rest → after ≡ items ++ x ∷ []
    → item_of x ≡ bound_item names (sql.item_of item) → AreItemsFit names (sql.items_of left) → length items + length left ≡ n → items_of items ++ bound_items names (sql.items_of left) ≡ all
    → AreItemsFit names (sql.items_of rest) × (length after + length rest ≡ n) × (items_of after ++ bound_items names (sql.items_of rest) ≡ all)
item_step names items after x item left rest n all e1 e2 e3 named few h =
    let known = subst (λ (vs : List ParsedItem). AreItemsFit names (sql.items_of vs)) e1 named in (
      known.1,
      one_more items after x item left rest n e1 e2 few,
      grown items after x (bound_items names (sql.items_of rest)) e2
          ∙ ap (λ y. items_of items ++ y ∷ bound_items names (sql.items_of rest)) e3
          ∙ ap (λ (vs : List ParsedItem). items_of items ++ bound_items names (sql.items_of vs)) (sym e1)
          ∙ h,
    )

-- one column more
pub column_step : (items after : List BoundItem) (n : ℕ) → after ≡ items ++ i.Value (Column n) ∷ [] → length items ≡ n → items_of items ≡ columns_below n
    → (length after ≡ n + 1) × (items_of after ≡ columns_below (n + 1))
column_step items after n e few h = (
  omega (arith, ap length e, length-append items (i.Value (Column n) ∷ []), few),
  ap items_of e ∙ items_of-push items (i.Value (Column n)) ∙ ap (λ z. z ++ b.Single (b.Column n) ∷ []) h ∙ ap columns_below (sym (add-one n)),
)

columns_of-push : (xs : List BoundColumn) (x : BoundColumn) → columns_of (xs ++ x ∷ []) ≡ columns_of xs ++ column_of x ∷ []
columns_of-push [] x = refl
columns_of-push (y ∷ xs) x = ap (λ r. column_of y ∷ r) (columns_of-push xs x)

-- one column of a table more is bound
pub table_step : (columns after : List BoundColumn) (x : BoundColumn) (column : FlatColumn) (left rest : List FlatColumn) (n : ℕ) (all : List b.ColumnOf) → left ≡ column ∷ rest → after ≡ columns ++ x ∷ []
    → column_of x ≡ bound_column (flat_column_of column) → CanBindAll (columns_at left) → length columns + length left ≡ n → columns_of columns ++ bound_columns (columns_at left) ≡ all
    → CanBindAll (columns_at rest) × (length after + length rest ≡ n) × (columns_of after ++ bound_columns (columns_at rest) ≡ all)
table_step columns after x column left rest n all e1 e2 e3 fit few h =
    let fits = subst (λ (cs : List FlatColumn). CanBindAll (columns_at cs)) e1 fit in (
      fits.1,
      one_more columns after x column left rest n e1 e2 few,
      ap (λ z. columns_of z ++ bound_columns (columns_at rest)) e2
          ∙ ap (λ z. z ++ bound_columns (columns_at rest)) (columns_of-push columns x)
          ∙ append_assoc (columns_of columns) (column_of x ∷ []) (bound_columns (columns_at rest))
          ∙ ap (λ y. columns_of columns ++ y ∷ bound_columns (columns_at rest)) e3
          ∙ ap (λ (cs : List FlatColumn). columns_of columns ++ bound_columns (columns_at cs)) (sym e1)
          ∙ h,
    )
