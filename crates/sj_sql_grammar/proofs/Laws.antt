-- A list of tokens has at most one tree.
use Rattle.std.proofs.Common.{◌≡◌, List, [], ◌∷◌, Option, Some, refl, sym, ap, ap₂, subst, ◌∙◌}
use Rattle.sj_sql_grammar.specs.Tree.{PathText, Value, Lit, Column, Exists, ValueOf, Query, IsJson, Object, Array, Values, NoValues, MoreValues, Members, NoMembers, MoreMembers, Item, Single, ArrayAgg, ObjectAgg, ColumnOf, Ordinality, Regular, Formatted, Existence, Nested, Columns, Last, More, Table, Statement, Plain, All, Listed}
use Rattle.sj_sql_grammar.specs.Phrases.{Tokens}
use Rattle.sj_sql_grammar.specs.Grammar.{IsSelect, IsStatement}
use Rattle.sj_sql_grammar.specs.Notes.{written, value_with, values_with, members_with, item_with, column_with, columns_with, table_with, plain_with, items_with, statement_with}
use Rattle.sj_sql_grammar.proofs.ReadTokens.{some_is}
use Rattle.sj_sql_grammar.proofs.TableCompleteness.{select_full}
use Rattle.sj_sql_grammar.proofs.ReadingFinds.{read}
use Rattle.sj_sql_grammar.specs.Reading.{select_at}

mutual
  value_same : (x : Value PathText) → value_with written x ≡ x
  value_same (Lit x) = refl
  value_same (Column name) = refl
  value_same (Exists c) = refl
  value_same (ValueOf c) = refl
  value_same (Query c) = refl
  value_same (IsJson c) = refl
  value_same (Object members nulls unique) = ap (λ m. Object m nulls unique) (members_same members)
  value_same (Array values nulls) = ap (λ v. Array v nulls) (values_same values)

  values_same : (xs : Values PathText) → values_with written xs ≡ xs
  values_same NoValues = refl
  values_same (MoreValues x others) = ap₂ MoreValues (value_same x) (values_same others)

  members_same : (xs : Members PathText) → members_with written xs ≡ xs
  members_same NoMembers = refl
  members_same (MoreMembers x y others) = ap (λ v. MoreMembers v (value_with written y) (members_with written others)) (value_same x) ∙ ap₂ (MoreMembers x) (value_same y) (members_same others)

item_same : (x : Item PathText) → item_with written x ≡ x
item_same (Single x) = ap Single (value_same x)
item_same (ArrayAgg x nulls) = ap (λ v. ArrayAgg v nulls) (value_same x)
item_same (ObjectAgg x y nulls unique) = ap₂ (λ v u. ObjectAgg v u nulls unique) (value_same x) (value_same y)

mutual
  column_same : (x : ColumnOf PathText) → column_with written x ≡ x
  column_same (Ordinality name) = refl
  column_same (Regular c) = refl
  column_same (Formatted c) = refl
  column_same (Existence name path action) = refl
  column_same (Nested path name columns) = ap (Nested path name) (columns_same columns)

  columns_same : (xs : Columns PathText) → columns_with written xs ≡ xs
  columns_same (Last x) = ap Last (column_same x)
  columns_same (More x others) = ap₂ More (column_same x) (columns_same others)

table_same : (x : Table PathText) → table_with written x ≡ x
table_same x = ap (λ c. record x { columns = c }) (columns_same x.columns)

plain_same : (xs : List (Value PathText)) → plain_with written xs ≡ xs
plain_same [] = refl
plain_same (x ∷ xs) = ap₂ (λ v vs. v ∷ vs) (value_same x) (plain_same xs)

items_same : (xs : List (Item PathText)) → items_with written xs ≡ xs
items_same [] = refl
items_same (x ∷ xs) = ap₂ (λ v vs. v ∷ vs) (item_same x) (items_same xs)

statement_same : (x : Statement PathText) → statement_with written x ≡ x
statement_same (Plain xs) = ap Plain (plain_same xs)
statement_same (All t) = ap All (table_same t)
statement_same (Listed xs t) = ap₂ Listed (items_same xs) (table_same t)

one_read : {x y : Statement PathText} → ◌≡◌ {A = Option (Statement PathText × Unit {0})} (Some (x, tt)) (Some (y, tt)) → x ≡ y
one_read e = ap (λ (x : Statement PathText × Unit {0}). x.0) (some_is e)

pub one_select : (ts : Tokens) (x y : Statement PathText) → IsSelect ts x → IsSelect ts y → x ≡ y
one_select ts x y d e = sym (statement_same x) ∙ one_read (sym (select_full written d tt) ∙ select_full written e tt) ∙ statement_same y

pub one_tree : (ts : Tokens) (x y : Statement PathText) → IsStatement ts x → IsStatement ts y → x ≡ y
one_tree ts x y d e = one_select ts x y d.select e.select

-- reading finds each tree, and no other
pub found : (ts : Tokens) (x : Statement PathText) → select_at written tt ts ≡ Some (x, tt) → IsSelect ts x
found ts x h =
    let r = read written tt ts (x, tt) h in
    let same : x ≡ r.tree = ap (λ (y : Statement PathText × Unit {0}). y.0) r.is ∙ statement_same r.tree in
    subst (IsSelect ts) (sym same) r.select

pub finds : (ts : Tokens) (x : Statement PathText) → IsSelect ts x → select_at written tt ts ≡ Some (x, tt)
finds ts x d = select_full written d tt ∙ ap (λ y. Some (y, tt)) (statement_same x)
