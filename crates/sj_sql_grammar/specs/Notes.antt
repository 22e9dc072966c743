-- A tree with something else in the place of its written paths, and what is noted of a tree in the order of the text.
use Rattle.std.specs.Prelude.{List, [], ◌∷◌}
use Rattle.sj_path_grammar.specs.declared.refusal.Name.{Name}
use Rattle.sj_path_grammar.specs.declared.refusal.Name.TheVariants as unsupported
use Rattle.sj_sql_grammar.specs.declared.clauses.Encoding.{Encoding}
use Rattle.sj_sql_grammar.specs.declared.clauses.Encoding.TheVariants.{Read, Refused}
use Rattle.sj_sql_grammar.specs.declared.clauses.TypeName.{TypeName}
use Rattle.sj_sql_grammar.specs.declared.clauses.TypeName.TheVariants.{Known, Approximate, Datetime}
use Rattle.sj_sql_grammar.specs.Tree.{PathText, Common, ExistsCall, ValueCall, QueryCall, Value, Lit, Column, Exists, ValueOf, Query, IsJson, Object, Array, Values, NoValues, MoreValues, Members, NoMembers, MoreMembers, Item, Single, ArrayAgg, ObjectAgg, RegularColumn, FormattedColumn, ColumnOf, Ordinality, Regular, Formatted, Existence, Nested, Columns, Last, More, Table, Statement, Plain, All, Listed}

-- What stands for a written path, and what is noted of a path, and of a type or an encoding that this implementation lacks,
-- behind what was noted before.
pub record Notes (P F : Type 0) : Type 0 where
  pub path_of : PathText → P
  pub see_path : PathText → F → F
  pub see_unsupported : Name → F → F

-- paths as they are written, and nothing noted
abbrev pub written : Notes PathText (Unit {0})
written = record { path_of = λ p. p; see_path = λ p f. f; see_unsupported = λ name f. f }

-- ---- trees with their paths

module _ {P F : Type 0} (n : Notes P F) where
  abbrev pub common_with : Common PathText → Common P
  common_with c = record { encoding = c.encoding; path = n.path_of c.path; passing = c.passing }

  abbrev pub exists_with : ExistsCall PathText → ExistsCall P
  exists_with c = record { common = common_with c.common; on_error = c.on_error }

  abbrev pub value_call_with : ValueCall PathText → ValueCall P
  value_call_with c = record { common = common_with c.common; ty = c.ty; on_empty = c.on_empty; on_error = c.on_error }

  abbrev pub query_with : QueryCall PathText → QueryCall P
  query_with c = record { common = common_with c.common; clauses = c.clauses }

  abbrev mutual
    pub value_with : Value PathText → Value P
    value_with (Lit x) = Lit x
    value_with (Column name) = Column name
    value_with (Exists c) = Exists (exists_with c)
    value_with (ValueOf c) = ValueOf (value_call_with c)
    value_with (Query c) = Query (query_with c)
    value_with (IsJson c) = IsJson c
    value_with (Object members nulls unique) = Object (members_with members) nulls unique
    value_with (Array values nulls) = Array (values_with values) nulls

    pub values_with : Values PathText → Values P
    values_with NoValues = NoValues
    values_with (MoreValues x others) = MoreValues (value_with x) (values_with others)

    pub members_with : Members PathText → Members P
    members_with NoMembers = NoMembers
    members_with (MoreMembers x y others) = MoreMembers (value_with x) (value_with y) (members_with others)

  abbrev pub item_with : Item PathText → Item P
  item_with (Single x) = Single (value_with x)
  item_with (ArrayAgg x nulls) = ArrayAgg (value_with x) nulls
  item_with (ObjectAgg x y nulls unique) = ObjectAgg (value_with x) (value_with y) nulls unique

  abbrev pub regular_with : RegularColumn PathText → RegularColumn P
  regular_with c = record { name = c.name; ty = c.ty; path = n.path_of c.path; on_empty = c.on_empty; on_error = c.on_error }

  abbrev pub formatted_with : FormattedColumn PathText → FormattedColumn P
  formatted_with c = record { name = c.name; encoding = c.encoding; path = n.path_of c.path; clauses = c.clauses }

  abbrev mutual
    pub column_with : ColumnOf PathText → ColumnOf P
    column_with (Ordinality name) = Ordinality name
    column_with (Regular c) = Regular (regular_with c)
    column_with (Formatted c) = Formatted (formatted_with c)
    column_with (Existence name path action) = Existence name (n.path_of path) action
    column_with (Nested path name columns) = Nested (n.path_of path) name (columns_with columns)

    pub columns_with : Columns PathText → Columns P
    columns_with (Last c) = Last (column_with c)
    columns_with (More c others) = More (column_with c) (columns_with others)

  abbrev pub table_with : Table PathText → Table P
  table_with t = record { common = common_with t.common; name = t.name; columns = columns_with t.columns; plan = t.plan; on_error = t.on_error }

  abbrev pub plain_with : List (Value PathText) → List (Value P)
  plain_with [] = []
  plain_with (x ∷ xs) = value_with x ∷ plain_with xs

  abbrev pub items_with : List (Item PathText) → List (Item P)
  items_with [] = []
  items_with (x ∷ xs) = item_with x ∷ items_with xs

  abbrev pub statement_with : Statement PathText → Statement P
  statement_with (Plain xs) = Plain (plain_with xs)
  statement_with (All t) = All (table_with t)
  statement_with (Listed xs t) = Listed (items_with xs) (table_with t)

  -- ---- what is noted, in the order of the text

  abbrev pub note_encoding : Encoding → F → F
  note_encoding Read f = f
  note_encoding Refused f = n.see_unsupported unsupported.Encoding f

  abbrev pub note_type : TypeName → F → F
  note_type (Known ty) f = f
  note_type Approximate f = n.see_unsupported unsupported.ApproximateType f
  note_type Datetime f = n.see_unsupported unsupported.DatetimeType f

  abbrev pub note_common : Common PathText → F → F
  note_common c f = n.see_path c.path (note_encoding c.encoding f)

  abbrev mutual
    pub note_value : Value PathText → F → F
    note_value (Lit x) f = f
    note_value (Column name) f = f
    note_value (Exists c) f = note_common c.common f
    note_value (ValueOf c) f = note_type c.ty (note_common c.common f)
    note_value (Query c) f = note_common c.common f
    note_value (IsJson c) f = f
    note_value (Object members _ unique) f = note_members members f
    note_value (Array values _) f = note_values values f

    pub note_values : Values PathText → F → F
    note_values NoValues f = f
    note_values (MoreValues x others) f = note_values others (note_value x f)

    pub note_members : Members PathText → F → F
    note_members NoMembers f = f
    note_members (MoreMembers x y others) f = note_members others (note_value y (note_value x f))

  abbrev pub note_item : Item PathText → F → F
  note_item (Single x) f = note_value x f
  note_item (ArrayAgg x _) f = note_value x f
  note_item (ObjectAgg x y _ unique) f = note_value y (note_value x f)

  abbrev mutual
    pub note_column : ColumnOf PathText → F → F
    note_column (Ordinality name) f = f
    note_column (Regular c) f = n.see_path c.path (note_type c.ty f)
    note_column (Formatted c) f = n.see_path c.path (note_encoding c.encoding f)
    note_column (Existence name path action) f = n.see_path path f
    note_column (Nested path name columns) f = note_columns columns (n.see_path path f)

    pub note_columns : Columns PathText → F → F
    note_columns (Last c) f = note_column c f
    note_columns (More c others) f = note_columns others (note_column c f)

  abbrev pub note_table : Table PathText → F → F
  note_table t f = note_columns t.columns (note_common t.common f)

  abbrev pub note_plain : List (Value PathText) → F → F
  note_plain [] f = f
  note_plain (x ∷ xs) f = note_plain xs (note_value x f)

  abbrev pub note_items : List (Item PathText) → F → F
  note_items [] f = f
  note_items (x ∷ xs) f = note_items xs (note_item x f)

  abbrev pub note_statement : Statement PathText → F → F
  note_statement (Plain xs) f = note_plain xs f
  note_statement (All t) f = note_table t f
  note_statement (Listed xs t) f = note_table t (note_items xs f)
