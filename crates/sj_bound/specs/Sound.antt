-- WHAT A BOUND STATEMENT ALWAYS MEETS.
use Rattle.std.specs.Prelude.{◌≡◌, ℕ, ◌<◌, ◌≤◌, Bool, true, false, List, [], length, Option, Some, None, All as Each, slice_get, IsSomeAnd, ◌⊎◌}
use Rattle.sj_path_tree.specs.declared.parts.Literal.TheVariants as literal
use Rattle.sj_path_tree.specs.Vars.{Variables, covers}
use Rattle.sj_value.specs.declared.clauses.ValueAction.{ValueAction}
use Rattle.sj_value.specs.declared.clauses.ValueAction.TheVariants as action
use Rattle.sj_value.specs.declared.clauses.ValueSpec.{ValueSpec}
use Rattle.sj_value.specs.declared.value.SqlValue.{SqlValue}
use Rattle.sj_value.specs.declared.value.SqlValue.TheVariants as value
use Rattle.sj_value.specs.Clauses.{IsValueSpec}
use Rattle.sj_bound.specs.Bound.{PathWith, Value, Lit, Column, Exists, ValueOf, Query, IsJson, Object, Array, Values, NoValues, MoreValues, Members, NoMembers, MoreMembers, Item, Single, ArrayAgg, ObjectAgg, ColumnOf as BoundColumn, Ordinality, Regular, Formatted, Existence, Table as BoundTable, Bound}
use Rattle.sj_bound.specs.Limits.{most_items, most_columns, most_paths}
use Rattle.sj_value.specs.Plans.{IsPlanOver}
use Rattle.sj_value.specs.declared.types.SqlType.{SqlType}
use Rattle.sj_value.specs.declared.types.SqlType.TheVariants as types

-- VARCHAR and VARCHAR(n)
abbrev pub is_text_type : SqlType → Bool
is_text_type types.Varchar = true
is_text_type (types.VarcharMax n) = true
is_text_type types.Numeric = false
is_text_type (types.NumericFixed p s) = false
is_text_type types.Integer = false
is_text_type types.Bigint = false
is_text_type types.Boolean = false

-- the variables that are passed cover the path
abbrev pub IsCovered : PathWith → Type 0
IsCovered x = covers x.vars x.path ≡ true

-- a value of DEFAULT for a text type is a text or NULL
abbrev pub IsTextOrNull : SqlValue → Type 0
IsTextOrNull value.Null = Unit {0}
IsTextOrNull (value.Text s) = Unit {0}
IsTextOrNull (value.Num d k) = ⊥
IsTextOrNull (value.Bool b) = ⊥
IsTextOrNull (value.Json s) = ⊥

abbrev pub GivesTextOrNull : ValueAction → Type 0
GivesTextOrNull action.Error = Unit {0}
GivesTextOrNull action.Null = Unit {0}
GivesTextOrNull (action.Default x) = IsTextOrNull x

-- the clauses can be given to JSON_VALUE, and for a text type they give texts
pub record AreClauses (clauses : ValueSpec) : Type 0 where
  pub can_be_given : IsValueSpec clauses
  pub empty_text : is_text_type clauses.ty ≡ true → GivesTextOrNull clauses.on_empty
  pub error_text : is_text_type clauses.ty ≡ true → GivesTextOrNull clauses.on_error

-- a regular column of a text type
abbrev pub IsTextColumn : BoundColumn → Type 0
IsTextColumn (Ordinality n) = ⊥
IsTextColumn (Regular n path clauses) = is_text_type clauses.ty ≡ true
IsTextColumn (Formatted n path clauses) = ⊥
IsTextColumn (Existence n path _) = ⊥

-- the columns of the table, and none without one
abbrev pub columns_of : Option BoundTable → List BoundColumn
columns_of None = []
columns_of (Some table) = table.columns

module _ (columns : List BoundColumn) where
  -- a key is a string literal, NULL, a text column, or a JSON_VALUE of a text type
  abbrev pub IsKey : Value → Type 0
  IsKey (Lit (literal.Text s)) = Unit {0}
  IsKey (Lit (literal.Num d)) = ⊥
  IsKey (Lit (literal.Bool b)) = ⊥
  IsKey (Lit literal.Null) = Unit {0}
  IsKey (Column n) = IsSomeAnd (slice_get columns n) IsTextColumn
  IsKey (Exists path _) = ⊥
  IsKey (ValueOf path clauses) = is_text_type clauses.ty ≡ true
  IsKey (Query path clauses) = ⊥
  IsKey (IsJson call) = ⊥
  IsKey (Object _ _ unique) = ⊥
  IsKey (Array _ _) = ⊥

  -- an item that is a single value, and a key
  abbrev pub IsKeyItem : Item → Type 0
  IsKeyItem (Single x) = IsKey x
  IsKeyItem (ArrayAgg x _) = ⊥
  IsKeyItem (ObjectAgg key x _ unique) = ⊥

  abbrev mutual
    pub IsSoundValue : Value → Type 0
    IsSoundValue (Lit x) = Unit {0}
    IsSoundValue (Column n) = n < length columns
    IsSoundValue (Exists path _) = IsCovered path
    IsSoundValue (ValueOf path clauses) = IsCovered path × AreClauses clauses
    IsSoundValue (Query path clauses) = IsCovered path
    IsSoundValue (IsJson call) = Unit {0}
    IsSoundValue (Object members _ unique) = AreSoundMembers members
    IsSoundValue (Array values _) = AreSoundValues values

    pub AreSoundValues : Values → Type 0
    AreSoundValues NoValues = Unit {0}
    AreSoundValues (MoreValues x others) = IsSoundValue x × AreSoundValues others

    pub AreSoundMembers : Members → Type 0
    AreSoundMembers NoMembers = Unit {0}
    AreSoundMembers (MoreMembers key x others) = IsKey key × IsSoundValue key × IsSoundValue x × AreSoundMembers others

  abbrev pub IsSoundItem : Item → Type 0
  IsSoundItem (Single x) = IsSoundValue x
  IsSoundItem (ArrayAgg x _) = IsSoundValue x
  IsSoundItem (ObjectAgg key x _ unique) = IsKey key × IsSoundValue key × IsSoundValue x

-- the statement has an item of this number, from 0, and it is a key
abbrev pub HasKeyAt : Bound → ℕ → Type 0
HasKeyAt b number = IsSomeAnd (slice_get b.items number) (IsKeyItem (columns_of b.table))

abbrev pub is_aggregate : Item → Bool
is_aggregate (Single x) = false
is_aggregate (ArrayAgg x _) = true
is_aggregate (ObjectAgg key x _ unique) = true

-- a column of a table with these variables and this number of paths
abbrev pub IsSoundColumn : Variables → ℕ → BoundColumn → Type 0
IsSoundColumn vars paths (Ordinality n) = n < paths
IsSoundColumn vars paths (Regular n path clauses) = (n < paths) × (covers vars path ≡ true) × AreClauses clauses
IsSoundColumn vars paths (Formatted n path clauses) = (n < paths) × (covers vars path ≡ true)
IsSoundColumn vars paths (Existence n path _) = (n < paths) × (covers vars path ≡ true)

pub record IsSoundTable (table : BoundTable) : Type 0 where
  pub covered : Each (λ path. covers table.vars path ≡ true) table.paths
  pub plan : IsPlanOver (length table.paths) table.plan
  pub columns : Each (IsSoundColumn table.vars (length table.paths)) table.columns
  pub few_paths : length table.paths ≤ most_paths
  pub few_columns : length table.columns ≤ most_columns

abbrev pub IsSoundIfAny : Option BoundTable → Type 0
IsSoundIfAny None = Unit {0}
IsSoundIfAny (Some table) = IsSoundTable table

-- no item is an aggregate, or there is a table and each item is one
abbrev pub AreAllAlike : List Item → Option BoundTable → Type 0
AreAllAlike items None = Each (λ x. is_aggregate x ≡ false) items
AreAllAlike items (Some table) = Each (λ x. is_aggregate x ≡ false) items ⊎ Each (λ x. is_aggregate x ≡ true) items

pub record IsSound (b : Bound) : Type 0 where
  pub items : Each (IsSoundItem (columns_of b.table)) b.items
  pub alike : AreAllAlike b.items b.table
  pub table : IsSoundIfAny b.table
  pub few_items : length b.items ≤ most_items
