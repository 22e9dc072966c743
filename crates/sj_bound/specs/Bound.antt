-- Bound statements, without where their parts lie in memory.
use Rattle.std.specs.Prelude.{ℕ, Bool as Truth, List, Option}
use Rattle.sj_path_tree.specs.declared.parts.Literal.{Literal}
use Rattle.sj_path_tree.specs.Tree.{Path}
use Rattle.sj_path_tree.specs.Vars.{Variables}
use Rattle.sj_sql_grammar.specs.declared.clauses.IsJsonCall.{IsJsonCall}
use Rattle.sj_value.specs.declared.clauses.ExistsAction.{ExistsAction}
use Rattle.sj_value.specs.declared.clauses.Nulls.{Nulls}
use Rattle.sj_value.specs.declared.clauses.QuerySpec.{QuerySpec}
use Rattle.sj_value.specs.declared.clauses.TableAction.{TableAction}
use Rattle.sj_value.specs.declared.clauses.ValueSpec.{ValueSpec}
use Rattle.sj_value.specs.Plans.{PlanTree}

-- a path with the variables that are passed to it
pub record PathWith : Type 0 where
  pub path : Path
  pub vars : Variables

-- A value of a SELECT list. A member has its key first. The truth value beside the nulls is true for WITH UNIQUE KEYS.
mutual
  pub data Value : Type 0 where
    Lit : (literal : Literal) → Value
    Column : (number : ℕ) → Value
    Exists : (path : PathWith) (on_error : ExistsAction) → Value
    ValueOf : (path : PathWith) (clauses : ValueSpec) → Value
    Query : (path : PathWith) (clauses : QuerySpec) → Value
    IsJson : (call : IsJsonCall) → Value
    Object : (members : Members) (nulls : Nulls) (unique : Truth) → Value
    Array : (values : Values) (nulls : Nulls) → Value

  pub data Values : Type 0 where
    NoValues : Values
    MoreValues : (value : Value) (others : Values) → Values

  pub data Members : Type 0 where
    NoMembers : Members
    MoreMembers : (key value : Value) (others : Members) → Members

-- an item of a SELECT list
pub data Item : Type 0 where
  Single : (value : Value) → Item
  ArrayAgg : (value : Value) (nulls : Nulls) → Item
  ObjectAgg : (key value : Value) (nulls : Nulls) (unique : Truth) → Item

-- a column, with the number of the path to which it belongs
pub data ColumnOf : Type 0 where
  Ordinality : (number : ℕ) → ColumnOf
  Regular : (number : ℕ) (path : Path) (clauses : ValueSpec) → ColumnOf
  Formatted : (number : ℕ) (path : Path) (clauses : QuerySpec) → ColumnOf
  Existence : (number : ℕ) (path : Path) (on_error : ExistsAction) → ColumnOf

pub record Table : Type 0 where
  pub paths : List Path
  pub vars : Variables
  pub plan : PlanTree
  pub on_error : TableAction
  pub columns : List ColumnOf

pub record Bound : Type 0 where
  pub items : List Item
  pub table : Option Table
