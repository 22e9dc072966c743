-- The trees of statements, without where their parts lie in memory. P is what stands for a path: as it is written, or the
-- path itself.
use Rattle.std.specs.Prelude.{ℕ, Bool, List, Option}
use Rattle.sj_path_tree.specs.declared.parts.Literal.{Literal}
use Rattle.sj_value.specs.declared.clauses.ExistsAction.{ExistsAction}
use Rattle.sj_value.specs.declared.clauses.TableAction.{TableAction}
use Rattle.sj_value.specs.declared.clauses.Nulls.{Nulls}
use Rattle.sj_sql_grammar.specs.declared.clauses.Encoding.{Encoding}
use Rattle.sj_sql_grammar.specs.declared.clauses.TypeName.{TypeName}
use Rattle.sj_sql_grammar.specs.declared.clauses.Passed.{Passed}
use Rattle.sj_sql_grammar.specs.declared.clauses.ValueDo.{ValueDo}
use Rattle.sj_sql_grammar.specs.declared.clauses.QueryClauses.{QueryClauses}
use Rattle.sj_sql_grammar.specs.declared.clauses.IsJsonCall.{IsJsonCall}
use Rattle.sj_sql_grammar.specs.declared.clauses.InOut.{InOut}
use Rattle.sj_sql_grammar.specs.declared.clauses.Siblings.{Siblings}

-- a path as it is written: its text, or the member path of a column that has none
pub data PathText : Type 0 where
  Written : (text : List ℕ) → PathText
  OfName : (name : List ℕ) → PathText

pub record Common (P : Type 0) : Type 0 where
  pub encoding : Encoding
  pub path : P
  pub passing : List Passed

pub record ExistsCall (P : Type 0) : Type 0 where
  pub common : Common P
  pub on_error : ExistsAction

pub record ValueCall (P : Type 0) : Type 0 where
  pub common : Common P
  pub ty : TypeName
  pub on_empty : ValueDo
  pub on_error : ValueDo

pub record QueryCall (P : Type 0) : Type 0 where
  pub common : Common P
  pub clauses : QueryClauses

-- A value of a SELECT list. `Column` stands only where there is a table, and `Exists` to `IsJson` only where there is none.
-- A member has its key first. The truth value beside the nulls is true for WITH UNIQUE KEYS.
mutual
  pub data Value (P : Type 0) : Type 0 where
    Lit : (literal : Literal) → Value P
    Column : (name : List ℕ) → Value P
    Exists : (call : ExistsCall P) → Value P
    ValueOf : (call : ValueCall P) → Value P
    Query : (call : QueryCall P) → Value P
    IsJson : (call : IsJsonCall) → Value P
    Object : (members : Members P) (nulls : Nulls) (unique : Bool) → Value P
    Array : (values : Values P) (nulls : Nulls) → Value P

  pub data Values (P : Type 0) : Type 0 where
    NoValues : Values P
    MoreValues : (value : Value P) (others : Values P) → Values P

  pub data Members (P : Type 0) : Type 0 where
    NoMembers : Members P
    MoreMembers : (key value : Value P) (others : Members P) → Members P

-- an item of a SELECT list
pub data Item (P : Type 0) : Type 0 where
  Single : (value : Value P) → Item P
  ArrayAgg : (value : Value P) (nulls : Nulls) → Item P
  ObjectAgg : (key value : Value P) (nulls : Nulls) (unique : Bool) → Item P

pub record RegularColumn (P : Type 0) : Type 0 where
  pub name : List ℕ
  pub ty : TypeName
  pub path : P
  pub on_empty : ValueDo
  pub on_error : ValueDo

pub record FormattedColumn (P : Type 0) : Type 0 where
  pub name : List ℕ
  pub encoding : Encoding
  pub path : P
  pub clauses : QueryClauses

mutual
  pub data ColumnOf (P : Type 0) : Type 0 where
    Ordinality : (name : List ℕ) → ColumnOf P
    Regular : (column : RegularColumn P) → ColumnOf P
    Formatted : (column : FormattedColumn P) → ColumnOf P
    Existence : (name : List ℕ) (path : P) (on_error : ExistsAction) → ColumnOf P
    Nested : (path : P) (name : Option (List ℕ)) (columns : Columns P) → ColumnOf P

  pub data Columns (P : Type 0) : Type 0 where
    Last : (column : ColumnOf P) → Columns P
    More : (column : ColumnOf P) (others : Columns P) → Columns P

-- a plan that names paths
pub data NamedPlan : Type 0 where
  PathOf : (name : List ℕ) → NamedPlan
  Outer : (name : List ℕ) (below : NamedPlan) → NamedPlan
  Inner : (name : List ℕ) (below : NamedPlan) → NamedPlan
  Union : (a b : NamedPlan) → NamedPlan
  Cross : (a b : NamedPlan) → NamedPlan

pub data PlanTree : Type 0 where
  Default : (in_out : InOut) (siblings : Siblings) → PlanTree
  Named : (plan : NamedPlan) → PlanTree

pub record Table (P : Type 0) : Type 0 where
  pub common : Common P
  pub name : Option (List ℕ)
  pub columns : Columns P
  pub plan : PlanTree
  pub on_error : TableAction

pub data Statement (P : Type 0) : Type 0 where
  Plain : (values : List (Value P)) → Statement P
  All : (table : Table P) → Statement P
  Listed : (items : List (Item P)) (table : Table P) → Statement P
