-- IS JSON (ISO/IEC 9075-2, JSON predicate).
use Rattle.std.specs.Prelude.{◌≡◌, Bool, true, false, Option, Some, None}
use Rattle.sj_json.specs.Tree.{Tree}
use Rattle.sj_json.specs.Keys.{HasUniqueKeys}
use Rattle.sj_doc.specs.Kinds.{kind_of}
use Rattle.sj_doc.specs.declared.node.Kind.{Kind}
use Rattle.sj_doc.specs.declared.node.Kind.TheVariants as kinds
use Rattle.sj_value.specs.declared.clauses.JsonKind.{JsonKind}
use Rattle.sj_value.specs.declared.clauses.JsonKind.TheVariants as asked

-- a value of this kind is of the kind that is asked for
abbrev pub is_of : JsonKind → Kind → Bool
is_of asked.Value kind = true
is_of asked.Array kinds.Array = true
is_of asked.Array kinds.Object = false
is_of asked.Array kinds.Null = false
is_of asked.Array kinds.Truth = false
is_of asked.Array kinds.String = false
is_of asked.Array kinds.Number = false
is_of asked.Object kinds.Array = false
is_of asked.Object kinds.Object = true
is_of asked.Object kinds.Null = false
is_of asked.Object kinds.Truth = false
is_of asked.Object kinds.String = false
is_of asked.Object kinds.Number = false
is_of asked.Scalar kinds.Array = false
is_of asked.Scalar kinds.Object = false
is_of asked.Scalar kinds.Null = true
is_of asked.Scalar kinds.Truth = true
is_of asked.Scalar kinds.String = true
is_of asked.Scalar kinds.Number = true

-- a tree of the kind, and with WITH UNIQUE KEYS one in which no object has two equal keys
pub record Fits (kind : JsonKind) (unique : Bool) (t : Tree) : Type 0 where
  pub of_kind : is_of kind (kind_of t) ≡ true
  pub keys : unique ≡ true → HasUniqueKeys t

-- where the text is no JSON there is no tree
abbrev pub IsJsonAs : JsonKind → Bool → Option Tree → Type 0
IsJsonAs kind unique None = ⊥
IsJsonAs kind unique (Some t) = Fits kind unique t
