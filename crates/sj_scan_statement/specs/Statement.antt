-- WHAT A SCAN IS: a statement over the items of a forward path.
use Rattle.std.specs.Prelude.{◌≡◌, ◌⊎◌, List, [], ◌∷◌, ℕ, true, false, Option, Some, None}
use Rattle.sj_path_tree.specs.declared.parts.Mode.TheVariants.{Lax}
use Rattle.sj_path_tree.specs.Tree.{Path, Root}
use Rattle.sj_path_grammar.specs.declared.refusal.PathRefusal.{PathRefusal}
use Rattle.sj_path_grammar.specs.declared.refusal.PathRefusal.TheVariants as r
use Rattle.sj_path_grammar.specs.Answers.{Accepts, Refuses}
use Rattle.sj_forward.specs.Forward.{is_forward}
use Rattle.sj_sql_grammar.specs.declared.refusal.FileKind.{FileKind}
use Rattle.sj_sql_grammar.specs.declared.refusal.FileKind.TheVariants as kind
use Rattle.sj_value.specs.declared.clauses.QueryAction.TheVariants as on_query
use Rattle.sj_value.specs.declared.clauses.TableAction.TheVariants as on_table
use Rattle.sj_value.specs.declared.clauses.Wrapper.TheVariants.{Without}
use Rattle.sj_value.specs.Plans.{path_rows}
use Rattle.sj_bound.specs.Bound.{Bound, Table, ColumnOf, Formatted, Single, Column}

-- ---- the statement

-- v VARCHAR FORMAT JSON PATH '$'
abbrev pub item_column : ColumnOf
item_column = Formatted 0 (record { mode = Lax; expr = Root }) (record { wrapper = Without; omit_quotes = false; on_empty = on_query.Null; on_error = on_query.Null })

-- JSON_TABLE(doc, 'PATH' COLUMNS (v VARCHAR FORMAT JSON PATH '$') ERROR ON ERROR)
abbrev pub item_table : Path → Table
item_table path = record { paths = path ∷ []; vars = []; plan = path_rows 0; on_error = on_table.Error; columns = item_column ∷ [] }

-- SELECT * FROM JSON_TABLE(doc, 'PATH' COLUMNS (v VARCHAR FORMAT JSON PATH '$') ERROR ON ERROR): a row for each item of the path
abbrev pub scan_statement : Path → Bound
scan_statement path = record { items = Single (Column 0) ∷ []; table = Some (item_table path) }

-- ---- the path

-- the text is accepted as this path, which is forward
pub record IsToScan (text : List ℕ) (path : Path) : Type 0 where
  pub accepted : Accepts text path
  pub forward : is_forward path ≡ true

-- what a refusal of a path is called where a statement file is refused
abbrev pub refusal_kind : PathRefusal → Option FileKind
refusal_kind r.Lex = Some kind.PathLex
refusal_kind r.TooDeep = Some kind.PathTooDeep
refusal_kind r.Syntax = Some kind.PathSyntax
refusal_kind r.Misplaced = Some kind.PathMisplaced
refusal_kind (r.Unsupported name) = Some (kind.Unsupported name)
refusal_kind r.Memory = None

-- the text is refused as a path
pub record IsNoPath (text : List ℕ) (x : FileKind) : Type 0 where
  pub refusal : PathRefusal
  pub refused : Refuses text refusal
  pub called : refusal_kind refusal ≡ Some x

-- the text is accepted as a path, which is not forward
pub record IsNotForward (text : List ℕ) (x : FileKind) : Type 0 where
  pub path : Path
  pub accepted : Accepts text path
  pub backward : is_forward path ≡ false
  pub called : x ≡ kind.NotForward

-- WHAT A SCAN REFUSES: a text that is no path, and a path that is not forward.
abbrev pub RefusesToScan : List ℕ → FileKind → Type 0
RefusesToScan text x = IsNoPath text x ⊎ IsNotForward text x
