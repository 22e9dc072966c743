-- The pieces of columns and tables that tokens of a file spell are inner.
use Rattle.std.proofs.Common.{◌≡◌, ℕ, List, codes, Some, refl}
use Rattle.sj_path_tree.specs.Tree.{Path}
use Rattle.sj_path_text.specs.Text.{path_text}
use Rattle.sj_sql_token.specs.declared.keyword.Keyword.TheVariants as w
use Rattle.sj_sql_grammar.specs.Tree.{PathText, Written, ColumnOf, Columns, Table}
use Rattle.sj_sql_grammar.specs.Phrases.{Tokens, name_at}
use Rattle.sj_sql_grammar.specs.Grammar as g
use Rattle.sj_sql_grammar.specs.Grammar.{IsColumnPath, IsColumn, IsColumns, IsColumnList, IsTable}
use Rattle.sj_sql_grammar.specs.Notes.{column_with, columns_with, table_with}
use Rattle.sj_sql_grammar.specs.Answers.{path_of, finishing}
use Rattle.sj_sql_text.specs.Pieces.{Name, String, Comma}
use Rattle.sj_sql_text.specs.Phrases as on
use Rattle.sj_sql_text.specs.Statements.{column_path_on, column_on, listed_columns_on, columns_on, table_on}
use Rattle.sj_sql_text.proofs.Inner.{AreLexical, IsInner, Prints, and_prints, enclosed_prints, called_prints}
use Rattle.sj_sql_text.proofs.RoomPhrases as room
use Rattle.sj_sql_text.proofs.RoomPhrases.{string_keeps, name_keeps}
use Rattle.sj_sql_text.proofs.RoomValues.{optional_keeps, document_keeps, variables_keep}
use Rattle.sj_sql_text.proofs.RoomTables.{column_holds, columns_hold}
use Rattle.sj_sql_text.proofs.PrintedPhrases as printed
use Rattle.sj_sql_text.proofs.PrintedPhrases.{piece_prints, word_prints}
use Rattle.sj_sql_text.proofs.PrintedPlans.{plan_prints}
use Rattle.sj_sql_text.proofs.PrintedValues.{behind_word, behind_comma, in_call, value_clauses_print}

-- ---- columns

-- the name of a column
name_inner : (ts : Tokens) {rest : Tokens} {name : List ℕ} → name_at ts ≡ Some (name, rest) → AreLexical ts → IsInner (Name name)
name_inner ts {rest} {name} h l = (printed.name_prints ts l).holds (name, rest) h

named_prints : (ts : Tokens) {rest : Tokens} {name : List ℕ} → name_at ts ≡ Some (name, rest) → AreLexical ts → Prints (on.name_on name)
named_prints ts {name = name} h l = piece_prints (Name name) (name_inner ts h l)

behind_name : (ts : Tokens) {rest : Tokens} {name : List ℕ} → name_at ts ≡ Some (name, rest) → AreLexical ts → AreLexical rest
behind_name ts {rest} {name} h = ((name_keeps ts).holds (name, rest) h).lexical

-- behind PATH
in_column : (p : Path) → IsInner (String (path_text p)) → Prints (column_path_on p)
in_column p h = and_prints (word_prints (codes "PATH") refl) (piece_prints (String (path_text p)) h)

-- a column without PATH has the member path of its name
column_path_prints : {name : List ℕ} {ts rest : Tokens} {path : PathText} → IsInner (Name name) → IsColumnPath name ts path rest → AreLexical ts → Prints (column_path_on (path_of path))
column_path_prints {path = path} n p l = in_column (path_of path) (printed.optional_path p n.1 l)

mutual
  column_prints : {ts rest : Tokens} {x : ColumnOf PathText} → IsColumn ts x rest → AreLexical ts → Prints (column_on (column_with finishing x))
  column_prints (g.ordinality {ts = ts} h f o) l = and_prints (named_prints ts h l) (and_prints (word_prints (codes "FOR") refl) (word_prints (codes "ORDINALITY") refl))
  column_prints (g.regular {ts = ts} {a = a} {b = b} {ty = ty} h t p e r) l =
      let at = ((room.type_holds a).holds (ty, b) t).lexical (behind_name ts h l) in
      and_prints (named_prints ts h l) (and_prints ((printed.type_prints a).holds (ty, b) t)
      (and_prints (column_path_prints (name_inner ts h l) p at) (value_clauses_print e r ((optional_keeps room.path_keeps p).lexical at))))
  column_prints (g.formatted {ts = ts} {a = a} {b = b} {x = x} {clauses = clauses} h f e p q) l =
      let at = (optional_keeps room.encoding_keeps e).lexical (((room.formatted_keeps a).holds b f).lexical (behind_name ts h l)) in
      and_prints (named_prints ts h l) (and_prints (word_prints (codes "VARCHAR") refl) (and_prints (word_prints (codes "FORMAT") refl) (and_prints (word_prints (codes "JSON") refl)
      (and_prints (printed.encoding_prints x) (and_prints (column_path_prints (name_inner ts h l) p at) (printed.query_clauses_print clauses))))))
  column_prints (g.existence {ts = ts} {a = a} {b = b} {error = action} h x p e) l =
      let at = ((room.existence_keeps a).holds b x).lexical (behind_name ts h l) in
      and_prints (named_prints ts h l) (and_prints (word_prints (codes "BOOLEAN") refl) (and_prints (word_prints (codes "EXISTS") refl)
      (and_prints (column_path_prints (name_inner ts h l) p at) (printed.exists_clause_prints action))))
  column_prints (g.nested {ts = ts} {a = a} {b = b} {path = path} h p n d) l =
      let at = behind_word w.Nested ts h l in
      let behind = ((room.nested_path_keeps a).holds (path, b) p).lexical at in
      and_prints (word_prints (codes "NESTED") refl) (and_prints (in_column (path_of path) ((printed.nested_path_prints a at).holds (path, b) p))
      (and_prints (printed.optional_path_name n behind) (columns_print d ((optional_keeps room.path_name_keeps n).lexical behind))))

  columns_print : {ts rest : Tokens} {xs : Columns PathText} → IsColumns ts xs rest → AreLexical ts → Prints (columns_on (columns_with finishing xs))
  columns_print (g.columns {ts = ts} h o d z) l = and_prints (word_prints (codes "COLUMNS") refl) (enclosed_prints (column_list_prints d (in_call w.Columns ts h o l)))

  column_list_prints : {ts rest : Tokens} {xs : Columns PathText} → IsColumnList ts xs rest → AreLexical ts → Prints (listed_columns_on (columns_with finishing xs))
  column_list_prints (g.last_column d) l = column_prints d l
  column_list_prints (g.more_columns {a = a} d c q) l =
      and_prints (column_prints d l) (and_prints (piece_prints Comma tt) (column_list_prints q (behind_comma a c ((column_holds d).lexical l))))

-- ---- tables

pub table_prints : {ts rest : Tokens} {t : Table PathText} → IsTable ts t rest → AreLexical ts → Prints (table_on (table_with finishing t))
table_prints (g.json_table {ts = ts} {c = c} {d = d} {e = e} {x = x} {path = path} {r = r} h o document k s n v cs pl re z over) l =
    let at = behind_comma c k ((document_keeps document).lexical (in_call w.JsonTable ts h o l)) in
    let named = ((string_keeps d).holds (path, e) s).lexical at in
    let passing = (optional_keeps room.path_name_keeps n).lexical named in
    let columns = (variables_keep v).lexical passing in
    called_prints (codes "JSON_TABLE") refl
    (and_prints (printed.document_prints x) (and_prints (piece_prints Comma tt) (and_prints (piece_prints (String (path_text (path_of (Written path)))) ((printed.string_prints d at).holds (path, e) s))
    (and_prints (printed.optional_path_name n named) (and_prints (printed.variables_print v passing)
    (and_prints (columns_print cs columns) (and_prints (plan_prints pl ((columns_hold cs).lexical columns)) (printed.table_clause_prints r))))))))
