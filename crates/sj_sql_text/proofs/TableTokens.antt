-- The tokens of columns and tables that some tokens spell are those, with each path in its canonical text.
use Rattle.std.proofs.Common.{◌≡◌, ℕ, List, ◌∷◌, codes, Some, refl}
use Rattle.sj_path_tree.specs.Tree.{Path}
use Rattle.sj_path_text.specs.Text.{path_text}
use Rattle.sj_value.specs.declared.clauses.ExistsAction.{ExistsAction}
use Rattle.sj_sql_token.specs.declared.keyword.Keyword.TheVariants as w
use Rattle.sj_sql_token.specs.Keywords.{keyword_of}
use Rattle.sj_sql_grammar.specs.Tree.{PathText, Written, FormattedColumn, ColumnOf, Formatted, Existence, Columns, Table}
use Rattle.sj_sql_grammar.specs.Phrases.{Tokens, formatted_at, existence_at}
use Rattle.sj_sql_grammar.specs.Grammar as g
use Rattle.sj_sql_grammar.specs.Grammar.{IsColumnPath, IsColumn, IsColumns, IsColumnList, IsTable}
use Rattle.sj_sql_grammar.specs.Notes.{formatted_with, column_with, columns_with, table_with}
use Rattle.sj_sql_grammar.specs.Answers.{path_of, finishing}
use Rattle.sj_sql_text.specs.Pieces.{Pieces, Comma, Close}
use Rattle.sj_sql_text.specs.Phrases as on
use Rattle.sj_sql_text.specs.Plans.{plan_on}
use Rattle.sj_sql_text.specs.Statements.{column_path_on, formatted_on, existence_on, column_on, listed_columns_on, columns_on, table_on}
use Rattle.sj_sql_text.specs.Tokens.{tokens_of}
use Rattle.sj_sql_text.specs.Law.{canonical}
use Rattle.sj_sql_text.proofs.WordTokens.{stands, nested_is, columns_is, for_is, ordinality_is, json_table_is}
use Rattle.sj_sql_text.proofs.ReadPhrases.{type_read}
use Rattle.sj_sql_text.proofs.PhraseTokens as phrase
use Rattle.sj_sql_text.proofs.PlanTokens.{plan_spelled}

column_path_is : (name : List ℕ) (p : Path) (ps : Pieces) → IsColumnPath name (tokens_of (column_path_on p ps)) (Written (path_text p)) (tokens_of ps)
column_path_is name p ps = g.there (phrase.path_is p ps)

formatted_is : (ps : Pieces) → formatted_at (tokens_of (on.word (codes "VARCHAR") (on.word (codes "FORMAT") (on.word (codes "JSON") ps)))) ≡ Some (tokens_of ps)
unfolding keyword_of formatted_at
formatted_is ps = refl

existence_is : (ps : Pieces) → existence_at (tokens_of (on.word (codes "BOOLEAN") (on.word (codes "EXISTS") ps))) ≡ Some (tokens_of ps)
unfolding keyword_of existence_at
existence_is ps = refl

formatted_spelled : (c : FormattedColumn PathText) (ps : Pieces) → IsColumn (tokens_of (formatted_on (formatted_with finishing c) ps)) (Formatted (formatted_with canonical c)) (tokens_of ps)
formatted_spelled c ps =
    let clauses = on.query_clauses_on c.clauses ps in
    let path = column_path_on (path_of c.path) clauses in
    g.formatted refl (formatted_is (on.encoding_on c.encoding path)) (phrase.encoding_is c.encoding path) (column_path_is c.name (path_of c.path) clauses) (phrase.query_clauses_are c.clauses ps)

existence_spelled : (name : List ℕ) (q : PathText) (action : ExistsAction) (ps : Pieces) → IsColumn (tokens_of (existence_on name (path_of q) action ps)) (Existence name (canonical.path_of q) action) (tokens_of ps)
existence_spelled name q action ps =
    let clause = on.exists_clause_on action ps in
    g.existence refl (existence_is (column_path_on (path_of q) clause)) (column_path_is name (path_of q) clause) (g.there (phrase.exists_clause_is action ps))

mutual
  column_spelled : {ts rest : Tokens} {x : ColumnOf PathText} → IsColumn ts x rest → (ps : Pieces) → IsColumn (tokens_of (column_on (column_with finishing x) ps)) (column_with canonical x) (tokens_of ps)
  column_spelled (g.ordinality h f o) ps = g.ordinality refl (stands w.For (codes "FOR") (tokens_of (on.word (codes "ORDINALITY") ps)) for_is) (stands w.Ordinality (codes "ORDINALITY") (tokens_of ps) ordinality_is)
  column_spelled (g.regular {a = a} {b = b} {name = name} {ty = ty} {path = path} {empty = empty} {error = error} h t p e r) ps =
      let on_error = on.value_action_on error (on.on_error ps) in
      let on_empty = on.value_action_on empty (on.on_empty on_error) in
      g.regular refl (phrase.type_is ty (type_read a b ty t) (column_path_on (path_of path) on_empty) refl) (column_path_is name (path_of path) on_empty)
      (g.there (phrase.value_on_empty empty on_error)) (g.there (phrase.value_on_error error ps))
  column_spelled (g.formatted {name = name} {x = x} {path = path} {clauses = clauses} h f e p q) ps = formatted_spelled (record { name = name; encoding = x; path = path; clauses = clauses }) ps
  column_spelled (g.existence {name = name} {path = path} {error = error} h e p r) ps = existence_spelled name path error ps
  column_spelled (g.nested {path = path} {name = name} {xs = xs} h p n d) ps =
      let columns = columns_on (columns_with finishing xs) ps in
      let named = on.path_name_on name columns in
      g.nested (stands w.Nested (codes "NESTED") (tokens_of (column_path_on (path_of path) named)) nested_is) (phrase.nested_path_is (path_of path) named) (phrase.path_name_is name columns) (columns_spelled d ps)

  columns_spelled : {ts rest : Tokens} {xs : Columns PathText} → IsColumns ts xs rest → (ps : Pieces) → IsColumns (tokens_of (columns_on (columns_with finishing xs) ps)) (columns_with canonical xs) (tokens_of ps)
  columns_spelled (g.columns h o d z) ps = g.columns (stands w.Columns (codes "COLUMNS") _ columns_is) refl (column_list_spelled d (Close ∷ ps)) refl

  column_list_spelled : {ts rest : Tokens} {xs : Columns PathText} → IsColumnList ts xs rest → (ps : Pieces) → IsColumnList (tokens_of (listed_columns_on (columns_with finishing xs) ps)) (columns_with canonical xs) (tokens_of ps)
  column_list_spelled (g.last_column d) ps = g.last_column (column_spelled d ps)
  column_list_spelled (g.more_columns {xs = xs} d c q) ps = g.more_columns (column_spelled d (Comma ∷ listed_columns_on (columns_with finishing xs) ps)) refl (column_list_spelled q ps)

pub table_spelled : {ts rest : Tokens} {t : Table PathText} → IsTable ts t rest → (ps : Pieces) → IsTable (tokens_of (table_on (table_with finishing t) ps)) (table_with canonical t) (tokens_of ps)
table_spelled (g.json_table {x = x} {path = path} {name = name} {variables = variables} {xs = xs} {p = p} {r = r} h o doc k s n v d pl re z over) ps =
    let clause = on.table_clause_on r (Close ∷ ps) in
    let plan = plan_on p clause in
    let columns = columns_on (columns_with finishing xs) plan in
    let passing = on.passing_on variables columns in
    let named = on.path_name_on name passing in
    g.json_table (stands w.JsonTable (codes "JSON_TABLE") _ json_table_is) refl (phrase.document_is x (Comma ∷ on.path_on (path_of (Written path)) named)) refl refl
    (phrase.path_name_is name passing) (phrase.variables_are variables columns) (columns_spelled d plan) (plan_spelled pl clause) (g.there (phrase.table_clause_is r (Close ∷ ps))) refl g.missing
