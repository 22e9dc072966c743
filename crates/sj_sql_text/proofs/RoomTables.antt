-- The pieces of columns and tables that some tokens spell have the room that these have.
use Rattle.std.proofs.Common.{ℕ, zero, suc, ◌≤◌, List, ◌∷◌, codes, Option, arith}
use Rattle.sj_path_tree.specs.Tree.{Path}
use Rattle.sj_value.specs.declared.clauses.ExistsAction.{ExistsAction}
use Rattle.sj_sql_token.specs.declared.keyword.Keyword.TheVariants as w
use Rattle.sj_sql_grammar.specs.declared.clauses.Encoding.{Encoding}
use Rattle.sj_sql_grammar.specs.declared.clauses.Passed.{Passed}
use Rattle.sj_sql_grammar.specs.declared.clauses.QueryClauses.{QueryClauses}
use Rattle.sj_sql_grammar.specs.declared.clauses.ValueDo.{ValueDo}
use Rattle.sj_sql_grammar.specs.Tree.{PathText, Written, ColumnOf, Columns, PlanTree, Table}
use Rattle.sj_sql_grammar.specs.Phrases.{Tokens}
use Rattle.sj_sql_grammar.specs.Grammar as g
use Rattle.sj_sql_grammar.specs.Grammar.{IsColumn, IsColumns, IsColumnList, IsPlan, IsTable}
use Rattle.sj_sql_grammar.specs.Notes.{column_with, columns_with, table_with}
use Rattle.sj_sql_grammar.specs.Answers.{path_of, finishing}
use Rattle.sj_sql_text.specs.Pieces.{Comma}
use Rattle.sj_sql_text.specs.Phrases as on
use Rattle.sj_sql_text.specs.Plans.{plan_on}
use Rattle.sj_sql_text.specs.Statements.{column_path_on, column_on, listed_columns_on, columns_on, table_on}
use Rattle.sj_sql_text.proofs.Room.{Fits, Keeps, and_keeps, opens, closes, Needs, needs_none, and_needs, Holds, plain, before, joined, in_parentheses, called}
use Rattle.sj_sql_text.proofs.RoomPhrases as room
use Rattle.sj_sql_text.proofs.RoomPhrases.{word_keeps, comma_keeps, string_keeps, name_keeps}
use Rattle.sj_sql_text.proofs.RoomPlans.{plan_holds}
use Rattle.sj_sql_text.proofs.RoomValues.{optional_keeps, over_keeps, behind_comma, document_keeps, variables_keep, query_clauses_keep}

word_needs : (text : List ℕ) → Needs 0 (on.word text)
word_needs text = needs_none (λ d ps h. h)

name_needs : (name : List ℕ) → Needs 0 (on.name_on name)
name_needs name = needs_none (λ d ps h. h)

column_path_needs : (p : Path) → Needs 0 (column_path_on p)
column_path_needs p = needs_none (λ d ps h. h)

-- ---- columns

ordinality_needs : (name : List ℕ) → Needs 0 (λ ps. on.name_on name (on.word (codes "FOR") (on.word (codes "ORDINALITY") ps)))
ordinality_needs name = needs_none (λ d ps h. h)

formatted_needs : (name : List ℕ) (x : Encoding) (p : Path) (clauses : QueryClauses)
    → Needs 0 (λ ps. on.name_on name (on.word (codes "VARCHAR") (on.word (codes "FORMAT") (on.word (codes "JSON") (on.encoding_on x (column_path_on p (on.query_clauses_on clauses ps)))))))
formatted_needs name x p clauses =
    and_needs (name_needs name) (and_needs (word_needs (codes "VARCHAR")) (and_needs (word_needs (codes "FORMAT")) (and_needs (word_needs (codes "JSON"))
    (and_needs (room.encoding_needs x) (and_needs (column_path_needs p) (room.query_clauses_need clauses))))))

existence_needs : (name : List ℕ) (p : Path) (action : ExistsAction)
    → Needs 0 (λ ps. on.name_on name (on.word (codes "BOOLEAN") (on.word (codes "EXISTS") (column_path_on p (on.exists_clause_on action ps)))))
existence_needs name p action =
    and_needs (name_needs name) (and_needs (word_needs (codes "BOOLEAN")) (and_needs (word_needs (codes "EXISTS")) (and_needs (column_path_needs p) (room.exists_clause_needs action))))

nested_needs : (p : Path) (name : Option (List ℕ)) → Needs 0 (λ ps. on.word (codes "NESTED") (column_path_on p (on.path_name_on name ps)))
nested_needs p name = and_needs (word_needs (codes "NESTED")) (and_needs (column_path_needs p) (room.path_name_needs name))

values_need : (p : Path) (empty error : ValueDo) → Needs 0 (λ ps. column_path_on p (on.value_clauses_on empty error ps))
values_need p empty error = and_needs (column_path_needs p) (room.value_clauses_need empty error)

mutual
  pub column_holds : {ts rest : Tokens} {x : ColumnOf PathText} → IsColumn ts x rest → Holds ts (column_on (column_with finishing x)) rest
  column_holds (g.ordinality {ts = ts} {a = a} {b = b} {rest = rest} {name = n} h f o) =
      plain (ordinality_needs n) (and_keeps ((name_keeps ts).holds (n, a) h) (and_keeps ((word_keeps w.For a).holds b f) ((word_keeps w.Ordinality b).holds rest o)))
  column_holds (g.regular {ts = ts} {a = a} {b = b} {name = n} {ty = ty} {path = path} {empty = empty} {error = error} h t p e r) =
      joined (plain (name_needs n) ((name_keeps ts).holds (n, a) h)) (joined ((room.type_holds a).holds (ty, b) t)
      (plain (values_need (path_of path) empty error) (and_keeps (optional_keeps room.path_keeps p) (and_keeps (optional_keeps (room.value_clause_keeps w.Empty) e) (optional_keeps (room.value_clause_keeps w.Error) r)))))
  column_holds (g.formatted {ts = ts} {a = a} {b = b} {name = n} {x = x} {path = path} {clauses = clauses} h f e p q) =
      plain (formatted_needs n x (path_of path) clauses) (and_keeps ((name_keeps ts).holds (n, a) h)
      (and_keeps ((room.formatted_keeps a).holds b f) (and_keeps (optional_keeps room.encoding_keeps e) (and_keeps (optional_keeps room.path_keeps p) (query_clauses_keep q)))))
  column_holds (g.existence {ts = ts} {a = a} {b = b} {name = n} {path = path} {error = action} h x p e) =
      plain (existence_needs n (path_of path) action) (and_keeps ((name_keeps ts).holds (n, a) h)
      (and_keeps ((room.existence_keeps a).holds b x) (and_keeps (optional_keeps room.path_keeps p) (optional_keeps room.exists_clause_keeps e))))
  column_holds (g.nested {ts = ts} {a = a} {b = b} {path = path} {name = name} h p n d) =
      joined (plain (nested_needs (path_of path) name) (and_keeps ((word_keeps w.Nested ts).holds a h) (and_keeps ((room.nested_path_keeps a).holds (path, b) p) (optional_keeps room.path_name_keeps n))))
      (columns_hold d)

  pub columns_hold : {ts rest : Tokens} {xs : Columns PathText} → IsColumns ts xs rest → Holds ts (columns_on (columns_with finishing xs)) rest
  columns_hold (g.columns {ts = ts} {a = a} {b = b} {c = c} {rest = rest} h o d z) =
      joined (plain (word_needs (codes "COLUMNS")) ((word_keeps w.Columns ts).holds a h)) (in_parentheses ((opens a).holds b o) (column_list_holds d) ((closes c).holds rest z))

  column_list_holds : {ts rest : Tokens} {xs : Columns PathText} → IsColumnList ts xs rest → Holds ts (listed_columns_on (columns_with finishing xs)) rest
  column_list_holds (g.last_column d) = column_holds d
  column_list_holds (g.more_columns d c q) = joined (column_holds d) (behind_comma c (column_list_holds q))

-- a list of columns has room for one at least
columns_open : {ts rest : Tokens} {xs : Columns PathText} → IsColumns ts xs rest → (d : ℕ) → Fits ts d → 1 ≤ d
columns_open (g.columns {ts = ts} {a = a} {b = b} h o q z) zero fit = absurd (((opens a).holds b o).fits zero (((word_keeps w.Columns ts).holds a h).fits zero fit))
columns_open (g.columns h o q z) (suc d) fit = omega arith

-- ---- tables

-- a plan that was not written stands in the room of the columns
planned_hold : {ts a rest : Tokens} {xs : Columns PathText} {p : PlanTree} → IsColumns ts xs a → IsPlan a p rest → Holds ts (λ ps. columns_on (columns_with finishing xs) (plan_on p ps)) rest
planned_hold d q =
    let x = columns_hold d in
    let y = plan_holds q in
    record { needs = λ n fit. and_needs (x.needs n fit) (y.needs n (columns_open d n fit) (x.keeps n fit)); keeps = λ n fit. y.keeps.fits n (x.keeps n fit); lexical = λ q. y.keeps.lexical (x.lexical q) }

front_needs : (x : Encoding) (p : Path) (name : Option (List ℕ)) (variables : List Passed) → Needs 0 (λ ps. on.document_on x (Comma ∷ on.path_on p (on.path_name_on name (on.passing_on variables ps))))
front_needs x p name variables =
    let comma : Needs 0 (λ ps. Comma ∷ ps) = needs_none (λ d ps h. h) in
    let path : Needs 0 (on.path_on p) = needs_none (λ d ps h. h) in
    and_needs (room.document_needs x) (and_needs comma (and_needs path (and_needs (room.path_name_needs name) (room.passing_needs variables))))

pub table_holds : {ts rest : Tokens} {t : Table PathText} → IsTable ts t rest → Holds ts (table_on (table_with finishing t)) rest
table_holds (g.json_table {ts = ts} {a = a} {b = b} {c = c} {d = d} {e = e} {f = f} {i = i} {j = j} {m = m} {x = x} {path = path} {name = name} {variables = variables} {p = p} {r = r} h o doc k s n v cs pl re z over) =
    let front : Keeps b _ = and_keeps (document_keeps doc) (and_keeps ((comma_keeps c).holds d k) (and_keeps ((string_keeps d).holds (path, e) s) (and_keeps (optional_keeps room.path_name_keeps n) (variables_keep v)))) in
    before (called (codes "JSON_TABLE") ((word_keeps w.JsonTable ts).holds a h) ((opens a).holds b o)
    (joined (plain (front_needs x (path_of (Written path)) name variables) front) (joined (planned_hold cs pl) (plain (room.table_clause_needs r) (optional_keeps room.table_clause_keeps re)))) ((closes j).holds m z))
    (over_keeps room.table_alias_keeps over)
