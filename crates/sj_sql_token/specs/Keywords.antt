-- Words, and the part that each plays in a statement.
use Rattle.std.specs.Prelude.{ℕ, Bool, true, false, List, [], ◌∷◌, map, codes}
use Rattle.std.specs.Char.{to_ascii_lowercase}
use Rattle.std.specs.Str.{bytes_eq}
use Rattle.sj_base.specs.Words.{first_like}
use Rattle.sj_sql_token.specs.declared.keyword.Keyword.{Keyword}
use Rattle.sj_sql_token.specs.declared.keyword.Keyword.TheVariants as w

-- the word is spelt as the keyword, in any case of its ASCII letters
abbrev pub is_spelt : List ℕ → List ℕ → Bool
is_spelt word keyword = bytes_eq (map to_ascii_lowercase word) (map to_ascii_lowercase keyword)

-- each keyword with the word that spells it
abbrev pub keywords : List (List ℕ × Keyword)
keywords =
    -- reserved words, which are no names
    (codes "SELECT", w.Select) ∷
    (codes "FROM", w.From) ∷
    (codes "AS", w.As) ∷
    (codes "KEY", w.Key) ∷
    (codes "TRUE", w.True) ∷
    (codes "FALSE", w.False) ∷
    (codes "NULL", w.Null) ∷
    (codes "NESTED", w.Nested) ∷
    (codes "JSON_EXISTS", w.JsonExists) ∷
    (codes "JSON_VALUE", w.JsonValue) ∷
    (codes "JSON_QUERY", w.JsonQuery) ∷
    (codes "JSON_TABLE", w.JsonTable) ∷
    (codes "JSON_OBJECT", w.JsonObject) ∷
    (codes "JSON_ARRAY", w.JsonArray) ∷
    (codes "JSON_OBJECTAGG", w.JsonObjectAgg) ∷
    (codes "JSON_ARRAYAGG", w.JsonArrayAgg) ∷
    -- words of the clauses of query functions
    (codes "PASSING", w.Passing) ∷
    (codes "RETURNING", w.Returning) ∷
    (codes "ON", w.On) ∷
    (codes "ERROR", w.Error) ∷
    (codes "EMPTY", w.Empty) ∷
    (codes "DEFAULT", w.Default) ∷
    (codes "UNKNOWN", w.Unknown) ∷
    (codes "ABSENT", w.Absent) ∷
    (codes "WITH", w.With) ∷
    (codes "WITHOUT", w.Without) ∷
    (codes "CONDITIONAL", w.Conditional) ∷
    (codes "UNCONDITIONAL", w.Unconditional) ∷
    (codes "WRAPPER", w.Wrapper) ∷
    (codes "KEEP", w.Keep) ∷
    (codes "OMIT", w.Omit) ∷
    (codes "QUOTES", w.Quotes) ∷
    -- words of the forms of JSON
    (codes "FORMAT", w.Format) ∷
    (codes "JSON", w.Json) ∷
    (codes "ENCODING", w.Encoding) ∷
    (codes "UTF8", w.Utf8) ∷
    (codes "UTF16", w.Utf16) ∷
    (codes "UTF32", w.Utf32) ∷
    (codes "IS", w.Is) ∷
    (codes "NOT", w.Not) ∷
    (codes "VALUE", w.Value) ∷
    (codes "ARRAY", w.Array) ∷
    (codes "OBJECT", w.Object) ∷
    (codes "SCALAR", w.Scalar) ∷
    (codes "STRING", w.String) ∷
    (codes "UNIQUE", w.Unique) ∷
    (codes "KEYS", w.Keys) ∷
    -- words of types
    (codes "VARCHAR", w.Varchar) ∷
    (codes "NUMERIC", w.Numeric) ∷
    (codes "DECIMAL", w.Decimal) ∷
    (codes "INTEGER", w.Integer) ∷
    (codes "INT", w.Int) ∷
    (codes "BIGINT", w.Bigint) ∷
    (codes "BOOLEAN", w.Boolean) ∷
    (codes "FLOAT", w.Float) ∷
    (codes "REAL", w.Real) ∷
    (codes "DOUBLE", w.Double) ∷
    (codes "PRECISION", w.Precision) ∷
    (codes "DATE", w.Date) ∷
    (codes "TIME", w.Time) ∷
    (codes "TIMESTAMP", w.Timestamp) ∷
    -- words of tables and plans
    (codes "COLUMNS", w.Columns) ∷
    (codes "FOR", w.For) ∷
    (codes "ORDINALITY", w.Ordinality) ∷
    (codes "EXISTS", w.Exists) ∷
    (codes "PATH", w.Path) ∷
    (codes "PLAN", w.Plan) ∷
    (codes "OUTER", w.Outer) ∷
    (codes "INNER", w.Inner) ∷
    (codes "UNION", w.Union) ∷
    (codes "CROSS", w.Cross) ∷
    []

unfoldable pub keyword_of : List ℕ → Keyword
keyword_of word = first_like is_spelt w.Other keywords word

-- no name
abbrev pub is_reserved : Keyword → Bool
is_reserved w.Select = true
is_reserved w.From = true
is_reserved w.As = true
is_reserved w.Key = true
is_reserved w.True = true
is_reserved w.False = true
is_reserved w.Null = true
is_reserved w.Nested = true
is_reserved w.JsonExists = true
is_reserved w.JsonValue = true
is_reserved w.JsonQuery = true
is_reserved w.JsonTable = true
is_reserved w.JsonObject = true
is_reserved w.JsonArray = true
is_reserved w.JsonObjectAgg = true
is_reserved w.JsonArrayAgg = true
is_reserved _ = false
