-- The pieces of phrases that the tokens of a file spell are inner ones.
use Rattle.std.proofs.Common.{◌≡◌, ◌≢◌, ℕ, zero, suc, ◌<◌, ◌%◌, Bool, true, false, ◌&&◌, nat_lt, nat_le, List, [], ◌∷◌, codes, ℤ, pos, negsuc, neg_ℤ, unsigned_abs, Option, Some, None, refl, sym, subst, arith, IsUtf8}
use Rattle.std.specs.Bool.{⊤}
use Rattle.std.specs.List.{list_all}
use Rattle.std.proofs.lemmas.Bool.Decides.{nat_tests}
use Rattle.std.proofs.lemmas.Str.{IsUtf8-append, IsUtf8-nil}
use Rattle.sj_decimal.specs.Limits.{max_digits, magnitude_limit}
use Rattle.sj_decimal.specs.Normal.{IsDecimal}
use Rattle.sj_json.specs.Printing.{printed_string}
use Rattle.sj_path_tree.specs.declared.parts.Literal.TheVariants as l
use Rattle.sj_path_tree.specs.Tree.{Path}
use Rattle.sj_path_grammar.specs.Accepted.{accepted_path}
use Rattle.sj_path_grammar.proofs.Acceptance.{path_accepted}
use Rattle.sj_path_text.specs.Text.{path_text}
use Rattle.sj_path_text.proofs.Lexing.{word_is}
use Rattle.sj_path_text.proofs.Utf8.{one_more, word_utf8, printed_utf8, stays_utf8}
use Rattle.sj_value.specs.declared.types.SqlType.TheVariants as sql
use Rattle.sj_value.specs.declared.clauses.Wrapper.{Wrapper}
use Rattle.sj_value.specs.declared.clauses.Wrapper.TheVariants as wrapper
use Rattle.sj_value.specs.declared.clauses.QueryAction.{QueryAction}
use Rattle.sj_value.specs.declared.clauses.QueryAction.TheVariants as on_query
use Rattle.sj_value.specs.declared.clauses.ExistsAction.{ExistsAction}
use Rattle.sj_value.specs.declared.clauses.ExistsAction.TheVariants as on_exists
use Rattle.sj_value.specs.declared.clauses.TableAction.{TableAction}
use Rattle.sj_value.specs.declared.clauses.TableAction.TheVariants as on_table
use Rattle.sj_value.specs.declared.clauses.Nulls.{Nulls}
use Rattle.sj_value.specs.declared.clauses.Nulls.TheVariants as nulls
use Rattle.sj_value.specs.declared.clauses.JsonKind.{JsonKind}
use Rattle.sj_value.specs.declared.clauses.JsonKind.TheVariants as json
use Rattle.sj_sql_token.specs.declared.token.Token.TheVariants as k
use Rattle.sj_sql_token.specs.declared.keyword.Keyword.{Keyword}
use Rattle.sj_sql_token.specs.declared.keyword.Keyword.TheVariants as w
use Rattle.sj_sql_token.specs.Keywords.{is_reserved}
use Rattle.sj_sql_grammar.specs.declared.clauses.Encoding.{Encoding}
use Rattle.sj_sql_grammar.specs.declared.clauses.Encoding.TheVariants.{Read, Refused}
use Rattle.sj_sql_grammar.specs.declared.clauses.TypeName.{TypeName}
use Rattle.sj_sql_grammar.specs.declared.clauses.TypeName.TheVariants.{Known, Approximate, Datetime}
use Rattle.sj_sql_grammar.specs.declared.clauses.Passed.{Passed}
use Rattle.sj_sql_grammar.specs.declared.clauses.ValueDo.{ValueDo}
use Rattle.sj_sql_grammar.specs.declared.clauses.ValueDo.TheVariants as on_value
use Rattle.sj_sql_grammar.specs.declared.clauses.Quotes.{Quotes}
use Rattle.sj_sql_grammar.specs.declared.clauses.Quotes.TheVariants as quotes
use Rattle.sj_sql_grammar.specs.declared.clauses.QueryClauses.{QueryClauses}
use Rattle.sj_sql_grammar.specs.declared.clauses.IsJsonCall.{IsJsonCall}
use Rattle.sj_sql_grammar.specs.Tree.{PathText, Written, OfName, Common}
use Rattle.sj_sql_grammar.specs.Phrases.{Tokens, Phrase, if_some, word, string_at, number_at, name_at, meant, skip_word, constant_of, negated, literal_at, max_varchar, type_at, passed_at, cause_at, returning_at, value_action_of, value_action_at, value_clause_at, alias_at, path_name_at, path_at, nested_path_at}
use Rattle.sj_sql_grammar.specs.Grammar as g
use Rattle.sj_sql_grammar.specs.Grammar.{IsOptional, IsList, IsPassed, IsPassing}
use Rattle.sj_sql_grammar.specs.Answers.{or_root, path_of}
use Rattle.sj_sql_grammar.proofs.ReadTokens.{If, nothing, here, then, given, either, chosen}
use Rattle.sj_sql_text.specs.Pieces.{Piece, Name, String, Number, Comma, Pieces}
use Rattle.sj_sql_text.specs.Phrases as on
use Rattle.sj_sql_text.specs.Printable.{is_word}
use Rattle.sj_sql_text.proofs.Inner.{AreLexical, IsInner, Prints, and_prints}
use Rattle.sj_sql_text.proofs.ReadPhrases.{IsWithin, type_read, returning_read}
use Rattle.sj_sql_text.proofs.RoomPhrases.{word_keeps, comma_keeps, skipped, passed_keeps, literal_keeps}

-- ---- pieces

pub nothing_prints : Prints (λ ps. ps)
nothing_prints = record { inner = λ ps p. p }

pub piece_prints : (x : Piece) → IsInner x → Prints (λ ps. x ∷ ps)
piece_prints x h = record { inner = λ ps p. (h, p) }

pub word_prints : (text : List ℕ) → is_word text ≡ true → Prints (on.word text)
word_prints text h = record { inner = λ ps p. (h, p) }

-- what may be left out prints if what it stands for then does
pub optional_prints : {A : Type 0} {phrase : Phrase A} {default x : A} {ts rest : Tokens} (P : A → Type 0) → P default → If (λ y. P y.0) (phrase ts) → IsOptional phrase default ts x rest → P x
optional_prints {x = x} {rest = rest} P d p (g.there h) = p.holds (x, rest) h
optional_prints P d p g.absent = d

-- each of a list prints
abbrev pub EachPrints : {A : Type 0} → (A → Pieces → Pieces) → List A → Type 0
EachPrints one [] = ⊤
EachPrints one (x ∷ xs) = Prints (one x) × EachPrints one xs

pub others_print : {A : Type 0} (one : A → Pieces → Pieces) (xs : List A) → EachPrints one xs → Prints (on.each_behind one xs)
others_print one [] h = nothing_prints
others_print one (x ∷ xs) h = and_prints (piece_prints Comma tt) (and_prints h.0 (others_print one xs h.1))

pub listed_prints : {A : Type 0} (one : A → Pieces → Pieces) (xs : List A) → EachPrints one xs → Prints (on.listed one xs)
listed_prints one [] h = nothing_prints
listed_prints one (x ∷ xs) h = and_prints h.0 (others_print one xs h.1)

-- ---- names

word_name : (text : List ℕ) → is_word text ≡ true → IsInner (Name text)
word_name [] h = absurd cc
word_name (b ∷ bs) h = ((λ e. absurd cc), word_utf8 (b ∷ bs) (word_is (b ∷ bs) h))

pub name_prints : (ts : Tokens) → AreLexical ts → If (λ x. IsInner (Name x.0)) (name_at ts)
name_prints (k.Quoted n ∷ ts) q = here q.0
name_prints (k.Word v text ∷ ts) q = chosen (is_reserved v) _ _ (λ _. nothing) (λ _. here (word_name text q.0))
name_prints _ q = nothing

pub alias_prints : (ts : Tokens) → AreLexical ts → If (λ x. IsInner (Name x.0)) (alias_at ts)
unfolding alias_at
alias_prints ts q = then (word w.As ts) _ (word_keeps w.As ts) (λ a e. name_prints a (e.lexical q))

pub path_name_prints : (ts : Tokens) → AreLexical ts → If (λ x. Prints (on.path_name_on x.0)) (path_name_at ts)
unfolding path_name_at
path_name_prints ts q = then (alias_at ts) _ (alias_prints ts q) (λ n e. here (record { inner = λ ps p. (refl, (e, p)) }))

pub optional_path_name : {ts rest : Tokens} {name : Option (List ℕ)} → IsOptional path_name_at None ts name rest → AreLexical ts → Prints (on.path_name_on name)
optional_path_name {ts = ts} o q = optional_prints (λ n. Prints (on.path_name_on n)) nothing_prints (path_name_prints ts q) o

-- ---- paths

ascii : (text : List ℕ) → list_all (λ b. nat_lt b 128) text ≡ true → IsUtf8 text
ascii [] h = IsUtf8-nil
ascii (b ∷ text) h = go (nat_lt b 128) refl h (ascii text)
  where
    low : nat_lt b 128 ≡ true → b < 128
    low e = grind (arith, nat_tests)

    go : (x : Bool) → nat_lt b 128 ≡ x → (x && list_all (λ b. nat_lt b 128) text) ≡ true → (list_all (λ b. nat_lt b 128) text ≡ true → IsUtf8 text) → IsUtf8 (b ∷ text)
    go true e h more = one_more b (low e) (more h)
    go false e h more = absurd cc

-- the canonical text of a written path
pub written_path_prints : (text : List ℕ) → IsUtf8 text → IsInner (String (path_text (path_of (Written text))))
written_path_prints text u = go (accepted_path text) refl
  where
    go : (o : Option Path) → accepted_path text ≡ o → IsUtf8 (path_text (or_root o))
    go None e = ascii (codes "lax $") refl
    go (Some p) e = let a = path_accepted text p e in stays_utf8 text p (record { tokens = a.tokens; breaks = a.breaks; tree = a.allowed.spells.tree }) u

pub member_path_prints : (name : List ℕ) → IsUtf8 name → IsInner (String (path_text (path_of (OfName name))))
member_path_prints name u = IsUtf8-append (codes "lax $.") (printed_string name) (ascii (codes "lax $.") refl) (printed_utf8 name u)

pub string_prints : (ts : Tokens) → AreLexical ts → If (λ x. IsInner (String (path_text (path_of (Written x.0))))) (string_at ts)
string_prints (k.String s ∷ ts) q = here (written_path_prints s q.0)
string_prints _ q = nothing

pub path_prints : (ts : Tokens) → AreLexical ts → If (λ x. IsInner (String (path_text (path_of x.0)))) (path_at ts)
unfolding path_at
path_prints ts q = then _ _ (then (word w.Path ts) _ (word_keeps w.Path ts) (λ a e. string_prints a (e.lexical q))) (λ s e. here e)

pub nested_path_prints : (ts : Tokens) → AreLexical ts → If (λ x. IsInner (String (path_text (path_of x.0)))) (nested_path_at ts)
unfolding nested_path_at
nested_path_prints ts q = then (string_at (skip_word w.Path ts)) _ (string_prints (skip_word w.Path ts) ((skipped w.Path ts).lexical q)) (λ s e. here e)

-- of a column
pub optional_path : {ts rest : Tokens} {name : List ℕ} {path : PathText} → IsOptional path_at (OfName name) ts path rest → IsUtf8 name → AreLexical ts → IsInner (String (path_text (path_of path)))
optional_path {ts = ts} {name = n} o u q = optional_prints (λ p. IsInner (String (path_text (path_of p)))) (member_path_prints n u) (path_prints ts q) o

-- ---- literals

negated_decimal : (d : ℤ × ℕ) → IsDecimal d → IsDecimal (negated d)
negated_decimal d h =
    record {
      normal = subst (λ (n : ℕ). 0 < d.1 → n % 10 ≢ 0) (sym (same d.0)) h.normal;
      limits = record { coefficient = subst (λ (n : ℕ). n < magnitude_limit) (sym (same d.0)) h.limits.coefficient; scale = h.limits.scale };
    }
  where
    same : (c : ℤ) → unsigned_abs (neg_ℤ c) ≡ unsigned_abs c
    same (pos zero) = refl
    same (pos (suc n)) = refl
    same (negsuc n) = refl

number_decimal : (ts : Tokens) → AreLexical ts → If (λ x. IsDecimal x.0) (number_at ts)
number_decimal (k.Whole d ∷ ts) q = here q.0
number_decimal (k.Fraction d ∷ ts) q = here q.0
number_decimal _ q = nothing

-- a word with a meaning of its own
meant_prints : {A : Type 0} {P : A → Type 0} (f : Keyword → Option A) → ((v : Keyword) → If P (f v)) → (ts : Tokens) → If (λ x. P x.0) (meant f ts)
meant_prints f p (k.Word v text ∷ ts) = then (f v) _ (p v) (λ a e. here e)
meant_prints f p _ = nothing

constant_prints : (v : Keyword) → If (λ x. Prints (on.literal_on x)) (constant_of v)
constant_prints w.True = here (word_prints (codes "TRUE") refl)
constant_prints w.False = here (word_prints (codes "FALSE") refl)
constant_prints w.Null = here (word_prints (codes "NULL") refl)
constant_prints _ = nothing

plain_literal_prints : (ts : Tokens) → AreLexical ts → If (λ x. Prints (on.literal_on x.0)) (if_some (number_at ts) (λ d. Some (l.Num d.0, d.1)) (meant constant_of ts))
plain_literal_prints ts q = either (number_at ts) _ _ (λ d h. here (piece_prints (Number d.0) ((number_decimal ts q).holds d h))) (λ _. meant_prints constant_of constant_prints ts)

pub literal_prints : (ts : Tokens) → AreLexical ts → If (λ x. Prints (on.literal_on x.0)) (literal_at ts)
unfolding literal_at
literal_prints [] q = nothing
literal_prints (k.String s ∷ ts) q = here (piece_prints (String s) q.0)
literal_prints (k.Plus ∷ ts) q = then _ _ (number_decimal ts q.1) (λ d e. here (piece_prints (Number d.0) e))
literal_prints (k.Minus ∷ ts) q = then _ _ (number_decimal ts q.1) (λ d e. here (piece_prints (Number (negated d.0)) (negated_decimal d.0 e)))
literal_prints (t ∷ ts) q = plain_literal_prints (t ∷ ts) q

pub passed_prints : (ts : Tokens) → AreLexical ts → If (λ x. Prints (on.passed_on x.0)) (passed_at ts)
unfolding passed_at
passed_prints ts q =
    given (literal_at ts) _ (λ v h. then _ _ (then _ _ (word_keeps w.As v.1) (λ a e. name_prints a (e.lexical (((literal_keeps ts).holds v h).lexical q))))
    (λ n e. here (and_prints ((literal_prints ts q).holds v h) (and_prints (word_prints (codes "AS") refl) (piece_prints (Name n.0) e)))))

passed_print : {ts rest : Tokens} {xs : List Passed} → IsList IsPassed ts xs rest → AreLexical ts → EachPrints on.passed_on xs
passed_print {ts = ts} {rest = rest} (g.last {x = x} d) q = ((passed_prints ts q).holds (x, rest) d, tt)
passed_print {ts = ts} (g.more {a = a} {b = b} {x = x} d c list) q =
    ((passed_prints ts q).holds (x, a) d, passed_print list (((comma_keeps a).holds b c).lexical (((passed_keeps ts).holds (x, a) d).lexical q)))

pub passing_prints : (xs : List Passed) → EachPrints on.passed_on xs → Prints (on.passing_on xs)
passing_prints [] h = nothing_prints
passing_prints (x ∷ xs) h = and_prints (word_prints (codes "PASSING") refl) (listed_prints on.passed_on (x ∷ xs) h)

pub variables_print : {ts rest : Tokens} {xs : List Passed} → IsPassing ts xs rest → AreLexical ts → Prints (on.passing_on xs)
variables_print g.nothing q = nothing_prints
variables_print (g.variables {ts = ts} {a = a} {xs = xs} h list) q = passing_prints xs (passed_print list (((word_keeps w.Passing ts).holds a h).lexical q))

-- ---- types

varchar_count : (n : ℕ) → (nat_le 1 n && nat_le n max_varchar) ≡ true → n < magnitude_limit
varchar_count n h = grind (arith, nat_tests)

digits_count : (p s : ℕ) → (nat_le 1 p && nat_le p max_digits && nat_le s p) ≡ true → p < magnitude_limit
digits_count p s h = grind (arith, nat_tests)

decimals_count : (p s : ℕ) → (nat_le 1 p && nat_le p max_digits && nat_le s p) ≡ true → s < magnitude_limit
decimals_count p s h = grind (arith, nat_tests)

within_prints : (ty : TypeName) → IsWithin ty → Prints (on.type_on ty)
within_prints (Known sql.Varchar) h = word_prints (codes "VARCHAR") refl
within_prints (Known (sql.VarcharMax n)) h = record { inner = λ ps p. (refl, (varchar_count n h.is, (tt, p))) }
within_prints (Known sql.Numeric) h = word_prints (codes "NUMERIC") refl
within_prints (Known (sql.NumericFixed d s)) h = record { inner = λ ps p. (refl, (digits_count d s h.is, (tt, (decimals_count d s h.is, (tt, p))))) }
within_prints (Known sql.Integer) h = word_prints (codes "INTEGER") refl
within_prints (Known sql.Bigint) h = word_prints (codes "BIGINT") refl
within_prints (Known sql.Boolean) h = word_prints (codes "BOOLEAN") refl
within_prints Approximate h = word_prints (codes "FLOAT") refl
within_prints Datetime h = word_prints (codes "DATE") refl

pub type_prints : (ts : Tokens) → If (λ x. Prints (on.type_on x.0)) (type_at ts)
type_prints ts = record { holds = λ x h. within_prints x.0 (type_read ts x.1 x.0 h) }

pub returning_prints : {ts rest : Tokens} {ty : TypeName} → IsOptional returning_at (Known sql.Varchar) ts ty rest → Prints (on.returning_on ty)
returning_prints {ty = ty} o = and_prints (word_prints (codes "RETURNING") refl) (within_prints ty (returning_read o))

-- ---- clauses with a literal

value_word_prints : (v : Keyword) → If (λ x. Prints (on.value_action_on x)) (value_action_of v)
value_word_prints w.Error = here (word_prints (codes "ERROR") refl)
value_word_prints w.Null = here (word_prints (codes "NULL") refl)
value_word_prints _ = nothing

value_action_prints : (ts : Tokens) → AreLexical ts → If (λ x. Prints (on.value_action_on x.0)) (value_action_at ts)
value_action_prints ts q =
    either (word w.Default ts) _ _
    (λ a h. then (literal_at a) _ (literal_prints a (((word_keeps w.Default ts).holds a h).lexical q)) (λ v e. here (and_prints (word_prints (codes "DEFAULT") refl) e)))
    (λ _. meant_prints value_action_of value_word_prints ts)

pub value_clause_prints : (cause : Keyword) (ts : Tokens) → AreLexical ts → If (λ x. Prints (on.value_action_on x.0)) (value_clause_at cause ts)
unfolding value_clause_at
value_clause_prints cause ts q = then (value_action_at ts) _ (value_action_prints ts q) (λ a e. given (cause_at cause a.1) _ (λ rest _. here e))

pub optional_value_clause : (cause : Keyword) {ts rest : Tokens} {x : ValueDo} → IsOptional (value_clause_at cause) on_value.Null ts x rest → AreLexical ts → Prints (on.value_action_on x)
optional_value_clause cause {ts = ts} o q = optional_prints (λ y. Prints (on.value_action_on y)) (word_prints (codes "NULL") refl) (value_clause_prints cause ts q) o

on_empty_prints : Prints on.on_empty
on_empty_prints = record { inner = λ ps p. (refl, (refl, p)) }

on_error_prints : Prints on.on_error
on_error_prints = record { inner = λ ps p. (refl, (refl, p)) }

pub value_clauses_print : (empty error : ValueDo) → Prints (on.value_action_on empty) → Prints (on.value_action_on error) → Prints (on.value_clauses_on empty error)
value_clauses_print a b x y = and_prints x (and_prints on_empty_prints (and_prints y on_error_prints))

-- ---- the document

pub document_prints : (x : Encoding) → Prints (on.document_on x)
document_prints Read = word_prints (codes "doc") refl
document_prints Refused = record { inner = λ ps p. (refl, (refl, (refl, (refl, (refl, p))))) }

pub encoding_prints : (x : Encoding) → Prints (on.encoding_on x)
encoding_prints Read = nothing_prints
encoding_prints Refused = record { inner = λ ps p. (refl, (refl, p)) }

pub common_prints : (c : Common Path) → IsInner (String (path_text c.path)) → Prints (on.passing_on c.passing) → Prints (on.common_on c)
common_prints c h x = and_prints (document_prints c.encoding) (and_prints (piece_prints Comma tt) (and_prints (piece_prints (String (path_text c.path)) h) x))

-- ---- other clauses

pub exists_clause_prints : (x : ExistsAction) → Prints (on.exists_clause_on x)
exists_clause_prints on_exists.True = record { inner = λ ps p. (refl, (refl, (refl, p))) }
exists_clause_prints on_exists.False = record { inner = λ ps p. (refl, (refl, (refl, p))) }
exists_clause_prints on_exists.Unknown = record { inner = λ ps p. (refl, (refl, (refl, p))) }
exists_clause_prints on_exists.Error = record { inner = λ ps p. (refl, (refl, (refl, p))) }

pub wrapper_prints : (x : Wrapper) → Prints (on.wrapper_on x)
wrapper_prints wrapper.Without = record { inner = λ ps p. (refl, (refl, p)) }
wrapper_prints wrapper.Conditional = record { inner = λ ps p. (refl, (refl, (refl, p))) }
wrapper_prints wrapper.Unconditional = record { inner = λ ps p. (refl, (refl, (refl, p))) }

pub quotes_print : (x : Quotes) → Prints (on.quotes_on x)
quotes_print quotes.Absent = nothing_prints
quotes_print quotes.Keep = record { inner = λ ps p. (refl, (refl, p)) }
quotes_print quotes.Omit = record { inner = λ ps p. (refl, (refl, p)) }

pub query_action_prints : (x : QueryAction) → Prints (on.query_action_on x)
query_action_prints on_query.Error = word_prints (codes "ERROR") refl
query_action_prints on_query.Null = word_prints (codes "NULL") refl
query_action_prints on_query.EmptyArray = record { inner = λ ps p. (refl, (refl, p)) }
query_action_prints on_query.EmptyObject = record { inner = λ ps p. (refl, (refl, p)) }

pub query_clauses_print : (c : QueryClauses) → Prints (on.query_clauses_on c)
query_clauses_print c =
    and_prints (wrapper_prints c.wrapper) (and_prints (quotes_print c.quotes)
    (and_prints (query_action_prints c.on_empty) (and_prints on_empty_prints (and_prints (query_action_prints c.on_error) on_error_prints))))

pub unique_prints : (x : Bool) → Prints (on.unique_on x)
unique_prints true = record { inner = λ ps p. (refl, (refl, (refl, p))) }
unique_prints false = record { inner = λ ps p. (refl, (refl, (refl, p))) }

pub nulls_print : (x : Nulls) → Prints (on.nulls_on x)
nulls_print nulls.Null = record { inner = λ ps p. (refl, (refl, (refl, p))) }
nulls_print nulls.Absent = record { inner = λ ps p. (refl, (refl, (refl, p))) }

pub not_prints : (x : Bool) → Prints (on.not_on x)
not_prints true = word_prints (codes "NOT") refl
not_prints false = nothing_prints

pub kind_prints : (x : JsonKind) → Prints (on.kind_on x)
kind_prints json.Value = word_prints (codes "VALUE") refl
kind_prints json.Array = word_prints (codes "ARRAY") refl
kind_prints json.Object = word_prints (codes "OBJECT") refl
kind_prints json.Scalar = word_prints (codes "SCALAR") refl

pub is_json_prints : (c : IsJsonCall) → Prints (on.is_json_on c)
is_json_prints c =
    and_prints (word_prints (codes "doc") refl) (and_prints (word_prints (codes "IS") refl) (and_prints (not_prints c.negated)
    (and_prints (word_prints (codes "JSON") refl) (and_prints (kind_prints c.kind) (unique_prints c.unique)))))

pub table_clause_prints : (x : TableAction) → Prints (on.table_clause_on x)
table_clause_prints on_table.Empty = record { inner = λ ps p. (refl, (refl, (refl, p))) }
table_clause_prints on_table.Error = record { inner = λ ps p. (refl, (refl, (refl, p))) }
