-- Phrases close what they open, and their pieces need no room but those of types.
use Rattle.std.proofs.Common.{ℕ, zero, suc, ◌≤◌, Bool, true, false, cond, List, [], ◌∷◌, codes, ℤ, Option, Some, None, refl, arith}
use Rattle.std.specs.Prelude.{◌==◌, ◌&&◌, nat_le}
use Rattle.sj_decimal.specs.Limits.{max_digits}
use Rattle.sj_decimal.specs.Signed.{is_negative}
use Rattle.sj_path_tree.specs.declared.parts.Literal.{Literal}
use Rattle.sj_path_tree.specs.declared.parts.Literal.TheVariants as l
use Rattle.sj_path_tree.specs.Tree.{Path}
use Rattle.sj_value.specs.declared.types.SqlType.TheVariants as sql
use Rattle.sj_value.specs.declared.clauses.Wrapper.{Wrapper}
use Rattle.sj_value.specs.declared.clauses.Wrapper.TheVariants as wrapper
use Rattle.sj_value.specs.declared.clauses.QueryAction.{QueryAction}
use Rattle.sj_value.specs.declared.clauses.QueryAction.TheVariants as on_query
use Rattle.sj_value.specs.declared.clauses.ExistsAction.{ExistsAction}
use Rattle.sj_value.specs.declared.clauses.ExistsAction.TheVariants as on_exists
use Rattle.sj_value.specs.declared.clauses.TableAction.{TableAction}
use Rattle.sj_value.specs.declared.clauses.TableAction.TheVariants as on_table
use Rattle.sj_value.specs.declared.clauses.Nulls.{Nulls}
use Rattle.sj_value.specs.declared.clauses.Nulls.TheVariants as nulls
use Rattle.sj_value.specs.declared.clauses.JsonKind.{JsonKind}
use Rattle.sj_value.specs.declared.clauses.JsonKind.TheVariants as json
use Rattle.sj_sql_token.specs.declared.token.Token.TheVariants as k
use Rattle.sj_sql_token.specs.declared.keyword.Keyword.{Keyword}
use Rattle.sj_sql_token.specs.declared.keyword.Keyword.TheVariants as w
use Rattle.sj_sql_token.specs.Keywords.{is_reserved}
use Rattle.sj_sql_grammar.specs.declared.clauses.Encoding.{Encoding}
use Rattle.sj_sql_grammar.specs.declared.clauses.Encoding.TheVariants.{Read, Refused}
use Rattle.sj_sql_grammar.specs.declared.clauses.TypeName.{TypeName}
use Rattle.sj_sql_grammar.specs.declared.clauses.TypeName.TheVariants.{Known, Approximate, Datetime}
use Rattle.sj_sql_grammar.specs.declared.clauses.Passed.{Passed}
use Rattle.sj_sql_grammar.specs.declared.clauses.ValueDo.{ValueDo}
use Rattle.sj_sql_grammar.specs.declared.clauses.ValueDo.TheVariants as on_value
use Rattle.sj_sql_grammar.specs.declared.clauses.Quotes.{Quotes}
use Rattle.sj_sql_grammar.specs.declared.clauses.Quotes.TheVariants as quotes
use Rattle.sj_sql_grammar.specs.declared.clauses.QueryClauses.{QueryClauses}
use Rattle.sj_sql_grammar.specs.declared.clauses.IsJsonCall.{IsJsonCall}
use Rattle.sj_sql_grammar.specs.Tree.{Common}
use Rattle.sj_sql_grammar.specs.Phrases.{Tokens, Phrase, if_some, word, open_at, close_at, comma_at, colon_at, star_at, string_at, count_at, number_at, name_at, doc_at, meant, skip_word, constant_of, literal_at, sized, max_varchar, varchar_at, fixed_at, numeric_at, type_from, type_at, encoding_of, encoding_at, format_at, passed_at, cause_at, on_at, exists_action_of, exists_clause_at, returning_at, value_action_of, value_action_at, value_clause_at, query_action_of, emptied_of, query_action_at, query_clause_at, condition_of, wrapped, wrapper_at, quotes_of, on_scalar_string, quotes_at, not_at, unique_of, unique_at, nulls_of, nulls_at, alias_at, table_alias_at, path_name_at, path_at, nested_path_at, formatted_at, existence_at, table_action_of, table_clause_at, in_out_of, siblings_of, default_at}
use Rattle.sj_sql_grammar.proofs.ReadTokens.{If, nothing, here, then, given, either, chosen, weaken, said}
use Rattle.sj_sql_text.specs.Pieces.{Comma, Pieces}
use Rattle.sj_sql_text.specs.Phrases as on
use Rattle.sj_sql_text.specs.Tokens.{unsigned, number_on, tokens_of}
use Rattle.sj_sql_text.proofs.Room.{Fits, Keeps, stays, and_keeps, opens, closes, Opens, enclosed_keep, Needs, needs_none, and_needs, Holds, plain, behind, joined, by_parentheses}

-- ---- single tokens

pub word_keeps : (v : Keyword) (ts : Tokens) → If (Keeps ts) (word v ts)
word_keeps v ts = record { holds = λ rest e. said (λ x. Keeps x rest) v ts rest e (λ text. record { fits = λ d h. h; lexical = λ x. x.1 }) }

pub comma_keeps : (ts : Tokens) → If (Keeps ts) (comma_at ts)
comma_keeps (k.Comma ∷ ts) = here (record { fits = λ d h. h; lexical = λ x. x.1 })
comma_keeps _ = nothing

pub colon_keeps : (ts : Tokens) → If (Keeps ts) (colon_at ts)
colon_keeps (k.Colon ∷ ts) = here (record { fits = λ d h. h; lexical = λ x. x.1 })
colon_keeps _ = nothing

pub star_keeps : (ts : Tokens) → If (Keeps ts) (star_at ts)
star_keeps (k.Star ∷ ts) = here (record { fits = λ d h. h; lexical = λ x. x.1 })
star_keeps _ = nothing

abbrev pub Over : {A : Type 0} → Tokens → A × Tokens → Type 0
Over ts x = Keeps ts x.1

pub string_keeps : (ts : Tokens) → If (Over ts) (string_at ts)
string_keeps (k.String s ∷ ts) = here (record { fits = λ d h. h; lexical = λ x. x.1 })
string_keeps _ = nothing

count_keeps : (ts : Tokens) → If (Over ts) (count_at ts)
count_keeps (k.Whole d ∷ ts) = here (record { fits = λ d h. h; lexical = λ x. x.1 })
count_keeps _ = nothing

number_keeps : (ts : Tokens) → If (Over ts) (number_at ts)
number_keeps (k.Whole d ∷ ts) = here (record { fits = λ d h. h; lexical = λ x. x.1 })
number_keeps (k.Fraction d ∷ ts) = here (record { fits = λ d h. h; lexical = λ x. x.1 })
number_keeps _ = nothing

pub name_keeps : (ts : Tokens) → If (Over ts) (name_at ts)
name_keeps (k.Quoted n ∷ ts) = here (record { fits = λ d h. h; lexical = λ x. x.1 })
name_keeps (k.Word v text ∷ ts) = chosen (is_reserved v) _ _ (λ _. nothing) (λ _. here (record { fits = λ d h. h; lexical = λ x. x.1 }))
name_keeps _ = nothing

quoted_keeps : (n : List ℕ) (ts : Tokens) → Keeps (k.Quoted n ∷ ts) ts
quoted_keeps n ts = record { fits = λ d h. h; lexical = λ x. x.1 }

word_kept : (v : Keyword) (text : List ℕ) (ts : Tokens) → Keeps (k.Word v text ∷ ts) ts
word_kept v text ts = record { fits = λ d h. h; lexical = λ x. x.1 }

pub doc_keeps : (ts : Tokens) → If (Keeps ts) (doc_at ts)
doc_keeps (k.Quoted n ∷ ts) = chosen _ _ _ (λ _. here (quoted_keeps n ts)) (λ _. nothing)
doc_keeps (k.Word w.Other text ∷ ts) = chosen _ _ _ (λ _. here (word_kept w.Other text ts)) (λ _. nothing)
doc_keeps _ = nothing

pub meant_keeps : {A : Type 0} (f : Keyword → Option A) (ts : Tokens) → If (Over ts) (meant f ts)
meant_keeps f (k.Word v text ∷ ts) = given (f v) _ (λ a h. here (word_kept v text ts))
meant_keeps f _ = nothing

pub skipped : (v : Keyword) (ts : Tokens) → Keeps ts (skip_word v ts)
skipped v ts = go (word v ts) (word_keeps v ts)
  where
    go : (o : Option Tokens) → If (Keeps ts) o → Keeps ts (if_some o (λ rest. rest) ts)
    go None p = stays ts
    go (Some rest) p = p.holds rest refl

-- ---- literals and types

plain_literal_keeps : (ts : Tokens) → If (Over ts) (if_some (number_at ts) (λ d. Some (l.Num d.0, d.1)) (meant constant_of ts))
plain_literal_keeps ts = either (number_at ts) _ _ (λ d h. here ((number_keeps ts).holds d h)) (λ _. meant_keeps constant_of ts)

sign_kept : {ts rest : Tokens} → Keeps ts rest → Keeps (k.Plus ∷ ts) rest
sign_kept x = record { fits = x.fits; lexical = λ q. x.lexical q.1 }

minus_kept : {ts rest : Tokens} → Keeps ts rest → Keeps (k.Minus ∷ ts) rest
minus_kept x = record { fits = x.fits; lexical = λ q. x.lexical q.1 }

pub literal_keeps : (ts : Tokens) → If (Over ts) (literal_at ts)
unfolding literal_at
literal_keeps [] = nothing
literal_keeps (k.String s ∷ ts) = here (record { fits = λ d h. h; lexical = λ x. x.1 })
literal_keeps (k.Plus ∷ ts) = then _ _ (number_keeps ts) (λ d e. here (sign_kept e))
literal_keeps (k.Minus ∷ ts) = then _ _ (number_keeps ts) (λ d e. here (minus_kept e))
literal_keeps (t ∷ ts) = plain_literal_keeps (t ∷ ts)

pub literal_needs : (x : Literal) → Needs 0 (on.literal_on x)
literal_needs (l.Text s) = needs_none (λ d ps h. h)
literal_needs (l.Num n) = needs_none (λ d ps h. signed n (tokens_of ps) d h)
  where
    whole : (b : Bool) (n : ℤ × ℕ) (ts : Tokens) (d : ℕ) → Fits ts d → Fits (cond b (k.Whole n) (k.Fraction n) ∷ ts) d
    whole true n ts d h = h
    whole false n ts d h = h

    go : (b : Bool) (n m : ℤ × ℕ) (ts : Tokens) (d : ℕ) → Fits ts d → Fits (cond b (k.Minus ∷ unsigned m ∷ ts) (unsigned n ∷ ts)) d
    go true n m ts d h = whole (m.1 == 0) m ts d h
    go false n m ts d h = whole (n.1 == 0) n ts d h

    signed : (n : ℤ × ℕ) (ts : Tokens) (d : ℕ) → Fits ts d → Fits (number_on n ts) d
    signed n ts d h = go (is_negative n.0) n _ ts d h
literal_needs (l.Bool true) = needs_none (λ d ps h. h)
literal_needs (l.Bool false) = needs_none (λ d ps h. h)
literal_needs l.Null = needs_none (λ d ps h. h)

abbrev HoldsType : Tokens → TypeName × Tokens → Type 0
HoldsType ts x = Holds ts (on.type_on x.0) x.1

varchar_needs : (n : ℕ) → Needs 1 (on.type_on (Known (sql.VarcharMax n)))
varchar_needs n = record { fits = go }
  where
    go : (d : ℕ) (ps : Pieces) → 1 ≤ d → Fits (tokens_of ps) d → Fits (tokens_of (on.type_on (Known (sql.VarcharMax n)) ps)) d
    go zero ps le h = absurd (omega arith)
    go (suc d) ps le h = h

fixed_needs : (p s : ℕ) → Needs 1 (on.type_on (Known (sql.NumericFixed p s)))
fixed_needs p s = record { fits = go }
  where
    go : (d : ℕ) (ps : Pieces) → 1 ≤ d → Fits (tokens_of ps) d → Fits (tokens_of (on.type_on (Known (sql.NumericFixed p s)) ps)) d
    go zero ps le h = absurd (omega arith)
    go (suc d) ps le h = h

sized_keeps : (ty : TypeName) (ts : Tokens) → Needs 0 (on.type_on ty) → If (HoldsType ts) (sized ty ts)
sized_keeps ty ts n =
    either (open_at ts) _ _ (λ a o. then (count_at a) _ (count_keeps a) (λ c e. given (close_at c.1) _ (λ rest z. here (plain n (enclosed_keep ((opens ts).holds a o) e ((closes c.1).holds rest z))))))
    (λ _. here (plain n (stays ts)))

varchar_holds : (ts : Tokens) → If (HoldsType ts) (varchar_at ts)
varchar_holds ts =
    either (open_at ts) _ _ (λ a o. then (count_at a) _ (count_keeps a) (λ n e. given (close_at n.1) _ (λ rest z. chosen (nat_le 1 n.0 && nat_le n.0 max_varchar) _ _
    (λ _. here (by_parentheses (varchar_needs n.0) ((opens ts).holds a o) e ((closes n.1).holds rest z))) (λ _. nothing))))
    (λ _. here (plain (needs_none (λ d ps h. h)) (stays ts)))

fixed_holds : {ts a b : Tokens} (p s : ℕ) → Opens ts a → Keeps a b → If (HoldsType ts) (fixed_at p s b)
fixed_holds {b = b} p s o e =
    chosen (nat_le 1 p && nat_le p max_digits && nat_le s p) _ _ (λ _. given (close_at b) _ (λ rest z. here (by_parentheses (fixed_needs p s) o e ((closes b).holds rest z)))) (λ _. nothing)

numeric_holds : (ts : Tokens) → If (HoldsType ts) (numeric_at ts)
numeric_holds ts =
    either (open_at ts) _ _ (λ a o. then (count_at a) _ (count_keeps a) (λ p e. either (comma_at p.1) _ _
    (λ b c. then (count_at b) _ (count_keeps b) (λ s g. fixed_holds p.0 s.0 ((opens ts).holds a o) (and_keeps e (and_keeps ((comma_keeps p.1).holds b c) g))))
    (λ _. fixed_holds p.0 0 ((opens ts).holds a o) e)))
    (λ _. here (plain (needs_none (λ d ps h. h)) (stays ts)))

type_from_holds : (v : Keyword) (ts : Tokens) → If (HoldsType ts) (type_from v ts)
unfolding type_from
type_from_holds w.Varchar ts = varchar_holds ts
type_from_holds w.Numeric ts = numeric_holds ts
type_from_holds w.Decimal ts = numeric_holds ts
type_from_holds w.Integer ts = here (plain (needs_none (λ d ps h. h)) (stays ts))
type_from_holds w.Int ts = here (plain (needs_none (λ d ps h. h)) (stays ts))
type_from_holds w.Bigint ts = here (plain (needs_none (λ d ps h. h)) (stays ts))
type_from_holds w.Boolean ts = here (plain (needs_none (λ d ps h. h)) (stays ts))
type_from_holds w.Float ts = sized_keeps Approximate ts (needs_none (λ d ps h. h))
type_from_holds w.Real ts = here (plain (needs_none (λ d ps h. h)) (stays ts))
type_from_holds w.Double ts = then (word w.Precision ts) _ (word_keeps w.Precision ts) (λ rest e. here (plain (needs_none (λ d ps h. h)) e))
type_from_holds w.Date ts = here (plain (needs_none (λ d ps h. h)) (stays ts))
type_from_holds w.Time ts = sized_keeps Datetime ts (needs_none (λ d ps h. h))
type_from_holds w.Timestamp ts = sized_keeps Datetime ts (needs_none (λ d ps h. h))
type_from_holds _ ts = nothing

pub type_holds : (ts : Tokens) → If (HoldsType ts) (type_at ts)
unfolding type_at
type_holds (k.Word v text ∷ ts) = weaken (λ x g. behind (word_kept v text ts) g) (type_from_holds v ts)
type_holds _ = nothing

abbrev HoldsReturning : Tokens → TypeName × Tokens → Type 0
HoldsReturning ts x = Holds ts (λ ps. on.word (codes "RETURNING") (on.type_on x.0 ps)) x.1

word_needs : (text : List ℕ) → Needs 0 (on.word text)
word_needs text = needs_none (λ d ps h. h)

pub returning_holds : (ts : Tokens) → If (HoldsReturning ts) (returning_at ts)
unfolding returning_at
returning_holds ts = then (word w.Returning ts) _ (word_keeps w.Returning ts) (λ a e. weaken (λ x g. joined (plain (word_needs (codes "RETURNING")) e) g) (type_holds a))

-- ---- clauses

pub encoding_keeps : (ts : Tokens) → If (Over ts) (encoding_at ts)
unfolding encoding_at
encoding_keeps ts = then (word w.Encoding ts) _ (word_keeps w.Encoding ts) (λ a e. weaken (λ x g. and_keeps e g) (meant_keeps encoding_of a))

pub format_keeps : (ts : Tokens) → If (Over ts) (format_at ts)
unfolding format_at
format_keeps ts = then _ _ (then (word w.Format ts) _ (word_keeps w.Format ts) (λ a e. weaken (λ x g. and_keeps e g) (word_keeps w.Json a)))
    (λ a e. either (word w.Encoding a) _ _ (λ b h. weaken (λ x g. and_keeps e (and_keeps ((word_keeps w.Encoding a).holds b h) g)) (meant_keeps encoding_of b)) (λ _. here e))

pub passed_keeps : (ts : Tokens) → If (Over ts) (passed_at ts)
unfolding passed_at
passed_keeps ts = then _ _ (literal_keeps ts) (λ v e. then _ _ (then _ _ (word_keeps w.As v.1) (λ a g. weaken (λ x h. and_keeps g h) (name_keeps a))) (λ n g. here (and_keeps e g)))

on_keeps : {A : Type 0} (cause : Keyword) (action : Phrase A) (ts : Tokens) → If (Over ts) (action ts) → If (Over ts) (on_at cause action ts)
on_keeps cause action ts p =
    then (action ts) _ p (λ a e. then (cause_at cause a.1) _ (then (word w.On a.1) _ (word_keeps w.On a.1) (λ b g. weaken (λ x h. and_keeps g h) (word_keeps cause b))) (λ rest g. here (and_keeps e g)))

pub exists_clause_keeps : (ts : Tokens) → If (Over ts) (exists_clause_at ts)
unfolding exists_clause_at
exists_clause_keeps ts = on_keeps w.Error (meant exists_action_of) ts (meant_keeps exists_action_of ts)

value_action_keeps : (ts : Tokens) → If (Over ts) (value_action_at ts)
value_action_keeps ts =
    either (word w.Default ts) _ _ (λ a h. then (literal_at a) _ (literal_keeps a) (λ v g. here (and_keeps ((word_keeps w.Default ts).holds a h) g))) (λ _. meant_keeps value_action_of ts)

pub value_clause_keeps : (cause : Keyword) (ts : Tokens) → If (Over ts) (value_clause_at cause ts)
unfolding value_clause_at
value_clause_keeps cause ts = on_keeps cause value_action_at ts (value_action_keeps ts)

query_action_keeps : (ts : Tokens) → If (Over ts) (query_action_at ts)
query_action_keeps ts =
    either (word w.Empty ts) _ _ (λ a h. weaken (λ x g. and_keeps ((word_keeps w.Empty ts).holds a h) g) (meant_keeps emptied_of a)) (λ _. meant_keeps query_action_of ts)

pub query_clause_keeps : (cause : Keyword) (ts : Tokens) → If (Over ts) (query_clause_at cause ts)
unfolding query_clause_at
query_clause_keeps cause ts = on_keeps cause query_action_at ts (query_action_keeps ts)

wrapped_keeps : {ts a : Tokens} (x : Wrapper) → Keeps ts a → If (Over ts) (wrapped x a)
wrapped_keeps {a = a} x e = then (word w.Wrapper (skip_word w.Array a)) _ (word_keeps w.Wrapper (skip_word w.Array a)) (λ rest g. here (and_keeps e (and_keeps (skipped w.Array a) g)))

pub wrapper_keeps : (ts : Tokens) → If (Over ts) (wrapper_at ts)
unfolding wrapper_at
wrapper_keeps ts =
    either (word w.Without ts) _ _ (λ a h. wrapped_keeps wrapper.Without ((word_keeps w.Without ts).holds a h))
    (λ _. then (word w.With ts) _ (word_keeps w.With ts) (λ a e. either (meant condition_of a) _ _
    (λ c h. wrapped_keeps c.0 (and_keeps e ((meant_keeps condition_of a).holds c h))) (λ _. wrapped_keeps wrapper.Unconditional e)))

scalar_string_keeps : (ts : Tokens) → If (Keeps ts) (on_scalar_string ts)
scalar_string_keeps ts =
    then _ _ (then (word w.On ts) _ (word_keeps w.On ts) (λ a e. weaken (λ x g. and_keeps e g) (word_keeps w.Scalar a))) (λ a e. weaken (λ x g. and_keeps e g) (word_keeps w.String a))

scalar_string_skipped : (ts : Tokens) → Keeps ts (if_some (on_scalar_string ts) (λ rest. rest) ts)
scalar_string_skipped ts = go (on_scalar_string ts) (scalar_string_keeps ts)
  where
    go : (o : Option Tokens) → If (Keeps ts) o → Keeps ts (if_some o (λ rest. rest) ts)
    go None p = stays ts
    go (Some rest) p = p.holds rest refl

pub quotes_keeps : (ts : Tokens) → If (Over ts) (quotes_at ts)
unfolding quotes_at
quotes_keeps ts = then (meant quotes_of ts) _ (meant_keeps quotes_of ts) (λ q e. then (word w.Quotes q.1) _ (word_keeps w.Quotes q.1) (λ a g. here (and_keeps e (and_keeps g (scalar_string_skipped a)))))

pub not_keeps : (ts : Tokens) → If (Over ts) (not_at ts)
unfolding not_at
not_keeps ts = then (word w.Not ts) _ (word_keeps w.Not ts) (λ rest e. here e)

pub unique_keeps : (ts : Tokens) → If (Over ts) (unique_at ts)
unfolding unique_at
unique_keeps ts = then (meant unique_of ts) _ (meant_keeps unique_of ts) (λ u e. then (word w.Unique u.1) _ (word_keeps w.Unique u.1) (λ a g. here (and_keeps e (and_keeps g (skipped w.Keys a)))))

pub nulls_keeps : (ts : Tokens) → If (Over ts) (nulls_at ts)
unfolding nulls_at
nulls_keeps ts = on_keeps w.Null (meant nulls_of) ts (meant_keeps nulls_of ts)

-- ---- names, paths and tables

pub alias_keeps : (ts : Tokens) → If (Over ts) (alias_at ts)
unfolding alias_at
alias_keeps ts = then (word w.As ts) _ (word_keeps w.As ts) (λ a e. weaken (λ x g. and_keeps e g) (name_keeps a))

pub table_alias_keeps : (ts : Tokens) → If (Over ts) (table_alias_at ts)
unfolding table_alias_at
table_alias_keeps ts = weaken (λ x g. and_keeps (skipped w.As ts) g) (name_keeps (skip_word w.As ts))

pub path_name_keeps : (ts : Tokens) → If (Over ts) (path_name_at ts)
unfolding path_name_at
path_name_keeps ts = then (alias_at ts) _ (alias_keeps ts) (λ n e. here e)

pub path_keeps : (ts : Tokens) → If (Over ts) (path_at ts)
unfolding path_at
path_keeps ts = then _ _ (then (word w.Path ts) _ (word_keeps w.Path ts) (λ a e. weaken (λ x g. and_keeps e g) (string_keeps a))) (λ s e. here e)

pub nested_path_keeps : (ts : Tokens) → If (Over ts) (nested_path_at ts)
unfolding nested_path_at
nested_path_keeps ts = then (string_at (skip_word w.Path ts)) _ (string_keeps (skip_word w.Path ts)) (λ s e. here (and_keeps (skipped w.Path ts) e))

pub formatted_keeps : (ts : Tokens) → If (Keeps ts) (formatted_at ts)
unfolding formatted_at
formatted_keeps ts =
    then _ _ (then (word w.Varchar ts) _ (word_keeps w.Varchar ts) (λ a e. weaken (λ x g. and_keeps e g) (word_keeps w.Format a))) (λ a e. weaken (λ x g. and_keeps e g) (word_keeps w.Json a))

pub existence_keeps : (ts : Tokens) → If (Keeps ts) (existence_at ts)
unfolding existence_at
existence_keeps ts = then (word w.Boolean ts) _ (word_keeps w.Boolean ts) (λ a e. weaken (λ x g. and_keeps e g) (word_keeps w.Exists a))

pub table_clause_keeps : (ts : Tokens) → If (Over ts) (table_clause_at ts)
unfolding table_clause_at
table_clause_keeps ts = on_keeps w.Error (meant table_action_of) ts (meant_keeps table_action_of ts)

pub default_keeps : (ts : Tokens) → If (Over ts) (default_at ts)
unfolding default_at
default_keeps ts =
    either (meant in_out_of ts) _ _
    (λ i h. either (comma_at i.1) _ _
    (λ a c. then (meant siblings_of a) _ (meant_keeps siblings_of a) (λ s e. here (and_keeps ((meant_keeps in_out_of ts).holds i h) (and_keeps ((comma_keeps i.1).holds a c) e))))
    (λ _. here ((meant_keeps in_out_of ts).holds i h)))
    (λ _. then (meant siblings_of ts) _ (meant_keeps siblings_of ts) (λ s e. either (comma_at s.1) _ _
    (λ a c. then (meant in_out_of a) _ (meant_keeps in_out_of a) (λ i g. here (and_keeps e (and_keeps ((comma_keeps s.1).holds a c) g))))
    (λ _. here e)))

-- ---- the pieces of these

pub document_needs : (x : Encoding) → Needs 0 (on.document_on x)
document_needs Read = needs_none (λ d ps h. h)
document_needs Refused = needs_none (λ d ps h. h)

pub encoding_needs : (x : Encoding) → Needs 0 (on.encoding_on x)
encoding_needs Read = needs_none (λ d ps h. h)
encoding_needs Refused = needs_none (λ d ps h. h)

pub path_name_needs : (name : Option (List ℕ)) → Needs 0 (on.path_name_on name)
path_name_needs None = needs_none (λ d ps h. h)
path_name_needs (Some name) = needs_none (λ d ps h. h)

passed_needs : (x : Passed) → Needs 0 (on.passed_on x)
passed_needs x = needs_none (λ d ps h. (literal_needs x.value).fits d (on.word (codes "AS") (on.name_on x.name ps)) (omega arith) h)

others_need : (xs : List Passed) → Needs 0 (on.each_behind on.passed_on xs)
others_need [] = needs_none (λ d ps h. h)
others_need (x ∷ xs) = needs_none (λ d ps h. (passed_needs x).fits d (on.each_behind on.passed_on xs ps) (omega arith) ((others_need xs).fits d ps (omega arith) h))

pub passing_needs : (xs : List Passed) → Needs 0 (on.passing_on xs)
passing_needs [] = needs_none (λ d ps h. h)
passing_needs (x ∷ xs) = needs_none (λ d ps h. (passed_needs x).fits d (on.each_behind on.passed_on xs ps) (omega arith) ((others_need xs).fits d ps (omega arith) h))

pub common_needs : (c : Common Path) → Needs 0 (on.common_on c)
common_needs c =
    needs_none (λ d ps h. (document_needs c.encoding).fits d (Comma ∷ on.path_on c.path (on.passing_on c.passing ps)) (omega arith) ((passing_needs c.passing).fits d ps (omega arith) h))

pub exists_clause_needs : (x : ExistsAction) → Needs 0 (on.exists_clause_on x)
exists_clause_needs on_exists.True = needs_none (λ d ps h. h)
exists_clause_needs on_exists.False = needs_none (λ d ps h. h)
exists_clause_needs on_exists.Unknown = needs_none (λ d ps h. h)
exists_clause_needs on_exists.Error = needs_none (λ d ps h. h)

value_action_needs : (x : ValueDo) → Needs 0 (on.value_action_on x)
value_action_needs on_value.Error = needs_none (λ d ps h. h)
value_action_needs on_value.Null = needs_none (λ d ps h. h)
value_action_needs (on_value.Default x) = needs_none (λ d ps h. (literal_needs x).fits d ps (omega arith) h)

pub value_clauses_need : (empty error : ValueDo) → Needs 0 (on.value_clauses_on empty error)
value_clauses_need empty error =
    needs_none (λ d ps h. (value_action_needs empty).fits d (on.on_empty (on.value_action_on error (on.on_error ps))) (omega arith) ((value_action_needs error).fits d (on.on_error ps) (omega arith) h))

wrapper_needs : (x : Wrapper) → Needs 0 (on.wrapper_on x)
wrapper_needs wrapper.Without = needs_none (λ d ps h. h)
wrapper_needs wrapper.Conditional = needs_none (λ d ps h. h)
wrapper_needs wrapper.Unconditional = needs_none (λ d ps h. h)

quotes_need : (x : Quotes) → Needs 0 (on.quotes_on x)
quotes_need quotes.Absent = needs_none (λ d ps h. h)
quotes_need quotes.Keep = needs_none (λ d ps h. h)
quotes_need quotes.Omit = needs_none (λ d ps h. h)

query_action_needs : (x : QueryAction) → Needs 0 (on.query_action_on x)
query_action_needs on_query.Error = needs_none (λ d ps h. h)
query_action_needs on_query.Null = needs_none (λ d ps h. h)
query_action_needs on_query.EmptyArray = needs_none (λ d ps h. h)
query_action_needs on_query.EmptyObject = needs_none (λ d ps h. h)

on_empty_needs : Needs 0 on.on_empty
on_empty_needs = needs_none (λ d ps h. h)

on_error_needs : Needs 0 on.on_error
on_error_needs = needs_none (λ d ps h. h)

pub query_clauses_need : (c : QueryClauses) → Needs 0 (on.query_clauses_on c)
query_clauses_need c =
    and_needs (wrapper_needs c.wrapper) (and_needs (quotes_need c.quotes)
    (and_needs (query_action_needs c.on_empty) (and_needs on_empty_needs (and_needs (query_action_needs c.on_error) on_error_needs))))

pub unique_needs : (x : Bool) → Needs 0 (on.unique_on x)
unique_needs true = needs_none (λ d ps h. h)
unique_needs false = needs_none (λ d ps h. h)

pub nulls_need : (x : Nulls) → Needs 0 (on.nulls_on x)
nulls_need nulls.Null = needs_none (λ d ps h. h)
nulls_need nulls.Absent = needs_none (λ d ps h. h)

not_needs : (x : Bool) → Needs 0 (on.not_on x)
not_needs true = needs_none (λ d ps h. h)
not_needs false = needs_none (λ d ps h. h)

kind_needs : (x : JsonKind) → Needs 0 (on.kind_on x)
kind_needs json.Value = needs_none (λ d ps h. h)
kind_needs json.Array = needs_none (λ d ps h. h)
kind_needs json.Object = needs_none (λ d ps h. h)
kind_needs json.Scalar = needs_none (λ d ps h. h)

pub is_json_needs : (c : IsJsonCall) → Needs 0 (on.is_json_on c)
is_json_needs c =
    and_needs (word_needs (codes "doc")) (and_needs (word_needs (codes "IS")) (and_needs (not_needs c.negated) (and_needs (word_needs (codes "JSON")) (and_needs (kind_needs c.kind) (unique_needs c.unique)))))

pub table_clause_needs : (x : TableAction) → Needs 0 (on.table_clause_on x)
table_clause_needs on_table.Empty = needs_none (λ d ps h. h)
table_clause_needs on_table.Error = needs_none (λ d ps h. h)
