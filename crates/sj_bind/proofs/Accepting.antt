-- A statement that is accepted can be bound. The rules give no type of this implementation to which items cannot be cast, and
-- a type or an encoding that it lacks would stand among the marks of the tree.
use Rattle.std.proofs.Common.{◌≡◌, ℕ, ◌+◌, true, ◌&&◌, nat_le, List, [], ◌∷◌, ◌++◌, length, Option, Some, refl, sym, subst, arith}
use Rattle.std.specs.List.{All as Each}
use Rattle.std.proofs.lemmas.Bool.Decides.{nat_tests}
use Rattle.std.proofs.lemmas.List.Elements.{All-nil, All-cons, All-append}
use Rattle.std.proofs.lemmas.List.{map-append}
use Rattle.sj_path_grammar.specs.declared.refusal.Name.{Name}
use Rattle.sj_path_grammar.specs.declared.refusal.Name.TheVariants as lacks
use Rattle.sj_path_tree.specs.Tree.{Path}
use Rattle.sj_value.specs.declared.types.SqlType.TheVariants as types
use Rattle.sj_value.specs.Types.{AreDigits, IsCastType}
use Rattle.sj_sql_token.specs.declared.token.Token.TheVariants as k
use Rattle.sj_sql_token.specs.declared.keyword.Keyword.{Keyword}
use Rattle.sj_sql_token.specs.declared.keyword.Keyword.TheVariants as w
use Rattle.sj_sql_token.specs.Tokens.{Lexed}
use Rattle.sj_sql_grammar.specs.declared.clauses.Encoding.{Encoding}
use Rattle.sj_sql_grammar.specs.declared.clauses.Encoding.TheVariants.{Read, Refused}
use Rattle.sj_sql_grammar.specs.declared.clauses.TypeName.{TypeName}
use Rattle.sj_sql_grammar.specs.declared.clauses.TypeName.TheVariants.{Known, Approximate, Datetime}
use Rattle.sj_sql_grammar.specs.declared.refusal.FileKind.{FileKind}
use Rattle.sj_sql_grammar.specs.Tree.{PathText, Common, ExistsCall, ValueCall, QueryCall, Value, Values, Members, ColumnOf, Ordinality, Regular, Formatted, Existence, Columns, Table, Statement}
use Rattle.sj_sql_grammar.specs.Phrases.{Tokens, word, open_at, close_at, comma_at, count_at, sized, varchar_at, fixed_at, numeric_at, type_from, type_at, returning_at}
use Rattle.sj_sql_grammar.specs.Grammar as g
use Rattle.sj_sql_grammar.specs.Grammar.{IsOptional, IsList, IsValueCall, Source, IsValue, IsValues, IsMember, IsMembers, IsColumn, IsColumns, IsColumnList, IsTable, IsPlainItem, IsSelect}
use Rattle.sj_sql_grammar.specs.Notes.{exists_with, value_call_with, query_with, value_with, values_with, members_with, regular_with, formatted_with, column_with, columns_with, table_with, plain_with, statement_with, note_encoding, note_type, note_common, note_value, note_values, note_members, note_column, note_columns, note_table, note_plain, note_items}
use Rattle.sj_sql_grammar.specs.Answers.{Mark, path, unsupported, listing, marks, IsUnsupported, Free, none, more, finishing, Accepted, Ending, IsScript, done, unended, faulty, refused, accepted, IsFile}
use Rattle.sj_sql_grammar.proofs.ReadTokens.{If, nothing, here, given, either, chosen}
use Rattle.sj_bind.specs.Clauses.{IsBindableType}
use Rattle.sj_bind.specs.Flat.{TableColumn, columns_in, columns_below, paths_in}
use Rattle.sj_bind.specs.Rules.{columns_alone}
use Rattle.sj_bind.specs.Parts.{Call, exists_call, value_call, query_call, calls_in, calls_in_values, calls_in_members, calls_in_list}
use Rattle.sj_bind.specs.Bindable.{IsRead, IsBindableCall, IsBindableColumn, IsBindableTable, IsBindable}
use Rattle.sj_bind.proofs.SourceParts.{plain_lacks, items_ask_nothing}

-- ---- the types that the rules give

-- Items can be cast to it, if this implementation has it. The bounds of NUMERIC(p, s) are what the rules see to.
abbrev IsGiven : TypeName → Type 0
IsGiven (Known ty) = IsCastType ty
IsGiven Approximate = Unit {0}
IsGiven Datetime = Unit {0}

abbrev Gives : TypeName × Tokens → Type 0
Gives x = IsGiven x.0

sized_gives : (ty : TypeName) → IsGiven ty → (ts : Tokens) → If Gives (sized ty ts)
sized_gives ty fits ts = either (open_at ts) _ _ (λ a _. given (count_at a) _ (λ n _. given (close_at n.1) _ (λ rest _. here fits))) (λ _. here fits)

varchar_gives : (ts : Tokens) → If Gives (varchar_at ts)
varchar_gives ts = either (open_at ts) _ _ (λ a _. given (count_at a) _ (λ n _. given (close_at n.1) _ (λ rest _. chosen (nat_le 1 n.0 && nat_le n.0 1000000) _ _ (λ _. here tt) (λ _. nothing)))) (λ _. here tt)

are_digits : (p s : ℕ) → (nat_le 1 p && nat_le p 38 && nat_le s p) ≡ true → AreDigits p s
are_digits p s h = grind (arith, nat_tests)

fixed_gives : (p s : ℕ) (ts : Tokens) → If Gives (fixed_at p s ts)
fixed_gives p s ts = chosen _ _ _ (λ h. given (close_at ts) _ (λ rest _. here (are_digits p s h))) (λ _. nothing)

numeric_gives : (ts : Tokens) → If Gives (numeric_at ts)
numeric_gives ts = either (open_at ts) _ _
    (λ a _. given (count_at a) _ (λ p _. either (comma_at p.1) _ _ (λ b _. given (count_at b) _ (λ s _. fixed_gives p.0 s.0 s.1)) (λ _. fixed_gives p.0 0 p.1)))
    (λ _. here tt)

type_from_gives : (v : Keyword) (ts : Tokens) → If Gives (type_from v ts)
unfolding type_from
type_from_gives w.Varchar ts = varchar_gives ts
type_from_gives w.Numeric ts = numeric_gives ts
type_from_gives w.Decimal ts = numeric_gives ts
type_from_gives w.Integer ts = here tt
type_from_gives w.Int ts = here tt
type_from_gives w.Bigint ts = here tt
type_from_gives w.Boolean ts = here tt
type_from_gives w.Float ts = sized_gives Approximate tt ts
type_from_gives w.Real ts = here tt
type_from_gives w.Double ts = given (word w.Precision ts) _ (λ rest _. here tt)
type_from_gives w.Date ts = here tt
type_from_gives w.Time ts = sized_gives Datetime tt ts
type_from_gives w.Timestamp ts = sized_gives Datetime tt ts
type_from_gives _ ts = nothing

type_gives : (ts : Tokens) → If Gives (type_at ts)
unfolding type_at
type_gives (k.Word v text ∷ ts) = type_from_gives v ts
type_gives _ = nothing

type_given : (ts rest : Tokens) (ty : TypeName) → type_at ts ≡ Some (ty, rest) → IsGiven ty
type_given ts rest ty h = (type_gives ts).holds (ty, rest) h

returning_gives : (ts : Tokens) → If Gives (returning_at ts)
unfolding returning_at
returning_gives ts = given (word w.Returning ts) _ (λ a _. type_gives a)

-- without a RETURNING clause the type is VARCHAR
returning_given : {ts rest : Tokens} {ty : TypeName} → IsOptional returning_at (Known types.Varchar) ts ty rest → IsGiven ty
returning_given (g.there {ts = ts} {rest = rest} {x = ty} h) = (returning_gives ts).holds (ty, rest) h
returning_given g.absent = tt

call_given : {ts rest : Tokens} {x : ValueCall PathText} → IsValueCall ts x rest → IsGiven x.ty
call_given (g.value_call name opens call returning empty error closes) = returning_given returning

-- ---- what stands among the marks

-- where no mark is lacking, the last is not, and none before it is
free_last : (ms : List Mark) (m : Mark) → Free IsUnsupported (ms ++ m ∷ []) → Free IsUnsupported ms × ((x : Name) → IsUnsupported m x → ⊥)
free_last [] m (more other rest) = (none, other)
free_last (x ∷ ms) m (more other rest) = let r = free_last ms m rest in (more other r.0, r.1)

no_path : (ms : List Mark) (p : PathText) → Free IsUnsupported (ms ++ path p ∷ []) → Free IsUnsupported ms
no_path ms p d = (free_last ms (path p) d).0

no_unsupported : (Q : Type 0) (ms : List Mark) (x : Name) → Free IsUnsupported (ms ++ unsupported x ∷ []) → Q
no_unsupported Q ms x d = absurd ((free_last ms (unsupported x) d).1 x refl)

-- Two parts in turn: what is known of the marks goes back over the second to what stood before the first.
in_turn : {A B C P Q : Type 0} → (A → B × Q) → (B → C × P) → A → C × P × Q
in_turn second first d =
    let r = second d in
    let q = first r.0 in
    (q.0, q.1, r.1)

-- From here on: a part of a tree is listed behind the marks ms. If no mark is lacking then, none of ms is, and the part can be bound.

encoding_read : (x : Encoding) (ms : List Mark) → Free IsUnsupported (note_encoding listing x ms) → Free IsUnsupported ms × IsRead x
encoding_read Read ms d = (d, tt)
encoding_read Refused ms d = no_unsupported _ ms lacks.Encoding d

type_bindable : (ty : TypeName) → IsGiven ty → (ms : List Mark) → Free IsUnsupported (note_type listing ty ms) → Free IsUnsupported ms × IsBindableType ty
type_bindable (Known ty) i ms d = (d, i)
type_bindable Approximate i ms d = no_unsupported _ ms lacks.ApproximateType d
type_bindable Datetime i ms d = no_unsupported _ ms lacks.DatetimeType d

common_read : (c : Common PathText) (ms : List Mark) → Free IsUnsupported (note_common listing c ms) → Free IsUnsupported ms × IsRead c.encoding
common_read c ms d = encoding_read c.encoding ms (no_path (note_encoding listing c.encoding ms) c.path d)

-- ---- values

abbrev AreBindable : List (Call Path) → Type 0
AreBindable = Each IsBindableCall

no_call : AreBindable []
no_call = All-nil IsBindableCall

one_call : (c : Call Path) → IsBindableCall c → AreBindable (c ∷ [])
one_call c i = All-cons IsBindableCall c [] i no_call

both_calls : (xs ys : List (Call Path)) → AreBindable xs → AreBindable ys → AreBindable (xs ++ ys)
both_calls = All-append IsBindableCall

exists_bindable : (c : ExistsCall PathText) (ms : List Mark) → Free IsUnsupported (note_common listing c.common ms) → Free IsUnsupported ms × AreBindable (exists_call (exists_with finishing c) ∷ [])
exists_bindable c ms d = let r = common_read c.common ms d in (r.0, one_call (exists_call (exists_with finishing c)) r.1)

query_bindable : (c : QueryCall PathText) (ms : List Mark) → Free IsUnsupported (note_common listing c.common ms) → Free IsUnsupported ms × AreBindable (query_call (query_with finishing c) ∷ [])
query_bindable c ms d = let r = common_read c.common ms d in (r.0, one_call (query_call (query_with finishing c)) r.1)

value_call_bindable : (c : ValueCall PathText) → IsGiven c.ty → (ms : List Mark) → Free IsUnsupported (note_type listing c.ty (note_common listing c.common ms))
    → Free IsUnsupported ms × AreBindable (value_call (value_call_with finishing c) ∷ [])
value_call_bindable c i ms d =
    let t = type_bindable c.ty i (note_common listing c.common ms) d in
    let r = common_read c.common ms t.0 in
    (r.0, one_call (value_call (value_call_with finishing c)) (r.1, t.1))

mutual
  value_bindable : {s : Source} {ts rest : Tokens} {x : Value PathText} → IsValue s ts x rest → (ms : List Mark) → Free IsUnsupported (note_value listing x ms)
      → Free IsUnsupported ms × AreBindable (calls_in (value_with finishing x))
  value_bindable (g.literal h) ms d = (d, no_call)
  value_bindable (g.column h) ms d = (d, no_call)
  value_bindable (g.exists {x = c} i) ms d = exists_bindable c ms d
  value_bindable (g.value {x = c} i) ms d = value_call_bindable c (call_given i) ms d
  value_bindable (g.query {x = c} i) ms d = query_bindable c ms d
  value_bindable (g.is_json i) ms d = (d, no_call)
  value_bindable (g.no_object name opens closes) ms d = (d, no_call)
  value_bindable (g.object name opens members nulls unique closes) ms d = members_bindable members ms d
  value_bindable (g.no_array name opens closes) ms d = (d, no_call)
  value_bindable (g.array name opens values nulls closes) ms d = values_bindable values ms d

  values_bindable : {s : Source} {ts rest : Tokens} {xs : Values PathText} → IsValues s ts xs rest → (ms : List Mark) → Free IsUnsupported (note_values listing xs ms)
      → Free IsUnsupported ms × AreBindable (calls_in_values (values_with finishing xs))
  values_bindable (g.last_value i) ms d = let q = value_bindable i ms d in (q.0, both_calls _ [] q.1 no_call)
  values_bindable (g.more_values {x = x} i comma j) ms d =
      let r = values_bindable j (note_value listing x ms) d in
      let q = value_bindable i ms r.0 in
      (q.0, both_calls _ _ q.1 r.1)

  member_bindable : {s : Source} {ts rest : Tokens} {x y : Value PathText} → IsMember s ts x y rest → (ms : List Mark) → Free IsUnsupported (note_value listing y (note_value listing x ms))
      → Free IsUnsupported ms × AreBindable (calls_in (value_with finishing x)) × AreBindable (calls_in (value_with finishing y))
  member_bindable (g.keyed {x = x} key i value j) ms d = in_turn (value_bindable j (note_value listing x ms)) (value_bindable i ms) d
  member_bindable (g.valued {x = x} i value j) ms d = in_turn (value_bindable j (note_value listing x ms)) (value_bindable i ms) d
  member_bindable (g.coloned {x = x} i colon j) ms d = in_turn (value_bindable j (note_value listing x ms)) (value_bindable i ms) d

  members_bindable : {s : Source} {ts rest : Tokens} {xs : Members PathText} → IsMembers s ts xs rest → (ms : List Mark) → Free IsUnsupported (note_members listing xs ms)
      → Free IsUnsupported ms × AreBindable (calls_in_members (members_with finishing xs))
  members_bindable (g.last_member i) ms d = let q = member_bindable i ms d in (q.0, both_calls _ [] (both_calls _ _ q.1 q.2) no_call)
  members_bindable (g.more_members {x = x} {y = y} i comma j) ms d =
      let r = members_bindable j (note_value listing y (note_value listing x ms)) d in
      let q = member_bindable i ms r.0 in
      (q.0, both_calls _ _ (both_calls _ _ q.1 q.2) r.1)

plain_bindable : {ts rest : Tokens} {xs : List (Value PathText)} → IsList IsPlainItem ts xs rest → (ms : List Mark) → Free IsUnsupported (note_plain listing xs ms)
    → Free IsUnsupported ms × AreBindable (calls_in_list (plain_with finishing xs))
plain_bindable (g.last (g.plain_item i alias)) ms d = let q = value_bindable i ms d in (q.0, both_calls _ [] q.1 no_call)
plain_bindable (g.more {x = x} (g.plain_item i alias) comma j) ms d =
    let r = plain_bindable j (note_value listing x ms) d in
    let q = value_bindable i ms r.0 in
    (q.0, both_calls _ _ q.1 r.1)

-- ---- tables

abbrev AreBindableColumns : List TableColumn → Type 0
AreBindableColumns columns = Each IsBindableColumn (columns_alone columns)

one_column : (parent : ℕ) (c : ColumnOf Path) → IsBindableColumn c → AreBindableColumns (record { path = parent; column = c } ∷ [])
one_column parent c i = All-cons IsBindableColumn c [] i (All-nil IsBindableColumn)

both_columns : (xs ys : List TableColumn) → AreBindableColumns xs → AreBindableColumns ys → AreBindableColumns (xs ++ ys)
both_columns xs ys h k = subst (Each IsBindableColumn) (sym (map-append (λ (c : TableColumn). c.column) xs ys)) (All-append IsBindableColumn (columns_alone xs) (columns_alone ys) h k)

mutual
  column_bindable : {ts rest : Tokens} {x : ColumnOf PathText} → IsColumn ts x rest → (parent next : ℕ) (ms : List Mark) → Free IsUnsupported (note_column listing x ms)
      → Free IsUnsupported ms × AreBindableColumns (columns_in parent next (column_with finishing x))
  column_bindable (g.ordinality {name = n} name for ordinality) parent next ms d = (d, one_column parent (Ordinality n) tt)
  column_bindable (g.regular {name = n} {ty = ty} {path = p} {empty = e} {error = f} name type column_path empty error) parent next ms d =
      let r = type_bindable ty (type_given _ _ ty type) ms (no_path (note_type listing ty ms) p d) in
      (r.0, one_column parent (Regular (regular_with finishing (record { name = n; ty = ty; path = p; on_empty = e; on_error = f }))) r.1)
  column_bindable (g.formatted {name = n} {x = x} {path = p} {clauses = c} name format encoding column_path clauses) parent next ms d =
      let r = encoding_read x ms (no_path (note_encoding listing x ms) p d) in
      (r.0, one_column parent (Formatted (formatted_with finishing (record { name = n; encoding = x; path = p; clauses = c }))) r.1)
  column_bindable (g.existence {name = n} {path = p} {error = e} name existence column_path error) parent next ms d =
      (no_path ms p d, one_column parent (column_with finishing (Existence n p e)) tt)
  column_bindable (g.nested {path = p} nested nested_path name i) parent next ms d = let r = columns_bindable i next (next + 1) (ms ++ path p ∷ []) d in (no_path ms p r.0, r.1)

  columns_bindable : {ts rest : Tokens} {xs : Columns PathText} → IsColumns ts xs rest → (parent next : ℕ) (ms : List Mark) → Free IsUnsupported (note_columns listing xs ms)
      → Free IsUnsupported ms × AreBindableColumns (columns_below parent next (columns_with finishing xs))
  columns_bindable (g.columns word opens i closes) parent next ms d = column_list_bindable i parent next ms d

  column_list_bindable : {ts rest : Tokens} {xs : Columns PathText} → IsColumnList ts xs rest → (parent next : ℕ) (ms : List Mark) → Free IsUnsupported (note_columns listing xs ms)
      → Free IsUnsupported ms × AreBindableColumns (columns_below parent next (columns_with finishing xs))
  column_list_bindable (g.last_column i) parent next ms d = column_bindable i parent next ms d
  column_list_bindable (g.more_columns {x = x} {xs = xs} i comma j) parent next ms d =
      let n = next + length (paths_in parent next (column_with finishing x)) in
      let r = column_list_bindable j parent n (note_column listing x ms) d in
      let q = column_bindable i parent next ms r.0 in
      (q.0, both_columns (columns_in parent next (column_with finishing x)) (columns_below parent n (columns_with finishing xs)) q.1 r.1)

table_bindable : {ts rest : Tokens} {x : Table PathText} → IsTable ts x rest → (ms : List Mark) → Free IsUnsupported (note_table listing x ms) → IsBindableTable (table_with finishing x)
table_bindable {x = x} i ms d =
    let r = columns_given i (note_common listing x.common ms) d in
    record { encoding = (common_read x.common ms r.0).1; columns = r.1 }
  where
    columns_given : {ts rest : Tokens} {x : Table PathText} → IsTable ts x rest → (ms : List Mark) → Free IsUnsupported (note_columns listing x.columns ms)
        → Free IsUnsupported ms × AreBindableColumns (columns_below 0 1 (columns_with finishing x.columns))
    columns_given (g.json_table table opens document comma string name passing i plan error closes alias) ms d = columns_bindable i 0 1 ms d

-- ---- statements

pub select_bindable : {ts : Tokens} {x : Statement PathText} → IsSelect ts x → Free IsUnsupported (marks x) → IsBindable (statement_with finishing x)
select_bindable (g.plain select i) d = ((plain_bindable i [] d).1, plain_lacks i)
select_bindable (g.all select star from i) d = table_bindable i [] d
select_bindable (g.listed {xs = xs} select items from i) d = (table_bindable i (note_items listing xs []) d, items_ask_nothing items)

pub accepted_bindable : (ts : Tokens) (s : Statement Path) → Accepted ts s → IsBindable s
accepted_bindable ts s a = subst IsBindable (sym a.2) (select_bindable a.1.tree.select a.1.supported)

script_bindable : {n : ℕ} {tss : List Tokens} {e : Ending} {ss : List (Statement Path)} {r : Option (ℕ × FileKind)} → IsScript n tss e ss r → Each IsBindable ss
script_bindable done = All-nil IsBindable
script_bindable unended = All-nil IsBindable
script_bindable faulty = All-nil IsBindable
script_bindable (refused f) = All-nil IsBindable
script_bindable (accepted {ts = ts} {s = s} {ss = ss} a i) = All-cons IsBindable s ss (accepted_bindable ts s a) (script_bindable i)

pub file_bindable : (file : Lexed) (ss : List (Statement Path)) (r : Option (ℕ × FileKind)) → IsFile file ss r → Each IsBindable ss
file_bindable file ss r i = script_bindable i
