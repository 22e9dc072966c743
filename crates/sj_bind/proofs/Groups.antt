-- The rules one after another, and in groups.
use Rattle.std.proofs.Common.{◌≡◌, ℕ, Bool, not, true, false, ◌||◌, nat_lt, if◌then◌else◌, suc, List, [], ◌∷◌, length, Option, Some, None, is_some, refl, sym, ap, ◌∙◌}
use Rattle.std.specs.List.{list_any}
use Rattle.sj_path_tree.specs.Tree.{Path}
use Rattle.sj_sql_grammar.specs.declared.refusal.BindKind.{BindKind}
use Rattle.sj_sql_grammar.specs.declared.refusal.BindKind.TheVariants.{TooMany, ColumnTwice, PathNameTwice, PathNameMissing, PlanMismatch, VariableTwice, UnknownVariable, QuotesWithWrapper, DefaultCast, KeyType}
use Rattle.sj_sql_grammar.specs.Tree.{Value, Lit, Column, Exists, ValueOf, Query, IsJson, Object, Array, Item, Table, Plain, All, Listed}
use Rattle.sj_sql_tree.specs.declared.tree.Value.{Value as ParsedValue}
use Rattle.sj_sql_tree.specs.declared.tree.Item.{Item as ParsedItem}
use Rattle.sj_sql_tree.specs.View.{plain_of, items_of}
use Rattle.sj_bound.specs.Limits.{most_items}
use Rattle.sj_bind.specs.Faults.{either, calls_fault, items_fault, table_fault, all_fault, listed_fault}
use Rattle.sj_bind.specs.Flat.{FlatTable, flat}
use Rattle.sj_bind.specs.Parts.{calls_in_list}
use Rattle.sj_bind.specs.Plans.{has_plan_mismatch}
use Rattle.sj_bind.specs.Rules.{bind_fault, call_passes_twice, call_lacks_variable, call_quotes_clash, call_default_fails, table_passes_twice, table_lacks_variable, column_quotes_clash, column_default_fails, all_columns, key_type, is_key}
use Rattle.sj_bind.specs.Variables.{HaveSame}
use Rattle.sj_bind.proofs.Lists.{any_alike}
use Rattle.sj_bind.specs.Tables.{has_too_many, has_column_twice, has_path_name_twice, lacks_path_name}

pub length-plain_of : (xs : List ParsedValue) → length (plain_of xs) ≡ length xs
length-plain_of [] = refl
length-plain_of (x ∷ xs) = ap (λ n. suc n) (length-plain_of xs)

pub length-items_of : (xs : List ParsedItem) → length (items_of xs) ≡ length xs
length-items_of [] = refl
length-items_of (x ∷ xs) = ap (λ n. suc n) (length-items_of xs)

plain_chain : (a b c d e f : Bool) →
    (if (a || false) then Some TooMany
    else (if (b || false) then Some VariableTwice
    else (if (c || false) then Some UnknownVariable
    else (if (d || false) then Some QuotesWithWrapper
    else (if (e || false) then Some DefaultCast
    else (if f then Some KeyType else None))))))
    ≡ (if a then Some TooMany else either (if b then Some VariableTwice else (if c then Some UnknownVariable else (if d then Some QuotesWithWrapper else (if e then Some DefaultCast else None)))) (if f then Some KeyType else None))
plain_chain true b c d e f = refl
plain_chain false true c d e f = refl
plain_chain false false true d e f = refl
plain_chain false false false true e f = refl
plain_chain false false false false true f = refl
plain_chain false false false false false f = refl

pub plain_groups : (xs : List (Value Path)) → bind_fault (Plain xs) ≡ (if nat_lt most_items (length xs) then Some TooMany else either (calls_fault (calls_in_list xs)) (if key_type (Plain xs) then Some KeyType else None))
plain_groups xs =
    plain_chain (nat_lt most_items (length xs)) (list_any call_passes_twice (calls_in_list xs)) (list_any call_lacks_variable (calls_in_list xs)) (list_any call_quotes_clash (calls_in_list xs)) (list_any call_default_fails (calls_in_list xs)) (key_type (Plain xs))

table_chain : (a b c d e f g h i : Bool) (rest : Option BindKind)
    → (if a then Some TooMany else (if b then Some ColumnTwice else (if c then Some PathNameTwice else (if d then Some PathNameMissing else (if e then Some PlanMismatch
    else (if f then Some VariableTwice else (if g then Some UnknownVariable else (if h then Some QuotesWithWrapper else (if i then Some DefaultCast else rest)))))))))
    ≡ (if a then Some TooMany else either (either
    (if b then Some ColumnTwice else (if c then Some PathNameTwice else (if d then Some PathNameMissing else (if e then Some PlanMismatch else None))))
    (if f then Some VariableTwice else (if g then Some UnknownVariable else (if h then Some QuotesWithWrapper else (if i then Some DefaultCast else None))))) rest)
table_chain true b c d e f g h i rest = refl
table_chain false true c d e f g h i rest = refl
table_chain false false true d e f g h i rest = refl
table_chain false false false true e f g h i rest = refl
table_chain false false false false true f g h i rest = refl
table_chain false false false false false true g h i rest = refl
table_chain false false false false false false true h i rest = refl
table_chain false false false false false false false true i rest = refl
table_chain false false false false false false false false true rest = refl
table_chain false false false false false false false false false rest = refl

either_nothing : (fault : Option BindKind) → either fault None ≡ fault
either_nothing None = refl
either_nothing (Some kind) = refl

pub all_groups : (table : Table Path) → bind_fault (All table) ≡ all_fault (flat table)
all_groups table =
    let t = flat table in
    table_chain (has_too_many t) (has_column_twice t) (has_path_name_twice t) (lacks_path_name t) (has_plan_mismatch t) (table_passes_twice t) (table_lacks_variable t)
    (list_any column_quotes_clash (all_columns t)) (list_any column_default_fails (all_columns t)) None
    ∙ ap (λ f. if has_too_many t then Some TooMany else f) (either_nothing (table_fault t))

pub listed_groups : (xs : List (Item Path)) (table : Table Path) → bind_fault (Listed xs table) ≡ listed_fault xs (flat table)
listed_groups xs table =
    let t = flat table in
    table_chain (nat_lt most_items (length xs) || has_too_many t) (has_column_twice t) (has_path_name_twice t) (lacks_path_name t) (has_plan_mismatch t) (table_passes_twice t)
    (table_lacks_variable t) (list_any column_quotes_clash (all_columns t)) (list_any column_default_fails (all_columns t)) (items_fault xs t)

pub ruleset groups = (length-plain_of, length-items_of, plain_groups)

is_key_alike : (some others : List (List ℕ)) → HaveSame some others → (x : Value Path) → is_key some x ≡ is_key others x
is_key_alike some others same (Lit x) = refl
is_key_alike some others same (Column name) = same name
is_key_alike some others same (Exists c) = refl
is_key_alike some others same (ValueOf c) = refl
is_key_alike some others same (Query c) = refl
is_key_alike some others same (IsJson c) = refl
is_key_alike some others same (Object _ _ unique) = refl
is_key_alike some others same (Array _ _) = refl

-- the rule on keys is the same of the same names
pub keys_alike : (some others : List (List ℕ)) → HaveSame some others → (keys : List (Value Path)) → list_any (λ key. not (is_key some key)) keys ≡ list_any (λ key. not (is_key others key)) keys
keys_alike some others same keys = any_alike (λ (key : Value Path). not (is_key some key)) (λ (key : Value Path). not (is_key others key)) (λ x. ap not (is_key_alike some others same x)) keys

pub ruleset keys = (keys_alike)

either_known : (fault other : Option BindKind) → is_some fault ≡ true → either fault other ≡ fault
either_known None other h = absurd cc
either_known (Some kind) other h = refl

-- a list with a table stops at a rule on the table
pub listed_stops : (xs : List (Item Path)) (t : FlatTable) (fault : Option BindKind) → (nat_lt most_items (length xs) || has_too_many t) ≡ false → fault ≡ table_fault t → is_some fault ≡ true → fault ≡ listed_fault xs t
listed_stops xs t fault few is some =
    sym (ap (λ b. if b then Some TooMany else either (table_fault t) (items_fault xs t)) few ∙ ap (λ f. either f (items_fault xs t)) (sym is) ∙ either_known fault (items_fault xs t) some)
