-- A statement that breaks no rule keeps each.
use Rattle.std.proofs.Common.{◌≡◌, ℕ, ◌≤◌, Bool, true, false, ◌||◌, nat_lt, if◌then◌else◌, List, length, Option, Some, None, refl, sym, ◌∙◌, arith}
use Rattle.std.specs.List.{All as Each, list_any}
use Rattle.std.proofs.lemmas.Bool.Decides.{nat_tests}
use Rattle.sj_path_tree.specs.Tree.{Path}
use Rattle.sj_sql_grammar.specs.declared.refusal.BindKind.{BindKind}
use Rattle.sj_sql_grammar.specs.Tree.{Value, Item, Plain}
use Rattle.sj_bound.specs.Limits.{most_items, most_columns, most_paths}
use Rattle.sj_bind.specs.Faults.{either, calls_fault, names_fault, columns_fault, table_fault, items_fault, all_fault, listed_fault}
use Rattle.sj_bind.specs.Fits.{AreListFit, AreItemsFit}
use Rattle.sj_bind.specs.Flat.{FlatTable}
use Rattle.sj_bind.specs.Parts.{calls_in_list}
use Rattle.sj_bind.specs.Plans.{has_plan_mismatch}
use Rattle.sj_bind.specs.Rules.{bind_fault, call_passes_twice, call_lacks_variable, call_quotes_clash, call_default_fails, table_passes_twice, table_lacks_variable, column_quotes_clash, column_default_fails, all_columns, names_unknown, are_mixed, keys_wrong, key_type}
use Rattle.sj_bind.specs.Bindable.{IsBindable, AsksNothing}
use Rattle.sj_bind.specs.Tables.{column_names, has_too_many, has_column_twice, has_path_name_twice, lacks_path_name}
use Rattle.sj_bind.proofs.BindableValues.{AreKept, kept_calls, fit_list, fit_items}
use Rattle.sj_bind.proofs.Lists.{neither}
use Rattle.sj_bind.proofs.Groups.{plain_groups}

-- where nothing is the first, the test fails and nothing is the rest
stop_none : (b : Bool) (kind : BindKind) (rest : Option BindKind) → (if b then Some kind else rest) ≡ None → (b ≡ false) × (rest ≡ None)
stop_none true kind rest h = absurd cc
stop_none false kind rest h = (refl, h)

either_none : (a b : Option BindKind) → either a b ≡ None → (a ≡ None) × (b ≡ None)
either_none None b h = (refl, h)
either_none (Some kind) b h = absurd cc

pub not_over : (most n : ℕ) → nat_lt most n ≡ false → n ≤ most
not_over most n h = grind (arith, nat_tests)

pub record IsCleanPlain (xs : List (Value Path)) : Type 0 where
  pub few : length xs ≤ most_items
  pub fit : AreListFit xs
  pub kept : AreKept (calls_in_list xs)
  pub keys : key_type (Plain xs) ≡ false

pub clean_plain : (xs : List (Value Path)) → IsBindable (Plain xs) → bind_fault (Plain xs) ≡ None → IsCleanPlain xs
clean_plain xs bindable h =
    let a = stop_none _ _ _ (sym (plain_groups xs) ∙ h) in
    let b = either_none (calls_fault (calls_in_list xs)) _ a.1 in
    let twice = stop_none (list_any call_passes_twice (calls_in_list xs)) _ _ b.0 in
    let lacks = stop_none (list_any call_lacks_variable (calls_in_list xs)) _ _ twice.1 in
    let clash = stop_none (list_any call_quotes_clash (calls_in_list xs)) _ _ lacks.1 in
    let casts = stop_none (list_any call_default_fails (calls_in_list xs)) _ _ clash.1 in
    let kept = kept_calls (calls_in_list xs) bindable.0 twice.0 lacks.0 casts.0 in
    record { few = not_over most_items (length xs) a.0; fit = fit_list xs kept bindable.1; kept = kept; keys = (stop_none (key_type (Plain xs)) _ _ b.1).0 }

pub record IsCleanTable (t : FlatTable) : Type 0 where
  pub few : has_too_many t ≡ false
  pub columns_once : has_column_twice t ≡ false
  pub paths_once : has_path_name_twice t ≡ false
  pub matched : has_plan_mismatch t ≡ false
  pub once : table_passes_twice t ≡ false
  pub covered : table_lacks_variable t ≡ false
  pub casts : list_any column_default_fails (all_columns t) ≡ false

clean_table : (t : FlatTable) → has_too_many t ≡ false → table_fault t ≡ None → IsCleanTable t
clean_table t few h =
    let b = either_none (names_fault t) (columns_fault t) h in
    let columns = stop_none (has_column_twice t) _ _ b.0 in
    let paths = stop_none (has_path_name_twice t) _ _ columns.1 in
    let named = stop_none (lacks_path_name t) _ _ paths.1 in
    let matched = stop_none (has_plan_mismatch t) _ _ named.1 in
    let twice = stop_none (table_passes_twice t) _ _ b.1 in
    let lacks = stop_none (table_lacks_variable t) _ _ twice.1 in
    let clash = stop_none (list_any column_quotes_clash (all_columns t)) _ _ lacks.1 in
    let casts = stop_none (list_any column_default_fails (all_columns t)) _ _ clash.1 in
    record { few = few; columns_once = columns.0; paths_once = paths.0; matched = matched.0; once = twice.0; covered = lacks.0; casts = casts.0 }

pub clean_all : (t : FlatTable) → all_fault t ≡ None → IsCleanTable t
clean_all t h = let a = stop_none (has_too_many t) _ _ h in clean_table t a.0 a.1

pub record IsCleanList (xs : List (Item Path)) (t : FlatTable) : Type 0 where
  pub few : length xs ≤ most_items
  pub fit : AreItemsFit (column_names t) xs
  pub known : names_unknown xs t ≡ false
  pub alike : are_mixed xs ≡ false
  pub keys : keys_wrong xs t ≡ false
  pub table : IsCleanTable t

pub clean_list : (xs : List (Item Path)) (t : FlatTable) → Each AsksNothing xs → listed_fault xs t ≡ None → IsCleanList xs t
clean_list xs t none h =
    let a = stop_none (nat_lt most_items (length xs) || has_too_many t) _ _ h in
    let n = neither (nat_lt most_items (length xs)) (has_too_many t) a.0 in
    let b = either_none (table_fault t) (items_fault xs t) a.1 in
    let unknown = stop_none (names_unknown xs t) _ _ b.1 in
    let mixed = stop_none (are_mixed xs) _ _ unknown.1 in
    let keys = stop_none (keys_wrong xs t) _ _ mixed.1 in
    record { few = not_over most_items (length xs) n.0; fit = fit_items (column_names t) xs none unknown.0; known = unknown.0; alike = mixed.0; keys = keys.0; table = clean_table t n.1 b.0 }

-- a table has few columns and few paths
pub few_columns : (t : FlatTable) → has_too_many t ≡ false → length t.columns ≤ most_columns
few_columns t h = not_over most_columns (length t.columns) (neither (nat_lt most_columns (length t.columns)) _ h).0

pub few_paths : (t : FlatTable) → has_too_many t ≡ false → length t.paths ≤ most_paths
few_paths t h = not_over most_paths (length t.paths) (neither (nat_lt most_columns (length t.columns)) _ h).1
