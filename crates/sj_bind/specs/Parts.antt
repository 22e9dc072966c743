-- What stands in the values of a statement, at any depth and in the order of the text: the functions that have a path, the keys of
-- objects, and the names of columns.
use Rattle.std.specs.Prelude.{ℕ, List, [], ◌∷◌, ◌++◌}
use Rattle.sj_sql_grammar.specs.Tree.{Common, ExistsCall, ValueCall, QueryCall, Value, Lit, Column, Exists, ValueOf, Query, IsJson, Object, Array, Values, NoValues, MoreValues, Members, NoMembers, MoreMembers, Item, Single, ArrayAgg, ObjectAgg, Statement, Plain, All, Listed}

-- ---- functions

-- a function that has a path
pub data Call (P : Type 0) : Type 0 where
  exists_call : (call : ExistsCall P) → Call P
  value_call : (call : ValueCall P) → Call P
  query_call : (call : QueryCall P) → Call P

-- its document, path and variables
abbrev pub call_common : {P : Type 0} → Call P → Common P
call_common (exists_call c) = c.common
call_common (value_call c) = c.common
call_common (query_call c) = c.common

abbrev mutual
  pub calls_in : {P : Type 0} → Value P → List (Call P)
  calls_in (Lit x) = []
  calls_in (Column name) = []
  calls_in (Exists c) = exists_call c ∷ []
  calls_in (ValueOf c) = value_call c ∷ []
  calls_in (Query c) = query_call c ∷ []
  calls_in (IsJson c) = []
  calls_in (Object members _ unique) = calls_in_members members
  calls_in (Array values _) = calls_in_values values

  pub calls_in_values : {P : Type 0} → Values P → List (Call P)
  calls_in_values NoValues = []
  calls_in_values (MoreValues x others) = calls_in x ++ calls_in_values others

  pub calls_in_members : {P : Type 0} → Members P → List (Call P)
  calls_in_members NoMembers = []
  calls_in_members (MoreMembers key x others) = calls_in key ++ calls_in x ++ calls_in_members others

abbrev pub calls_in_list : {P : Type 0} → List (Value P) → List (Call P)
calls_in_list [] = []
calls_in_list (x ∷ xs) = calls_in x ++ calls_in_list xs

abbrev pub calls_in_item : {P : Type 0} → Item P → List (Call P)
calls_in_item (Single x) = calls_in x
calls_in_item (ArrayAgg x _) = calls_in x
calls_in_item (ObjectAgg key x _ unique) = calls_in key ++ calls_in x

-- Beside a table no function stands in the list.
abbrev pub calls : {P : Type 0} → Statement P → List (Call P)
calls (Plain xs) = calls_in_list xs
calls (All table) = []
calls (Listed xs table) = []

-- ---- keys

abbrev mutual
  pub keys_in : {P : Type 0} → Value P → List (Value P)
  keys_in (Lit x) = []
  keys_in (Column name) = []
  keys_in (Exists c) = []
  keys_in (ValueOf c) = []
  keys_in (Query c) = []
  keys_in (IsJson c) = []
  keys_in (Object members _ unique) = keys_in_members members
  keys_in (Array values _) = keys_in_values values

  pub keys_in_values : {P : Type 0} → Values P → List (Value P)
  keys_in_values NoValues = []
  keys_in_values (MoreValues x others) = keys_in x ++ keys_in_values others

  pub keys_in_members : {P : Type 0} → Members P → List (Value P)
  keys_in_members NoMembers = []
  keys_in_members (MoreMembers key x others) = key ∷ keys_in key ++ keys_in x ++ keys_in_members others

abbrev pub keys_in_list : {P : Type 0} → List (Value P) → List (Value P)
keys_in_list [] = []
keys_in_list (x ∷ xs) = keys_in x ++ keys_in_list xs

-- an aggregate of objects has a key of its own
abbrev pub keys_in_item : {P : Type 0} → Item P → List (Value P)
keys_in_item (Single x) = keys_in x
keys_in_item (ArrayAgg x _) = keys_in x
keys_in_item (ObjectAgg key x _ unique) = key ∷ keys_in key ++ keys_in x

abbrev pub keys_in_items : {P : Type 0} → List (Item P) → List (Value P)
keys_in_items [] = []
keys_in_items (x ∷ xs) = keys_in_item x ++ keys_in_items xs

abbrev pub keys : {P : Type 0} → Statement P → List (Value P)
keys (Plain xs) = keys_in_list xs
keys (All table) = []
keys (Listed xs table) = keys_in_items xs

-- ---- names

abbrev mutual
  pub names_in : {P : Type 0} → Value P → List (List ℕ)
  names_in (Lit x) = []
  names_in (Column name) = name ∷ []
  names_in (Exists c) = []
  names_in (ValueOf c) = []
  names_in (Query c) = []
  names_in (IsJson c) = []
  names_in (Object members _ unique) = names_in_members members
  names_in (Array values _) = names_in_values values

  pub names_in_values : {P : Type 0} → Values P → List (List ℕ)
  names_in_values NoValues = []
  names_in_values (MoreValues x others) = names_in x ++ names_in_values others

  pub names_in_members : {P : Type 0} → Members P → List (List ℕ)
  names_in_members NoMembers = []
  names_in_members (MoreMembers key x others) = names_in key ++ names_in x ++ names_in_members others

abbrev pub names_in_item : {P : Type 0} → Item P → List (List ℕ)
names_in_item (Single x) = names_in x
names_in_item (ArrayAgg x _) = names_in x
names_in_item (ObjectAgg key x _ unique) = names_in key ++ names_in x

abbrev pub names_in_items : {P : Type 0} → List (Item P) → List (List ℕ)
names_in_items [] = []
names_in_items (x ∷ xs) = names_in_item x ++ names_in_items xs

-- Without a table no name stands in the list.
abbrev pub names : {P : Type 0} → Statement P → List (List ℕ)
names (Plain xs) = []
names (All table) = []
names (Listed xs table) = names_in_items xs
