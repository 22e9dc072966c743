-- for `note_name`, `number_of` and `variable_names`
pub mod AddedNames
-- for `accepted_statements_are_bindable`, for crates above, and for other lemmas
pub mod Accepting
-- for the lemmas of `Accepting`
pub mod SourceParts
-- for `bind_members` and `bind_values`
pub mod BoundLists
-- for `add_column`, `bind_value`, `find_parts` and `with_value`
pub mod Constructed
-- for `bind_all`, `bind_listed` and `bind_plain`, and for other lemmas
pub mod UnbrokenRules
-- for the lemmas of `PlansOver`
pub mod DefaultOver
-- for `default_plan`
pub mod DefaultPlans
-- for the lemmas of `SoundStatements`, `SoundValues` and `UnbrokenRules`
pub mod BindableValues
-- for `find_all`, `find_in_members`, `find_in_values` and `find_parts`
pub mod Found
-- for `bind_all`, `bind_listed`, `bind_plain`, `broken_beside`, `has_too_many_parts`, `listed_fault` and `plain_fault`, and
-- for other lemmas
pub mod Groups
-- for `bind_items`, `bind_list`, `bound_columns` and `first_columns`
pub mod Listed
-- for `covers_expr`, `covers_pred`, `covers_step`, `covers_sub`, `covers_subs`, `has_name` and `number_of`, and for
-- other lemmas
pub mod Lists
-- for `table_lacks_variable`
pub mod MissingVariables
-- for `has_name_twice`, `note`, `note_columns` and `note_paths`, and for other lemmas
pub mod NameLists
-- for the lemmas of `PlansOver`
pub mod NamedOver
-- for `passed_vars`
pub mod Passed
-- for `occurrences`, and for the lemmas of `NamedOver`
pub mod PlanNames
-- for `some_column_default_fails` and `some_default_fails`
pub mod IndexedParts
-- for `broken_by_items`, `with_item`, `with_members`, `with_value` and `with_values`
pub mod RowRules
-- for the lemmas of `SoundTables`
pub mod PlansOver
-- for the lemmas of `SoundTables` and `SoundValues`
pub mod SoundClauses
-- for the lemmas of `SoundStatements`
pub mod SoundTables
-- for the lemmas of `SoundStatements` and `SoundTables`
pub mod SoundValues
-- for `bind`
pub mod SoundStatements
-- for the lemmas of `FitColumns` and `SoundTables`
pub mod ColumnPaths
-- for `bind_all` and `bind_listed`
pub mod FitColumns
-- for the lemmas of `DefaultOver`, `NamedOver` and `PlansOver`
pub mod Places
-- for `bind_all` and `bind_listed`
pub mod BoundTables
