-- Names in sets.
use Rattle.std.specs.Prelude.{◌≡◌, ℕ, Bool, false, not, ◌||◌, List}
use Rattle.std.specs.List.{list_all}
use Rattle.sj_base.specs.Names.{is_among}
use Rattle.sj_path_tree.specs.Tree.{Path}
use Rattle.sj_path_tree.specs.Vars.{has_name, names}
use Rattle.sj_sql_grammar.specs.Tree.{ColumnOf, Ordinality, Regular, Formatted, Existence, Nested}
use Rattle.sj_sql_grammar.specs.declared.clauses.Passed.{Passed}
use Rattle.sj_bind.specs.Clauses.{passed}

-- the names that the variables of a PASSING clause have, however often each stands there
abbrev pub AreNamesOf : List Passed → List (List ℕ) → Type 0
AreNamesOf passing names = (name : List ℕ) → is_among names name ≡ has_name (passed passing) name

-- the same names, however often each stands in either
abbrev pub HaveSame : List (List ℕ) → List (List ℕ) → Type 0
HaveSame some others = (name : List ℕ) → is_among some name ≡ is_among others name

-- `after` has the names that were there and those that came, however often each stands there
abbrev pub AddsNames : (before some after : List (List ℕ)) → Type 0
AddsNames before some after = (name : List ℕ) → is_among after name ≡ (is_among before name || is_among some name)

-- a path that has a variable of another name
abbrev pub misses : List (List ℕ) → Path → Bool
misses known path = not (list_all (is_among known) (names path))

abbrev pub column_misses : List (List ℕ) → ColumnOf Path → Bool
column_misses known (Ordinality name) = false
column_misses known (Regular c) = misses known c.path
column_misses known (Formatted c) = misses known c.path
column_misses known (Existence name path _) = misses known path
column_misses known (Nested path name columns) = false
