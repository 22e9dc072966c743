-- Paths with a variable that is not passed, by the names that are.
use Rattle.std.proofs.Common.{◌≡◌, ℕ, not, List, refl, ap}
use Rattle.std.specs.List.{list_any}
use Rattle.sj_base.specs.Names.{is_among}
use Rattle.sj_path_tree.specs.Tree.{Path}
use Rattle.sj_path_tree.specs.Vars.{has_name, names}
use Rattle.sj_sql_grammar.specs.declared.clauses.Passed.{Passed}
use Rattle.sj_sql_grammar.specs.Tree.{ColumnOf, Ordinality, Regular, Formatted, Existence, Nested}
use Rattle.sj_bind.specs.Clauses.{passed}
use Rattle.sj_bind.specs.Rules.{lacks_variable, column_lacks_variable}
use Rattle.sj_bind.specs.Variables.{AreNamesOf, misses, column_misses}
use Rattle.sj_bind.proofs.Lists.{all_alike, any_alike}

misses_same : (passing : List Passed) (known : List (List ℕ)) → AreNamesOf passing known → (p : Path) → misses known p ≡ lacks_variable passing p
misses_same passing known same p = ap not (all_alike (is_among known) (has_name (passed passing)) same (names p))

column_misses_same : (passing : List Passed) (known : List (List ℕ)) → AreNamesOf passing known → (c : ColumnOf Path) → column_misses known c ≡ column_lacks_variable passing c
column_misses_same passing known same (Ordinality name) = refl
column_misses_same passing known same (Regular c) = misses_same passing known same c.path
column_misses_same passing known same (Formatted c) = misses_same passing known same c.path
column_misses_same passing known same (Existence name path on_error) = misses_same passing known same path
column_misses_same passing known same (Nested path name columns) = refl

pub paths_missed : (passing : List Passed) (known : List (List ℕ)) → AreNamesOf passing known → (ps : List Path) → list_any (misses known) ps ≡ list_any (lacks_variable passing) ps
paths_missed passing known same ps = any_alike (misses known) (lacks_variable passing) (misses_same passing known same) ps

pub columns_missed : (passing : List Passed) (known : List (List ℕ)) → AreNamesOf passing known → (cs : List (ColumnOf Path)) → list_any (column_misses known) cs ≡ list_any (column_lacks_variable passing) cs
columns_missed passing known same cs = any_alike (column_misses known) (column_lacks_variable passing) (column_misses_same passing known same) cs
