-- What the columns of a table meet once the rules on them hold.
use Rattle.std.specs.Prelude.{◌<◌, List, [], ◌∷◌}
use Rattle.sj_path_tree.specs.Tree.{Path}
use Rattle.sj_sql_grammar.specs.Tree.{ColumnOf, Ordinality, Regular, Formatted, Existence, Nested}
use Rattle.sj_bound.specs.Limits.{most_paths}
use Rattle.sj_bind.specs.Fits.{AreCastable}
use Rattle.sj_bind.specs.Flat.{TableColumn}

-- items can be cast to the type of a regular column, and so can its DEFAULT literals
abbrev pub IsFitColumn : ColumnOf Path → Type 0
IsFitColumn (Ordinality name) = Unit {0}
IsFitColumn (Regular c) = AreCastable c.ty c.on_empty c.on_error
IsFitColumn (Formatted c) = Unit {0}
IsFitColumn (Existence name path _) = Unit {0}
IsFitColumn (Nested path name columns) = Unit {0}

-- a column of a path whose number is small
abbrev pub CanBind : TableColumn → Type 0
CanBind c = (c.path < most_paths) × IsFitColumn c.column

abbrev pub CanBindAll : List TableColumn → Type 0
CanBindAll [] = Unit {0}
CanBindAll (c ∷ cs) = CanBind c × CanBindAll cs
