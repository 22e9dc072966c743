-- The part of a list of subscripts of which these are the cells.
use Rattle.sj_path_tree.specs.Tree as t
use Rattle.sj_cursor.specs.Left.{core, range_core}
use Rattle.sj_cursor.specs.declared.build.Ends.{Ends}
use Rattle.sj_cursor.specs.declared.build.Ends.TheVariants as ends

abbrev pub ends_core : Ends → t.Sub
ends_core (ends.One c) = t.One (core c.value)
ends_core (ends.Range r) = range_core r.value
