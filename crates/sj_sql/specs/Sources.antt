-- What values ask, as the grammar has it.
use Rattle.sj_sql_grammar.specs.Grammar as g
use Rattle.sj_sql.specs.declared.asking.Source.{Source}
use Rattle.sj_sql.specs.declared.asking.Source.TheVariants as s

abbrev pub source_of : Source → g.Source
source_of s.Document = g.document
source_of s.Row = g.row
