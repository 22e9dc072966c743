-- The item that a literal of a path or of a statement is.
use Rattle.sj_path_tree.specs.declared.parts.Literal.{Literal}
use Rattle.sj_path_tree.specs.declared.parts.Literal.TheVariants as literals
use Rattle.sj_item.specs.Items.{ItemValue, made_number, made_text, made_truth, made_null}

abbrev pub literal_item : Literal → ItemValue
literal_item (literals.Text s) = made_text s
literal_item (literals.Num d) = made_number d
literal_item (literals.Bool b) = made_truth b
literal_item literals.Null = made_null
