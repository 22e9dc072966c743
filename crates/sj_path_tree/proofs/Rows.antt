-- A list of subscripts that lies in a `Vec`, as the definitions have it.
use Rattle.std.proofs.Common.{◌≡◌, [], ◌∷◌, Vec, Global, refl, ap, ◌∙◌}
use mathlib.Core.Former.{Count}
use Rattle.sj_path_tree.specs.Tree as t
use Rattle.sj_path_tree.specs.View.{step_of, sub_of, row_of, subs_of}
use Rattle.sj_path_tree.specs.declared.tree.Step.{Step, Elements, Elements', Row_of-Sub, end_of-Sub, more_of-Sub, items-the_row-Sub, items_hidden-the_row-Sub-0}
use Rattle.sj_path_tree.specs.declared.tree.Sub.{Sub}

abbrev row_in : Step → (n : Count) × Row_of-Sub n
row_in (Elements' _ row) = (_, row)
row_in _ = (_, end_of-Sub)

as_list : (n : _) (row : Row_of-Sub n) → row_of row ≡ subs_of (items-the_row-Sub n row)
as_list n end_of-Sub = refl
as_list n (more_of-Sub s others) = ap (t.More (sub_of s)) (as_list _ others)

pub elements : (subs : Vec Sub Global) → step_of (Elements subs) ≡ t.Elements (subs_of subs.items)
elements subs = let row = row_in (Elements subs) in ap t.Elements (as_list row.0 row.1 ∙ ap subs_of (items_hidden-the_row-Sub-0 subs))
