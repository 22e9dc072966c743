-- What a cursor has left, by where it stands, and what holds of its parts.
use Rattle.std.specs.Prelude.{◌≡◌, Option, IfSome}
use Rattle.sj_path_tree.specs.Tree as t
use Rattle.sj_step.specs.Trace.{Trace}
use Rattle.sj_plain_path.specs.Chains.{IsChainOf}
use Rattle.sj_plain_path.specs.declared.chain.Chain.{Chain}
use Rattle.sj_cursor.specs.Left.{core, left}
use Rattle.sj_cursor.specs.Meaning.{Env}
use Rattle.sj_cursor.specs.Trails.{stack_left, IsTrailOf}
use Rattle.sj_cursor.specs.declared.cursor.Means.{Means}
use Rattle.sj_cursor.specs.declared.cursor.Means.TheVariants as means
use Rattle.sj_cursor.specs.declared.cursor.Stands.{Stands}
use Rattle.sj_cursor.specs.declared.cursor.Stands.TheVariants as stands

-- at the beginning it is the whole, wherever the trail or the cells stand
abbrev pub standing_left : Stands → Trace → Trace → Trace
standing_left stands.AtTheBeginning whole left = whole
standing_left stands.OnTheWay whole left = left

abbrev pub means_left : Means → Env → Trace
means_left (means.Trail trail) env = stack_left trail.moves.items trail.frames.items
means_left (means.Cells cell) env = left cell.value env

abbrev pub IsMeansOf : t.Path → Means → Type 0
IsMeansOf path (means.Trail trail) = IsTrailOf path trail
IsMeansOf path (means.Cells cell) = core cell.value ≡ path.expr

pub record IsCursor (path : t.Path) (by : Means) (chain : Option Chain) : Type 0 where
  pub means : IsMeansOf path by
  pub chains : IfSome chain (IsChainOf path)
