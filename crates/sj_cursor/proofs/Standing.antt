-- What a cursor gives is what it has left, whether it goes by its trail or by its cells.
use Rattle.std.proofs.Common.{◌≡◌, ℕ}
use Rattle.sj_path_tree.specs.Tree as t
use Rattle.sj_path_tree.specs.View.{path_of, expr_of}
use Rattle.sj_path_tree.specs.Vars.{Variables}
use Rattle.sj_path_tree.specs.declared.tree.Path.{Path}
use Rattle.sj_item.specs.Items.{ItemValue, PullValue}
use Rattle.sj_step.specs.Trace.{Trace}
use Rattle.sj_cursor.specs.Draws.{Draws}
use Rattle.sj_cursor.specs.Meaning.{meaning, start_env, path_trace}
use Rattle.sj_cursor.specs.Moves.{walked}
use Rattle.sj_cursor.specs.Standing.{standing_left}
use Rattle.sj_cursor.specs.Trails.{IsTrailOf, Leads}
use Rattle.sj_cursor.specs.declared.cursor.Stands.{Stands}
use Rattle.sj_cursor.specs.declared.cursor.Stands.TheVariants as stands
use Rattle.sj_cursor.specs.declared.trail.Trail.{Trail}
use Rattle.sj_cursor.proofs.PathMoves.{trail_trace}

module _ (path : Path) (vars : Variables) (x : ItemValue) (s after : Stands) (before : Trace) (r : PullValue) (a b : ℕ) (begun : after ≡ stands.OnTheWay) where
  pub drawn_by_cells : (v w : Trace) (k : t.Expr)
      → standing_left s (path_trace (path_of path) vars x) v ≡ before → k ≡ expr_of path.expr
      → Draws (standing_left s (meaning k (start_env (path_of path) vars x)) v) r w a b
      → Draws before r (standing_left after (path_trace (path_of path) vars x) w) a b
  unfolding path_trace
  drawn_by_cells v w k view is d = rw (← view, begun) (rw is at d)

  pub drawn_by_trail : (old : Trail) (v w : Trace)
      → standing_left s (path_trace (path_of path) vars x) v ≡ before → IsTrailOf (path_of path) old
      → Draws (standing_left s (walked old.moves.items x) v) r w a b
      → Draws before r (standing_left after (path_trace (path_of path) vars x) w) a b
  drawn_by_trail old v w view of_path d =
      let whole = trail_trace (path_of path) vars x old of_path in
      rw (← view, begun, whole) d

-- on the way from the beginning of the cells to what follows nothing was given
pub led_by_cells : (path : Path) (vars : Variables) (x : ItemValue) (s : Stands) (before : Trace) (v : Trace) (k : t.Expr) (u : Trace) (a b : ℕ)
    → s ≡ stands.AtTheBeginning → standing_left s (path_trace (path_of path) vars x) v ≡ before → k ≡ expr_of path.expr
    → Leads (meaning k (start_env (path_of path) vars x)) a u b → Leads before a u b
unfolding path_trace
led_by_cells path vars x s before v k u a b begins view is l = rw (← view, begins) (rw is at l)
