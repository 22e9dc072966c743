-- Whether an `@` stands in no filter, or a `last` in no list of subscripts. `filtered` says whether a filter is
-- around, and `listed` whether a list of subscripts is.
use Rattle.std.specs.Prelude.{Bool, true, false, not, ◌||◌}
use Rattle.sj_path_tree.specs.Tree.{Path, Expr, Root, Var, Context, Last, Lit, Plus, Minus, Binary, Access, Step, Member, AllMembers, AllElements, Elements, Filter, Call, Sub, One, Range, Subs, NoSubs, More, Pred, Compares, And, Or, Not, IsUnknown, Exists, StartsWith}

abbrev mutual
  pub misplaced_expr : Expr → Bool → Bool → Bool
  misplaced_expr Root filtered listed = false
  misplaced_expr (Var name) filtered listed = false
  misplaced_expr Context filtered listed = not filtered
  misplaced_expr Last filtered listed = not listed
  misplaced_expr (Lit literal) filtered listed = false
  misplaced_expr (Access e s) filtered listed = misplaced_expr e filtered listed || misplaced_step s filtered listed
  misplaced_expr (Plus e) filtered listed = misplaced_expr e filtered listed
  misplaced_expr (Minus e) filtered listed = misplaced_expr e filtered listed
  misplaced_expr (Binary op a b) filtered listed = misplaced_expr a filtered listed || misplaced_expr b filtered listed

  pub misplaced_step : Step → Bool → Bool → Bool
  misplaced_step (Member key) filtered listed = false
  misplaced_step AllMembers filtered listed = false
  misplaced_step AllElements filtered listed = false
  misplaced_step (Elements subs) filtered listed = misplaced_subs subs filtered
  misplaced_step (Filter p) filtered listed = misplaced_pred p listed
  misplaced_step (Call m) filtered listed = false

  pub misplaced_sub : Sub → Bool → Bool
  misplaced_sub (One e) filtered = misplaced_expr e filtered true
  misplaced_sub (Range from to) filtered = misplaced_expr from filtered true || misplaced_expr to filtered true

  pub misplaced_subs : Subs → Bool → Bool
  misplaced_subs NoSubs filtered = false
  misplaced_subs (More s others) filtered = misplaced_sub s filtered || misplaced_subs others filtered

  -- inside a filter
  pub misplaced_pred : Pred → Bool → Bool
  misplaced_pred (Compares op a b) listed = misplaced_expr a true listed || misplaced_expr b true listed
  misplaced_pred (And p q) listed = misplaced_pred p listed || misplaced_pred q listed
  misplaced_pred (Or p q) listed = misplaced_pred p listed || misplaced_pred q listed
  misplaced_pred (Not p) listed = misplaced_pred p listed
  misplaced_pred (IsUnknown p) listed = misplaced_pred p listed
  misplaced_pred (Exists e) listed = misplaced_expr e true listed
  misplaced_pred (StartsWith e initial) listed = misplaced_expr e true listed

abbrev pub is_misplaced : Path → Bool
is_misplaced p = misplaced_expr p.expr false false
