-- How many expressions, accessors, subscripts and predicates a tree has.
use Rattle.std.specs.Prelude.{ℕ, ◌+◌}
use Rattle.sj_path_tree.specs.Tree.{Path, Expr, Root, Var, Context, Last, Lit, Plus, Minus, Binary, Access, Step, Member, AllMembers, AllElements, Elements, Filter, Call, Sub, One, Range, Subs, NoSubs, More, Pred, Compares, And, Or, Not, IsUnknown, Exists, StartsWith}

abbrev mutual
  pub expr_nodes : Expr → ℕ
  expr_nodes Root = 1
  expr_nodes (Var name) = 1
  expr_nodes Context = 1
  expr_nodes Last = 1
  expr_nodes (Lit literal) = 1
  expr_nodes (Access e s) = 1 + expr_nodes e + step_nodes s
  expr_nodes (Plus e) = 1 + expr_nodes e
  expr_nodes (Minus e) = 1 + expr_nodes e
  expr_nodes (Binary op a b) = 1 + expr_nodes a + expr_nodes b

  pub step_nodes : Step → ℕ
  step_nodes (Member key) = 1
  step_nodes AllMembers = 1
  step_nodes AllElements = 1
  step_nodes (Elements subs) = 1 + subs_nodes subs
  step_nodes (Filter p) = 1 + pred_nodes p
  step_nodes (Call method) = 1

  pub sub_nodes : Sub → ℕ
  sub_nodes (One e) = 1 + expr_nodes e
  sub_nodes (Range from to) = 1 + expr_nodes from + expr_nodes to

  -- the list itself is not counted
  pub subs_nodes : Subs → ℕ
  subs_nodes NoSubs = 0
  subs_nodes (More s others) = sub_nodes s + subs_nodes others

  pub pred_nodes : Pred → ℕ
  pred_nodes (Compares op a b) = 1 + expr_nodes a + expr_nodes b
  pred_nodes (And p q) = 1 + pred_nodes p + pred_nodes q
  pred_nodes (Or p q) = 1 + pred_nodes p + pred_nodes q
  pred_nodes (Not p) = 1 + pred_nodes p
  pred_nodes (IsUnknown p) = 1 + pred_nodes p
  pred_nodes (Exists e) = 1 + expr_nodes e
  pred_nodes (StartsWith e initial) = 1 + expr_nodes e

abbrev pub nodes : Path → ℕ
nodes p = expr_nodes p.expr
