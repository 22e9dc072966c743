-- A path that the code holds, as a tree of the definitions, without where its parts lie in memory.
use Rattle.std.specs.Prelude.{List, [], ◌∷◌}
use Rattle.sj_path_tree.specs.Tree as t
use Rattle.sj_path_tree.specs.declared.tree.Path.{Path}
use Rattle.sj_path_tree.specs.declared.tree.Expr.{Expr, Root, Var, Context, Last, Lit, Access', Plus', Minus', Binary'}
use Rattle.sj_path_tree.specs.declared.tree.Step.{Row_of-Sub, end_of-Sub, more_of-Sub, Step, Member, AllMembers, AllElements, Elements', Filter', Method}
use Rattle.sj_path_tree.specs.declared.tree.Sub.{Sub, One, Range}
use Rattle.sj_path_tree.specs.declared.tree.Pred.{Pred, Compare, And', Or', Not', IsUnknown', Exists, StartsWith}

abbrev mutual
  pub expr_of : Expr → t.Expr
  expr_of Root = t.Root
  expr_of (Var name) = t.Var name
  expr_of Context = t.Context
  expr_of Last = t.Last
  expr_of (Lit literal) = t.Lit literal
  expr_of (Access' p e s) = t.Access (expr_of e) (step_of s)
  expr_of (Plus' p e) = t.Plus (expr_of e)
  expr_of (Minus' p e) = t.Minus (expr_of e)
  expr_of (Binary' op p a q b) = t.Binary op (expr_of a) (expr_of b)

  pub step_of : Step → t.Step
  step_of (Member key) = t.Member key
  step_of AllMembers = t.AllMembers
  step_of AllElements = t.AllElements
  step_of (Elements' shape subs) = t.Elements (row_of subs)
  step_of (Filter' p x) = t.Filter (pred_of x)
  step_of (Method m) = t.Call m

  pub sub_of : Sub → t.Sub
  sub_of (One e) = t.One (expr_of e)
  sub_of (Range from to) = t.Range (expr_of from) (expr_of to)

  -- the subscripts of a `Vec`
  pub row_of : {n : _} → Row_of-Sub n → t.Subs
  row_of end_of-Sub = t.NoSubs
  row_of (more_of-Sub s others) = t.More (sub_of s) (row_of others)

  pub pred_of : Pred → t.Pred
  pred_of (Compare op a b) = t.Compares op (expr_of a) (expr_of b)
  pred_of (And' p x q y) = t.And (pred_of x) (pred_of y)
  pred_of (Or' p x q y) = t.Or (pred_of x) (pred_of y)
  pred_of (Not' p x) = t.Not (pred_of x)
  pred_of (IsUnknown' p x) = t.IsUnknown (pred_of x)
  pred_of (Exists e) = t.Exists (expr_of e)
  pred_of (StartsWith e initial) = t.StartsWith (expr_of e) initial

-- the same of the subscripts as a list
abbrev pub subs_of : List Sub → t.Subs
subs_of [] = t.NoSubs
subs_of (s ∷ others) = t.More (sub_of s) (subs_of others)

abbrev pub path_of : Path → t.Path
path_of p = record { mode = p.mode; expr = expr_of p.expr }
