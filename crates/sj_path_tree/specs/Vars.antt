-- Variables by name, and the variables that a path names.
use Rattle.std.specs.Prelude.{ℕ, Bool, List, [], ◌∷◌, ◌++◌, Option, option_map, find}
use Rattle.std.specs.Str.{bytes_eq}
use Rattle.std.specs.List.{list_all, list_any}
use Rattle.sj_path_tree.specs.declared.parts.Literal.{Literal}
use Rattle.sj_path_tree.specs.declared.parts.Initial.{Initial}
use Rattle.sj_path_tree.specs.declared.parts.Initial.TheVariants as initial
use Rattle.sj_path_tree.specs.Tree.{Path, Expr, Root, Var, Context, Last, Lit, Plus, Minus, Binary, Access, Step, Member, AllMembers, AllElements, Elements, Filter, Call, Sub, One, Range, Subs, NoSubs, More, Pred, Compares, And, Or, Not, IsUnknown, Exists, StartsWith}

-- names with their values
abbrev pub Variables : Type 0
Variables = List (List ℕ × Literal)

-- whether a variable has this name
abbrev pub has_name : Variables → List ℕ → Bool
has_name vars name = list_any (λ v. bytes_eq v.0 name) vars

-- the value of the first variable with this name
abbrev pub value_of : Variables → List ℕ → Option Literal
value_of vars name = option_map (λ v. v.1) (find (λ v. bytes_eq v.0 name) vars)

abbrev pub initial_names : Initial → List (List ℕ)
initial_names (initial.Lit text) = []
initial_names (initial.Var name) = name ∷ []

-- the variables of a tree, in the order of the text
abbrev mutual
  pub expr_names : Expr → List (List ℕ)
  expr_names Root = []
  expr_names (Var name) = name ∷ []
  expr_names Context = []
  expr_names Last = []
  expr_names (Lit literal) = []
  expr_names (Access e s) = expr_names e ++ step_names s
  expr_names (Plus e) = expr_names e
  expr_names (Minus e) = expr_names e
  expr_names (Binary op a b) = expr_names a ++ expr_names b

  pub step_names : Step → List (List ℕ)
  step_names (Member key) = []
  step_names AllMembers = []
  step_names AllElements = []
  step_names (Elements subs) = subs_names subs
  step_names (Filter p) = pred_names p
  step_names (Call method) = []

  pub sub_names : Sub → List (List ℕ)
  sub_names (One e) = expr_names e
  sub_names (Range from to) = expr_names from ++ expr_names to

  pub subs_names : Subs → List (List ℕ)
  subs_names NoSubs = []
  subs_names (More s others) = sub_names s ++ subs_names others

  pub pred_names : Pred → List (List ℕ)
  pred_names (Compares op a b) = expr_names a ++ expr_names b
  pred_names (And p q) = pred_names p ++ pred_names q
  pred_names (Or p q) = pred_names p ++ pred_names q
  pred_names (Not p) = pred_names p
  pred_names (IsUnknown p) = pred_names p
  pred_names (Exists e) = expr_names e
  pred_names (StartsWith e initial) = expr_names e ++ initial_names initial

abbrev pub names : Path → List (List ℕ)
names p = expr_names p.expr

-- each variable of the path has a value
abbrev pub covers : Variables → Path → Bool
covers vars p = list_all (has_name vars) (names p)
