-- Paths whose form rules out a fault on every item. In lax mode an accessor that doesn't fit gives no item, and a filter keeps none
-- whose predicate is unknown. So what is left that may fail is a method, a sign, arithmetic, and a subscript that is no number.
use Rattle.std.specs.Prelude.{Bool, true, false, ◌&&◌}
use Rattle.sj_path_tree.specs.declared.parts.Mode.{Mode}
use Rattle.sj_path_tree.specs.declared.parts.Mode.TheVariants.{Lax, Strict}
use Rattle.sj_path_tree.specs.declared.parts.Literal.{Literal}
use Rattle.sj_path_tree.specs.declared.parts.Literal.TheVariants as literals
use Rattle.sj_path_tree.specs.Tree.{Path, Expr, Root, Var, Context, Last, Lit, Access, Step, Member, AllMembers, AllElements, Elements, Filter, Sub, One, Range, Subs, NoSubs, More}

abbrev pub is_number : Literal → Bool
is_number (literals.Num d) = true
is_number _ = false

-- a subscript that is a number wherever it is asked
abbrev pub is_fixed : Expr → Bool
is_fixed Last = true
is_fixed (Lit literal) = is_number literal
is_fixed _ = false

abbrev pub sub_fault_free : Sub → Bool
sub_fault_free (One e) = is_fixed e
sub_fault_free (Range from to) = is_fixed from && is_fixed to

abbrev pub subs_fault_free : Subs → Bool
subs_fault_free NoSubs = true
subs_fault_free (More s others) = sub_fault_free s && subs_fault_free others

abbrev pub step_fault_free : Step → Bool
step_fault_free (Member key) = true
step_fault_free AllMembers = true
step_fault_free AllElements = true
step_fault_free (Elements subs) = subs_fault_free subs
step_fault_free (Filter p) = true
step_fault_free _ = false

-- one item, and accessors on it
abbrev pub expr_fault_free : Expr → Bool
expr_fault_free Root = true
expr_fault_free (Var name) = true
expr_fault_free Context = true
expr_fault_free Last = true
expr_fault_free (Lit literal) = true
expr_fault_free (Access e s) = expr_fault_free e && step_fault_free s
expr_fault_free _ = false

abbrev pub fault_free_in : Mode → Expr → Bool
fault_free_in Lax e = expr_fault_free e
fault_free_in Strict e = false

-- the form of the path rules out a fault
abbrev pub fault_free : Path → Bool
fault_free path = fault_free_in path.mode path.expr
