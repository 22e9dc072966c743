-- The plan of a table: whether a plan with names matches the paths, and the plan with numbers that a table has.
use Rattle.std.specs.Prelude.{ℕ, ◌+◌, ◌==◌, Bool, true, false, not, ◌&&◌, ◌||◌, List, [], ◌∷◌, ◌++◌, Option, Some, None, is_some, unwrap_or, if◌then◌else◌}
use Rattle.std.specs.List.{list_all, list_any, position_from}
use Rattle.std.specs.Str.{bytes_eq}
use Rattle.sj_sql_grammar.specs.declared.clauses.InOut.{InOut}
use Rattle.sj_sql_grammar.specs.declared.clauses.InOut.TheVariants as i
use Rattle.sj_sql_grammar.specs.declared.clauses.Siblings.{Siblings}
use Rattle.sj_sql_grammar.specs.declared.clauses.Siblings.TheVariants as s
use Rattle.sj_sql_grammar.specs.Tree.{NamedPlan, PathOf, Outer, Inner, Union, Cross, Default, Named}
use Rattle.sj_sql_grammar.specs.Tree as t
use Rattle.sj_value.specs.Plans.{PlanTree, path_rows, outer_join, inner_join, union_of, cross_of}
use Rattle.sj_bind.specs.Flat.{TablePath, FlatTable}

-- whether a path stands right under the path of this number, or is the row path where there is none
abbrev pub is_same : Option ℕ → Option ℕ → Bool
is_same None None = true
is_same None (Some n) = false
is_same (Some n) None = false
is_same (Some n) (Some m) = n == m

abbrev pub is_under : Option ℕ → TablePath → Bool
is_under parent path = is_same parent path.parent

-- A plan with names, beside the paths that are to stand in it.

-- The names that stand as paths of a plan, without those in the plans of their own nested paths. The name before OUTER or INNER
-- stands there as that path.
abbrev pub standing : NamedPlan → List (List ℕ)
standing (PathOf name) = name ∷ []
standing (Outer name below) = name ∷ []
standing (Inner name below) = name ∷ []
standing (Union a b) = standing a ++ standing b
standing (Cross a b) = standing a ++ standing b

-- whether a path has a name, and this one
abbrev pub is_name : List ℕ → Option (List ℕ) → Bool
is_name name None = false
is_name name (Some own) = bytes_eq own name

-- how often a name stands in a list
abbrev pub name_count : List ℕ → List (List ℕ) → ℕ
name_count name [] = 0
name_count name (own ∷ others) = (if bytes_eq name own then 1 else 0) + name_count name others

-- whether a path has a name, which stands in the list once
abbrev pub stands_once : List (List ℕ) → Option (List ℕ) → Bool
stands_once names None = false
stands_once names (Some own) = name_count own names == 1

-- whether the root of a plan is one path, alone or as the parent of OUTER or INNER
abbrev pub has_root : NamedPlan → Bool
has_root (PathOf name) = true
has_root (Outer name below) = true
has_root (Inner name below) = true
has_root (Union a b) = false
has_root (Cross a b) = false

-- beside the paths of a table
module _ (paths : List TablePath) where
  -- the number of the path of this name right under a parent
  abbrev pub path_named : Option ℕ → List ℕ → Option ℕ
  path_named parent name = position_from (λ path. is_under parent path && is_name name path.name) 0 paths

  -- whether paths are nested in a path
  abbrev pub has_nested : Option ℕ → Bool
  has_nested parent = list_any (is_under parent) paths

  -- whether each path right under a parent stands in the list once
  abbrev pub each_once : List (List ℕ) → Option ℕ → Bool
  each_once names parent = list_all (λ path. not (is_under parent path) || stands_once names path.name) paths

  -- Whether each name that stands in a plan is that of a path right under a parent, and each is a parent exactly if paths are
  -- nested in it. These are then the ones that stand in the plan below it, each once; and so at any depth. Some name stands in
  -- every plan, so a parent has nested paths.
  abbrev pub fits : NamedPlan → Option ℕ → Bool
  fits (PathOf name) parent = is_some (path_named parent name) && not (has_nested (path_named parent name))
  fits (Outer name below) parent = is_some (path_named parent name) && (each_once (standing below) (path_named parent name) && fits below (path_named parent name))
  fits (Inner name below) parent = is_some (path_named parent name) && (each_once (standing below) (path_named parent name) && fits below (path_named parent name))
  fits (Union a b) parent = fits a parent && fits b parent
  fits (Cross a b) parent = fits a parent && fits b parent

  abbrev pub matches : NamedPlan → Bool
  matches plan = has_root plan && fits plan None

  -- there is a plan with names that does not match the paths
  abbrev pub differs : t.PlanTree → Bool
  differs (Default in_out siblings) = false
  differs (Named plan) = not (matches plan)

  -- the number of a path that is known to be there
  abbrev pub number_named : Option ℕ → List ℕ → ℕ
  number_named parent name = unwrap_or (path_named parent name) 0

  -- A plan with the numbers of its paths in the place of their names, which are those of paths right under a parent.
  abbrev pub numbered : NamedPlan → Option ℕ → PlanTree
  numbered (PathOf name) parent = path_rows (number_named parent name)
  numbered (Outer name below) parent = outer_join (number_named parent name) (numbered below (path_named parent name))
  numbered (Inner name below) parent = inner_join (number_named parent name) (numbered below (path_named parent name))
  numbered (Union a b) parent = union_of (numbered a parent) (numbered b parent)
  numbered (Cross a b) parent = cross_of (numbered a parent) (numbered b parent)

abbrev pub has_plan_mismatch : FlatTable → Bool
has_plan_mismatch table = differs table.paths table.plan

-- The words of PLAN DEFAULT.

-- OUTER or INNER
abbrev pub joined : InOut → ℕ → PlanTree → PlanTree
joined i.Outer path below = outer_join path below
joined i.Inner path below = inner_join path below

-- UNION or CROSS
abbrev pub beside : Siblings → PlanTree → PlanTree → PlanTree
beside s.Union a b = union_of a b
beside s.Cross a b = cross_of a b

-- plans beside one another, grouped to the left
abbrev pub grouped : Siblings → PlanTree → List PlanTree → PlanTree
grouped siblings plan [] = plan
grouped siblings plan (next ∷ others) = grouped siblings (beside siblings plan next) others

-- a path, and the plans of its nested paths below it where it has some
abbrev pub over : InOut → Siblings → ℕ → List PlanTree → PlanTree
over in_out siblings path [] = path_rows path
over in_out siblings path (below ∷ others) = joined in_out path (grouped siblings below others)

-- The plans of the paths right under a parent, in the order of the text, among paths of which the first has the number `next`.
-- The paths that are nested in a path stand behind it.
abbrev pub default_in : InOut → Siblings → (parent next : ℕ) → List TablePath → List PlanTree
default_in in_out siblings parent next [] = []
default_in in_out siblings parent next (path ∷ others) =
    if is_under (Some parent) path then over in_out siblings next (default_in in_out siblings next (next + 1) others) ∷ default_in in_out siblings parent (next + 1) others
    else default_in in_out siblings parent (next + 1) others

-- The plan with numbers.

abbrev pub plan_by : t.PlanTree → List TablePath → PlanTree
plan_by (Default in_out siblings) paths = over in_out siblings 0 (default_in in_out siblings 0 0 paths)
plan_by (Named plan) paths = numbered paths plan None

abbrev pub table_plan : FlatTable → PlanTree
table_plan table = plan_by table.plan table.paths
