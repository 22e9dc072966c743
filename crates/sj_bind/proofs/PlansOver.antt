-- The plan of a table joins each of its paths once.
use Rattle.std.proofs.Common.{◌≡◌, ℕ, suc, ◌+◌, ◌<◌, ◌≤◌, false, List, Some, None, length, refl, arith}
use Rattle.sj_path_tree.specs.Tree.{Path}
use Rattle.sj_sql_grammar.specs.Tree.{Table, PlanTree, Default, Named}
use Rattle.sj_value.specs.Plans.{IsPlanOver, times}
use Rattle.sj_value.specs.Plans as v
use Rattle.sj_bind.specs.Flat.{TablePath, flat, paths_below}
use Rattle.sj_bind.specs.Tables.{has_path_name_twice}
use Rattle.sj_bind.specs.Plans.{has_root, fits, matches, differs, has_plan_mismatch, default_in, plan_by, table_plan}
use Rattle.sj_bind.proofs.Lists.{holds}
use Rattle.sj_bind.proofs.Places.{IsAt, path_at, AreNested, parent_at, nested_below, all_one}
use Rattle.sj_bind.proofs.DefaultOver.{default-first, default-step, default-past, default-root}
use Rattle.sj_bind.proofs.NamedOver.{both, named-first, named-step, named-past, named-root}

-- a plan in which the row path stands once, and each other path as often as its parent
joins_all : (plan : v.PlanTree) (ps : List TablePath) → AreNested 1 ps → v.root_of plan ≡ Some 0 → times 0 plan ≡ 1
    → ((k m : ℕ) (x : TablePath) → IsAt 1 ps k x → x.parent ≡ Some m → m < k → times k plan ≡ times m plan) → ((k : ℕ) → 1 + length ps ≤ k → times k plan ≡ 0)
    → IsPlanOver (suc (length ps)) plan
joins_all plan ps nested root first step past = record {
  root = root;
  once = λ k below. all_one (λ n. times n plan) (suc (length ps)) first
      (λ j low high. let x = path_at 1 ps j low (omega arith) in let up = parent_at 1 ps j x.0 nested x.1 in (up.0, up.2, step j up.0 x.0 x.1 up.1 up.2))
      (suc k) k (omega arith) below;
  others = λ k above. past k (omega arith);
}

by_plan : (table : Table Path) → has_path_name_twice (flat table) ≡ false → (plan : PlanTree) → differs (flat table).paths plan ≡ false → IsPlanOver (length (flat table).paths) (plan_by plan (flat table).paths)
by_plan table once (Default in_out siblings) h =
    let ps = paths_below 0 1 table.columns in
    joins_all (plan_by (Default in_out siblings) (flat table).paths) ps (nested_below 0 1 table.columns (omega arith))
    (default-root in_out siblings (default_in in_out siblings 0 1 ps)) (default-first in_out siblings ps) (default-step in_out siblings ps) (default-past in_out siblings ps)
by_plan table once (Named plan) h =
    let ps = paths_below 0 1 table.columns in
    let row : TablePath = record { path = table.common.path; name = table.name; parent = None } in
    let nested = nested_below 0 1 table.columns (omega arith) in
    let m = both (has_root plan) (fits (flat table).paths plan None) (holds (matches (flat table).paths plan) h) in
    joins_all (plan_by (Named plan) (flat table).paths) ps nested
    (named-root row ps refl nested plan m.0 m.1) (named-first row ps refl nested once plan m.0 m.1)
    (λ k n x at is before. named-step row ps refl nested once plan m.1 k n x at is) (named-past row ps refl nested once plan m.1)

pub plan_over : (table : Table Path) → has_path_name_twice (flat table) ≡ false → has_plan_mismatch (flat table) ≡ false → IsPlanOver (length (flat table).paths) (table_plan (flat table))
plan_over table once h = by_plan table once table.plan h
