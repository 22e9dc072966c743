use Rattle.std.proofs.Common.{◌+◌, ◌-◌, ◌≤◌, List, [], ◌∷◌, length, take, drop, arith}
use Rattle.std.proofs.lemmas.List.{take_all}
use Rattle.sj_path_tree.specs.Nodes.{subs_nodes}
use Rattle.sj_path_tree.specs.View.{sub_of, subs_of}
use Rattle.sj_path_tree.specs.declared.tree.Sub.{Sub}
use Rattle.sj_cursor.proofs.Operators.{sub_some}
use Rattle.sj_cursor.proofs.build.+build.Goals as goal

-- the subscripts behind the first one have fewer nodes
fewer_behind : (s : List Sub) → 1 ≤ length s → subs_nodes (subs_of (take (length s - 1) (drop 1 s))) + 1 ≤ subs_nodes (subs_of s)
fewer_behind [] some = absurd (omega arith)
fewer_behind (sub ∷ others) some = rw (take_all (length (sub ∷ others) - 1) others (omega arith)) (omega (arith, sub_some (sub_of sub)))

pub parts_cell-parts_cell-requires : goal.parts_cell-parts_cell-requires
parts_cell-parts_cell-requires t c =
    let some : 1 ≤ length c.args.subs.now = omega arith in
    (omega (arith, fewer_behind c.args.subs.now some), tt)
