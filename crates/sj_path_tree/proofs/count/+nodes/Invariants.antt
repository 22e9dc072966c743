use Rattle.std.proofs.Common.{◌≡◌, ◌+◌, ◌^◌, ◌<◌, drop}
use Rattle.std.specs.Io.Iter.{u64_saturate}
use Rattle.sj_path_tree.specs.Nodes as spec
use Rattle.sj_path_tree.specs.View.{subs_of}
use Rattle.sj_path_tree.proofs.count.+nodes.Given as goal

abbrev pub invariant-subs_nodes-loop-sub : goal.invariant-subs_nodes-loop-sub
invariant-subs_nodes-loop-sub l = (l.count < 2 ^ 64) × (u64_saturate (l.count + spec.subs_nodes (subs_of (drop l.sub-index l.subs))) ≡ u64_saturate (spec.subs_nodes (subs_of l.subs)))
