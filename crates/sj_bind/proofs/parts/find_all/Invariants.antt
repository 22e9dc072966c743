use Rattle.std.proofs.Common.{◌≡◌, ◌++◌, drop}
use Rattle.sj_sql_tree.specs.View.{plain_of}
use Rattle.sj_bind.specs.Parts.{calls_in_list, keys_in_list}
use Rattle.sj_bind.specs.PartsView.{calls_of, keys_of}
use Rattle.sj_bind.proofs.parts.find_all.Given as goal

-- what is found, and what stands in the values that are left
abbrev pub invariant-loop-value : goal.invariant-loop-value
invariant-loop-value l = record {
  calls : calls_of l.parts.calls.items ++ calls_in_list (plain_of (drop l.value-index l.values)) ≡ calls_in_list (plain_of l.values);
  keys : keys_of l.parts.keys.items ++ keys_in_list (plain_of (drop l.value-index l.values)) ≡ keys_in_list (plain_of l.values);
}
