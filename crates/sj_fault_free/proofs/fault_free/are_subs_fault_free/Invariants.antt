use Rattle.std.proofs.Common.{◌≡◌, drop}
use Rattle.sj_path_tree.specs.View.{subs_of}
use Rattle.sj_fault_free.specs.FaultFree.{subs_fault_free}
use Rattle.sj_fault_free.proofs.fault_free.are_subs_fault_free.Given as goal

abbrev pub invariant-loop-sub : goal.invariant-loop-sub
invariant-loop-sub l = subs_fault_free (subs_of (drop l.sub-index l.subs)) ≡ subs_fault_free (subs_of l.subs)
