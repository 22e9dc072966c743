use Rattle.std.proofs.Common.{◌≡◌, drop}
use Rattle.sj_path_grammar.specs.Misplaced.{misplaced_subs}
use Rattle.sj_path_tree.specs.View.{subs_of}
use Rattle.sj_path.proofs.check.+misplaced.Given as goal

abbrev pub invariant-misplaced_subs-loop-sub : goal.invariant-misplaced_subs-loop-sub
invariant-misplaced_subs-loop-sub l = misplaced_subs (subs_of (drop l.sub-index l.subs)) l.filtered ≡ misplaced_subs (subs_of l.subs) l.filtered
