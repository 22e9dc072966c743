use Rattle.std.proofs.Common.{[], drop}
use Rattle.sj_path_tree.specs.View.{subs_of}
use Rattle.sj_text.proofs.Appends.{Appending}
use Rattle.sj_path_text.specs.Text as spec
use Rattle.sj_path_text.proofs.print.+text.Given as goal

-- the text has come up to the parts that are left
abbrev pub invariant-subs_text-loop-sub : goal.invariant-subs_text-loop-sub
invariant-subs_text-loop-sub l = Appending l.initial.out (spec.subs_text [] (subs_of l.subs)) l.out (spec.subs_text l.lead (subs_of (drop l.sub-index l.subs)))
