use Rattle.std.proofs.Common.{◌≡◌, drop}
use Rattle.std.specs.List.{list_all}
use Rattle.sj_base.specs.Names.{is_among}
use Rattle.sj_path_tree.specs.View.{subs_of}
use Rattle.sj_path_tree.specs.Vars as spec
use Rattle.sj_bind.specs.Names.{names_of}
use Rattle.sj_bind.proofs.covered.+covers.Given as goal

abbrev pub invariant-covers_subs-loop-sub : goal.invariant-covers_subs-loop-sub
invariant-covers_subs-loop-sub l = list_all (is_among (names_of l.names)) (spec.subs_names (subs_of (drop l.sub-index l.subs))) ≡ list_all (is_among (names_of l.names)) (spec.subs_names (subs_of l.subs))
