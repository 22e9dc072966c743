use Rattle.std.proofs.Common.{subst, sym, ◌∙◌}
use Rattle.sj_path_tree.specs.View.{path_of}
use Rattle.sj_bound.specs.Sound.{IsSound}
use Rattle.sj_scan_statement.proofs.Sound.{sound}
use Rattle.sj_scan_statement.proofs.statement.scan_statement.Goals as goal

pub returns-in-Ok-items_of-clause-sound : goal.returns-in-Ok-items_of-clause-sound
returns-in-Ok-items_of-clause-sound c =
    subst IsSound (sym c.in-Ok-items_of.ensures) (sound (path_of c.in-Ok.path) (sym c.forward.ensures ∙ c.if-not-forward.false))
