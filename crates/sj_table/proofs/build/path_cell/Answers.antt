use Rattle.std.proofs.Common.{refl}
use Rattle.std.proofs.lemmas.Option.{slice_get_read}
use Rattle.sj_table.proofs.Sources.{source_kept}
use Rattle.sj_table.proofs.build.path_cell.Goals as goal

pub returns : goal.returns
returns c =
    source_kept c.args.paths.now _ _ _ _ _ (slice_get_read c.args.paths.now _ _ _ refl c.requires c.index-paths-number.is)
    c.in_ok-new.ensures.path c.in_ok-new.ensures.vars
