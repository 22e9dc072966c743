use Rattle.std.proofs.Common.{ap, arith, length}
use Rattle.sj_file.specs.File.{shelf_at}
use Rattle.sj_file.proofs.Loading.{too_long}
use Rattle.sj_file.proofs.file.load_by.Goals as goal

pub returns : goal.returns
returns g c =
    let side = shelf_at g.H.Shelf in
    too_long c.args.name.now (side c.args.shelf.now) (side c.reading.shelf) c.reading.file c.reading.invariant.loading (omega (arith, ap length c.as_slice.ensures, c.reading.invariant.within))
