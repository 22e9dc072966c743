-- what is left to give up is no deeper than what there was
use Rattle.std.proofs.Common.{◌≤◌}
use Rattle.sj_cursor.specs.declared.cells.Cell.{size-Cell}
use Rattle.sj_cursor.specs.declared.cells.Parts.{size-Parts}
use Rattle.sj_cursor.specs.declared.cells.Test.{size-Test}
use Rattle.sj_cursor.proofs.cells.+cells.Given as goal

abbrev pub invariant-Cell::drop-loop-self : goal.invariant-Cell::drop-loop-self
invariant-Cell::drop-loop-self l = size-Cell l.self ≤ size-Cell l.fn.self

abbrev pub invariant-Parts::drop-loop-self : goal.invariant-Parts::drop-loop-self
invariant-Parts::drop-loop-self l = size-Parts l.self ≤ size-Parts l.fn.self

abbrev pub invariant-Test::drop-loop-self : goal.invariant-Test::drop-loop-self
invariant-Test::drop-loop-self l = size-Test l.self ≤ size-Test l.fn.self
