-- The number of a status.
use Rattle.std.specs.Prelude.{ℕ}
use Rattle.sj_file.specs.declared.status.Status.{Status}
use Rattle.sj_file.specs.declared.status.Status.TheVariants.{Done, Usage, Refused, ShelfFault, ReadFault, WriteFault, Memory, InputLimit, FileTooLong}

abbrev pub number_of : Status → ℕ
number_of Done = 0
number_of Usage = 1
number_of (Refused k kind) = 2
number_of ShelfFault = 3
number_of ReadFault = 4
number_of WriteFault = 5
number_of Memory = 6
number_of InputLimit = 7
number_of FileTooLong = 8
