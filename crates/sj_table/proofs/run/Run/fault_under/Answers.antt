use Rattle.std.proofs.Common.{sym}
use Rattle.sj_fault_free.proofs.WithoutFaults.{path_well}
use Rattle.sj_table.proofs.run.Run.fault_under.Goals as goal

pub returns-in-Never-clause-fault : goal.returns-in-Never-clause-fault
returns-in-Never-clause-fault c = sym (path_well _ _ _ (c.args.self.now.never c.in-Never.is))
