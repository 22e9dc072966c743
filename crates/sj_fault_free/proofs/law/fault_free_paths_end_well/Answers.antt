use Rattle.sj_fault_free.proofs.WithoutFaults.{path_well}
use Rattle.sj_fault_free.proofs.law.fault_free_paths_end_well.Goals as goal

pub returns : goal.returns
returns c = path_well
