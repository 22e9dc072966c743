use Rattle.sj_stream.proofs.Streaming.{no_memory}
use Rattle.sj_run.proofs.stream.stream.Goals as goal

pub returns-in_default : goal.returns-in_default
returns-in_default g c = no_memory _ _ _ _
