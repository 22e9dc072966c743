use Rattle.sj_path_tree.specs.View.{path_of}
use Rattle.sj_sql.specs.Noted.{faults_of}
use Rattle.sj_sql.proofs.Texts.{accepted_text, refused_text}
use Rattle.sj_sql.proofs.path.path_of_text.Goals as goal

pub returns-in-Ok : goal.returns-in-Ok
returns-in-Ok c = accepted_text c.args.text.now (path_of c.in-Ok.path) (faults_of c.args.faults) c.in-Ok.ensures.path

pub returns-in_ok-faults-in-Err : goal.returns-in_ok-faults-in-Err
returns-in_ok-faults-in-Err c =
    refused_text c.args.text.now c.in-Err.refusal (faults_of c.args.faults) (faults_of c.in_ok-faults-in-Err.faults) c.in_ok-faults-in-Err.ensures.memory c.in-Err.ensures.refusal c.in_ok-faults-in-Err.ensures.noted
