use Rattle.std.proofs.Common.{◌∙◌}
use Rattle.sj_scan.proofs.Begins.{opened_held, nothing_held}
use Rattle.sj_scan.proofs.recognizer.Recognizer.held.Goals as goal

pub returns-clause-opened : goal.returns-clause-opened
returns-clause-opened c = λ h e begins. c.open_containers.ensures ∙ opened_held h c.args.self.now e begins

pub returns-clause-nothing : goal.returns-clause-nothing
returns-clause-nothing c = λ h e none. c.open_containers.ensures ∙ nothing_held h c.args.self.now e none
