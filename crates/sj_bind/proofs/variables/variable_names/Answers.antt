use Rattle.std.proofs.Common.{rules}
use Rattle.sj_bind.proofs.AddedNames.{variable_moves}
use Rattle.sj_bind.proofs.variables.variable_names.Goals as goal

pub loop-variable-preserved : goal.loop-variable-preserved
loop-variable-preserved c = λ name.
    variable_moves c.loop-variable.names.names.keys c.insert.new.self.keys c.as_str.result c.in-Some.variable.now c.loop-variable.left.now c.in-Some.others.now name _
    c.in_ok-insert.ensures.keys c.as_str.ensures.value (search rules) (c.loop-variable.invariant name)
