use Rattle.std.proofs.Common.{◌≡◌, drop}
use Rattle.std.specs.List.{list_any}
use Rattle.sj_bind.specs.PartsView.{calls_of}
use Rattle.sj_bind.specs.Rules.{call_lacks_variable}
use Rattle.sj_bind.proofs.calls.some_lacks_variable.Given as goal

-- the functions so far keep the rule
abbrev pub invariant-loop-call : goal.invariant-loop-call
invariant-loop-call l = list_any call_lacks_variable (calls_of (drop l.call-index l.calls)) ≡ list_any call_lacks_variable (calls_of l.calls)
