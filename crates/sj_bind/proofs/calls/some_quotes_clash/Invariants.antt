use Rattle.std.proofs.Common.{◌≡◌, drop}
use Rattle.std.specs.List.{list_any}
use Rattle.sj_bind.specs.PartsView.{calls_of}
use Rattle.sj_bind.specs.Rules.{call_quotes_clash}
use Rattle.sj_bind.proofs.calls.some_quotes_clash.Given as goal

-- the functions so far keep the rule
abbrev pub invariant-loop-call : goal.invariant-loop-call
invariant-loop-call l = list_any call_quotes_clash (calls_of (drop l.call-index l.calls)) ≡ list_any call_quotes_clash (calls_of l.calls)
