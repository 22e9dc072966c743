-- How the logic stores a trace: its marks in order, and the fault that it ends in.
use Rattle.std.specs.Prelude.{◌≡◌, List, [], ◌∷◌, Option, Some, None, refl}
use Rattle.std.proofs.Common.{ap}
use Rattle.std.specs.Coded.{Coded, code_by, coded×, coded_list, coded_option}
use Rattle.sj_base.specs.declared.state.State.{State}
use Rattle.sj_base.specs.contracts.state.State as state
use Rattle.sj_item.specs.Items.{ItemValue}
use Rattle.sj_item.specs.Coding.{item_code}
use Rattle.sj_step.specs.Trace.{Trace, stop, fail, visit, give, fault_of}

-- a visit, or an item
abbrev pub Mark : Type 0
Mark = Option ItemValue

abbrev pub marks : Trace → List Mark
marks stop = []
marks (fail s) = []
marks (visit t) = None ∷ marks t
marks (give x t) = Some x ∷ marks t

abbrev pub end_trace : Option State → Trace
end_trace None = stop
end_trace (Some s) = fail s

abbrev pub marked : Mark → Trace → Trace
marked None t = visit t
marked (Some x) t = give x t

abbrev pub trace_from : List Mark → Option State → Trace
trace_from [] end = end_trace end
trace_from (m ∷ ms) end = marked m (trace_from ms end)

pub trace_from-marks : (t : Trace) → trace_from (marks t) (fault_of t) ≡ t
trace_from-marks stop = refl
trace_from-marks (fail s) = refl
trace_from-marks (visit t) = ap visit (trace_from-marks t)
trace_from-marks (give x t) = ap (give x) (trace_from-marks t)

abbrev pub trace_code : Coded Trace
trace_code =
    code_by (List Mark × Option State) (coded× (coded_list (coded_option item_code)) (coded_option state.the_row.coded))
    (λ t. (marks t, fault_of t)) (λ p. trace_from p.0 p.1) trace_from-marks
