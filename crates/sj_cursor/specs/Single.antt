-- The one item of a trace, where a single one is asked for.
use Rattle.std.specs.Prelude.{ℕ, nat_le, List, [], ◌∷◌, Option, Some, None, if◌then◌else◌}
use Rattle.sj_base.specs.declared.state.State.{State}
use Rattle.sj_path_tree.specs.declared.parts.Mode.{Mode}
use Rattle.sj_path_tree.specs.declared.parts.Mode.TheVariants.{Lax, Strict}
use Rattle.sj_item.specs.Items.{ItemValue}
use Rattle.sj_step.specs.Trace.{Trace, items, count, visits, visits_before, fault_of}

-- the visits of asking a trace for k items: in strict mode it is asked to its end, since a fault anywhere counts
abbrev pub need : Mode → ℕ → Trace → ℕ
need Lax k t = visits_before k t
need Strict k t = visits t

pub data Single : Type 0 where
  bad : State → Single
  zero_items : Single
  one_item : ItemValue → Single

-- where there are several items it is the state s
abbrev pub of_items : State → List ItemValue → Single
of_items s [] = zero_items
of_items s (x ∷ []) = one_item x
of_items s (x ∷ y ∷ ys) = bad s

abbrev pub unless_fault : Option State → Single → Single
unless_fault None answer = answer
unless_fault (Some f) answer = bad f

-- in lax mode a second item decides before a fault, and in strict mode a fault decides first
abbrev pub single : Mode → State → Trace → Single
single Lax s t = if nat_le 2 (count t) then bad s else unless_fault (fault_of t) (of_items s (items t))
single Strict s t = unless_fault (fault_of t) (of_items s (items t))
