-- Traces: what evaluating a path hands out and gives, in order, and how that ends.
use Rattle.std.specs.Prelude.{ℕ, zero, suc, List, [], ◌∷◌, Option, Some, None}
use Rattle.sj_base.specs.declared.state.State.{State}
use Rattle.sj_item.specs.Items.{ItemValue, PullValue, gives, ends, faults}

pub data Trace : Type 0 where
  -- there is nothing more
  stop : Trace
  -- it ends here, in this state
  fail : State → Trace
  -- a child of a node is handed out, and then the rest
  visit : Trace → Trace
  -- an item is given, and then the rest
  give : ItemValue → Trace → Trace

-- one item, and no visit
abbrev pub only : ItemValue → Trace
only x = give x stop

-- n visits, and then t
abbrev pub after_visits : ℕ → Trace → Trace
after_visits zero t = t
after_visits (suc n) t = visit (after_visits n t)

-- t, and then u where t ends well
abbrev pub join : Trace → Trace → Trace
join stop u = u
join (fail s) u = fail s
join (visit t) u = visit (join t u)
join (give x t) u = give x (join t u)

-- each item of t replaced by what g makes of it, up to the first fault
abbrev pub each : Trace → (ItemValue → Trace) → Trace
each stop g = stop
each (fail s) g = fail s
each (visit t) g = visit (each t g)
each (give x t) g = join (g x) (each t g)

-- ---- what a trace has

-- its items in order
abbrev pub items : Trace → List ItemValue
items stop = []
items (fail s) = []
items (visit t) = items t
items (give x t) = x ∷ items t

-- the number of its items
abbrev pub count : Trace → ℕ
count stop = 0
count (fail s) = 0
count (visit t) = count t
count (give x t) = suc (count t)

-- the number of its visits
abbrev pub visits : Trace → ℕ
visits stop = 0
visits (fail s) = 0
visits (visit t) = suc (visits t)
visits (give x t) = visits t

-- the fault that it ends in, none where it ends well
abbrev pub fault_of : Trace → Option State
fault_of stop = None
fault_of (fail s) = Some s
fault_of (visit t) = fault_of t
fault_of (give x t) = fault_of t

-- the visits before the item number k, counted from 1, and all visits where there are fewer items
abbrev pub visits_before : ℕ → Trace → ℕ
visits_before zero t = 0
visits_before (suc k) stop = 0
visits_before (suc k) (fail s) = 0
visits_before (suc k) (visit t) = suc (visits_before (suc k) t)
visits_before (suc k) (give x t) = visits_before k t

-- ---- a trace that is taken item by item

-- the first item, or the end where there is none
abbrev pub first : Trace → PullValue
first stop = ends
first (fail s) = faults s
first (visit t) = first t
first (give x t) = gives x

-- what is left behind the first item, and the end alone where there is none
abbrev pub rest : Trace → Trace
rest stop = stop
rest (fail s) = fail s
rest (visit t) = rest t
rest (give x t) = t

-- the visits before the first item or the end
abbrev pub visits_to_first : Trace → ℕ
visits_to_first stop = 0
visits_to_first (fail s) = 0
visits_to_first (visit t) = suc (visits_to_first t)
visits_to_first (give x t) = 0
