-- What is taken of the items of a trace, and when that is enough. Private clauses alone cite this.
use Rattle.std.specs.Prelude.{ℕ, suc, Bool, ◌||◌, ◌&&◌, Option, Some, None, if◌then◌else◌}
use Rattle.sj_base.specs.declared.state.State.{State}
use Rattle.sj_item.specs.Items.{ItemValue}
use Rattle.sj_step.specs.Trace.{Trace, stop, fail, visit, give}
use Rattle.sj_plain_path.specs.Truths.{is_true, is_unknown}
use Rattle.sj_plain_path.specs.Pairings.{beside_truth, ItemTruth}
use Rattle.sj_plain_path.specs.Looks.{Found, nodes_value, more, is_enough}
use Rattle.sj_plain_path.specs.declared.look.Limit.{Limit}
use Rattle.sj_plain_path.specs.declared.take.Aim.{Aim}
use Rattle.sj_plain_path.specs.declared.take.Aim.TheVariants as aims
use Rattle.sj_plain_path.specs.declared.take.Gathered.{Gathered}

pub data Taken : Type 0 where
  -- the items found, up to a limit
  looking : Limit → Found → Taken
  -- an item passes the test, or one has no answer; with the first Bool set, up to the first that passes
  testing : Bool → ItemTruth → Bool → Bool → Taken

abbrev pub taken_value : Aim → Gathered → Taken
taken_value (aims.Look limit) g = looking limit (nodes_value g.nodes)
taken_value (aims.Pairs early beside) g = testing early (beside_truth beside) g.pairing.found g.pairing.doubt

-- one more item
abbrev pub with_item : Taken → ItemValue → Taken
with_item (looking limit f) x = looking limit (more f x)
with_item (testing early test found doubt) x = testing early test (found || is_true (test x)) (doubt || is_unknown (test x))

-- nothing further is to be taken
abbrev pub suffices : Taken → Bool
suffices (looking limit f) = is_enough limit f
suffices (testing early test found doubt) = early && found

-- what is taken of a trace, behind what was taken before, and the fault that is met
abbrev pub taken_of : Taken → Trace → Taken × Option State
taken_of k stop = (k, None)
taken_of k (fail s) = (k, Some s)
taken_of k (visit t) = taken_of k t
taken_of k (give x t) = if suffices (with_item k x) then (with_item k x, None) else taken_of (with_item k x) t

-- the visits that this takes
abbrev pub taking_cost : Taken → Trace → ℕ
taking_cost k stop = 0
taking_cost k (fail s) = 0
taking_cost k (visit t) = suc (taking_cost k t)
taking_cost k (give x t) = if suffices (with_item k x) then 0 else taking_cost (with_item k x) t
