-- The pairs of what stands beside the items of a trace with each of them, as the trace is gone through: all of them, or those up to
-- the first true one where `early` is set. Private clauses of crates above alone cite this.
use Rattle.std.specs.Prelude.{◌≡◌, ◌≤◌, ℕ, suc, Bool, true, false, ◌||◌, ◌&&◌, if◌then◌else◌}
use Rattle.sj_base.specs.Count.{raised}
use Rattle.sj_item.specs.Items.{ItemValue, item_value}
use Rattle.sj_item.specs.Pairs.{items_compare, item_starts_with}
use Rattle.sj_item.specs.Truths.{truth_of}
use Rattle.sj_item.specs.declared.truth.Truth.{Truth}
use Rattle.sj_item.specs.declared.truth.Truth.TheVariants.{True, Unknown}
use Rattle.sj_step.specs.Trace.{Trace, stop, fail, visit, give}
use Rattle.sj_plain_path.specs.Truths.{is_true, is_unknown}
use Rattle.sj_plain_path.specs.declared.pairing.Beside.{Beside}
use Rattle.sj_plain_path.specs.declared.pairing.Beside.TheVariants as besides

-- what stands beside an item: its truth in a pair
abbrev pub ItemTruth : Type 0
ItemTruth = ItemValue → Truth

abbrev pub beside_truth : Beside → ItemTruth
beside_truth (besides.Left op x) = items_compare op (item_value x.now)
beside_truth (besides.Right op y) = λ x. items_compare op x (item_value y.now)
beside_truth (besides.Initial i) = λ x. item_starts_with x (item_value i.now)

-- an item of the trace passes the test
abbrev pub pairing_true : ItemTruth → Trace → Bool
pairing_true test stop = false
pairing_true test (fail s) = false
pairing_true test (visit t) = pairing_true test t
pairing_true test (give y t) = is_true (test y) || pairing_true test t

-- the test of an item has no answer, or the trace ends in a fault
abbrev pub pairing_doubt : ItemTruth → Trace → Bool
pairing_doubt test stop = false
pairing_doubt test (fail s) = true
pairing_doubt test (visit t) = pairing_doubt test t
pairing_doubt test (give y t) = is_unknown (test y) || pairing_doubt test t

-- the visits of going through the trace
abbrev pub pairing_cost : Bool → ItemTruth → Trace → ℕ
pairing_cost early test stop = 0
pairing_cost early test (fail s) = 0
pairing_cost early test (visit t) = suc (pairing_cost early test t)
pairing_cost early test (give y t) = if early && is_true (test y) then 0 else pairing_cost early test t

-- the truth where a true pair was found or not, and a doubt
abbrev pub decided_truth : Bool → Bool → Truth
decided_truth found doubt = if doubt then Unknown else truth_of found

-- the same, where a true pair decides before a doubt
abbrev pub pairing_truth : Bool → Bool → Bool → Truth
pairing_truth early found doubt = if early && found then True else decided_truth found doubt

-- All items of a trace were seen, or those up to the first one that passes the test where `early` is set: there is such a one, or
-- there is a doubt.
pub record PairingSeen (early : Bool) (test : ItemTruth) (t : Trace) (found doubt : Bool) (steps later : ℕ) : Type 0 where
  pub finds : found ≡ pairing_true test t
  pub doubts : early && found ≡ false → doubt ≡ pairing_doubt test t
  pub costs : later ≤ raised steps (pairing_cost early test t)
