-- A comparison as the traces are gone through: each left item beside all right ones, or up to the first true pair where `early` is
-- set. This defines nothing: it is proved to be what `Comparisons` says.
use Rattle.std.specs.Prelude.{ℕ, suc, ◌+◌, Bool, true, false, ◌||◌, ◌&&◌, if◌then◌else◌}
use Rattle.sj_step.specs.Trace.{Trace, stop, fail, visit, give}
use Rattle.sj_plain_path.specs.Pairings.{pairing_true, pairing_doubt, pairing_cost}
use Rattle.sj_cursor.specs.Comparisons.{PairTruth}

abbrev pub pairings_true : PairTruth → Trace → Trace → Bool
pairings_true pair stop r = false
pairings_true pair (fail s) r = false
pairings_true pair (visit t) r = pairings_true pair t r
pairings_true pair (give x t) r = pairing_true (pair x) r || pairings_true pair t r

-- a fault of the right trace counts where there is a left item
abbrev pub pairings_doubt : PairTruth → Trace → Trace → Bool
pairings_doubt pair stop r = false
pairings_doubt pair (fail s) r = true
pairings_doubt pair (visit t) r = pairings_doubt pair t r
pairings_doubt pair (give x t) r = pairing_doubt (pair x) r || pairings_doubt pair t r

-- the right trace is gone through anew for each left item
abbrev pub pairings_cost : Bool → PairTruth → Trace → Trace → ℕ
pairings_cost early pair stop r = 0
pairings_cost early pair (fail s) r = 0
pairings_cost early pair (visit t) r = suc (pairings_cost early pair t r)
pairings_cost early pair (give x t) r = pairing_cost early (pair x) r + (if early && pairing_true (pair x) r then 0 else pairings_cost early pair t r)
