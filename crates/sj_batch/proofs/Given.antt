-- What a statement gives for a line, one answer after the other, and the steps that it takes.
use Rattle.std.proofs.Common.{◌≡◌, ℕ, ◌+◌, ◌≤◌, List, arith}
use Rattle.sj_base.specs.Count.{raised}
use Rattle.sj_value.specs.declared.value.SqlValue.{SqlValue}
use Rattle.sj_table.specs.Series.{Series}
use Rattle.sj_table.specs.Takes.{Spends}
use Rattle.sj_bound.specs.Bound.{Bound}
use Rattle.sj_select_list.specs.Line.{Line}
use Rattle.sj_select.specs.Rows.{statement_rows, statement_cost}
use Rattle.sj_batch.specs.Given.{rows_given, cost_given}

-- ---- the rows begin

pub rows_start : (s : Bound) (line : Line) (left : Series (List SqlValue)) → left ≡ statement_rows s line → left ≡ rows_given s line
unfolding rows_given
rows_start s line left is = is

pub costs_start : (s : Bound) (line : Line) (due : ℕ) → due ≡ statement_cost s line → due ≡ cost_given s line
unfolding cost_given
costs_start s line due is = is

-- ---- steps of one answer

pub spent_on : (due due' steps later start whole : ℕ) → Spends due due' steps later → raised steps due ≤ raised start whole → raised later due' ≤ raised start whole
spent_on due due' steps later start whole s all = omega (arith, s.falls, s.costs, all)

pub spent_last : (due due' steps later start whole : ℕ) → Spends due due' steps later → raised steps due ≤ raised start whole → later ≤ raised start whole
spent_last due due' steps later start whole s all = omega (arith, s.falls, s.costs, all)

-- ---- steps of one of several

pub cost_step : (start steps later whole all here left : ℕ) → later ≤ raised steps here → all ≡ here + left → raised steps all ≤ raised start whole → raised later left ≤ raised start whole
cost_step start steps later whole all here left spent is within = omega (arith, spent, is, within)

pub cost_stop : (start steps later whole all here left : ℕ) → later ≤ raised steps here → all ≡ here + left → raised steps all ≤ raised start whole → later ≤ raised start whole
cost_stop start steps later whole all here left spent is within = omega (arith, spent, is, within)
