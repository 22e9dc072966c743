-- How statements see a line, and what they give for it.
use Rattle.std.specs.Prelude.{ℕ, List, Option, None, Some, if◌then◌else◌}
use Rattle.sj_json.specs.Tree.{Tree}
use Rattle.sj_json.specs.UniqueKeys.{has_unique_keys}
use Rattle.sj_value.specs.declared.value.SqlValue.{SqlValue}
use Rattle.sj_table.specs.Series.{Series}
use Rattle.sj_bound.specs.Bound.{Bound}
use Rattle.sj_select_list.specs.Line.{Line, not_json, repeated, json}
use Rattle.sj_select.specs.Rows.{statement_rows, statement_cost}
use Rattle.sj_file.specs.declared.job.Keys.{Keys}
use Rattle.sj_file.specs.declared.job.Keys.TheVariants.{Any, Unique}

-- ---- how statements see a line

-- by its tree, and none where it is not JSON
abbrev pub line_as : Keys → Option Tree → Line
line_as keys None = not_json
line_as Any (Some t) = json t
line_as Unique (Some t) = if has_unique_keys t then json t else repeated t

-- ---- what a statement gives for a line, by names of their own, so that a proof about many lines does not look into how it is found

-- its rows
unfoldable pub rows_given : Bound → Line → Series (List SqlValue)
rows_given s line = statement_rows s line

-- the children that it may hand out of the document of a line
unfoldable pub cost_given : Bound → Line → ℕ
cost_given s line = statement_cost s line
