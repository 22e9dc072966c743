-- THE ROWS OF A LINE THAT ARE GATHERED, and the state that ends them.
use Rattle.std.specs.Prelude.{ℕ, List, flat_map, if◌then◌else◌, Option, None, Some}
use Rattle.std.specs.List.{list_all}
use Rattle.sj_base.specs.declared.state.State.TheVariants.{S22004}
use Rattle.sj_rows.specs.Lines.{is_blank_byte}
use Rattle.sj_json.specs.Document.{document}
use Rattle.sj_table.specs.Series.{Series, done, raises, more, elements}
use Rattle.sj_bound.specs.Bound.{Bound}
use Rattle.sj_group.specs.declared.aggregate.Aggregate.{Aggregate}
use Rattle.sj_group.specs.Grouping.{Row, takes}
use Rattle.sj_file.specs.declared.job.Keys.TheVariants.{Any}
use Rattle.sj_batch.specs.Given.{line_as, rows_given}

-- Rows up to the first that cannot be gathered, since the name of its member is NULL. That one raises 22004, whatever would come behind it.
abbrev pub kept : Aggregate → Series Row → Series Row
kept aggregate done = done
kept aggregate (raises s) = raises s
kept aggregate (more row rows) = if takes aggregate row then more row (kept aggregate rows) else raises S22004

-- of a line as it is seen: none of a blank line, and one that is too long is not JSON
abbrev pub line_kept : Aggregate → Bound → Option (List ℕ) → Series Row
line_kept aggregate s None = kept aggregate (rows_given s (line_as Any None))
line_kept aggregate s (Some line) = if list_all is_blank_byte line then done else kept aggregate (rows_given s (line_as Any (document line)))

-- of all these lines, in their order
abbrev pub rows_kept : Aggregate → Bound → List (Option (List ℕ)) → List Row
rows_kept aggregate s lines = flat_map (λ line. elements (line_kept aggregate s line)) lines
