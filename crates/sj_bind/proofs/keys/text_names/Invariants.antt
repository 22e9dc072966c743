use Rattle.std.proofs.Common.{◌≡◌, ◌||◌, ℕ, List, drop}
use Rattle.sj_base.specs.Names.{is_among}
use Rattle.sj_bind.specs.Names.{names_of}
use Rattle.sj_bind.specs.FlatView.{columns_at}
use Rattle.sj_bind.specs.Rules.{text_names, columns_alone}
use Rattle.sj_bind.proofs.keys.text_names.Given as goal

-- a name is that of a text column where it is there or is that of one of those left
abbrev pub invariant-loop-column : goal.invariant-loop-column
invariant-loop-column l = (name : List ℕ) → (is_among (names_of l.names) name || is_among (text_names (columns_alone (columns_at (drop l.column-index l.columns)))) name) ≡ is_among (text_names (columns_alone (columns_at l.columns))) name
