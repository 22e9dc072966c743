use Rattle.std.proofs.Common.{◌≡◌, length, map}
use Rattle.std.specs.Str.{bytes_eq}
use Rattle.sj_base.specs.Words.{first_like}
use Rattle.sj_path_token.specs.declared.keyword.Keyword.TheVariants as w
use Rattle.sj_path_token.proofs.word.keyword_in.Given as goal

-- the rows that are left give what the whole table gives
abbrev pub invariant-loop-table : goal.invariant-loop-table
invariant-loop-table l =
    first_like bytes_eq w.Other (map (λ row. (row.0.now, row.1)) l.table) l.word
    ≡ first_like bytes_eq w.Other (map (λ row. (row.0.now, row.1)) l.initial.table) l.word

abbrev pub decreases-loop-table : goal.decreases-loop-table
decreases-loop-table l = length l.table
