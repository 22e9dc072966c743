use Rattle.std.proofs.Common.{◌≡◌, length, map}
use Rattle.sj_base.specs.Words.{first_like}
use Rattle.sj_sql_token.specs.declared.keyword.Keyword.TheVariants as w
use Rattle.sj_sql_token.specs.Keywords.{is_spelt}
use Rattle.sj_sql_token.proofs.word.keyword_in.Given as goal

-- the rows that are left give what the whole table gives
abbrev pub invariant-loop-table : goal.invariant-loop-table
invariant-loop-table l =
    first_like is_spelt w.Other (map (λ row. (row.0.now, row.1)) l.table) l.word
    ≡ first_like is_spelt w.Other (map (λ row. (row.0.now, row.1)) l.initial.table) l.word

abbrev pub decreases-loop-table : goal.decreases-loop-table
decreases-loop-table l = length l.table
