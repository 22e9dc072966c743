use Rattle.std.proofs.Common.{◌≡◌, suc, ◌-◌, ap, arith}
use Rattle.sj_sql_grammar.specs.Faults.{parsing}
use Rattle.sj_sql_grammar.specs.Reading.{value_at}
use Rattle.sj_sql.specs.Noted.{faults_of}
use Rattle.sj_sql.specs.Sources.{source_of}
use Rattle.sj_sql.proofs.value.+list_value.Goals as goal

pub returns-then-depth-eq0 : goal.returns-then-depth-eq0
unfolding value_at
returns-then-depth-eq0 t c = let none : c.args.depth ≡ 0 = omega arith in ap (λ n. value_at parsing (source_of c.args.source) n (faults_of c.args.faults) c.args.tokens.now) none

pub returns : goal.returns
unfolding value_at
returns t c =
    let one : c.args.depth ≡ suc (c.args.depth - 1) = omega arith in
    rw (ap (λ n. value_at parsing (source_of c.args.source) n (faults_of c.args.faults) c.args.tokens.now) one) c.over.ensures
