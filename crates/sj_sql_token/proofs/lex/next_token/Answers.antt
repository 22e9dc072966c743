use Rattle.std.proofs.Common.{arith}
use Rattle.sj_sql_token.proofs.Pieces.{token_next, passed_next, broken_next, end_next, shorter}
use Rattle.sj_sql_token.proofs.lex.next_token.Goals as goal

pub returns-in_default : goal.returns-in_default
returns-in_default c = end_next c.args.file.now c.loop-first.rest.now c.loop-first.invariant.read c.in_default.ensures.cases

pub returns-in-Token : goal.returns-in-Token
returns-in-Token c = (
  token_next c.args.file.now c.loop-first.rest.now c.in-Some.after.now c.in-Some.first.now c.in-Token.len c.in-Token.token c.loop-first.invariant.read c.in-Some.ensures.cases.0 c.in-Token.ensures.value,
  shorter c.args.file.now c.loop-first.rest.now c.in-Some.after.now c.in-Some.first.now c.in-Token.len c.loop-first.invariant.within c.in-Some.ensures.cases.0,
)

pub loop-first-preserved : goal.loop-first-preserved
loop-first-preserved c =
    let less = shorter c.args.file.now c.loop-first.rest.now c.in-Some.after.now c.in-Some.first.now c.in-Passed.len c.loop-first.invariant.within c.in-Some.ensures.cases.0 in
    record {
      read = passed_next c.args.file.now c.loop-first.rest.now c.in-Some.after.now c.in-Some.first.now c.in-Passed.len c.loop-first.invariant.read c.in-Some.ensures.cases.0 c.in-Passed.ensures.value;
      within = omega (arith, less);
    }

pub returns-in-Broken : goal.returns-in-Broken
returns-in-Broken c = broken_next c.args.file.now c.loop-first.rest.now c.in-Some.after.now c.in-Some.first.now c.loop-first.invariant.read c.in-Some.ensures.cases.0 c.in-Broken.ensures.value
