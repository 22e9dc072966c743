use Rattle.std.proofs.Common.{Err, sym, ap, ◌∙◌, length}
use Rattle.std.proofs.lemmas.Result.{err_from_is_err_and}
use Rattle.sj_path_token.proofs.Boundaries.{first_boundary, token_boundary, blank_ascii}
use Rattle.sj_path_token.proofs.TokenTurns.{blank_turn, token_turn, no_token, no_token_error, at_end, all_done, tokens_found, tokens_missed}
use Rattle.sj_path_token.proofs.lex.tokens_of.Goals as goal

pub returns-in_default-clause-tokens : goal.returns-in_default-clause-tokens
returns-in_default-clause-tokens c =
    tokens_found c.args.text.now c.loop-turn.tokens.items
    (at_end c.loop-turn.tokens.items _ c.loop-turn.rest.now c.loop-turn.invariant.reads (ap length (sym c.as_bytes-bytes.ensures.value) ∙ c.in_default.ensures.cases))

pub range_from-rest-requires : goal.range_from-rest-requires
range_from-rest-requires c =
    let split = sym c.as_bytes-bytes.ensures.value ∙ c.in-Some.ensures.cases.0 in
    λ _. first_boundary c.loop-turn.rest.now c.in-Some.after.now c.in-Some.first.now c.loop-turn.invariant.text split (blank_ascii c.in-Some.first.now (sym c.is_blank.ensures ∙ c.if-is_blank.true))

pub loop-turn-preserved-then-is_blank : goal.loop-turn-preserved-then-is_blank
loop-turn-preserved-then-is_blank c =
    let split = sym c.as_bytes-bytes.ensures.value ∙ c.in-Some.ensures.cases.0 in
    record {
      reads = blank_turn c.loop-turn.tokens.items _ c.loop-turn._turn c.in-Some.first.now c.loop-turn.rest.now c.in-Some.after.now c.range_from-rest.result.now c.loop-turn-test.true c.loop-turn.invariant.reads
          split (sym c.is_blank.ensures ∙ c.if-is_blank.true) c.range_from-rest.ensures.value;
      text = c.range_from-rest.utf8;
    }

pub returns-in_err-token-clause-lex : goal.returns-in_err-token-clause-lex
returns-in_err-token-clause-lex c =
    let split = sym c.as_bytes-bytes.ensures.value ∙ c.in-Some.ensures.cases.0 in
    let p = err_from_is_err_and c.from_residual.result c.from_residual.ensures.1 in
    λ lex. tokens_missed c.args.text.now
    (no_token c.loop-turn.tokens.items _ c.loop-turn._turn c.in-Some.first.now c.loop-turn.rest.now c.in-Some.after.now c.loop-turn-test.true c.loop-turn.invariant.reads
    split (sym c.is_blank.ensures ∙ c.if-is_blank.false) (no_token_error c.in_err-token.field-0.0 _ c.from_residual.result (p.1 ∙ ap Err p.2) c.in_err-token.ensures lex))

pub range_from-rest-requires-in-loop-turn : goal.range_from-rest-requires-in-loop-turn
range_from-rest-requires-in-loop-turn c =
    let split = sym c.as_bytes-bytes.ensures.value ∙ c.in-Some.ensures.cases.0 in
    λ _. token_boundary c.loop-turn.rest.now c.in-Some.after.now c.in-Some.first.now c.in_ok-token.len c.in_ok-token.token c.loop-turn.invariant.text split c.in_ok-token.ensures

pub loop-turn-preserved : goal.loop-turn-preserved
loop-turn-preserved c =
    let split = sym c.as_bytes-bytes.ensures.value ∙ c.in-Some.ensures.cases.0 in
    record {
      reads = rw c.in_ok-put.ensures (token_turn c.loop-turn.tokens.items _ c.loop-turn._turn c.in-Some.first.now c.in_ok-token.len c.loop-turn.rest.now c.in-Some.after.now c.range_from-rest-in-loop-turn.result.now c.in_ok-token.token
          c.loop-turn-test.true c.loop-turn.invariant.reads split (sym c.is_blank.ensures ∙ c.if-is_blank.false) c.in_ok-token.ensures c.range_from-rest-in-loop-turn.ensures.value);
      text = c.range_from-rest-in-loop-turn.utf8;
    }

pub returns-clause-tokens : goal.returns-clause-tokens
returns-clause-tokens c =
    tokens_found c.args.text.now c.loop-turn.tokens.items (all_done c.loop-turn.tokens.items _ c.loop-turn._turn c.loop-turn.rest.now c.loop-turn-test.false c.loop-turn.invariant.reads)
