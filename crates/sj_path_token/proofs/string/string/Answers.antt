use Rattle.std.proofs.Common.{◌≡◌, ◌+◌, sym, ap, ◌∙◌, arith, length, take, drop, ◌++◌, length-drop, string_bytes, encode_utf8, rules}
use Rattle.sj_base.specs.ByteClasses.{is_plain}
use Rattle.std.specs.List.{prefix_len}
use Rattle.sj_path_token.proofs.Boundaries.{plain_boundary, escape_end, escape_boundary}
use Rattle.sj_path_token.proofs.StringTurns.{slice_from, string_ends, string_goes_on, string_no_escape, string_no_mark, string_no_end, string_no_turn}
use Rattle.sj_path_token.proofs.string.string.Goals as goal

pub returns-in_default : goal.returns-in_default
returns-in_default c =
    let same = c.as_bytes-bytes.ensures.value in
    let run_is : c.plain_len-len.result ≡ prefix_len is_plain c.loop-turn.rest.now = c.plain_len-len.ensures.value ∙ ap (prefix_len is_plain) same in
    string_no_end _ c.loop-turn._turn c.loop-turn.rest.now _ c.loop-turn.at c.plain_len-len.result c.loop-turn-test.true c.loop-turn.invariant.reads run_is
    (sym (ap (λ x. length (drop c.plain_len-len.result x)) same) ∙ ap length (sym (slice_from c.as_bytes-bytes.result.now c.plain_len-len.result)) ∙ c.in_default.ensures.cases)

pub range-requires-clause-end_boundary : goal.range-requires-clause-end_boundary
range-requires-clause-end_boundary c =
    plain_boundary c.loop-turn.rest.now c.plain_len-len.result (c.plain_len-len.ensures.value ∙ ap (prefix_len is_plain) c.as_bytes-bytes.ensures.value)

pub returns-then-mark-eq34 : goal.returns-then-mark-eq34
returns-then-mark-eq34 c =
    let same = c.as_bytes-bytes.ensures.value in
    let run_is : c.plain_len-len.result ≡ prefix_len is_plain c.loop-turn.rest.now = c.plain_len-len.ensures.value ∙ ap (prefix_len is_plain) same in
    let split = sym (ap (drop c.plain_len-len.result) same) ∙ sym (slice_from c.as_bytes-bytes.result.now c.plain_len-len.result) ∙ c.in-Some.ensures.cases.0 in
    let piece : c.range.result.now ≡ take c.plain_len-len.result c.loop-turn.rest.now = search rules in
    let value : c.from_string.result ≡ string_bytes c.loop-turn.value ++ take c.plain_len-len.result c.loop-turn.rest.now =
    c.from_string.ensures ∙ c.in_ok-push_str.ensures.bytes ∙ ap (λ x. string_bytes c.loop-turn.value ++ x) piece in
    rw value (string_ends _ c.loop-turn._turn c.loop-turn.rest.now (string_bytes c.loop-turn.value) c.in-Some.after.now c.loop-turn.at c.plain_len-len.result c.in-Some.mark.now c.loop-turn-test.true c.loop-turn.invariant.reads run_is
    split c.if-mark-eq34.true)

pub returns-then-mark-ne92 : goal.returns-then-mark-ne92
returns-then-mark-ne92 c =
    let same = c.as_bytes-bytes.ensures.value in
    let run_is : c.plain_len-len.result ≡ prefix_len is_plain c.loop-turn.rest.now = c.plain_len-len.ensures.value ∙ ap (prefix_len is_plain) same in
    let split = sym (ap (drop c.plain_len-len.result) same) ∙ sym (slice_from c.as_bytes-bytes.result.now c.plain_len-len.result) ∙ c.in-Some.ensures.cases.0 in
    string_no_mark _ c.loop-turn._turn c.loop-turn.rest.now _ c.in-Some.after.now c.loop-turn.at c.plain_len-len.result c.in-Some.mark.now c.loop-turn-test.true c.loop-turn.invariant.reads run_is
    split c.if-mark-eq34.false c.if-mark-ne92.true

pub returns-in_default-escape : goal.returns-in_default-escape
returns-in_default-escape c =
    let same = c.as_bytes-bytes.ensures.value in
    let run_is : c.plain_len-len.result ≡ prefix_len is_plain c.loop-turn.rest.now = c.plain_len-len.ensures.value ∙ ap (prefix_len is_plain) same in
    let split = sym (ap (drop c.plain_len-len.result) same) ∙ sym (slice_from c.as_bytes-bytes.result.now c.plain_len-len.result) ∙ c.in-Some.ensures.cases.0 in
    string_no_escape _ c.loop-turn._turn c.loop-turn.rest.now _ c.in-Some.after.now c.loop-turn.at c.plain_len-len.result c.in-Some.mark.now c.loop-turn-test.true c.loop-turn.invariant.reads run_is
    split c.if-mark-ne92.false (sym c.in_default-escape.ensures)

pub overflow_add-escaped : goal.overflow_add-escaped
overflow_add-escaped c =
    let e = escape_end c.in-Some.after.now c.in-Some-escape.c c.in-Some-escape.escaped (sym c.in-Some-escape.ensures) in
    let n = ap length (sym (slice_from c.as_bytes-bytes.result.now c.plain_len-len.result) ∙ c.in-Some.ensures.cases.0) in
    let len = c.as_bytes-bytes.ensures.len in
    omega (arith, e.within, n, length-drop c.plain_len-len.result c.as_bytes-bytes.result.now, len)

pub overflow_add-len : goal.overflow_add-len
overflow_add-len c =
    let e = escape_end c.in-Some.after.now c.in-Some-escape.c c.in-Some-escape.escaped (sym c.in-Some-escape.ensures) in
    let n = ap length (sym (slice_from c.as_bytes-bytes.result.now c.plain_len-len.result) ∙ c.in-Some.ensures.cases.0) in
    let len = c.as_bytes-bytes.ensures.len in
    omega (arith, e.within, n, length-drop c.plain_len-len.result c.as_bytes-bytes.result.now, len)

pub range_from-rest-requires : goal.range_from-rest-requires
range_from-rest-requires c =
    let split = sym (ap (drop c.plain_len-len.result) c.as_bytes-bytes.ensures.value) ∙ sym (slice_from c.as_bytes-bytes.result.now c.plain_len-len.result) ∙ c.in-Some.ensures.cases.0 in
    λ _. escape_boundary c.loop-turn.rest.now c.in-Some.after.now c.plain_len-len.result c.in-Some.mark.now c.in-Some-escape.c c.in-Some-escape.escaped c.loop-turn.invariant.text split (sym c.in-Some-escape.ensures)

pub loop-turn-preserved : goal.loop-turn-preserved
loop-turn-preserved c =
    let same = c.as_bytes-bytes.ensures.value in
    let run_is : c.plain_len-len.result ≡ prefix_len is_plain c.loop-turn.rest.now = c.plain_len-len.ensures.value ∙ ap (prefix_len is_plain) same in
    let split = sym (ap (drop c.plain_len-len.result) same) ∙ sym (slice_from c.as_bytes-bytes.result.now c.plain_len-len.result) ∙ c.in-Some.ensures.cases.0 in
    let piece : c.range.result.now ≡ take c.plain_len-len.result c.loop-turn.rest.now = search rules in
    let value : string_bytes c.push.new.self ≡ (string_bytes c.loop-turn.value ++ take c.plain_len-len.result c.loop-turn.rest.now) ++ encode_utf8 c.in-Some-escape.c =
    c.in_ok-push.ensures.bytes ∙ ap (λ x. x ++ encode_utf8 c.in-Some-escape.c) (c.in_ok-push_str.ensures.bytes ∙ ap (λ x. string_bytes c.loop-turn.value ++ x) piece) in
    let rest : c.range_from-rest.result.now ≡ drop (c.plain_len-len.result + (1 + c.in-Some-escape.escaped)) c.loop-turn.rest.now =
    c.range_from-rest.ensures.value in
    let e = escape_end c.in-Some.after.now c.in-Some-escape.c c.in-Some-escape.escaped (sym c.in-Some-escape.ensures) in
    record {
      reads = rw (value, rest) (string_goes_on _ c.loop-turn._turn c.loop-turn.rest.now (string_bytes c.loop-turn.value) c.in-Some.after.now c.loop-turn.at c.plain_len-len.result c.in-Some.mark.now c.in-Some-escape.c c.in-Some-escape.escaped
          c.loop-turn-test.true c.loop-turn.invariant.reads run_is split c.if-mark-ne92.false (sym c.in-Some-escape.ensures));
      within = omega (arith, ap length rest, length-drop (c.plain_len-len.result + (1 + c.in-Some-escape.escaped)) c.loop-turn.rest.now, e.within, ap length split, length-drop c.plain_len-len.result c.loop-turn.rest.now, c.loop-turn.invariant.within);
      text = c.range_from-rest.utf8;
    }

pub returns : goal.returns
returns c = string_no_turn _ c.loop-turn._turn c.loop-turn.rest.now _ c.loop-turn.at c.loop-turn-test.false c.loop-turn.invariant.reads
