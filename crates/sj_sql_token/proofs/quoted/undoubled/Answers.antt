use Rattle.std.proofs.Common.{◌≡◌, ◌+◌, ◌++◌, ◌==◌, not, sym, ap, ◌∙◌, length, take, drop, string_bytes, rules}
use Rattle.std.specs.List.{prefix_len}
use Rattle.sj_sql_token.proofs.Quotes.{rest_written, run_boundary, turn_mark, marks_boundary, slice_from}
use Rattle.sj_sql_token.proofs.quoted.undoubled.Goals as goal

pub returns-in_default : goal.returns-in_default
returns-in_default c =
    let same = c.as_bytes-bytes.ensures.value in
    let run : c.run_len-len.result ≡ prefix_len (λ b. not (b == c.args.mark)) c.loop-after.rest.now = c.run_len-len.ensures.value ∙ ap (prefix_len (λ b. not (b == c.args.mark))) same in
    c.from_string.ensures ∙ c.in_ok-push_str.ensures.bytes
    ∙ sym (rest_written c.args.mark c.run_len-len.result (string_bytes c.loop-after.text) c.loop-after.rest.now c.loop-after.invariant.read run
    (sym (ap (λ x. length (drop c.run_len-len.result x)) same) ∙ ap length (sym (slice_from c.as_bytes-bytes.result.now c.run_len-len.result)) ∙ c.in_default.ensures.cases))

pub range-requires-clause-end_boundary : goal.range-requires-clause-end_boundary
range-requires-clause-end_boundary c =
    let same = c.as_bytes-bytes.ensures.value in
    let run : c.run_len-len.result ≡ prefix_len (λ b. not (b == c.args.mark)) c.loop-after.rest.now = c.run_len-len.ensures.value ∙ ap (prefix_len (λ b. not (b == c.args.mark))) same in
    let split = sym (ap (drop c.run_len-len.result) same) ∙ sym (slice_from c.as_bytes-bytes.result.now c.run_len-len.result) ∙ c.in-Some.ensures.cases.0 in
    run_boundary c.args.mark c.run_len-len.result c.loop-after.rest.now c.in-Some.after.now c.in-Some.field-0-0.now c.requires c.loop-after.invariant.text run split

pub range_from-rest-requires : goal.range_from-rest-requires
range_from-rest-requires c =
    let same = c.as_bytes-bytes.ensures.value in
    let run : c.run_len-len.result ≡ prefix_len (λ b. not (b == c.args.mark)) c.loop-after.rest.now = c.run_len-len.ensures.value ∙ ap (prefix_len (λ b. not (b == c.args.mark))) same in
    let split = sym (ap (drop c.run_len-len.result) same) ∙ sym (slice_from c.as_bytes-bytes.result.now c.run_len-len.result) ∙ c.in-Some.ensures.cases.0 in
    λ _. marks_boundary c.args.mark c.run_len-len.result c.marks_len.result c.loop-after.rest.now c.in-Some.after.now c.in-Some.field-0-0.now c.requires c.loop-after.invariant.text run split c.marks_len.ensures

pub loop-after-preserved : goal.loop-after-preserved
loop-after-preserved c =
    let same = c.as_bytes-bytes.ensures.value in
    let run : c.run_len-len.result ≡ prefix_len (λ b. not (b == c.args.mark)) c.loop-after.rest.now = c.run_len-len.ensures.value ∙ ap (prefix_len (λ b. not (b == c.args.mark))) same in
    let split = sym (ap (drop c.run_len-len.result) same) ∙ sym (slice_from c.as_bytes-bytes.result.now c.run_len-len.result) ∙ c.in-Some.ensures.cases.0 in
    let piece : c.range.result.now ≡ take (c.run_len-len.result + 1) c.loop-after.rest.now = search rules in
    let text : string_bytes c.push_str-in-loop-after.new.self ≡ string_bytes c.loop-after.text ++ take (c.run_len-len.result + 1) c.loop-after.rest.now =
    c.in_ok-push_str-2.ensures.bytes ∙ ap (λ x. string_bytes c.loop-after.text ++ x) piece in
    let rest : c.range_from-rest.result.now ≡ drop (c.run_len-len.result + c.marks_len.result) c.loop-after.rest.now = c.range_from-rest.ensures.value in
    record {
      read = rw (text, rest) (turn_mark c.args.mark c.run_len-len.result c.marks_len.result (string_bytes c.loop-after.text) c.loop-after.rest.now c.in-Some.after.now c.in-Some.field-0-0.now c.loop-after.invariant.read run split c.marks_len.ensures);
      text = c.range_from-rest.utf8;
    }
