use Rattle.std.proofs.Common.{rules, ◌≡◌, ℕ, ◌+◌, List, [], ◌∷◌, ◌++◌, drop, codes, true, false, refl, sym, ◌∙◌, subst, arith, ap}
use Rattle.sj_decimal.specs.Shorts.{between}
use Rattle.sj_json.specs.Tree.{null, truth, string}
use Rattle.sj_json.specs.Building.{with_value}
use Rattle.sj_json.specs.Machine.{value}
use Rattle.sj_read.specs.declared.reader.TheConstants.{MAX_DEPTH}
use Rattle.sj_read.specs.declared.reader.Mode.TheVariants as modes
use Rattle.sj_read.specs.Turns.{Went}
use Rattle.sj_doc.specs.Builders.{EndsInFeeds}
use Rattle.sj_read.proofs.Steps.{lent, after_call, taken_call, line_after, string_value, plain_string, word_value, no_word_value, no_value, null_read, true_read, false_read}
use Rattle.sj_read.proofs.reader.scalar.Goals as goal
use Rattle.sj_read.proofs.reader.scalar.Goals.{Start}

pub text_at-requires-clause-within : goal.text_at-requires-clause-within
text_at-requires-clause-within c =
    let ends = (lent c.line.result.now c.args.builder.now.1 (c.args.at + 1) c.in-Some.end c.line.ensures.line c.in-Some.ensures).0 in
    (ends.later, omega (arith, ends.within))

pub text_at-requires-clause-utf8 : goal.text_at-requires-clause-utf8
text_at-requires-clause-utf8 c = (lent c.line.result.now c.args.builder.now.1 (c.args.at + 1) c.in-Some.end c.line.ensures.line c.in-Some.ensures).1

pub returns-in-Some : goal.returns-in-Some
returns-in-Some c = record {
  turns =
      let s = c.args.builder.now.0 in
      let t = c.args.builder.now.1 in
      let line = c.args.builder.now.1 in
      let from = c.args.at + 1 in
      let end = c.in-Some.end in
      let w = string_value MAX_DEPTH s t c.args.at c.args.c c.requires.token.poised.within.0 c.requires.token.here c.requires.token.poised.room (subst EndsInFeeds c.line.ensures.line c.line.ensures.feeds) c.requires.token.poised.ready c.in-34.is end (between t from end) (plain_string t from end (lent c.line.result.now t from end c.line.ensures.line c.in-Some.ensures).0) in
      after_call MAX_DEPTH c.text_at.result c.after.result modes.AfterValue (end + 1) value s t c.args.at c.text_at.new.self (with_value (string (between line from end)) s) line c.after.ensures c.text_at.ensures.ok w;
  taken =
      let line = c.args.builder.now.1 in
      taken_call c.text_at.result c.after.result (c.in-Some.end + 1) (string (between line (c.args.at + 1) c.in-Some.end)) c.args.builder.now.0 c.text_at.new.self line c.after.ensures c.text_at.ensures.ok;
  line = line_after c.text_at.result c.text_at.new.self c.args.builder.now (with_value (string (between c.args.builder.now.1 (c.args.at + 1) c.in-Some.end)) c.args.builder.now.0) c.text_at.ensures.ok c.text_at.ensures.err;
}

pub returns-then-not-follows : goal.returns-then-not-follows
returns-then-not-follows c = record {
  turns =
      let s = c.args.builder.now.0 in
      no_word_value MAX_DEPTH s c.args.builder.now.1 c.args.at c.args.c c.requires.token.poised.within.0 c.requires.token.here c.requires.token.poised.room 110 117 (108 ∷ 108 ∷ []) null refl c.in-110.is
      (λ rest e. c.if-not-follows.ensures rest (ap (drop (c.args.at + 1)) c.bytes.ensures.line ∙ e));
  taken = search rules;
  line = search rules;
}

pub returns-else-not-follows : goal.returns-else-not-follows
returns-else-not-follows c = record {
  turns =
      let s = c.args.builder.now.0 in
      let t = c.args.builder.now.1 in
      let found = subst (λ (x : List ℕ). drop (c.args.at + 1) x ≡ codes "ull" ++ drop 3 (drop (c.args.at + 1) x)) c.bytes.ensures.line c.if-not-follows.ensures in
      let w = word_value MAX_DEPTH s t c.args.at c.args.c c.requires.token.poised.within.0 c.requires.token.here c.requires.token.poised.room 110 117 (108 ∷ 108 ∷ []) null refl c.in-110.is (subst EndsInFeeds c.bytes.ensures.line c.bytes.ensures.feeds) (λ e. cc) c.requires.token.poised.ready (null_read MAX_DEPTH s) refl found in
      let far : c.args.at + 1 + 3 ≡ c.args.at + 4 = omega arith in
      let v = subst (λ (i : ℕ). Went MAX_DEPTH value s t c.args.at modes.AfterValue i (with_value null s)) far w in
      after_call MAX_DEPTH c.null.result c.after-in-110.result modes.AfterValue (c.args.at + 4) value s t c.args.at c.null.new.self (with_value null s) c.args.builder.now.1 c.after-in-110.ensures c.null.ensures.ok v;
  taken = taken_call c.null.result c.after-in-110.result (c.args.at + 4) null c.args.builder.now.0 c.null.new.self c.args.builder.now.1 c.after-in-110.ensures c.null.ensures.ok;
  line = line_after c.null.result c.null.new.self c.args.builder.now (with_value null c.args.builder.now.0) c.null.ensures.ok c.null.ensures.err;
}

pub returns-then-not-follows-2 : goal.returns-then-not-follows-2
returns-then-not-follows-2 c = record {
  turns =
      let s = c.args.builder.now.0 in
      no_word_value MAX_DEPTH s c.args.builder.now.1 c.args.at c.args.c c.requires.token.poised.within.0 c.requires.token.here c.requires.token.poised.room 116 114 (117 ∷ 101 ∷ []) (truth true) refl c.in-116.is
      (λ rest e. c.if-not-follows-2.ensures rest (ap (drop (c.args.at + 1)) c.bytes-in-116.ensures.line ∙ e));
  taken = search rules;
  line = search rules;
}

pub returns-else-not-follows-2 : goal.returns-else-not-follows-2
returns-else-not-follows-2 c = record {
  turns =
      let s = c.args.builder.now.0 in
      let t = c.args.builder.now.1 in
      let found = subst (λ (x : List ℕ). drop (c.args.at + 1) x ≡ codes "rue" ++ drop 3 (drop (c.args.at + 1) x)) c.bytes-in-116.ensures.line c.if-not-follows-2.ensures in
      let w = word_value MAX_DEPTH s t c.args.at c.args.c c.requires.token.poised.within.0 c.requires.token.here c.requires.token.poised.room 116 114 (117 ∷ 101 ∷ []) (truth true) refl c.in-116.is (subst EndsInFeeds c.bytes-in-116.ensures.line c.bytes-in-116.ensures.feeds) (λ e. cc) c.requires.token.poised.ready (true_read MAX_DEPTH s) refl found in
      let far : c.args.at + 1 + 3 ≡ c.args.at + 4 = omega arith in
      let v = subst (λ (i : ℕ). Went MAX_DEPTH value s t c.args.at modes.AfterValue i (with_value (truth true) s)) far w in
      after_call MAX_DEPTH c.truth.result c.after-in-116.result modes.AfterValue (c.args.at + 4) value s t c.args.at c.truth.new.self (with_value (truth true) s) c.args.builder.now.1 c.after-in-116.ensures c.truth.ensures.ok v;
  taken = taken_call c.truth.result c.after-in-116.result (c.args.at + 4) (truth true) c.args.builder.now.0 c.truth.new.self c.args.builder.now.1 c.after-in-116.ensures c.truth.ensures.ok;
  line = line_after c.truth.result c.truth.new.self c.args.builder.now (with_value (truth true) c.args.builder.now.0) c.truth.ensures.ok c.truth.ensures.err;
}

pub returns-then-not-follows-3 : goal.returns-then-not-follows-3
returns-then-not-follows-3 c = record {
  turns =
      let s = c.args.builder.now.0 in
      no_word_value MAX_DEPTH s c.args.builder.now.1 c.args.at c.args.c c.requires.token.poised.within.0 c.requires.token.here c.requires.token.poised.room 102 97 (108 ∷ 115 ∷ 101 ∷ []) (truth false) refl c.in-102.is
      (λ rest e. c.if-not-follows-3.ensures rest (ap (drop (c.args.at + 1)) c.bytes-in-102.ensures.line ∙ e));
  taken = search rules;
  line = search rules;
}

pub returns-else-not-follows-3 : goal.returns-else-not-follows-3
returns-else-not-follows-3 c = record {
  turns =
      let s = c.args.builder.now.0 in
      let t = c.args.builder.now.1 in
      let found = subst (λ (x : List ℕ). drop (c.args.at + 1) x ≡ codes "alse" ++ drop 4 (drop (c.args.at + 1) x)) c.bytes-in-102.ensures.line c.if-not-follows-3.ensures in
      let w = word_value MAX_DEPTH s t c.args.at c.args.c c.requires.token.poised.within.0 c.requires.token.here c.requires.token.poised.room 102 97 (108 ∷ 115 ∷ 101 ∷ []) (truth false) refl c.in-102.is (subst EndsInFeeds c.bytes-in-102.ensures.line c.bytes-in-102.ensures.feeds) (λ e. cc) c.requires.token.poised.ready (false_read MAX_DEPTH s) refl found in
      let far : c.args.at + 1 + 4 ≡ c.args.at + 5 = omega arith in
      let v = subst (λ (i : ℕ). Went MAX_DEPTH value s t c.args.at modes.AfterValue i (with_value (truth false) s)) far w in
      after_call MAX_DEPTH c.truth-in-102.result c.after-in-102.result modes.AfterValue (c.args.at + 5) value s t c.args.at c.truth-in-102.new.self (with_value (truth false) s) c.args.builder.now.1 c.after-in-102.ensures c.truth-in-102.ensures.ok v;
  taken = taken_call c.truth-in-102.result c.after-in-102.result (c.args.at + 5) (truth false) c.args.builder.now.0 c.truth-in-102.new.self c.args.builder.now.1 c.after-in-102.ensures c.truth-in-102.ensures.ok;
  line = line_after c.truth-in-102.result c.truth-in-102.new.self c.args.builder.now (with_value (truth false) c.args.builder.now.0) c.truth-in-102.ensures.ok c.truth-in-102.ensures.err;
}

pub returns-then-not-begins_number : goal.returns-then-not-begins_number
returns-then-not-begins_number c = record {
  turns =
      no_value MAX_DEPTH c.args.builder.now.0 c.args.builder.now.1 c.args.at c.args.c c.requires.token.poised.within.0 c.requires.token.here c.requires.token.poised.room c.requires.token.not_blank (sym c.begins_number.ensures ∙ c.if-not-begins_number.true)
      (λ e. absurd (omega arith)) c.requires.no_array c.requires.no_object (λ e. absurd (omega arith)) (λ e. absurd (omega arith)) (λ e. absurd (omega arith));
  taken = search rules;
  line = search rules;
}
