use Rattle.std.proofs.Common.{rules, ◌+◌, List, ℕ, take, Option, MatchOption, sym, subst}
use Rattle.sj_json.specs.Building.{with_key}
use Rattle.sj_json.specs.Machine.{key}
use Rattle.sj_read.specs.declared.reader.TheConstants.{MAX_DEPTH}
use Rattle.sj_read.specs.declared.reader.Mode.TheVariants as modes
use Rattle.sj_read.specs.declared.unescape.Unescaped.{Unescaped}
use Rattle.sj_read.specs.Strings.{NoString, HoldsString}
use Rattle.sj_doc.specs.Builders.{EndsInFeeds}
use Rattle.sj_read.proofs.Steps.{after_call, line_after, key_value, no_key_value}
use Rattle.sj_read.proofs.reader.escaped_key.Goals as goal
use Rattle.sj_read.proofs.reader.escaped_key.Goals.{After-as_slice}

-- the string is at the front of the buffer
held : (c : After-as_slice) → HoldsString c.args.builder.now.1 (c.args.at + 1) c.as_slice.result.now c.in-Ok-Some.found
held c =
    let t = c.line.result.now in
    subst (λ (b : List ℕ). HoldsString c.args.builder.now.1 (c.args.at + 1) b c.in-Ok-Some.found) (sym c.as_slice.ensures.value)
    (subst (λ (x : List ℕ). HoldsString x (c.args.at + 1) c.unescape.new.buffer.items c.in-Ok-Some.found) c.line.ensures.line
    (subst (λ (o : Option Unescaped). MatchOption o (NoString t (c.args.at + 1)) (HoldsString t (c.args.at + 1) c.unescape.new.buffer.items)) c.in-Ok-Some.field-0-is c.in-Ok-Some.ensures))

pub returns-in-Ok-Some : goal.returns-in-Ok-Some
returns-in-Ok-Some c = record {
  turns =
      let s = c.args.builder.now.0 in
      let t = c.args.builder.now.1 in
      let end = c.in-Ok-Some.found.end in
      let x = take c.in-Ok-Some.found.len c.as_slice.result.now in
      let w = key_value MAX_DEPTH s t c.args.at c.args.c c.requires.token.poised.within.0 c.requires.token.here c.requires.token.poised.room (subst EndsInFeeds c.line.ensures.line c.line.ensures.feeds) c.requires.token.poised.ready c.requires.quote end x (held (goal.at.returns-in-Ok-Some c).After-as_slice).found in
      after_call MAX_DEPTH c.key_bytes.result c.after.result modes.Colon (end + 1) key s t c.args.at c.key_bytes.new.self (with_key x s) c.args.builder.now.1 c.after.ensures c.key_bytes.ensures.ok w;
  line = line_after c.key_bytes.result c.key_bytes.new.self c.args.builder.now (with_key (take c.in-Ok-Some.found.len c.as_slice.result.now) c.args.builder.now.0) c.key_bytes.ensures.ok c.key_bytes.ensures.err;
}

pub returns-in-Ok-None : goal.returns-in-Ok-None
returns-in-Ok-None c = record {
  turns =
      no_key_value MAX_DEPTH c.args.builder.now.0 c.args.builder.now.1 c.args.at c.args.c c.requires.token.poised.within.0 c.requires.token.here c.requires.token.poised.room c.requires.quote
      (subst (λ (x : List ℕ). NoString x (c.args.at + 1)) c.line.ensures.line
      (subst (λ (o : Option Unescaped). MatchOption o (NoString c.line.result.now (c.args.at + 1)) (HoldsString c.line.result.now (c.args.at + 1) c.unescape.new.buffer.items)) c.in-Ok-None.field-0-is c.in-Ok-None.ensures));
  line = search rules;
}
