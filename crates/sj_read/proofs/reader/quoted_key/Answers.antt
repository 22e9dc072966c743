use Rattle.std.proofs.Common.{rules, ◌+◌, arith, sym, subst}
use Rattle.sj_decimal.specs.Shorts.{between}
use Rattle.sj_json.specs.Machine.{key}
use Rattle.sj_read.specs.declared.reader.TheConstants.{MAX_DEPTH}
use Rattle.sj_read.specs.declared.reader.Mode.TheVariants as modes
use Rattle.sj_read.specs.Turns.{Went}
use Rattle.sj_doc.specs.Builders.{EndsInFeeds}
use Rattle.sj_read.proofs.Steps.{lent, state_of_pair, key_value, plain_string, no_key}
use Rattle.sj_read.proofs.reader.quoted_key.Goals as goal

pub key_at-requires-clause-within : goal.key_at-requires-clause-within
key_at-requires-clause-within c =
    let ends = (lent c.line.result.now c.args.builder.now.1 (c.args.at + 1) c.in-Some.end c.line.ensures.line c.in-Some.ensures).0 in
    (ends.later, omega (arith, ends.within))

pub key_at-requires-clause-utf8 : goal.key_at-requires-clause-utf8
key_at-requires-clause-utf8 c = (lent c.line.result.now c.args.builder.now.1 (c.args.at + 1) c.in-Some.end c.line.ensures.line c.in-Some.ensures).1

pub returns-then-c-ne34 : goal.returns-then-c-ne34
returns-then-c-ne34 c = record {
  turns = no_key MAX_DEPTH c.args.builder.now.0 c.args.builder.now.1 c.args.at c.args.c c.requires.poised.within.0 c.requires.here c.requires.poised.room c.requires.not_blank c.if-c-ne34.true;
  line = search rules;
}

pub returns-in-Some : goal.returns-in-Some
returns-in-Some c = record {
  turns =
      let s = c.args.builder.now.0 in
      let t = c.args.builder.now.1 in
      let from = c.args.at + 1 in
      let end = c.in-Some.end in
      let w = key_value MAX_DEPTH s t c.args.at c.args.c c.requires.poised.within.0 c.requires.here c.requires.poised.room (subst EndsInFeeds c.line.ensures.line c.line.ensures.feeds) c.requires.poised.ready c.if-c-ne34.false end (between t from end) (plain_string t from end (lent c.line.result.now t from end c.line.ensures.line c.in-Some.ensures).0) in
      subst (Went MAX_DEPTH key s t c.args.at modes.Colon (end + 1)) (sym (state_of_pair c.key_at.ensures)) w;
  line = search rules;
}
