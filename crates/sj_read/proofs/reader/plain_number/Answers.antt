use Rattle.std.proofs.Common.{rules, ◌-◌, drop, arith}
use Rattle.std.proofs.lemmas.List.{length-take}
use Rattle.sj_decimal.specs.Shorts.{between}
use Rattle.sj_json.specs.Tree.{number}
use Rattle.sj_json.specs.Building.{with_value}
use Rattle.sj_json.specs.Machine.{value}
use Rattle.sj_doc.specs.Nodes.{spelled}
use Rattle.sj_doc.proofs.Numerals.{number_spelled}
use Rattle.sj_read.specs.declared.reader.TheConstants.{MAX_DEPTH}
use Rattle.sj_read.specs.declared.reader.Mode.TheVariants as modes
use Rattle.sj_read.specs.Turns.{Went}
use Rattle.sj_read.proofs.Steps.{after_call, taken_call}
use Rattle.sj_read.proofs.Numerals.{number_value, within}
use Rattle.sj_read.proofs.reader.plain_number.Goals as goal

pub number_at-requires-clause-wanted : goal.number_at-requires-clause-wanted
number_at-requires-clause-wanted c = c.requires.token.poised.ready

pub number_at-requires-clause-within : goal.number_at-requires-clause-within
number_at-requires-clause-within c =
    let plain = c.requires.plain in
    (omega (arith, plain.reads.end_is), omega (arith, within MAX_DEPTH c.args.builder.now.0 c.args.builder.now.1 c.args.at c.args.c c.requires.token.poised.within.0 c.requires.token.here plain.begins c.args.end plain.reads.end_is))

pub number_at-requires-clause-number : goal.number_at-requires-clause-number
number_at-requires-clause-number c =
    let plain = c.requires.plain in
    record {
      number = plain.reads.number;
      long = λ more. absurd (omega (arith, more, plain.short, length-take (c.args.end - c.args.at) (drop c.args.at c.args.builder.now.1)));
    }

pub returns : goal.returns
returns c = record {
  turns =
      let s = c.args.builder.now.0 in
      let t = c.args.builder.now.1 in
      let line = c.args.builder.now.1 in
      let end = c.args.end in
      let plain = c.requires.plain in
      let w : Went MAX_DEPTH value s t c.args.at modes.AfterValue end (with_value (number (spelled (between t c.args.at end))) s) =
      number_value MAX_DEPTH s t c.args.at c.args.c c.requires.token.poised.within.0 c.requires.token.here plain.begins end plain.reads.end_is c.requires.feeds (spelled (between t c.args.at end)) (number_spelled (between t c.args.at end) plain.reads.number) c.requires.token.poised.ready c.requires.token.poised.room in
      after_call MAX_DEPTH c.number_at.result c.after.result modes.AfterValue end value s t c.args.at c.number_at.new.self (with_value (number (spelled (between line c.args.at end))) s) line c.after.ensures c.number_at.ensures.ok w;
  taken =
      let line = c.args.builder.now.1 in
      taken_call c.number_at.result c.after.result c.args.end (number (spelled (between line c.args.at c.args.end))) c.args.builder.now.0 c.number_at.new.self line c.after.ensures c.number_at.ensures.ok;
  line = search rules;
}
