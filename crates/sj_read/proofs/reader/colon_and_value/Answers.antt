use Rattle.std.proofs.Common.{rules, ◌+◌, refl, arith}
use Rattle.sj_json.specs.Machine.{colon}
use Rattle.sj_read.specs.declared.reader.TheConstants.{MAX_DEPTH}
use Rattle.sj_read.specs.declared.reader.Mode.TheVariants as modes
use Rattle.sj_read.specs.Turns.{Went}
use Rattle.sj_read.proofs.Steps.{one_byte, onward, colon_turn, key_takes_value}
use Rattle.sj_read.proofs.reader.colon_and_value.Goals as goal
use Rattle.sj_read.proofs.reader.colon_and_value.Goals.{Start}

passed : (c : Start) → Went MAX_DEPTH colon c.args.builder.now.0 c.args.builder.now.1 c.args.at modes.Value (c.args.at + 1) c.args.builder.now.0
passed c =
    let s = c.args.builder.now.0 in
    one_byte MAX_DEPTH colon s c.args.builder.now.1 c.args.at 58 c.requires.poised.within.0 c.requires.here modes.Value s (colon_turn MAX_DEPTH s 58 refl) (key_takes_value s.0 c.requires.poised.ready) (omega (arith, c.requires.poised.room))

pub value-requires-clause-token : goal.value-requires-clause-token
value-requires-clause-token c = record {
  poised = record {
    within = search rules;
    ready = key_takes_value c.args.builder.now.0.0 c.requires.poised.ready;
    room = omega (arith, c.requires.poised.room);
  };
  here = search rules;
  not_blank = search rules;
}

pub returns-in-Some : goal.returns-in-Some
returns-in-Some c = record {
  turns =
      let s = c.args.builder.now.0 in
      onward MAX_DEPTH colon s c.args.builder.now.1 c.args.at modes.Value (c.args.at + 1) s (passed (goal.at.returns-in-Some c).Start) c.value.new.mode c.value.result c.value.new.builder.0 c.value.ensures.turns;
  line = search rules;
}

pub returns : goal.returns
returns c = record {
  turns = passed (goal.at.returns c).Start;
  line = search rules;
}
