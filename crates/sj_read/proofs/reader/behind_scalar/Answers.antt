use Rattle.std.proofs.Common.{rules, arith, subst}
use Rattle.sj_json.specs.Machine.{after_value}
use Rattle.sj_read.specs.declared.reader.Place.{Place}
use Rattle.sj_read.specs.declared.reader.TheConstants.{MAX_DEPTH}
use Rattle.sj_read.specs.declared.reader.Mode.TheVariants as modes
use Rattle.sj_read.specs.Turns.{StoodIn}
use Rattle.sj_read.proofs.Steps.{one_byte, comma_members, wants_member}
use Rattle.sj_read.proofs.reader.behind_scalar.Goals as goal

pub returns-in-Member : goal.returns-in-Member
returns-in-Member c = record {
  turns =
      let s = c.args.builder.now.0 in
      let stood = subst (λ (p : Place). StoodIn p s) c.in-Member.is c.requires.stood in
      let f = comma_members MAX_DEPTH s.0 s.1 c.args.c (wants_member s.0 stood) c.if-c-eq44.true in
      one_byte MAX_DEPTH after_value s c.args.builder.now.1 c.args.at c.args.c c.requires.token.poised.within.0 c.requires.token.here modes.Key s f.0 f.1 (omega (arith, c.requires.token.poised.room));
  line = search rules;
}
