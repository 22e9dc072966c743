use Rattle.std.proofs.Common.{rules, ◌+◌, true, false, arith}
use Rattle.sj_json.specs.Building.{with_open}
use Rattle.sj_json.specs.Machine.{value}
use Rattle.sj_read.specs.declared.reader.TheConstants.{MAX_DEPTH}
use Rattle.sj_read.specs.declared.reader.Mode.TheVariants as modes
use Rattle.sj_read.proofs.Steps.{after_call, line_after, array_opens, object_opens, array_too_deep, object_too_deep}
use Rattle.sj_read.proofs.reader.value.Goals as goal
use Rattle.sj_read.proofs.reader.value.Goals.{Start}

pub returns-then-depth-ge-MAX_DEPTH : goal.returns-then-depth-ge-MAX_DEPTH
returns-then-depth-ge-MAX_DEPTH c = record {
  turns = array_too_deep MAX_DEPTH c.args.builder.now.0 c.args.builder.now.1 c.args.at c.args.c c.requires.token.poised.within.0 c.requires.token.here c.requires.token.poised.room c.in-91.is (omega (arith, c.depth.ensures));
  line = search rules;
}

pub returns-then-depth-ge-MAX_DEPTH-2 : goal.returns-then-depth-ge-MAX_DEPTH-2
returns-then-depth-ge-MAX_DEPTH-2 c = record {
  turns = object_too_deep MAX_DEPTH c.args.builder.now.0 c.args.builder.now.1 c.args.at c.args.c c.requires.token.poised.within.0 c.requires.token.here c.requires.token.poised.room c.in-123.is (omega (arith, c.depth-in-123.ensures));
  line = search rules;
}

pub returns-else-depth-ge-MAX_DEPTH : goal.returns-else-depth-ge-MAX_DEPTH
returns-else-depth-ge-MAX_DEPTH c = record {
  turns =
      let s = c.args.builder.now.0 in
      let w = array_opens MAX_DEPTH s c.args.builder.now.1 c.args.at c.args.c c.requires.token.poised.within.0 c.requires.token.here c.requires.token.poised.room c.requires.token.poised.ready c.in-91.is (omega (arith, c.depth.ensures)) in
      after_call MAX_DEPTH c.open_array.result c.after.result modes.ValueOrClose (c.args.at + 1) value s c.args.builder.now.1 c.args.at c.open_array.new.self (with_open false s) c.args.builder.now.1 c.after.ensures c.open_array.ensures.ok w;
  line = line_after c.open_array.result c.open_array.new.self c.args.builder.now (with_open false c.args.builder.now.0) c.open_array.ensures.ok c.open_array.ensures.err;
}

pub returns-else-depth-ge-MAX_DEPTH-2 : goal.returns-else-depth-ge-MAX_DEPTH-2
returns-else-depth-ge-MAX_DEPTH-2 c = record {
  turns =
      let s = c.args.builder.now.0 in
      let w = object_opens MAX_DEPTH s c.args.builder.now.1 c.args.at c.args.c c.requires.token.poised.within.0 c.requires.token.here c.requires.token.poised.room c.requires.token.poised.ready c.in-123.is (omega (arith, c.depth-in-123.ensures)) in
      after_call MAX_DEPTH c.open_object.result c.after-in-123.result modes.KeyOrClose (c.args.at + 1) value s c.args.builder.now.1 c.args.at c.open_object.new.self (with_open true s) c.args.builder.now.1 c.after-in-123.ensures c.open_object.ensures.ok w;
  line = line_after c.open_object.result c.open_object.new.self c.args.builder.now (with_open true c.args.builder.now.0) c.open_object.ensures.ok c.open_object.ensures.err;
}
