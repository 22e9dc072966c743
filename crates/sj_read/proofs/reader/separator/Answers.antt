use Rattle.std.proofs.Common.{rules, sym, ◌∙◌, arith}
use Rattle.sj_json.specs.Machine.{after_value}
use Rattle.sj_read.specs.declared.reader.TheConstants.{MAX_DEPTH}
use Rattle.sj_read.specs.declared.reader.Mode.TheVariants as modes
use Rattle.sj_read.proofs.Steps.{state_of_pair, stops, one_byte, comma_items, close_items, no_items, comma_members, close_members, no_members, no_more, closed_went, items_close, members_close}
use Rattle.sj_read.proofs.reader.separator.Goals as goal

pub returns-then-c-eq44 : goal.returns-then-c-eq44
returns-then-c-eq44 c = record {
  turns =
      let s = c.args.builder.now.0 in
      let f = comma_items MAX_DEPTH s.0 s.1 c.args.c (sym c.wants.ensures ∙ c.in-ValueOrClose.is) c.if-c-eq44.true in
      one_byte MAX_DEPTH after_value s c.args.builder.now.1 c.args.at c.args.c c.requires.poised.within.0 c.requires.here modes.Value s f.0 f.1 (omega (arith, c.requires.poised.room));
  line = search rules;
}

pub returns-then-c-ne93 : goal.returns-then-c-ne93
returns-then-c-ne93 c = record {
  turns =
      let s = c.args.builder.now.0 in
      stops MAX_DEPTH after_value s c.args.builder.now.1 c.args.at c.args.c c.requires.poised.within.0 c.requires.here (no_items MAX_DEPTH s.0 s.1 c.args.c (sym c.wants.ensures ∙ c.in-ValueOrClose.is) c.requires.not_blank c.if-c-eq44.false c.if-c-ne93.true);
  line = search rules;
}

pub returns-else-c-ne93 : goal.returns-else-c-ne93
returns-else-c-ne93 c = record {
  turns =
      let s = c.args.builder.now.0 in
      let w = sym c.wants.ensures ∙ c.in-ValueOrClose.is in
      closed_went MAX_DEPTH after_value s c.args.builder.now.1 c.args.at c.args.c c.requires.poised.within.0 c.requires.here c.requires.poised.room (close_items MAX_DEPTH s.0 s.1 c.args.c w c.if-c-ne93.false) (items_close s.0 w) c.close.new.self.0 (state_of_pair c.close.ensures.closed) c.close.ensures.total;
  line = search rules;
}

pub returns-then-c-eq44-2 : goal.returns-then-c-eq44-2
returns-then-c-eq44-2 c = record {
  turns =
      let s = c.args.builder.now.0 in
      let f = comma_members MAX_DEPTH s.0 s.1 c.args.c (sym c.wants.ensures ∙ c.in-KeyOrClose.is) c.if-c-eq44-2.true in
      one_byte MAX_DEPTH after_value s c.args.builder.now.1 c.args.at c.args.c c.requires.poised.within.0 c.requires.here modes.Key s f.0 f.1 (omega (arith, c.requires.poised.room));
  line = search rules;
}

pub returns-then-c-ne125 : goal.returns-then-c-ne125
returns-then-c-ne125 c = record {
  turns =
      let s = c.args.builder.now.0 in
      stops MAX_DEPTH after_value s c.args.builder.now.1 c.args.at c.args.c c.requires.poised.within.0 c.requires.here (no_members MAX_DEPTH s.0 s.1 c.args.c (sym c.wants.ensures ∙ c.in-KeyOrClose.is) c.requires.not_blank c.if-c-eq44-2.false c.if-c-ne125.true);
  line = search rules;
}

pub returns-else-c-ne125 : goal.returns-else-c-ne125
returns-else-c-ne125 c = record {
  turns =
      let s = c.args.builder.now.0 in
      let w = sym c.wants.ensures ∙ c.in-KeyOrClose.is in
      closed_went MAX_DEPTH after_value s c.args.builder.now.1 c.args.at c.args.c c.requires.poised.within.0 c.requires.here c.requires.poised.room (close_members MAX_DEPTH s.0 s.1 c.args.c w c.if-c-ne125.false) (members_close s.0 w) c.close-in-KeyOrClose.new.self.0 (state_of_pair c.close-in-KeyOrClose.ensures.closed) c.close-in-KeyOrClose.ensures.total;
  line = search rules;
}

pub returns-in_default : goal.returns-in_default
returns-in_default c = record {
  turns =
      let s = c.args.builder.now.0 in
      stops MAX_DEPTH after_value s c.args.builder.now.1 c.args.at c.args.c c.requires.poised.within.0 c.requires.here (no_more MAX_DEPTH s.0 s.1 c.args.c c.requires.poised.ready (λ e. c.in_default.not-ValueOrClose (c.wants.ensures ∙ e)) (λ e. c.in_default.not-KeyOrClose (c.wants.ensures ∙ e)) c.requires.not_blank);
  line = search rules;
}
