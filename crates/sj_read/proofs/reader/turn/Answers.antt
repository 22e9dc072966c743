use Rattle.std.proofs.Common.{rules, ◌≡◌, ◌+◌, ℕ, false, List, drop, get_or, sym, ◌∙◌, ap, arith, subst}
use Rattle.sj_json.specs.Machine as machine
use Rattle.sj_json.specs.Machine.{run}
use Rattle.sj_read.specs.declared.reader.TheConstants.{MAX_DEPTH}
use Rattle.sj_read.specs.declared.reader.Mode as coded
use Rattle.sj_read.specs.declared.reader.Mode.TheVariants as modes
use Rattle.sj_read.specs.Turns.{mode_of, closes_at, Ready, Went}
use Rattle.sj_read.proofs.Steps.{state_of_pair, one_byte, stops, blank_turn, moved, closes_first, opens_value, opens_key, closed_went, colon_turn, key_takes_value, no_colon}
use Rattle.sj_read.proofs.reader.turn.Goals as goal
use Rattle.sj_read.proofs.reader.turn.Goals.{After-bytes}

byte_is : (c : After-bytes) → get_or c.args.builder.now.1 c.args.at 0 ≡ get_or c.bytes.result.now c.args.at 0
byte_is c = ap (λ (t : List ℕ). get_or t c.args.at 0) (sym c.bytes.ensures.line)

pub close-requires : goal.close-requires
close-requires c =
    let b = get_or c.bytes.result.now c.args.at 0 in
    (closes_first MAX_DEPTH c.args.mode.now c.args.builder.now.0 b (sym c.closes_empty.ensures ∙ c.if-closes_empty.true) c.requires.poised.ready).1

pub returns-then-is_blank : goal.returns-then-is_blank
returns-then-is_blank c = record {
  turns =
      let b = get_or c.bytes.result.now c.args.at 0 in
      let s = c.args.builder.now.0 in
      one_byte MAX_DEPTH (mode_of c.args.mode.now) s c.args.builder.now.1 c.args.at b c.requires.poised.within.0 (byte_is (goal.at.returns-then-is_blank c).After-bytes) c.args.mode.now s
      (blank_turn MAX_DEPTH c.args.mode.now s b (sym c.is_blank.ensures ∙ c.if-is_blank.true)) c.requires.poised.ready (omega (arith, c.requires.poised.room));
  line = search rules;
}

pub returns-then-c-ne58 : goal.returns-then-c-ne58
returns-then-c-ne58 c = record {
  turns =
      let b = get_or c.bytes.result.now c.args.at 0 in
      let s = c.args.builder.now.0 in
      ap (λ (m : coded.Mode). run MAX_DEPTH (mode_of m) s (drop c.args.at c.args.builder.now.1)) c.in-Colon.is
      ∙ stops MAX_DEPTH machine.colon s c.args.builder.now.1 c.args.at b c.requires.poised.within.0 (byte_is (goal.at.returns-then-c-ne58 c).After-bytes) (no_colon MAX_DEPTH s b (sym c.is_blank.ensures ∙ c.if-is_blank.false) c.if-c-ne58.true);
  line = search rules;
}

pub returns-else-c-ne58 : goal.returns-else-c-ne58
returns-else-c-ne58 c = record {
  turns =
      let b = get_or c.bytes.result.now c.args.at 0 in
      let s = c.args.builder.now.0 in
      let ready : Ready machine.colon s = subst (λ (m : coded.Mode). Ready (mode_of m) s) c.in-Colon.is c.requires.poised.ready in
      let w = one_byte MAX_DEPTH machine.colon s c.args.builder.now.1 c.args.at b c.requires.poised.within.0 (byte_is (goal.at.returns-else-c-ne58 c).After-bytes) modes.Value s (colon_turn MAX_DEPTH s b c.if-c-ne58.false) (key_takes_value s.0 ready) (omega (arith, c.requires.poised.room)) in
      subst (λ (m : coded.Mode). Went MAX_DEPTH (mode_of m) s c.args.builder.now.1 c.args.at modes.Value (c.args.at + 1) s) (sym c.in-Colon.is) w;
  line = search rules;
}

pub returns-then-closes_empty : goal.returns-then-closes_empty
returns-then-closes_empty c = record {
  turns =
      let b = get_or c.bytes.result.now c.args.at 0 in
      let s = c.args.builder.now.0 in
      let first = closes_first MAX_DEPTH c.args.mode.now s b (sym c.closes_empty.ensures ∙ c.if-closes_empty.true) c.requires.poised.ready in
      closed_went MAX_DEPTH (mode_of c.args.mode.now) s c.args.builder.now.1 c.args.at b c.requires.poised.within.0 (byte_is (goal.at.returns-then-closes_empty c).After-bytes) c.requires.poised.room first.0 first.1 c.close.new.self.0 (state_of_pair c.close.ensures.closed) c.close.ensures.total;
  line = search rules;
}

pub returns-in-Value : goal.returns-in-Value
returns-in-Value c = record {
  turns =
      let b = get_or c.bytes.result.now c.args.at 0 in
      let s = c.args.builder.now.0 in
      let t = c.args.builder.now.1 in
      let n = c.args.mode.now in
      let stays : closes_at n b ≡ false = sym c.closes_empty.ensures ∙ c.if-closes_empty.false in
      moved MAX_DEPTH (mode_of n) machine.value s t c.args.at b c.requires.poised.within.0 (byte_is (goal.at.returns-in-Value c).After-bytes)
      (opens_value MAX_DEPTH n s b c.in-Value.is (sym c.is_blank.ensures ∙ c.if-is_blank.false) stays) c.elements.new.mode c.elements.result c.elements.new.builder.0 c.elements.ensures.turns;
  line = search rules;
}

pub returns-in-Key : goal.returns-in-Key
returns-in-Key c = record {
  turns =
      let b = get_or c.bytes.result.now c.args.at 0 in
      let s = c.args.builder.now.0 in
      let t = c.args.builder.now.1 in
      let n = c.args.mode.now in
      let stays : closes_at n b ≡ false = sym c.closes_empty.ensures ∙ c.if-closes_empty.false in
      moved MAX_DEPTH (mode_of n) machine.key s t c.args.at b c.requires.poised.within.0 (byte_is (goal.at.returns-in-Key c).After-bytes)
      (opens_key MAX_DEPTH n s b c.in-Key.is (sym c.is_blank.ensures ∙ c.if-is_blank.false) stays) c.members.new.mode c.members.result c.members.new.builder.0 c.members.ensures.turns;
  line = search rules;
}
