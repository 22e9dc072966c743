use Rattle.std.proofs.Common.{length, sym, ap, ◌∙◌, subst, arith, rules}
use Rattle.sj_json.specs.Building.{State, TakesValue}
use Rattle.sj_json.specs.Machine.{value, ending, run}
use Rattle.sj_doc.specs.Builders.{held, node_total}
use Rattle.sj_read.specs.declared.reader.TheConstants.{MAX_DEPTH}
use Rattle.sj_read.specs.declared.reader.Mode as coded
use Rattle.sj_read.specs.Turns.{mode_of, Ready}
use Rattle.sj_read.proofs.Ends.{no_end_mode, no_end_want}
use Rattle.sj_read.proofs.Feeds.{behind_line, held_length, held_reading}
use Rattle.sj_read.proofs.Steps.{line_of_pair, state_of_pair}
use Rattle.sj_read.proofs.line.read_text.Goals as goal

pub loop-at-init : goal.loop-at-init
loop-at-init c =
    let text = c.args.text.now in
    let state = state_of_pair c.requires.fresh in
    record {
      within = omega (arith, held_length text);
      line = line_of_pair c.requires.fresh;
      ready = subst (λ (s : State). TakesValue s.0) (sym state) tt;
      room = omega (arith, ap node_total state);
      same = ap (λ (s : State). run MAX_DEPTH value s (held text)) state ∙ held_reading MAX_DEPTH text;
    }

pub turn-requires : goal.turn-requires
turn-requires c =
    let long = ap length c.loop-at.invariant.line ∙ held_length c.args.text.now in
    record {
      poised = record {
        within = (omega (arith, long, c.loop-at-test.true), omega (arith, long, c.requires.short));
        ready = c.loop-at.invariant.ready;
        room = c.loop-at.invariant.room;
      };
    }

pub returns-in-Nothing : goal.returns-in-Nothing
returns-in-Nothing c =
    let l = c.loop-at in (
      search rules,
      sym l.invariant.same ∙ behind_line MAX_DEPTH l.mode l.builder.0 c.args.text.now l.at (omega arith)
          ∙ ap (λ (m : coded.Mode). ending (mode_of m) l.builder.0) c.in-AfterValue.is,
    )

pub returns-in_default-wants : goal.returns-in_default-wants
returns-in_default-wants c =
    let l = c.loop-at in
    let ready = subst (λ (m : coded.Mode). Ready (mode_of m) l.builder.0) c.in-AfterValue.is l.invariant.ready in
    sym l.invariant.same ∙ behind_line MAX_DEPTH l.mode l.builder.0 c.args.text.now l.at (omega arith)
    ∙ ap (λ (m : coded.Mode). ending (mode_of m) l.builder.0) c.in-AfterValue.is ∙ no_end_want l.builder.0.0 l.builder.0.1 ready (λ e. c.in_default-wants.not-Nothing (c.wants.ensures ∙ e))

pub returns-in_default : goal.returns-in_default
returns-in_default c =
    let l = c.loop-at in
    sym l.invariant.same ∙ behind_line MAX_DEPTH l.mode l.builder.0 c.args.text.now l.at (omega arith) ∙ no_end_mode l.mode l.builder.0 c.in_default.not-AfterValue
