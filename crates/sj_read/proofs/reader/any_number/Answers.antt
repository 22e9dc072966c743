use Rattle.std.proofs.Common.{rules, ◌≡◌, ℕ, ◌+◌, List, drop, ◌∙◌, ap, subst, arith}
use Rattle.std.specs.List.{prefix_len}
use Rattle.sj_decimal.specs.Number.{is_number_byte, IsNumber, SpellsExact}
use Rattle.sj_decimal.specs.Shorts.{between}
use Rattle.sj_json.specs.Tree.{number, exact}
use Rattle.sj_json.specs.Building.{with_value}
use Rattle.sj_json.specs.Machine.{value}
use Rattle.sj_json.proofs.Numbers.{number_none, number_complete}
use Rattle.sj_doc.specs.Nodes.{IsNumeral, spelled}
use Rattle.sj_doc.proofs.Numerals.{number_spelled}
use Rattle.sj_read.specs.declared.reader.TheConstants.{MAX_DEPTH}
use Rattle.sj_read.specs.declared.reader.Mode.TheVariants as modes
use Rattle.sj_read.specs.Turns.{Went}
use Rattle.sj_doc.specs.Builders.{EndsInFeeds}
use Rattle.sj_read.proofs.Steps.{after_call, taken_call}
use Rattle.sj_read.proofs.Numerals.{number_value, no_number_value, within}
use Rattle.sj_read.proofs.reader.any_number.Goals as goal
use Rattle.sj_read.proofs.reader.any_number.Goals.{After-number_end-end}

end_is : (c : After-number_end-end) → c.number_end-end.result ≡ c.args.at + 1 + prefix_len is_number_byte (drop (c.args.at + 1) c.args.builder.now.1)
end_is c = c.number_end-end.ensures.value ∙ ap (λ (x : List ℕ). c.args.at + 1 + prefix_len is_number_byte (drop (c.args.at + 1) x)) c.bytes.ensures.line

pub number_at-requires-clause-wanted : goal.number_at-requires-clause-wanted
number_at-requires-clause-wanted c = c.requires.token.poised.ready

pub number_at-requires-clause-within : goal.number_at-requires-clause-within
number_at-requires-clause-within c =
    let e = end_is (goal.at.number_at-requires-clause-within c).After-number_end-end in
    (omega (arith, e), omega (arith, within MAX_DEPTH c.args.builder.now.0 c.args.builder.now.1 c.args.at c.args.c c.requires.token.poised.within.0 c.requires.token.here c.requires.begins c.number_end-end.result e))

pub number_at-requires-clause-number : goal.number_at-requires-clause-number
number_at-requires-clause-number c =
    subst (λ (t : List ℕ). IsNumeral (between t c.args.at c.number_end-end.result)) c.bytes-2.ensures.line c.in-Kept.ensures

pub exact-requires-clause-wanted : goal.exact-requires-clause-wanted
exact-requires-clause-wanted c = c.requires.token.poised.ready

pub returns-in-NotNumber : goal.returns-in-NotNumber
returns-in-NotNumber c = record {
  turns =
      let s = c.args.builder.now.0 in
      let t = c.args.builder.now.1 in
      let end = c.number_end-end.result in
      let missing : IsNumber (between t c.args.at end) → ⊥ = subst (λ (x : List ℕ). IsNumber (between x c.args.at end) → ⊥) c.bytes-2.ensures.line c.in-NotNumber.ensures in
      no_number_value MAX_DEPTH s t c.args.at c.args.c c.requires.token.poised.within.0 c.requires.token.here c.requires.begins end (end_is (goal.at.returns-in-NotNumber c).After-number_end-end) (number_none (between t c.args.at end) missing);
  taken = search rules;
  line = search rules;
}

pub returns-in-Exact : goal.returns-in-Exact
returns-in-Exact c = record {
  turns =
      let s = c.args.builder.now.0 in
      let t = c.args.builder.now.1 in
      let end = c.number_end-end.result in
      let n = c.in-Exact.n in
      let spelled : SpellsExact (between t c.args.at end) n = subst (λ (x : List ℕ). SpellsExact (between x c.args.at end) n) c.bytes-2.ensures.line c.in-Exact.ensures in
      let w = number_value MAX_DEPTH s t c.args.at c.args.c c.requires.token.poised.within.0 c.requires.token.here c.requires.begins end (end_is (goal.at.returns-in-Exact c).After-number_end-end) (subst EndsInFeeds c.bytes.ensures.line c.bytes.ensures.feeds) (exact n) (number_complete (exact n) (between t c.args.at end) spelled) c.requires.token.poised.ready c.requires.token.poised.room in
      after_call MAX_DEPTH c.exact.result c.after-in-Exact.result modes.AfterValue end value s t c.args.at c.exact.new.self (with_value (number (exact n)) s) c.args.builder.now.1 c.after-in-Exact.ensures c.exact.ensures.ok w;
  taken = taken_call c.exact.result c.after-in-Exact.result c.number_end-end.result (number (exact c.in-Exact.n)) c.args.builder.now.0 c.exact.new.self c.args.builder.now.1 c.after-in-Exact.ensures c.exact.ensures.ok;
  line = search rules;
}

pub returns-in-Kept : goal.returns-in-Kept
returns-in-Kept c = record {
  turns =
      let s = c.args.builder.now.0 in
      let t = c.args.builder.now.1 in
      let line = c.args.builder.now.1 in
      let end = c.number_end-end.result in
      let numeral = subst (λ (x : List ℕ). IsNumeral (between x c.args.at end)) c.bytes-2.ensures.line c.in-Kept.ensures in
      let w : Went MAX_DEPTH value s t c.args.at modes.AfterValue end (with_value (number (spelled (between t c.args.at end))) s) =
      number_value MAX_DEPTH s t c.args.at c.args.c c.requires.token.poised.within.0 c.requires.token.here c.requires.begins end (end_is (goal.at.returns-in-Kept c).After-number_end-end) (subst EndsInFeeds c.bytes.ensures.line c.bytes.ensures.feeds) (spelled (between t c.args.at end)) (number_spelled (between t c.args.at end) numeral.number) c.requires.token.poised.ready c.requires.token.poised.room in
      after_call MAX_DEPTH c.number_at.result c.after.result modes.AfterValue end value s t c.args.at c.number_at.new.self (with_value (number (spelled (between line c.args.at end))) s) line c.after.ensures c.number_at.ensures.ok w;
  taken =
      let end = c.number_end-end.result in
      let line = c.args.builder.now.1 in
      taken_call c.number_at.result c.after.result end (number (spelled (between line c.args.at end))) c.args.builder.now.0 c.number_at.new.self line c.after.ensures c.number_at.ensures.ok;
  line = search rules;
}
