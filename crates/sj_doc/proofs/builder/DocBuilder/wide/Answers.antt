use Rattle.std.proofs.Common.{OnOk, subst, ◌≡◌}
use Rattle.sj_json.specs.Tree.{Number, number}
use Rattle.sj_json.specs.Building.{with_value}
use Rattle.sj_doc.proofs.Numerals.{spelled_wide}
use Rattle.sj_doc.proofs.builder.DocBuilder.wide.Goals as goal

pub number-requires-clause-number : goal.number-requires-clause-number
number-requires-clause-number c = record { number = (c.requires.wide.value, c.requires.wide.spells); long = λ _. c.requires.wide }

pub returns-clause-ok : goal.returns-clause-ok
returns-clause-ok c =
    subst (λ (v : Number). OnOk c.number.result (c.number.new.self ≡ (with_value (number v) c.args.self.now.0, c.args.self.now.1))) (spelled_wide c.args.spelling.now c.requires.wide) c.number.ensures.ok
