use Rattle.std.proofs.Common.{rules, ◌≡◌, ◌∙◌, ap, sym, arith, length, take, drop, length-drop}
use Rattle.std.proofs.lemmas.List.{take_all}
use Rattle.sj_generated.specs.contracts.source.GeneratedSource as contract
use Rattle.sj_generated.proofs.Giving.{moved, begun}
use Rattle.sj_generated.proofs.source.GeneratedSource.give.Goals as goal
use Rattle.sj_generated.proofs.source.GeneratedSource.give.Goals.{then-self-len+then-self-gt0, else-self-len}

pub returns-clause-bytes : goal.returns-clause-bytes
returns-clause-bytes c =
    let view : c.args.self.now ≡ contract.the_view c.self.inside = cc c.self.view_is in
    let same : c.args.self.now ≡ contract.the_view c.if-self-len.self-inside = elim c.if-self-len.branch [
      | then-self-len+then-self-gt0 w ↦
          let all : c.self.inside.given ≡ length c.self.inside.line.bytes = search rules in
          view ∙ begun _ _ _ _ _ all w.if-self-gt0.true w.line-self-inside.ensures ∙ ap contract.the_view (sym w.self-inside-is)
      | else-self-len w ↦ view ∙ ap contract.the_view (sym w.self-inside-is)
    ] in
    let these : take c.copy_front-n.result c.copy_front-n.new.buf ≡ take c.copy_front-n.result (drop c.if-self-len.self-inside.given c.if-self-len.self-inside.line.bytes) =
    c.copy_front-n.ensures.bytes ∙ ap (take c.copy_front-n.result) (take_all _ (drop c.if-self-len.self-inside.given c.as_bytes.result.now) (omega (arith, length-drop c.if-self-len.self-inside.given c.as_bytes.result.now)) ∙ ap (drop c.if-self-len.self-inside.given) (c.as_bytes.ensures.value ∙ c.as_str.ensures.value)) in
    same ∙ moved _ _ _ c.if-self-len.self-inside.given c.copy_front-n.result these
