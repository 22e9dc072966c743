use Rattle.std.proofs.Common.{[], ◌∷◌, ◌++◌}
use Rattle.sj_json.specs.Printing.{printed_string}
use Rattle.sj_text.specs.Rendering.{comma}
use Rattle.sj_text.proofs.Appends.{first_stopped, second_stopped}
use Rattle.sj_text.proofs.node.any_key_text.Goals as goal

pub returns-in_err-any_text-clause-err : goal.returns-in_err-any_text-clause-err
returns-in_err-any_text-clause-err c =
    let r = c.from_residual-in_err-any_text.result in
    let key = printed_string c.args.key.now in
    second_stopped r c.args.out.now (comma c.args.place) (key ++ 58 ∷ []) c.comma_text.new.out c.any_text.new.out c.in_ok-comma_text.ensures.ok
    (first_stopped r c.comma_text.new.out key (58 ∷ []) c.any_text.new.out c.in_err-any_text.ensures.err)
