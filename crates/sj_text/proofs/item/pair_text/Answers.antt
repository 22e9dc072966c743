use Rattle.std.proofs.Common.{List, ℕ, ◌++◌, OnErr, sym, subst}
use Rattle.sj_item.specs.Items.{item_tree, pair_name, pair_held, pair_id}
use Rattle.sj_text.specs.Prefixes.{AppendsPrefix}
use Rattle.sj_text.proofs.Appends.{first_stopped, second_stopped}
use Rattle.sj_text.proofs.PairTexts.{name_part, value_part, id_part, printed_pair}
use Rattle.sj_text.proofs.item.pair_text.Goals as goal

pub returns-in_err-name_text-clause-err : goal.returns-in_err-name_text-clause-err
returns-in_err-name_text-clause-err c =
    let name = pair_name c.args.pair in
    let value = item_tree (pair_held c.args.pair) in
    let id = pair_id c.args.pair in
    subst (λ (l : List ℕ). OnErr c.from_residual.result (AppendsPrefix c.args.out.now l c.name_text.new.out)) (sym (printed_pair name value id))
    (first_stopped c.from_residual.result c.args.out.now (name_part name) (value_part value ++ id_part id) c.name_text.new.out c.in_err-name_text.ensures.err)

pub returns-in_err-value_text-clause-err : goal.returns-in_err-value_text-clause-err
returns-in_err-value_text-clause-err c =
    let name = pair_name c.args.pair in
    let value = item_tree (pair_held c.args.pair) in
    let id = pair_id c.args.pair in
    let r = c.from_residual-in_err-value_text.result in
    subst (λ (l : List ℕ). OnErr r (AppendsPrefix c.args.out.now l c.value_text.new.out)) (sym (printed_pair name value id))
    (second_stopped r c.args.out.now (name_part name) (value_part value ++ id_part id) c.name_text.new.out c.value_text.new.out c.in_ok-name_text.ensures.ok
    (first_stopped r c.name_text.new.out (value_part value) (id_part id) c.value_text.new.out c.in_err-value_text.ensures.err))

pub returns-clause-err : goal.returns-clause-err
returns-clause-err c =
    let name = pair_name c.args.pair in
    let value = item_tree (pair_held c.args.pair) in
    let id = pair_id c.args.pair in
    let r = c.id_text.result in
    subst (λ (l : List ℕ). OnErr r (AppendsPrefix c.args.out.now l c.id_text.new.out)) (sym (printed_pair name value id))
    (second_stopped r c.args.out.now (name_part name) (value_part value ++ id_part id) c.name_text.new.out c.id_text.new.out c.in_ok-name_text.ensures.ok
    (second_stopped r c.name_text.new.out (value_part value) (id_part id) c.value_text.new.out c.id_text.new.out c.in_ok-value_text.ensures.ok
    c.id_text.ensures.err))
