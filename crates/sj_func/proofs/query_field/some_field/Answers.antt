use Rattle.std.proofs.Common.{◌≡◌, ◌+◌, ◌-◌, ◌∷◌, length, codes, sym, ap, ◌∙◌, arith}
use Rattle.std.proofs.lemmas.List.{length-append}
use Rattle.sj_json.specs.Tree.{array}
use Rattle.sj_json.specs.Printing.{printed}
use Rattle.sj_item.specs.Items.{item_value}
use Rattle.sj_step.specs.Trace.{items, fault_of}
use Rattle.sj_func.specs.Functions.{elements}
use Rattle.sj_func.proofs.QueryFields.{appends_err, array_field, cut_extends, field_behind, printed_behind}
use Rattle.sj_func.proofs.query_field.some_field.Goals as goal

pub returns-in_err-escape_from-clause-appends : goal.returns-in_err-escape_from-clause-appends
returns-in_err-escape_from-clause-appends c =
    let old = c.args.out.now in
    let x = item_value c.args.first in
    let xs = items c.args.cursor.now.left in
    let place : c.len-field.result - 1 ≡ length old + 1 = omega (arith, c.len-field.ensures, ap length c.in_ok-push.ensures.ok, length-append old (codes "\t[")) in
    let text = printed_behind old c.push.new.self c.item_text.new.out c.rest_text.new.text c.push-2.new.self x xs c.in_ok-push.ensures.ok c.in_ok-item_text.ensures.ok c.in_ok-rest.ensures.text c.in_ok-push-2.ensures.ok in
    appends_err _ c.from_residual-in_err-escape_from.result old c.escape_from.new.out c.from_residual-in_err-escape_from.ensures.0
    (cut_extends old c.push-2.new.self (printed (array (elements (x ∷ xs)))) c.escape_from.new.out (c.len-field.result - 1) place text c.in_err-escape_from.ensures.err)

pub returns-clause-appends : goal.returns-clause-appends
returns-clause-appends c =
    let old = c.args.out.now in
    let x = item_value c.args.first in
    let xs = items c.args.cursor.now.left in
    let place : c.len-field.result - 1 ≡ length old + 1 = omega (arith, c.len-field.ensures, ap length c.in_ok-push.ensures.ok, length-append old (codes "\t[")) in
    let text = printed_behind old c.push.new.self c.item_text.new.out c.rest_text.new.text c.push-2.new.self x xs c.in_ok-push.ensures.ok c.in_ok-item_text.ensures.ok c.in_ok-rest.ensures.text c.in_ok-push-2.ensures.ok in
    array_field c.args.spec.now x xs (fault_of c.args.cursor.now.left) old c.escape_from.new.out c.requires (sym c.in_ok-rest.ensures.fault ∙ c.in_default.is)
    (field_behind old c.push-2.new.self (printed (array (elements (x ∷ xs)))) c.escape_from.new.out (c.len-field.result - 1) place text c.in_ok-escape_from.ensures.ok)
