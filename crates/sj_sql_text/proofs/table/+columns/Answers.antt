use Rattle.std.proofs.Common.{OnOk, ◌++◌, sym, subst, ◌∙◌, arith}
use Rattle.std.proofs.lemmas.List.{at_drop_all}
use Rattle.std.proofs.lemmas.Result.{on_ok_weaker}
use Rattle.sj_sql_grammar.specs.Tree as tree
use Rattle.sj_sql_tree.specs.View.{column_of, columns_onto}
use Rattle.sj_sql_text.specs.Adds.{Adds}
use Rattle.sj_sql_text.specs.Statements.{column_on, listed_columns_on}
use Rattle.sj_sql_text.proofs.Constructed.{is_nested}
use Rattle.sj_sql_text.proofs.table.+columns.Goals as goal

pub column-returns-in-Nested : goal.column-returns-in-Nested
column-returns-in-Nested t c =
    subst (λ x. OnOk c.nested.result (Adds c.args.out.now c.nested.new.out (column_on x)))
    (sym (is_nested c.in-Nested.own c.in-Nested.name c.in-Nested.inside c.in-Nested.is c.deref.ensures)) c.nested.ensures

pub listed-returns : goal.listed-returns
listed-returns t c =
    let before = c.args.columns.now.before.items in
    let last = tree.Last (column_of c.args.columns.now.last) in
    on_ok_weaker c.column-2.result
    (λ came rest.
    came rest
    ∙ sym (at_drop_all (λ xs. c.loop-one.out ++ listed_columns_on (columns_onto xs last) rest) before c.loop-one.one-index (omega arith))
    ∙ c.loop-one.invariant rest)
    c.column-2.ensures
