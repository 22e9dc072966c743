use Rattle.std.proofs.Common.{◌≡◌, ◌+◌, ◌∙◌, [], Bor, refl, sym, ap, subst, arith}
use Rattle.std.specs.List.{All}
use Rattle.std.proofs.lemmas.List.Elements.{All-nil}
use Rattle.sj_value.specs.Values.{IsPrintable}
use Rattle.sj_table.specs.Series.{size}
use Rattle.sj_bound.specs.View.{table_of}
use Rattle.sj_bound.specs.declared.bound.BoundTable.{BoundTable}
use Rattle.sj_select.specs.Tables.{plan_left}
use Rattle.sj_select.proofs.TakingRows.{come_end, come_raised, come_within, come_row_within, come_stop, come_more}
use Rattle.sj_select.proofs.source.take_rows.Goals as goal

pub rows-init : goal.rows-init
rows-init c = record {
  calls = refl;
  ready = c.requires.ready;
  printable = subst (All IsPrintable) (sym c.clear.ensures.values) (All-nil IsPrintable);
  table = refl;
  placed = c.requires.placed;
  come = record { before = []; taken = c.requires.begun; same = refl; costs = omega arith };
}

pub next_row-requires : goal.next_row-requires
next_row-requires c = c.rows.invariant.placed

pub returns-in-End-clause-takes : goal.returns-in-End-clause-takes
returns-in-End-clause-takes c = come_end _ _ _ _ _ _ _ _ _ c.rows.invariant.come c.rows.invariant.calls c.in-End.ensures.takes.answers

pub returns-in-End-clause-costs : goal.returns-in-End-clause-costs
returns-in-End-clause-costs c = come_within _ _ _ _ _ _ _ _ _ c.rows.invariant.come 0 _ c.in-End.ensures.takes.spends

pub returns-in-End-clause-calls : goal.returns-in-End-clause-calls
returns-in-End-clause-calls c = c.rows.invariant.calls

pub returns-in-End-clause-ready : goal.returns-in-End-clause-ready
returns-in-End-clause-ready c = c.rows.invariant.ready

pub returns-in-End-clause-printable : goal.returns-in-End-clause-printable
returns-in-End-clause-printable c = c.rows.invariant.printable

pub returns-in-End-clause-table : goal.returns-in-End-clause-table
returns-in-End-clause-table c = c.next_row.ensures.table ∙ c.rows.invariant.table

pub returns-in-Raised-clause-takes : goal.returns-in-Raised-clause-takes
returns-in-Raised-clause-takes c = come_raised _ _ _ _ _ _ _ _ _ c.rows.invariant.come _ c.in-Raised.ensures.takes.answers

pub returns-in-Raised-clause-costs : goal.returns-in-Raised-clause-costs
returns-in-Raised-clause-costs c = come_within _ _ _ _ _ _ _ _ _ c.rows.invariant.come 0 _ c.in-Raised.ensures.takes.spends

pub returns-in-Raised-clause-calls : goal.returns-in-Raised-clause-calls
returns-in-Raised-clause-calls c = c.rows.invariant.calls

pub returns-in-Raised-clause-ready : goal.returns-in-Raised-clause-ready
returns-in-Raised-clause-ready c = c.rows.invariant.ready

pub returns-in-Raised-clause-printable : goal.returns-in-Raised-clause-printable
returns-in-Raised-clause-printable c = c.rows.invariant.printable

pub returns-in-Raised-clause-table : goal.returns-in-Raised-clause-table
returns-in-Raised-clause-table c = c.next_row.ensures.table ∙ c.rows.invariant.table

pub take_row-requires-clause-ready : goal.take_row-requires-clause-ready
take_row-requires-clause-ready c = c.rows.invariant.ready

pub take_row-requires-clause-printable : goal.take_row-requires-clause-printable
take_row-requires-clause-printable c = c.rows.invariant.printable

pub returns-in_err-state-clause-costs : goal.returns-in_err-state-clause-costs
returns-in_err-state-clause-costs c =
    come_row_within _ _ _ _ _ _ _ _ _ c.rows.invariant.come _ _ c.in-Row.ensures.takes.answers _ (ap (λ (t : Bor BoundTable). table_of t.now) (c.next_row.ensures.table ∙ c.rows.invariant.table)) _ _ _ c.rows.invariant.calls c.in-Row.ensures.takes.spends (c.take_row.ensures.costs _ c.rows.invariant.come.taken)

pub returns-in_err-state-clause-calls : goal.returns-in_err-state-clause-calls
returns-in_err-state-clause-calls c = c.take_row.ensures.calls ∙ c.rows.invariant.calls

pub returns-in_err-state-clause-table : goal.returns-in_err-state-clause-table
returns-in_err-state-clause-table c = c.take_row.ensures.table ∙ c.next_row.ensures.table ∙ c.rows.invariant.table

pub returns-in-Some-clause-costs : goal.returns-in-Some-clause-costs
returns-in-Some-clause-costs c =
    come_row_within _ _ _ _ _ _ _ _ _ c.rows.invariant.come _ _ c.in-Row.ensures.takes.answers _ (ap (λ (t : Bor BoundTable). table_of t.now) (c.next_row.ensures.table ∙ c.rows.invariant.table)) _ _ _ c.rows.invariant.calls c.in-Row.ensures.takes.spends (c.take_row.ensures.costs _ c.rows.invariant.come.taken)

pub returns-in-Some-clause-takes : goal.returns-in-Some-clause-takes
returns-in-Some-clause-takes c =
    come_stop _ _ _ _ _ _ _ _ _ c.rows.invariant.come _ _ c.in-Row.ensures.takes.answers _ (ap (λ (t : Bor BoundTable). table_of t.now) (c.next_row.ensures.table ∙ c.rows.invariant.table)) _ c.rows.invariant.calls (rw c.in-Some.is at (c.in_ok-state.ensures.takes _ c.rows.invariant.come.taken))

pub returns-in-Some-clause-calls : goal.returns-in-Some-clause-calls
returns-in-Some-clause-calls c = c.take_row.ensures.calls ∙ c.rows.invariant.calls

pub returns-in-Some-clause-table : goal.returns-in-Some-clause-table
returns-in-Some-clause-table c = c.take_row.ensures.table ∙ c.next_row.ensures.table ∙ c.rows.invariant.table

pub rows-smaller : goal.rows-smaller
rows-smaller c =
    let left : size (plan_left c.take_row.new.table) ≡ size (plan_left c.next_row.new.self) = ap size c.take_row.ensures.left in
    let less : size (plan_left c.rows.table) ≡ size (plan_left c.next_row.new.self) + 1 = ap size c.in-Row.ensures.takes.answers in
    omega (arith, left, less)

pub rows-preserved : goal.rows-preserved
rows-preserved c =
    record {
      calls = c.take_row.ensures.calls ∙ c.rows.invariant.calls;
      ready = c.take_row.ensures.ready;
      printable = c.take_row.ensures.printable;
      table = c.take_row.ensures.table ∙ c.next_row.ensures.table ∙ c.rows.invariant.table;
      placed = c.take_row.ensures.placed;
      come = come_more _ _ _ _ _ _ _ _ _ c.rows.invariant.come _ _ c.in-Row.ensures.takes.answers _ (ap (λ (t : Bor BoundTable). table_of t.now) (c.next_row.ensures.table ∙ c.rows.invariant.table)) _ _ _ _ _ _ c.rows.invariant.calls
          (c.take_row.ensures.calls ∙ c.rows.invariant.calls) c.take_row.ensures.ready (rw c.in_default.is at (c.in_ok-state.ensures.takes _ c.rows.invariant.come.taken)) c.in-Row.ensures.takes.spends
          (c.take_row.ensures.costs _ c.rows.invariant.come.taken) c.take_row.ensures.left c.take_row.ensures.due;
    }
