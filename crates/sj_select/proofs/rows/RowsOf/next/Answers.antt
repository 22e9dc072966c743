use Rattle.std.proofs.Common.{◌≡◌, ℕ, ◌∙◌, sym, ap, subst}
use Rattle.sj_table.specs.Series.{rest}
use Rattle.sj_table.specs.Takes.{Spends}
use Rattle.sj_bound.specs.View.{bound_of}
use Rattle.sj_select_list.specs.Line.{line_of}
use Rattle.sj_select.specs.Seen.{Seen, turn_of, due_behind, next_values}
use Rattle.sj_select.specs.Sources.{source_left, source_due, found_due}
use Rattle.sj_select.specs.Stages.{left_at, due_at, stage_behind}
use Rattle.sj_select.specs.declared.rows.Stage.{Stage}
use Rattle.sj_select.specs.declared.rows.Turn.{Turn}
use Rattle.sj_select.proofs.AnsweredRows.{turn_found, rest_found, values_next, due_is, due_found}
use Rattle.sj_select.proofs.rows.RowsOf.next.Goals as goal

pub invariant_of-self : goal.invariant_of-self
invariant_of-self c = (c.find.ensures.ready, c.find.ensures.is_for (bound_of c.self.inside.bound.now) c.self.invariant.1)

pub invariant_of-self-2 : goal.invariant_of-self-2
invariant_of-self-2 c =
    let ready = c.find.ensures.ready in
    let of_statement = c.find.ensures.is_for (bound_of c.self.inside.bound.now) c.self.invariant.1 in (
      record { given = ready.given; aggregates = ready.aggregates; table = ready.table; printable = c.hand_out.ensures.stack },
      record { finds = of_statement.finds; takes = of_statement.takes; table = of_statement.table },
    )

pub returns-in_err-found-clause-spends : goal.returns-in_err-found-clause-spends
returns-in_err-found-clause-spends c =
    let s = bound_of c.self.inside.bound.now in
    let line = line_of c.self.inside.line in
    let due = source_due s line c.self.inside.source in
    let was : due_at c.replace-stage.result due ≡ c.args.self.now.due = ap (λ (t : Stage). due_at t due) c.replace-stage.ensures.value ∙ ap (λ (v : Seen). v.due) c.self.view_is in
    let none : due_at c.replace-stage.new.dest (source_due s line c.find.new.source) ≡ 0 = ap (λ (t : Stage). due_at t (source_due s line c.find.new.source)) c.replace-stage.ensures.after in
    subst (λ (n : ℕ). Spends c.args.self.now.due n c.args.steps.now c.find.new.steps) (sym none)
    (subst (λ (n : ℕ). Spends n 0 c.args.steps.now c.find.new.steps) was (c.in_err-found.ensures.costs s c.self.invariant.1))

pub returns-clause-gives : goal.returns-clause-gives
returns-clause-gives c =
    let s = bound_of c.self.inside.bound.now in
    let line = line_of c.self.inside.line in
    let f = c.in_ok-found.found in
    let left = left_at c.replace-stage.result (source_left s line c.self.inside.source) in
    let later = source_left s line c.find.new.source in
    let due = source_due s line c.find.new.source in
    let values = c.find.new.source.stack.values.items in
    let finds = c.in_ok-found.ensures.finds s c.self.invariant.1 in
    let was : left ≡ c.args.self.now.left = ap (λ (t : Stage). left_at t (source_left s line c.self.inside.source)) c.replace-stage.ensures.value ∙ ap (λ (v : Seen). v.left) c.self.view_is in
    record {
      answers = c.of.ensures ∙ turn_found left later values f finds ∙ ap turn_of was;
      leaves = ap (λ (t : Stage). left_at t later) c.behind-self-inside.ensures ∙ rest_found left later values f finds ∙ ap rest was;
      ends = ap (λ (t : Stage). due_at t due) c.behind-self-inside.ensures ∙ due_is f due ∙ ap (λ (t : Turn). due_behind t (due_at (stage_behind f) due)) (sym c.of.ensures)
          ∙ ap (λ (t : Stage). due_behind c.of.result (due_at t due)) (sym c.behind-self-inside.ensures);
    }

pub returns-clause-values : goal.returns-clause-values
returns-clause-values c =
    let s = bound_of c.self.inside.bound.now in
    let line = line_of c.self.inside.line in
    let left = left_at c.replace-stage.result (source_left s line c.self.inside.source) in
    let later = source_left s line c.find.new.source in
    let was : left ≡ c.args.self.now.left = ap (λ (t : Stage). left_at t (source_left s line c.self.inside.source)) c.replace-stage.ensures.value ∙ ap (λ (v : Seen). v.left) c.self.view_is in
    c.hand_out.ensures.values ∙ values_next left later c.find.new.source.stack.values.items c.in_ok-found.found (c.in_ok-found.ensures.finds s c.self.invariant.1) ∙ ap next_values was

pub returns-clause-spends : goal.returns-clause-spends
returns-clause-spends c =
    let s = bound_of c.self.inside.bound.now in
    let line = line_of c.self.inside.line in
    let due = source_due s line c.self.inside.source in
    let later = source_due s line c.find.new.source in
    let was : due_at c.replace-stage.result due ≡ c.args.self.now.due = ap (λ (t : Stage). due_at t due) c.replace-stage.ensures.value ∙ ap (λ (v : Seen). v.due) c.self.view_is in
    let left = due_found c.in_ok-found.found later ∙ ap (λ (t : Stage). due_at t later) (sym c.behind-self-inside.ensures) in
    subst (λ (n : ℕ). Spends c.args.self.now.due n c.args.steps.now c.find.new.steps) left
    (subst (λ (n : ℕ). Spends n (found_due c.in_ok-found.found later) c.args.steps.now c.find.new.steps) was (c.in_ok-found.ensures.costs s c.self.invariant.1))
