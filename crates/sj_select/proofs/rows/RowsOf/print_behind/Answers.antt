use Rattle.std.proofs.Common.{◌≡◌, ℕ, ◌++◌, ◌∙◌, sym, ap, subst}
use Rattle.sj_table.specs.Series.{rest}
use Rattle.sj_table.specs.Takes.{Spends}
use Rattle.sj_bound.specs.View.{bound_of}
use Rattle.sj_select_list.specs.Line.{line_of}
use Rattle.sj_select.specs.Rows.{StatementRows}
use Rattle.sj_select.specs.Seen.{Seen, turn_of, due_behind, next_text}
use Rattle.sj_select.specs.Sources.{source_left, source_due, found_due}
use Rattle.sj_select.specs.Stages.{left_at, due_at, stage_behind}
use Rattle.sj_select.specs.declared.rows.Stage.{Stage}
use Rattle.sj_select.specs.declared.rows.Turn.{Turn}
use Rattle.sj_select.proofs.AnsweredRows.{turn_is, rest_is, text_is, front_stays, front_stays_by, longer, at_error, due_is, due_found}
use Rattle.sj_select.proofs.CountedSteps.{spends_rest}
use Rattle.sj_select.proofs.rows.RowsOf.print_behind.Goals as goal

pub invariant_of-self-in_err-found : goal.invariant_of-self-in_err-found
invariant_of-self-in_err-found c = (c.print.ensures.ready, c.print.ensures.is_for (bound_of c.self.inside.bound.now) c.self.invariant.1)

pub returns-in_err-found-clause-err : goal.returns-in_err-found-clause-err
returns-in_err-found-clause-err c =
    let s = bound_of c.self.inside.bound.now in
    let left = left_at c.replace-stage.result (source_left s (line_of c.self.inside.line) c.self.inside.source) in
    let later = source_left s (line_of c.self.inside.line) c.print.new.source in
    at_error c.from_residual-in_err-found.result
    (front_stays_by left later c.begin.new.out c.print.new.out c.args.number c.args.statement c.args.out.now c.print.new.out c.in_ok-begin.ensures.ok (c.in_err-found.ensures.err s c.self.invariant.1))

pub returns-in_err-found-clause-spends : goal.returns-in_err-found-clause-spends
returns-in_err-found-clause-spends c =
    let s = bound_of c.self.inside.bound.now in
    let line = line_of c.self.inside.line in
    let due = source_due s line c.self.inside.source in
    let was : due_at c.replace-stage.result due ≡ c.args.self.now.due = ap (λ (t : Stage). due_at t due) c.replace-stage.ensures.value ∙ ap (λ (v : Seen). v.due) c.self.view_is in
    let none : due_at c.replace-stage.new.dest (source_due s line c.print.new.source) ≡ 0 = ap (λ (t : Stage). due_at t (source_due s line c.print.new.source)) c.replace-stage.ensures.after in
    subst (λ (n : ℕ). Spends c.args.self.now.due n c.args.steps.now c.print.new.steps) (sym none)
    (subst (λ (n : ℕ). Spends n 0 c.args.steps.now c.print.new.steps) was (c.in_err-found.ensures.costs s c.self.invariant.1))

pub end_text-requires : goal.end_text-requires
end_text-requires c =
    let s = bound_of c.self.inside.bound.now in
    let left = left_at c.replace-stage.result (source_left s (line_of c.self.inside.line) c.self.inside.source) in
    let later = source_left s (line_of c.self.inside.line) c.print.new.source in
    longer c.args.start c.args.out.now c.print.new.out c.requires
    (front_stays left later c.begin.new.out c.print.new.out c.args.number c.args.statement c.args.out.now c.print.new.out c.in_ok-begin.ensures.ok c.in_ok-found.found (c.in_ok-found.ensures.prints s c.self.invariant.1))

pub invariant_of-self-in_err-end_text : goal.invariant_of-self-in_err-end_text
invariant_of-self-in_err-end_text c = (c.print.ensures.ready, c.print.ensures.is_for (bound_of c.self.inside.bound.now) c.self.invariant.1)

pub returns-in_err-end_text-clause-err : goal.returns-in_err-end_text-clause-err
returns-in_err-end_text-clause-err c =
    let s = bound_of c.self.inside.bound.now in
    let left = left_at c.replace-stage.result (source_left s (line_of c.self.inside.line) c.self.inside.source) in
    let later = source_left s (line_of c.self.inside.line) c.print.new.source in
    at_error c.from_residual-in_err-end_text.result
    (rw c.in_err-end_text.ensures.err
    (front_stays left later c.begin.new.out c.print.new.out c.args.number c.args.statement c.args.out.now c.print.new.out c.in_ok-begin.ensures.ok c.in_ok-found.found (c.in_ok-found.ensures.prints s c.self.invariant.1)))

pub returns-in_err-end_text-clause-spends : goal.returns-in_err-end_text-clause-spends
returns-in_err-end_text-clause-spends c =
    let s = bound_of c.self.inside.bound.now in
    let line = line_of c.self.inside.line in
    let due = source_due s line c.self.inside.source in
    let was : due_at c.replace-stage.result due ≡ c.args.self.now.due = ap (λ (t : Stage). due_at t due) c.replace-stage.ensures.value ∙ ap (λ (v : Seen). v.due) c.self.view_is in
    let none : due_at c.replace-stage.new.dest (source_due s line c.print.new.source) ≡ 0 = ap (λ (t : Stage). due_at t (source_due s line c.print.new.source)) c.replace-stage.ensures.after in
    subst (λ (n : ℕ). Spends c.args.self.now.due n c.args.steps.now c.print.new.steps) (sym none)
    (subst (λ (n : ℕ). Spends n 0 c.args.steps.now c.print.new.steps) was (spends_rest _ _ _ _ (c.in_ok-found.ensures.costs s c.self.invariant.1)))

pub invariant_of-self-2 : goal.invariant_of-self-2
invariant_of-self-2 c = (c.print.ensures.ready, c.print.ensures.is_for (bound_of c.self.inside.bound.now) c.self.invariant.1)

pub returns-clause-gives : goal.returns-clause-gives
returns-clause-gives c =
    let s = bound_of c.self.inside.bound.now in
    let line = line_of c.self.inside.line in
    let f = c.in_ok-found.found in
    let left = left_at c.replace-stage.result (source_left s line c.self.inside.source) in
    let later = source_left s line c.print.new.source in
    let due = source_due s line c.print.new.source in
    let prints = c.in_ok-found.ensures.prints s c.self.invariant.1 in
    let was : left ≡ c.args.self.now.left = ap (λ (t : Stage). left_at t (source_left s line c.self.inside.source)) c.replace-stage.ensures.value ∙ ap (λ (v : Seen). v.left) c.self.view_is in
    record {
      answers = c.of.ensures ∙ turn_is left later c.begin.new.out c.print.new.out f prints ∙ ap turn_of was;
      leaves = ap (λ (t : Stage). left_at t later) c.behind-self-inside.ensures ∙ rest_is left later c.begin.new.out c.print.new.out f prints ∙ ap rest was;
      ends = ap (λ (t : Stage). due_at t due) c.behind-self-inside.ensures ∙ due_is f due ∙ ap (λ (t : Turn). due_behind t (due_at (stage_behind f) due)) (sym c.of.ensures)
          ∙ ap (λ (t : Stage). due_behind c.of.result (due_at t due)) (sym c.behind-self-inside.ensures);
    }

pub returns-clause-text : goal.returns-clause-text
returns-clause-text c =
    let s = bound_of c.self.inside.bound.now in
    let line = line_of c.self.inside.line in
    let left = left_at c.replace-stage.result (source_left s line c.self.inside.source) in
    let later = source_left s line c.print.new.source in
    let was : left ≡ c.args.self.now.left = ap (λ (t : Stage). left_at t (source_left s line c.self.inside.source)) c.replace-stage.ensures.value ∙ ap (λ (v : Seen). v.left) c.self.view_is in
    text_is left later c.begin.new.out c.print.new.out c.args.number c.args.statement c.args.out.now c.end_text.new.out c.in_ok-begin.ensures.ok c.in_ok-found.found c.args.start c.requires
    (c.in_ok-found.ensures.prints s c.self.invariant.1) c.in_ok-end_text.ensures.ends
    ∙ ap (λ (l : StatementRows). c.args.out.now ++ next_text c.args.number c.args.statement l) was

pub returns-clause-spends : goal.returns-clause-spends
returns-clause-spends c =
    let s = bound_of c.self.inside.bound.now in
    let line = line_of c.self.inside.line in
    let due = source_due s line c.self.inside.source in
    let later = source_due s line c.print.new.source in
    let was : due_at c.replace-stage.result due ≡ c.args.self.now.due = ap (λ (t : Stage). due_at t due) c.replace-stage.ensures.value ∙ ap (λ (v : Seen). v.due) c.self.view_is in
    let left = due_found c.in_ok-found.found later ∙ ap (λ (t : Stage). due_at t later) (sym c.behind-self-inside.ensures) in
    subst (λ (n : ℕ). Spends c.args.self.now.due n c.args.steps.now c.print.new.steps) left
    (subst (λ (n : ℕ). Spends n (found_due c.in_ok-found.found later) c.args.steps.now c.print.new.steps) was (c.in_ok-found.ensures.costs s c.self.invariant.1))
