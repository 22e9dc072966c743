use Rattle.std.proofs.Common.{◌≡◌, ◌-◌, ℕ, length, sym, ap, ap₂, ◌∙◌}
use Rattle.sj_base.specs.Count.{raised}
use Rattle.sj_doc.proofs.Searching.{length-left}
use Rattle.sj_doc.proofs.children.Children.next_under.Goals as goal

pub returns-in-Some-clause-step : goal.returns-in-Some-clause-step
returns-in-Some-clause-step c =
    let a = c.self.inside in
    let s = c.in-Some.found in
    let before : length c.args.self.now ≡ a.left = ap (λ cs. length cs) (sym c.self.view_is) ∙ length-left a.doc.now a.at a.left c.self.invariant in
    c.in-Some.ensures.step ∙ ap₂ (λ (x y : ℕ). raised c.args.steps.now (x - y)) (sym before) (sym (length-left a.doc.now s.next s.left c.in-Some.ensures.found.after))

pub returns-in-None-clause-step : goal.returns-in-None-clause-step
returns-in-None-clause-step c =
    let a = c.self.inside in
    let before : length c.args.self.now ≡ a.left = ap (λ cs. length cs) (sym c.self.view_is) ∙ length-left a.doc.now a.at a.left c.self.invariant in
    c.in-None.ensures.step ∙ ap (λ (x : ℕ). raised c.args.steps.now (x - 0)) (sym before)
