use Rattle.std.proofs.Common.{◌≡◌, length, sym, ap, ◌∙◌, arith}
use Rattle.std.proofs.lemmas.Bool.Decides.{nat_tests}
use Rattle.sj_doc.proofs.Searching.{length-left, none_in}
use Rattle.sj_doc.proofs.children.Children.is_at_end.Goals as goal

pub returns : goal.returns
returns c =
    let a = c.self.inside in
    let count : length c.args.self.now ≡ a.left = ap (λ cs. length cs) (sym c.self.view_is) ∙ length-left a.doc.now a.at a.left c.self.invariant in
    (λ none. none_in c.args.self.now (grind (arith, nat_tests, none, count)), λ none. grind (arith, nat_tests, count, ap (λ cs. length cs) none))
