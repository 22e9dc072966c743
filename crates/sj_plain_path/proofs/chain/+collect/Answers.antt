use Rattle.std.proofs.Common.{ap, sym, ◌∙◌}
use Rattle.sj_path_tree.specs.Tree as t
use Rattle.sj_path_tree.specs.View.{expr_of}
use Rattle.sj_plain_path.specs.Chains.{accessed, accessor}
use Rattle.sj_plain_path.proofs.Chains.{link_behind}
use Rattle.sj_plain_path.proofs.chain.+collect.Goals as goal

pub returns-in_ok-push-in-Some : goal.returns-in_ok-push-in-Some
returns-in_ok-push-in-Some n c = λ plain.
    ap (accessed t.Root) c.in_ok-push-in-Some.ensures.items
    ∙ link_behind t.Root c.collect.new.links.items c.in-Some.link
    ∙ ap (λ e. t.Access e (accessor c.in-Some.link)) (c.in_ok-plain-in-Some.ensures plain ∙ ap expr_of c.deref.ensures)
    ∙ ap (t.Access (expr_of c.in-Access.inner.value)) c.in-Some.ensures
    ∙ sym (ap expr_of c.in-Access.is)
