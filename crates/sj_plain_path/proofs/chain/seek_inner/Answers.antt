use Rattle.std.proofs.Common.{[], ◌∷◌, false, ap, sym, ◌∙◌}
use Rattle.sj_path_tree.specs.declared.parts.Mode.TheVariants.{Lax}
use Rattle.sj_step.proofs.Keyed.{fewer}
use Rattle.sj_plain_path.specs.Chains.{member_under}
use Rattle.sj_plain_path.proofs.Chains.{keyed, under_none, under_object, seeking_over, seeking_enough, sought_none, sought_same, member_next, members_over}
use Rattle.sj_plain_path.proofs.chain.seek_inner.Goals as goal

pub returns-in_default : goal.returns-in_default
returns-in_default c = sought_none _ _ _ (under_none c.args.search.now.how c.args.outer.now (member_under c.args.inner.now ∷ []) _ _ (rw c.kind.ensures at c.in_default.not-Object))

pub returns-then-seek_short : goal.returns-then-seek_short
returns-then-seek_short c =
    sought_same _ _ _ _ _ _ _
    (seeking_enough _ _ _ _ _ _ _ _ _ (member_next c.args.search.now.how _ _ _ c.args.outer.now (member_under c.args.inner.now ∷ []) _ _ _ _ _ _ c.members.invariant c.in-Some.ensures.child c.in-Some.ensures.step) (rw c.if-seek_short.true at c.seek_short.ensures))
    (under_object c.args.search.now.how c.args.outer.now (member_under c.args.inner.now ∷ []) _ _ (sym c.kind.ensures ∙ c.in-Object.is) ∙ ap (keyed c.args.search.now.how c.args.outer.now (member_under c.args.inner.now ∷ [])) (sym c.children-members.ensures))

pub members-smaller : goal.members-smaller
members-smaller c = fewer Lax _ false _ _ _ c.in-Some.ensures.child

pub members-preserved : goal.members-preserved
members-preserved c =
    seeking_over _ _ _ _ _ _ _ _ _ (member_next c.args.search.now.how _ _ _ c.args.outer.now (member_under c.args.inner.now ∷ []) _ _ _ _ _ _ c.members.invariant c.in-Some.ensures.child c.in-Some.ensures.step) (rw c.if-seek_short.false at c.seek_short.ensures)

pub returns : goal.returns
returns c =
    sought_same _ _ _ _ _ _ _
    (members_over c.args.search.now.how _ _ _ c.args.outer.now (member_under c.args.inner.now ∷ []) _ _ _ _ _ c.members.invariant c.in_default-next_under.ensures.child.0 c.in_default-next_under.ensures.child.1 c.in_default-next_under.ensures.step)
    (under_object c.args.search.now.how c.args.outer.now (member_under c.args.inner.now ∷ []) _ _ (sym c.kind.ensures ∙ c.in-Object.is) ∙ ap (keyed c.args.search.now.how c.args.outer.now (member_under c.args.inner.now ∷ [])) (sym c.children-members.ensures))
