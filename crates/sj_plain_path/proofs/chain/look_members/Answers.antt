use Rattle.std.proofs.Common.{[], ◌∷◌, sym, ◌∙◌}
use Rattle.sj_plain_path.specs.Chains.{member_under}
use Rattle.sj_plain_path.specs.declared.opening.Opening.TheVariants.{AsItIs}
use Rattle.sj_plain_path.proofs.Chains.{sought_same, member_object}
use Rattle.sj_plain_path.proofs.chain.look_members.Goals as goal

pub returns-in-Object : goal.returns-in-Object
returns-in-Object c =
    sought_same _ _ _ _ _ _ _ c.seek_inner.ensures
    (member_object AsItIs (record { ref_ptr = (0, 0); now = c.args.outer.now }) (member_under c.args.inner.now ∷ []) _ _ (sym c.kind.ensures ∙ c.in-Object.is))
