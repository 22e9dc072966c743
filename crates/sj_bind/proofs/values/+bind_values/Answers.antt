use Rattle.std.proofs.Common.{refl, sym, ap, subst, ◌∙◌, rules, arith}
use Rattle.std.proofs.lemmas.List.{nil_from_length}
use Rattle.sj_sql_tree.specs.View.{values_of, members_of}
use Rattle.sj_sql_tree.specs.declared.tree.Value.TheViews.{the_lemmas}
use Rattle.sj_bound.specs.Bound as b
use Rattle.sj_bound.proofs.Rows.{object as bound_object, array as bound_array}
use Rattle.sj_bind.specs.Fits.{IsFit}
use Rattle.sj_bind.specs.Meaning.{bound_value, bound_values, bound_members}
use Rattle.sj_bind.specs.Names.{names_of}
use Rattle.sj_bind.proofs.BoundLists.{values_before, values_before-none, members_before, members_before-none}
use Rattle.sj_bind.proofs.Constructed.{is_object, is_array}
use Rattle.sj_bind.proofs.values.+bind_values.Goals as goal

pub bind_value-bind_members-requires : goal.bind_value-bind_members-requires
bind_value-bind_members-requires t c = (search (rules, the_lemmas), (subst (IsFit (names_of c.args.columns.now)) (is_object c.in-Object.members c.in-Object.is refl) c.requires.fit, c.requires.few))

pub bind_value-bind_values-requires : goal.bind_value-bind_values-requires
bind_value-bind_values-requires t c = (search (rules, the_lemmas), (subst (IsFit (names_of c.args.columns.now)) (is_array c.in-Array.values c.in-Array.is refl) c.requires.fit, c.requires.few))

pub bind_value-returns-in_ok-members-in-Object : goal.bind_value-returns-in_ok-members-in-Object
bind_value-returns-in_ok-members-in-Object t c =
    bound_object c.in_ok-members-in-Object.members c.in-Object.nulls c.in-Object.unique
    ∙ ap (λ xs. b.Object xs c.in-Object.nulls c.in-Object.unique) c.in_ok-members-in-Object.ensures
    ∙ sym (ap (bound_value (names_of c.args.columns.now)) (is_object c.in-Object.members c.in-Object.is refl))

pub bind_value-returns-in_ok-values-in-Array : goal.bind_value-returns-in_ok-values-in-Array
bind_value-returns-in_ok-values-in-Array t c =
    bound_array c.in_ok-values-in-Array.values c.in-Array.nulls
    ∙ ap (λ xs. b.Array xs c.in-Array.nulls) c.in_ok-values-in-Array.ensures
    ∙ sym (ap (bound_value (names_of c.args.columns.now)) (is_array c.in-Array.values c.in-Array.is refl))

pub bind_values-returns : goal.bind_values-returns
bind_values-returns t c =
    sym (values_before-none c.loop-value.bound.items)
    ∙ ap (λ xs. values_before c.loop-value.bound.items (bound_values (names_of c.args.columns.now) (values_of xs))) (sym (nil_from_length c.loop-value.value-iterator.rest.items (omega (arith, c.loop-value.value-iterator.rest.ok.0, c.in-None.ensures.steps.0))))
    ∙ c.loop-value.invariant.all

pub bind_members-returns : goal.bind_members-returns
bind_members-returns t c =
    sym (members_before-none c.loop-member.bound.items)
    ∙ ap (λ xs. members_before c.loop-member.bound.items (bound_members (names_of c.args.columns.now) (members_of xs))) (sym (nil_from_length c.loop-member.member-iterator.rest.items (omega (arith, c.loop-member.member-iterator.rest.ok.0, c.in-None.ensures.steps.0))))
    ∙ c.loop-member.invariant.all
