use Rattle.std.proofs.Common.{◌≡◌, false, eqb, ap, sym, ◌∙◌, refl, arith}
use Rattle.std.proofs.lemmas.Bool.Decides.{nat_tests}
use Rattle.sj_path_tree.specs.declared.parts.Mode.TheVariants.{Lax}
use Rattle.sj_step.proofs.Keyed.{fewer}
use Rattle.sj_plain_path.specs.Chains.{over, throughout}
use Rattle.sj_plain_path.proofs.Chains.{first_rest, sought_first, member_array, member_other, elements_array, elements_other, sought_element, index_short, index_first, index_none, keyed, under_none, under_object, seeking_over, seeking_enough, sought_none, sought_same, element_next, elements_over, member_next, members_over, member_last}
use Rattle.sj_plain_path.proofs.chain.+seek.Goals as goal

pub seek-returns-in-Array : goal.seek-returns-in-Array
seek-returns-in-Array t c =
    sought_first _ _ _ _ _ _ _ _ _ _ _ c.seek_under.ensures (first_rest _ _ _ c.in-len1-up.len_at_least c.in-Member.is)
    (member_array _ c.in-Member.key _ _ _ (sym c.kind.ensures ∙ c.in-Array.is))

pub seek-returns-in_default : goal.seek-returns-in_default
seek-returns-in_default t c =
    sought_first _ _ _ _ _ _ _ _ _ _ _ c.seek_members.ensures (first_rest _ _ _ c.in-len1-up.len_at_least c.in-Member.is)
    (member_other _ c.in-Member.key _ _ _ (rw c.kind.ensures at c.in_default.not-Array))

-- ---- the element at an index

pub seek-returns-in-Some : goal.seek-returns-in-Some
seek-returns-in-Some t c =
    sought_first _ _ _ _ _ _ _ _ _ _ _
    (sought_element _ _ _ _ _ _ _ c.in-Some.element _ _ _ _ (sym c.kind-in-Element.ensures ∙ c.in-Array-kind.is) c.in-Some.ensures c.seek.ensures)
    (first_rest _ _ _ c.in-len1-up.len_at_least c.in-Element.is)
    refl

pub seek-returns-in-None : goal.seek-returns-in-None
seek-returns-in-None t c =
    rw c.in-None.ensures.1
    (sought_first _ _ _ _ _ _ _ _ _ _ _ (sought_none _ _ _ (index_short _ _ _ _ _ (sym c.kind-in-Element.ensures ∙ c.in-Array-kind.is) c.in-None.ensures.0))
    (first_rest _ _ _ c.in-len1-up.len_at_least c.in-Element.is)
    refl)

pub seek_itself-returns-then-index-eq0 : goal.seek_itself-returns-then-index-eq0
seek_itself-returns-then-index-eq0 t c = sought_same _ _ _ _ _ _ _ c.seek.ensures (index_first _ _ _ _ _ c.requires c.if-index-eq0.true)

pub seek_itself-returns-else-index-eq0 : goal.seek_itself-returns-else-index-eq0
seek_itself-returns-else-index-eq0 t c =
    let behind : eqb c.args.index 0 ≡ false = grind (arith, nat_tests) in
    rw behind (sought_none _ _ _ (index_none _ _ _ _ _ c.requires c.if-index-eq0.false))

-- ---- the elements of an array

pub seek_elements-returns-in_default : goal.seek_elements-returns-in_default
seek_elements-returns-in_default t c = sought_same _ _ _ _ _ _ _ c.seek.ensures (elements_other _ _ _ _ (rw c.kind.ensures at c.in_default.not-Array))

pub seek_elements-returns-then-seek : goal.seek_elements-returns-then-seek
seek_elements-returns-then-seek t c =
    sought_same _ _ _ _ _ _ _
    (seeking_enough _ _ _ _ _ _ _ _ _ (element_next _ _ _ _ _ _ _ _ _ _ c.elements.invariant c.in-Some.ensures.child c.in-Some.ensures.step) (rw c.if-seek.true at c.seek-in-Some.ensures))
    (elements_array _ _ _ _ (sym c.kind.ensures ∙ c.in-Array.is) ∙ ap (throughout c.args.search.now.how c.args.rest.now) (sym c.children-elements.ensures))

pub seek_elements-elements-preserved : goal.seek_elements-elements-preserved
seek_elements-elements-preserved t c =
    seeking_over _ _ _ _ _ _ _ _ _ (element_next _ _ _ _ _ _ _ _ _ _ c.elements.invariant c.in-Some.ensures.child c.in-Some.ensures.step) (rw c.if-seek.false at c.seek-in-Some.ensures)

pub seek_elements-returns : goal.seek_elements-returns
seek_elements-returns t c =
    sought_same _ _ _ _ _ _ _
    (elements_over _ _ _ _ _ _ _ _ c.elements.invariant c.in_default-next.ensures.child.0 c.in_default-next.ensures.step)
    (elements_array _ _ _ _ (sym c.kind.ensures ∙ c.in-Array.is) ∙ ap (throughout c.args.search.now.how c.args.rest.now) (sym c.children-elements.ensures))

pub seek_under-returns-then-seek_members : goal.seek_under-returns-then-seek_members
seek_under-returns-then-seek_members t c =
    sought_same _ _ _ _ _ _ _
    (seeking_enough _ _ _ _ _ _ _ _ _ (element_next _ _ _ _ _ _ _ _ _ _ c.elements.invariant c.in-Some.ensures.child c.in-Some.ensures.step) (rw c.if-seek_members.true at c.seek_members.ensures))
    (ap (over c.args.search.now.how c.args.key.now c.args.rest.now) (sym c.children-elements.ensures))

pub seek_under-elements-preserved : goal.seek_under-elements-preserved
seek_under-elements-preserved t c =
    seeking_over _ _ _ _ _ _ _ _ _ (element_next _ _ _ _ _ _ _ _ _ _ c.elements.invariant c.in-Some.ensures.child c.in-Some.ensures.step) (rw c.if-seek_members.false at c.seek_members.ensures)

pub seek_under-returns : goal.seek_under-returns
seek_under-returns t c =
    sought_same _ _ _ _ _ _ _
    (elements_over _ _ _ _ _ _ _ _ c.elements.invariant c.in_default.ensures.child.0 c.in_default.ensures.step)
    (ap (over c.args.search.now.how c.args.key.now c.args.rest.now) (sym c.children-elements.ensures))

-- ---- the members under the key

pub seek_members-returns-in_default : goal.seek_members-returns-in_default
seek_members-returns-in_default t c = sought_none _ _ _ (under_none _ _ _ _ _ (rw c.kind.ensures at c.in_default.not-Object))

pub seek_members-returns-then-is_at_end : goal.seek_members-returns-then-is_at_end
seek_members-returns-then-is_at_end t c =
    sought_same _ _ _ _ _ _ _
    (member_last _ _ _ _ _ _ _ _ _ _ _ _ _ (member_next _ _ _ _ _ _ _ _ _ _ _ _ c.members.invariant c.in-Some.ensures.child c.in-Some.ensures.step) (c.is_at_end.ensures.0 c.if-is_at_end.true) c.seek.ensures)
    (under_object _ _ _ _ _ (sym c.kind.ensures ∙ c.in-Object.is) ∙ ap (keyed c.args.search.now.how c.args.key.now c.args.rest.now) (sym c.children-members.ensures))

pub seek_members-returns-then-seek : goal.seek_members-returns-then-seek
seek_members-returns-then-seek t c =
    sought_same _ _ _ _ _ _ _
    (seeking_enough _ _ _ _ _ _ _ _ _ (member_next _ _ _ _ _ _ _ _ _ _ _ _ c.members.invariant c.in-Some.ensures.child c.in-Some.ensures.step) (rw c.if-seek.true at c.seek-in-Some.ensures))
    (under_object _ _ _ _ _ (sym c.kind.ensures ∙ c.in-Object.is) ∙ ap (keyed c.args.search.now.how c.args.key.now c.args.rest.now) (sym c.children-members.ensures))

pub seek_members-members-smaller : goal.seek_members-members-smaller
seek_members-members-smaller t c = fewer Lax _ false _ _ _ c.in-Some.ensures.child

pub seek_members-members-preserved : goal.seek_members-members-preserved
seek_members-members-preserved t c =
    seeking_over _ _ _ _ _ _ _ _ _ (member_next _ _ _ _ _ _ _ _ _ _ _ _ c.members.invariant c.in-Some.ensures.child c.in-Some.ensures.step) (rw c.if-seek.false at c.seek-in-Some.ensures)

pub seek_members-returns : goal.seek_members-returns
seek_members-returns t c =
    sought_same _ _ _ _ _ _ _
    (members_over _ _ _ _ _ _ _ _ _ _ _ c.members.invariant c.in_default-next_under.ensures.child.0 c.in_default-next_under.ensures.child.1 c.in_default-next_under.ensures.step)
    (under_object _ _ _ _ _ (sym c.kind.ensures ∙ c.in-Object.is) ∙ ap (keyed c.args.search.now.how c.args.key.now c.args.rest.now) (sym c.children-members.ensures))
