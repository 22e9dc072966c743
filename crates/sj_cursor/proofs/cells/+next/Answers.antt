use Rattle.std.specs.Int.{w128}
use Rattle.std.proofs.Common.{rules, to_z-of_z, SFits, ◌≡◌, ap, ◌∙◌, sym, refl, arith}
use Rattle.sj_cursor.specs.Left.{core, left, doing, doing_on, doing_nodes, operand_core, operand_left, each_core, binary_core, comparison_core, parts_core, bounds_core, doing_opening, done}
use Rattle.sj_plain_path.specs.declared.opening.Opening.TheVariants.{AsItIs, Unwrapped}
use Rattle.sj_cursor.proofs.Draws.{draws_after, draws_takes, join_answer, join_over, approaches_none, loop_answer, turn_near, turn_item, turn_begun, turn_over, turn_answer, count_draws}
use Rattle.sj_cursor.proofs.ItemAnswers.{no_end, no_item}
use Rattle.sj_cursor.proofs.Looks.{looking_from, looking_on, looking_enough, looking_end, looking_fault, exists_decides, single_answer, single_price, end_answer, end_price}
use Rattle.sj_cursor.proofs.Pairs.{pairing_from, pairing_item, pairing_stop, pairing_end, pairing_fault, pairings_from, pairings_item, pairings_stop, pairings_end, pairings_fault}
use Rattle.sj_cursor.proofs.ComparisonVerdicts.{compare_early, compare_all, right_decides}
use Rattle.sj_cursor.proofs.Operators.{as_it_is, sub_some}
use Rattle.sj_cursor.proofs.Parts.{element_goes, range_bad, range_goes, binary_bad, binary_stops, binary_goes}
use Rattle.sj_cursor.proofs.MadeNumbers.{operand_made, operand_price}
use Rattle.sj_cursor.proofs.Trails.{leads_draws}
use Rattle.sj_cursor.proofs.Connectives.{and_false, and_other, or_true, or_other, not_decides, unknown_decides, filter_draws}
use Rattle.sj_cursor.proofs.cells.+next.Goals as goal

-- ---- the items of an expression, opened

pub Operand::next-returns-in_default : goal.Operand::next-returns-in_default
Operand::next-returns-in_default t c = record {
  answers = loop_answer _ _ _ _ _ _ _ _ c.items.invariant.near (no_end _ _ c.in_default.not-End) (draws_takes _ _ _ _ _ c.put_next.ensures);
  same = c.items.invariant.same;
}

pub Operand::next-returns-then-not-may_open-clause-answers : goal.Operand::next-returns-then-not-may_open-clause-answers
Operand::next-returns-then-not-may_open-clause-answers t c =
    turn_item _ _ _ _ _ _ _ _ _ _ _ c.items.invariant.near (draws_takes _ _ _ _ _ c.in-End.ensures) (rw c.deref_mut.ensures.value at c.in-Item.ensures.answers) (c.may_open.ensures c.if-not-may_open.true _)

pub Operand::next-items-smaller : goal.Operand::next-items-smaller
Operand::next-items-smaller t c = rw c.reopen.ensures.same (count_draws _ _ _ _ _ (rw c.deref_mut.ensures.value at c.in-Item.ensures.answers))

pub Operand::next-items-preserved : goal.Operand::next-items-preserved
Operand::next-items-preserved t c = rw c.reopen.ensures.same (record {
  same = c.in-Item.ensures.same ∙ ap core c.deref_mut.ensures.value ∙ c.items.invariant.same;
  near = rw c.reopen.ensures.opened (turn_near _ _ _ _ _ _ _ _ _ _ _ _ _ c.items.invariant.near (draws_takes _ _ _ _ _ c.in-End.ensures) (rw c.deref_mut.ensures.value at c.in-Item.ensures.answers) (approaches_none _ _));
})

pub Operand::next-returns-in_default-next : goal.Operand::next-returns-in_default-next
Operand::next-returns-in_default-next t c = record {
  answers = turn_answer _ _ _ _ _ _ _ _ _ _ _ c.items.invariant.near (draws_takes _ _ _ _ _ c.in-End.ensures) (no_item _ _ c.in_default-next.not-Item) (rw c.deref_mut.ensures.value at c.next.ensures.answers);
  same = c.next.ensures.same ∙ ap core c.deref_mut.ensures.value ∙ c.items.invariant.same;
}

-- ---- going through all items

pub Operand::look-returns-in-Some-clause-finds : goal.Operand::look-returns-in-Some-clause-finds
Operand::look-returns-in-Some-clause-finds t c = rw (c.in-Some.ensures c.args.how) c.look.ensures

pub Operand::look-looking-init : goal.Operand::look-looking-init
Operand::look-looking-init t c = record {
  same = c.rewind.ensures.same;
  looking = looking_from _ _ _ _ (c.rewind.ensures.whole _);
}

pub Operand::look-returns-then-is_enough-clause-finds : goal.Operand::look-returns-then-is_enough-clause-finds
Operand::look-returns-then-is_enough-clause-finds t c =
    looking_enough _ _ _ _ _ _ _ _ _ _ c.looking.invariant.looking c.in-Item.ensures.answers c.more-found.ensures (sym c.is_enough.ensures ∙ c.if-is_enough.true)

pub Operand::look-looking-smaller : goal.Operand::look-looking-smaller
Operand::look-looking-smaller t c = count_draws _ _ _ _ _ c.in-Item.ensures.answers

pub Operand::look-looking-preserved : goal.Operand::look-looking-preserved
Operand::look-looking-preserved t c = record {
  same = c.in-Item.ensures.same ∙ c.looking.invariant.same;
  looking = looking_on _ _ _ _ _ _ _ _ _ _ c.looking.invariant.looking c.in-Item.ensures.answers c.more-found.ensures (sym c.is_enough.ensures ∙ c.if-is_enough.false);
}

pub Operand::look-returns-in-End-clause-finds : goal.Operand::look-returns-in-End-clause-finds
Operand::look-returns-in-End-clause-finds t c = looking_end _ _ _ _ _ _ _ _ c.looking.invariant.looking c.in-End.ensures.answers

pub Operand::look-returns-in-Fault-clause-finds : goal.Operand::look-returns-in-Fault-clause-finds
Operand::look-returns-in-Fault-clause-finds t c = looking_fault _ _ _ _ _ _ _ _ _ c.looking.invariant.looking c.in-Fault.ensures.answers

pub Operand::number-returns-in-Some-clause-answers : goal.Operand::number-returns-in-Some-clause-answers
Operand::number-returns-in-Some-clause-answers t c =
    c.single_operand.ensures ∙ ap Rattle.sj_cursor.specs.Numbers.operand_in (single_answer _ _ _ _ _ _ (rw (c.of_single-limit.ensures, ← c.in-Some.ensures Unwrapped) at c.look_in_place.ensures))

pub Operand::number-returns-in-Some-clause-costs : goal.Operand::number-returns-in-Some-clause-costs
Operand::number-returns-in-Some-clause-costs t c = single_price _ _ _ _ _ (rw (c.of_single-limit.ensures, ← c.in-Some.ensures Unwrapped) at c.look_in_place.ensures)

pub Operand::number-returns-in-Binary-clause-answers : goal.Operand::number-returns-in-Binary-clause-answers
Operand::number-returns-in-Binary-clause-answers t c =
    rw (← c.deref_mut.ensures.value, c.in-Binary.is) (operand_made (binary_core c.in-Binary.binary.value) _ _ _ _ (rw c.deref_mut-in-Binary.ensures.value at c.number.ensures.gives))

pub Operand::number-returns-in-Binary-clause-costs : goal.Operand::number-returns-in-Binary-clause-costs
Operand::number-returns-in-Binary-clause-costs t c =
    rw (← c.deref_mut.ensures.value, c.in-Binary.is) (operand_price (binary_core c.in-Binary.binary.value) _ _ _ _ (rw c.deref_mut-in-Binary.ensures.value at c.number.ensures.gives))

pub Operand::number-returns-clause-answers : goal.Operand::number-returns-clause-answers
Operand::number-returns-clause-answers t c =
    c.single_operand-2.ensures ∙ ap Rattle.sj_cursor.specs.Numbers.operand_in (single_answer _ _ _ _ _ _ (rw (c.of_single-limit.ensures, c.deref_mut.ensures.value) at c.look-look.ensures.finds))

pub Operand::number-returns-clause-costs : goal.Operand::number-returns-clause-costs
Operand::number-returns-clause-costs t c = single_price _ _ _ _ _ (rw (c.of_single-limit.ensures, c.deref_mut.ensures.value) at c.look-look.ensures.finds)

pub Operand::index-returns-clause-answers : goal.Operand::index-returns-clause-answers
Operand::index-returns-clause-answers t c = c.single_subscript.ensures ∙ ap Rattle.sj_cursor.specs.Numbers.subscript_in (single_answer _ _ _ _ _ _ (rw c.of_single.ensures at c.look-look.ensures.finds))

pub Operand::index-returns-clause-costs : goal.Operand::index-returns-clause-costs
Operand::index-returns-clause-costs t c = single_price _ _ _ _ _ (rw c.of_single.ensures at c.look-look.ensures.finds)

pub Operand::exists-returns-in-Some-clause-decides : goal.Operand::exists-returns-in-Some-clause-decides
Operand::exists-returns-in-Some-clause-decides t c =
    exists_decides _ _ _ _ _ _ (rw (c.of_exists-limit.ensures, ← c.in-Some.ensures AsItIs, as_it_is _ _) at c.look_in_place.ensures) c.exists.ensures

pub Operand::exists-returns-clause-decides : goal.Operand::exists-returns-clause-decides
Operand::exists-returns-clause-decides t c = exists_decides _ _ _ _ _ _ (rw (c.of_exists-limit.ensures, as_it_is _ _) at c.look.ensures.finds) c.exists-2.ensures

-- ---- pairs

pub Operand::see_pairing_by_cells-pairing-init : goal.Operand::see_pairing_by_cells-pairing-init
Operand::see_pairing_by_cells-pairing-init t c = record { same = c.rewind.ensures.same; pairing = pairing_from _ _ _ _ _ (c.rewind.ensures.whole Unwrapped) }

pub Operand::see_pairing_by_cells-returns-then-halts-clause-seen : goal.Operand::see_pairing_by_cells-returns-then-halts-clause-seen
Operand::see_pairing_by_cells-returns-then-halts-clause-seen t c =
    pairing_stop _ _ _ _ _ _ _ _ _ _ _ _ _ c.pairing.invariant.pairing c.in-Item.ensures.answers (rw c.truth.ensures at c.saw-pairing.ensures.found) (sym c.halts.ensures ∙ c.if-halts.true)

pub Operand::see_pairing_by_cells-pairing-smaller : goal.Operand::see_pairing_by_cells-pairing-smaller
Operand::see_pairing_by_cells-pairing-smaller t c = count_draws _ _ _ _ _ c.in-Item.ensures.answers

pub Operand::see_pairing_by_cells-pairing-preserved : goal.Operand::see_pairing_by_cells-pairing-preserved
Operand::see_pairing_by_cells-pairing-preserved t c = record {
  same = c.in-Item.ensures.same ∙ c.pairing.invariant.same;
  pairing = pairing_item _ _ _ _ _ _ _ _ _ _ _ _ _ c.pairing.invariant.pairing c.in-Item.ensures.answers (rw c.truth.ensures at c.saw-pairing.ensures.found) (rw c.truth.ensures at c.saw-pairing.ensures.doubt) (sym c.halts.ensures ∙ c.if-halts.false);
}

pub Operand::see_pairing_by_cells-returns-in-End-clause-seen : goal.Operand::see_pairing_by_cells-returns-in-End-clause-seen
Operand::see_pairing_by_cells-returns-in-End-clause-seen t c = pairing_end _ _ _ _ _ _ _ _ _ _ c.pairing.invariant.pairing c.in-End.ensures.answers

pub Operand::see_pairing_by_cells-returns-in-Fault-clause-seen : goal.Operand::see_pairing_by_cells-returns-in-Fault-clause-seen
Operand::see_pairing_by_cells-returns-in-Fault-clause-seen t c = pairing_fault _ _ _ _ _ _ _ _ _ _ _ c.pairing.invariant.pairing c.in-Fault.ensures.answers

pub Comparison::see_pairings-pairings-init : goal.Comparison::see_pairings-pairings-init
Comparison::see_pairings-pairings-init t c = record {
  same = ap (λ k. Rattle.sj_path_tree.specs.Tree.Compares c.args.self.now.op k (operand_core c.args.self.now.right)) c.rewind.ensures.same;
  op = refl;
  pairings = pairings_from _ _ _ _ _ _ (c.rewind.ensures.whole Unwrapped);
}

pub Comparison::see_pairings-pairings-smaller : goal.Comparison::see_pairings-pairings-smaller
Comparison::see_pairings-pairings-smaller t c = count_draws _ _ _ _ _ c.in-Item.ensures.answers

pub Comparison::see_pairings-pairings-preserved : goal.Comparison::see_pairings-pairings-preserved
Comparison::see_pairings-pairings-preserved t c =
    let right : operand_core c.pairings.self.right ≡ operand_core c.args.self.now.right = cc c.pairings.invariant.same in
    record {
      same = ap (λ k. Rattle.sj_path_tree.specs.Tree.Compares c.pairings.self.op k (operand_core c.see_pairing_apart.new.self)) c.in-Item.ensures.same
          ∙ ap (λ k. Rattle.sj_path_tree.specs.Tree.Compares c.pairings.self.op (operand_core c.pairings.self.left) k) c.see_pairing_apart.ensures.same
          ∙ c.pairings.invariant.same;
      op = c.pairings.invariant.op;
      pairings = rw c.saw-pairings.ensures.some (pairings_item _ _ _ _ _ _ _ _ _ _ _ _ _ _ _ _ _ _ c.pairings.invariant.pairings c.in-Item.ensures.answers
          (rw (right, c.pairings.invariant.op) at c.see_pairing_apart.ensures.seen) c.saw-pairings.ensures.found c.saw-pairings.ensures.doubt (sym c.halts.ensures ∙ c.if-halts.false));
    }

pub Comparison::see_pairings-returns-then-halts-clause-seen : goal.Comparison::see_pairings-returns-then-halts-clause-seen
Comparison::see_pairings-returns-then-halts-clause-seen t c =
    let right : operand_core c.pairings.self.right ≡ operand_core c.args.self.now.right = cc c.pairings.invariant.same in
    pairings_stop _ _ _ _ _ _ _ _ _ _ _ _ _ _ _ _ _ _ _ c.pairings.invariant.pairings c.in-Item.ensures.answers
    (rw (right, c.pairings.invariant.op) at c.see_pairing_apart.ensures.seen) c.saw-pairings.ensures.found (sym c.halts.ensures ∙ c.if-halts.true)

pub Comparison::see_pairings-returns-in-End-clause-seen : goal.Comparison::see_pairings-returns-in-End-clause-seen
Comparison::see_pairings-returns-in-End-clause-seen t c = pairings_end _ _ _ _ _ _ _ _ _ _ _ _ c.pairings.invariant.pairings c.in-End.ensures.answers

pub Comparison::see_pairings-returns-in-Fault-clause-seen : goal.Comparison::see_pairings-returns-in-Fault-clause-seen
Comparison::see_pairings-returns-in-Fault-clause-seen t c = pairings_fault _ _ _ _ _ _ _ _ _ _ _ _ _ c.pairings.invariant.pairings c.in-Fault.ensures.answers

pub Comparison::asks_right-returns-clause-asked : goal.Comparison::asks_right-returns-clause-asked
Comparison::asks_right-returns-clause-asked t c = rw c.if-some.false (record {
  answers = c.is_some.ensures ∙ end_answer _ _ _ _ c.look.ensures.finds;
  costs = end_price _ _ _ _ c.look.ensures.finds;
})

pub Comparison::holds_pairwise-returns-then-halts-clause-decides : goal.Comparison::holds_pairwise-returns-then-halts-clause-decides
Comparison::holds_pairwise-returns-then-halts-clause-decides t c =
    compare_early _ _ _ _ _ _ _ _ _ (rw c.is_early-early.ensures at c.see_pairings-pairings.ensures.seen) (rw c.is_early-early.ensures at (sym c.halts.ensures ∙ c.if-halts.true))

pub Comparison::holds_pairwise-returns-clause-decides : goal.Comparison::holds_pairwise-returns-clause-decides
Comparison::holds_pairwise-returns-clause-decides t c =
    let right : operand_core c.see_pairings-pairings.new.self.right ≡ operand_core c.args.self.now.right = cc c.see_pairings-pairings.ensures.same in
    rw c.truth.ensures (compare_all _ _ _ _ _ _ _ _ _ _ _ (rw c.is_early-early.ensures at c.see_pairings-pairings.ensures.seen) (rw c.is_early-early.ensures at (sym c.halts.ensures ∙ c.if-halts.false)) (rw right at c.asks_right-faulty.ensures.asked))

pub Comparison::holds-returns-in-Some : goal.Comparison::holds-returns-in-Some
Comparison::holds-returns-in-Some t c = record {
  decides = right_decides _ _ _ _ _ _ _ _ _ _ _ (c.in-Some.ensures _) c.is_early-early.ensures c.truth.ensures c.see_pairing.ensures.seen;
  same = ap (λ k. Rattle.sj_path_tree.specs.Tree.Compares c.args.self.now.op k (operand_core c.args.self.now.right)) c.see_pairing.ensures.same;
}

pub Comparison::holds_beside_any-returns-then-put_one : goal.Comparison::holds_beside_any-returns-then-put_one
Comparison::holds_beside_any-returns-then-put_one t c = record {
  decides = right_decides _ _ _ _ _ _ _ _ _ _ _ (c.put_one.ensures c.if-put_one.true) c.is_early-early.ensures c.truth.ensures c.see_pairing_apart.ensures.seen;
  same = ap (λ k. Rattle.sj_path_tree.specs.Tree.Compares c.args.self.now.op k (operand_core c.args.self.now.right)) c.see_pairing_apart.ensures.same;
}

pub Start::holds-returns-clause-decides : goal.Start::holds-returns-clause-decides
Start::holds-returns-clause-decides t c =
    right_decides _ _ _ _ _ _ _ _ _ _ _ (ap Rattle.sj_step.specs.Trace.only (sym c.initial_item-initial.ensures)) c.is_early-early.ensures c.truth.ensures c.see_pairing_apart.ensures.seen

-- ---- connectives and filters

pub Both::and-returns-in-False-clause-decides : goal.Both::and-returns-in-False-clause-decides
Both::and-returns-in-False-clause-decides t c = and_false _ _ _ _ (rw c.deref_mut.ensures.value at c.in-False.ensures.decides)

pub Both::and-returns-in_default : goal.Both::and-returns-in_default
Both::and-returns-in_default t c = record {
  decides = rw c.and.ensures (and_other _ _ _ _ _ _ _ c.in_default.not-False (rw c.deref_mut.ensures.value at c.holds-left.ensures.decides) (rw c.deref_mut-in_default.ensures.value at c.holds.ensures.decides));
  same = ap (λ k. Rattle.sj_path_tree.specs.Tree.And k (Rattle.sj_cursor.specs.Left.test_core c.holds.new.self)) (c.holds-left.ensures.same ∙ ap Rattle.sj_cursor.specs.Left.test_core c.deref_mut.ensures.value)
      ∙ ap (λ k. Rattle.sj_path_tree.specs.Tree.And (Rattle.sj_cursor.specs.Left.test_core c.args.self.now.left.value) k) (c.holds.ensures.same ∙ ap Rattle.sj_cursor.specs.Left.test_core c.deref_mut-in_default.ensures.value);
}

pub Both::or-returns-in-True-clause-decides : goal.Both::or-returns-in-True-clause-decides
Both::or-returns-in-True-clause-decides t c = or_true _ _ _ _ (rw c.deref_mut.ensures.value at c.in-True.ensures.decides)

pub Both::or-returns-in_default : goal.Both::or-returns-in_default
Both::or-returns-in_default t c = record {
  decides = rw c.or.ensures (or_other _ _ _ _ _ _ _ c.in_default.not-True (rw c.deref_mut.ensures.value at c.holds-left.ensures.decides) (rw c.deref_mut-in_default.ensures.value at c.holds.ensures.decides));
  same = ap (λ k. Rattle.sj_path_tree.specs.Tree.Or k (Rattle.sj_cursor.specs.Left.test_core c.holds.new.self)) (c.holds-left.ensures.same ∙ ap Rattle.sj_cursor.specs.Left.test_core c.deref_mut.ensures.value)
      ∙ ap (λ k. Rattle.sj_path_tree.specs.Tree.Or (Rattle.sj_cursor.specs.Left.test_core c.args.self.now.left.value) k) (c.holds.ensures.same ∙ ap Rattle.sj_cursor.specs.Left.test_core c.deref_mut-in_default.ensures.value);
}

pub Test::holds_of_any-returns-in-Not-clause-decides : goal.Test::holds_of_any-returns-in-Not-clause-decides
Test::holds_of_any-returns-in-Not-clause-decides t c = rw (c.in-Not.is, c.not.ensures) (not_decides _ _ _ _ (rw c.deref_mut-in-Not.ensures.value at c.holds-in-Not.ensures.decides))

pub Test::holds_of_any-returns-in-IsUnknown-clause-decides : goal.Test::holds_of_any-returns-in-IsUnknown-clause-decides
Test::holds_of_any-returns-in-IsUnknown-clause-decides t c = rw (c.in-IsUnknown.is, c.is_unknown.ensures) (unknown_decides _ _ _ _ (rw c.deref_mut-in-IsUnknown.ensures.value at c.holds-in-IsUnknown.ensures.decides))

pub Filter::begin-returns-clause-answers : goal.Filter::begin-returns-clause-answers
Filter::begin-returns-clause-answers t c =
    let fits : SFits w128 c.args.env.now.last = search rules in
    rw c.kept.ensures (filter_draws _ _ _ _ _ (simp to_z-of_z at (rw c.deref_mut.ensures.value at c.holds.ensures.decides)))

-- ---- what is done with each item

pub Each::next-returns-in_default : goal.Each::next-returns-in_default
Each::next-returns-in_default t c = rw c.next.ensures.same (record {
  answers = loop_answer _ _ _ _ _ _ _ _ c.items.invariant.near (no_end _ _ c.in_default.not-End) c.next.ensures.answers;
  same = c.items.invariant.same;
})

pub Each::next-returns-in_default-begin : goal.Each::next-returns-in_default-begin
Each::next-returns-in_default-begin t c = rw (c.begin.ensures.same, c.in-End.ensures.same) (record {
  answers = turn_begun _ _ _ _ _ _ _ _ _ _ _ _ _ _ c.items.invariant.near c.in-End.ensures.answers (rw (c.opening.ensures, c.in-End.ensures.same) at c.in-Item.ensures.answers)
      (no_end _ _ c.in_default-begin.not-End) (rw c.in-End.ensures.same at c.begin.ensures.answers);
  same = ap (doing_on (doing c.items.self.operator)) c.in-Item.ensures.same ∙ c.items.invariant.same;
})

pub Each::next-items-smaller : goal.Each::next-items-smaller
Each::next-items-smaller t c = rw (c.in-End-begin.ensures.same, c.in-End.ensures.same) (count_draws _ _ _ _ _ (rw (c.opening.ensures, c.in-End.ensures.same) at c.in-Item.ensures.answers))

pub Each::next-items-preserved : goal.Each::next-items-preserved
Each::next-items-preserved t c = rw (c.in-End-begin.ensures.same, c.in-End.ensures.same) (record {
  same = ap (doing_on (doing c.items.self.operator)) c.in-Item.ensures.same ∙ c.items.invariant.same;
  near = turn_over _ _ _ _ _ _ _ _ _ _ _ _ _ c.items.invariant.near c.in-End.ensures.answers (rw (c.opening.ensures, c.in-End.ensures.same) at c.in-Item.ensures.answers) (rw c.in-End.ensures.same at c.in-End-begin.ensures.answers);
})

pub Each::next-returns-in_default-next : goal.Each::next-returns-in_default-next
Each::next-returns-in_default-next t c = rw c.in-End.ensures.same (record {
  answers = turn_answer _ _ _ _ _ _ _ _ _ _ _ c.items.invariant.near c.in-End.ensures.answers (no_item _ _ c.in_default-next.not-Item) (rw (c.opening.ensures, c.in-End.ensures.same) at c.next-in-items.ensures.answers);
  same = ap (doing_on (doing c.items.self.operator)) c.next-in-items.ensures.same ∙ c.items.invariant.same;
})

-- ---- subscripts

pub MoreParts::next-returns-in-End-clause-answers : goal.MoreParts::next-returns-in-End-clause-answers
MoreParts::next-returns-in-End-clause-answers t c = join_over _ _ _ _ _ _ _ _ c.in-End.ensures.answers (rw c.deref_mut.ensures.value at c.next-in-End.ensures.answers)

pub MoreParts::next-returns-in_default : goal.MoreParts::next-returns-in_default
MoreParts::next-returns-in_default t c = record {
  answers = join_answer _ _ _ _ _ _ (no_end _ _ c.in_default.not-End) c.next.ensures.answers;
  same = ap (λ k. Rattle.sj_path_tree.specs.Tree.More k (parts_core c.args.self.now.others.value)) c.next.ensures.same;
}

pub Part::next-returns-in-Unasked-clause-answers : goal.Part::next-returns-in-Unasked-clause-answers
Part::next-returns-in-Unasked-clause-answers t c = rw c.in-Unasked.is (draws_after _ _ _ _ _ _ _ c.start-walk.ensures.starts (draws_takes _ _ _ _ _ c.put_next-answer.ensures))

pub Operand::element-returns-clause-starts : goal.Operand::element-returns-clause-starts
Operand::element-returns-clause-starts t c = rw c.element_at.ensures (element_goes _ _ _ _ _ _ (rw (as_it_is _ _) at c.index-index.ensures.answers) (rw (as_it_is _ _) at c.index-index.ensures.costs))

pub Range::start-returns-in-Ok-clause-starts : goal.Range::start-returns-in-Ok-clause-starts
Range::start-returns-in-Ok-clause-starts t c = rw c.range_between.ensures (range_goes _ _ _ _ _ _ _ _ _ _ c.in-Ok.is (rw (as_it_is _ _) at c.index-from.ensures.answers) (rw (as_it_is _ _) at c.index-from.ensures.costs) (rw (as_it_is _ _) at c.index-to.ensures.answers) (rw (as_it_is _ _) at c.index-to.ensures.costs))

pub Range::start-returns-in-Err-clause-starts : goal.Range::start-returns-in-Err-clause-starts
Range::start-returns-in-Err-clause-starts t c = rw c.of_fault.ensures (range_bad _ _ _ _ _ _ _ (rw (as_it_is _ _) at c.in-Err.ensures.answers) (rw (as_it_is _ _) at c.in-Err.ensures.costs))

-- ---- arithmetic

pub Binary::number-returns-in-Ok-number-clause-gives : goal.Binary::number-returns-in-Ok-number-clause-gives
Binary::number-returns-in-Ok-number-clause-gives t c =
    rw c.binary.ensures (binary_goes _ _ _ _ _ _ _ _ _ c.in-Ok.ensures.answers c.in-Ok.ensures.costs c.in-Ok-number.ensures.answers c.in-Ok-number.ensures.costs)

pub Binary::number-returns-in-Err-number-clause-gives : goal.Binary::number-returns-in-Err-number-clause-gives
Binary::number-returns-in-Err-number-clause-gives t c =
    binary_stops _ _ _ _ _ _ _ _ _ c.in-Ok.ensures.answers c.in-Ok.ensures.costs c.in-Err-number.ensures.answers c.in-Err-number.ensures.costs

pub Binary::number-returns-in-Err-clause-gives : goal.Binary::number-returns-in-Err-clause-gives
Binary::number-returns-in-Err-clause-gives t c = binary_bad _ _ _ _ _ _ _ c.in-Err.ensures.answers c.in-Err.ensures.costs

pub Binary::next-returns-in-Unasked-clause-answers : goal.Binary::next-returns-in-Unasked-clause-answers
Binary::next-returns-in-Unasked-clause-answers t c =
    rw c.in-Unasked.is (leads_draws _ _ _ _ _ _ _ c.number.ensures.gives (draws_takes _ _ _ _ _ (rw c.number_walk-walk.ensures at c.put_next-answer.ensures)))

pub MoreParts::next-next-requires-in-End : goal.MoreParts::next-next-requires-in-End
MoreParts::next-next-requires-in-End t c = rw c.deref_mut.ensures.value (omega (arith, sub_some (bounds_core c.args.self.now.first.bounds)), search rules)
