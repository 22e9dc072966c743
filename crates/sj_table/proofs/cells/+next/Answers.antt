use Rattle.std.proofs.Common.{refl, ap, ◌∙◌}
use Rattle.sj_table.specs.Cells.{core, path_source}
use Rattle.sj_table.specs.Rows.{nested, cross}
use Rattle.sj_table.proofs.Turns.{answer_at_hand, next_at_hand, answer_of_input, one_fewer}
use Rattle.sj_table.proofs.cells.+next.Goals as goal

pub Cell::next-returns-in-Nested-clause-takes : goal.Cell::next-returns-in-Nested-clause-takes
Cell::next-returns-in-Nested-clause-takes t c = rw c.in-Nested.is c.next-in-Nested.ensures.takes

-- ---- the entries of a path, each with the rows below it

pub Nested::next-returns-in_default : goal.Nested::next-returns-in_default
Nested::next-returns-in_default t c = rw (c.next_below.ensures.join, c.next_below.ensures.parent, c.next_below.ensures.below) (record {
  takes = answer_at_hand _ _ _ _ _ _ _ _ _ _ _ _ _ c.entries.invariant.near c.in_default.not-End (rw (c.next_below.ensures.join, c.next_below.ensures.parent) at c.next_below.ensures.takes);
  same = c.entries.invariant.same;
})

pub Nested::next-entries-smaller : goal.Nested::next-entries-smaller
Nested::next-entries-smaller t c = rw c.begin.ensures.parent (one_fewer _ _ _ _ _ _ _ (rw c.next_below.ensures.parent at c.in-Row.ensures.takes))

pub Nested::next-entries-preserved : goal.Nested::next-entries-preserved
Nested::next-entries-preserved t c =
    rw (c.begin.ensures.left _, c.begin.ensures.due _, c.begin.ensures.join, c.begin.ensures.parent, c.begin.ensures.below, c.next_below.ensures.join, c.next_below.ensures.below) (record {
      same = ap (λ s. nested c.entries.self.join s (core c.entries.self.below.value)) (c.next.ensures.same ∙ ap path_source c.next_below.ensures.parent) ∙ c.entries.invariant.same;
      near = next_at_hand _ _ _ _ _ _ _ _ _ _ _ _ _ _ _ _ _ c.entries.invariant.near c.in-End.ensures.takes _ _ _ (rw c.next_below.ensures.parent at c.in-Row.ensures.takes) refl refl;
    })

pub Nested::next-returns-in_default-next : goal.Nested::next-returns-in_default-next
Nested::next-returns-in_default-next t c = rw (c.next_below.ensures.join, c.next_below.ensures.below) (record {
  takes = answer_of_input _ _ _ _ _ _ _ _ _ _ _ _ _ _ _ _ _ c.entries.invariant.near c.in-End.ensures.takes _ _ _ _ _ c.in_default-next.not-Row (rw c.next_below.ensures.parent at c.next.ensures.takes);
  same = ap (λ s. nested c.entries.self.join s (core c.entries.self.below.value)) (c.next.ensures.same ∙ ap path_source c.next_below.ensures.parent) ∙ c.entries.invariant.same;
})

-- ---- the rows of the left side, each with the rows of the right one

pub Cross::next-returns-in_default : goal.Cross::next-returns-in_default
Cross::next-returns-in_default t c = rw (c.next_right.ensures.left, c.next_right.ensures.right) (record {
  takes = answer_at_hand _ _ _ _ _ _ _ _ _ _ _ _ _ c.rows.invariant.near c.in_default.not-End (rw c.next_right.ensures.left at c.next_right.ensures.takes);
  same = c.rows.invariant.same;
})

pub Cross::next-rows-smaller : goal.Cross::next-rows-smaller
Cross::next-rows-smaller t c = rw c.begin.ensures.left (one_fewer _ _ _ _ _ _ _ (rw (c.deref_mut.ensures.value, c.next_right.ensures.left) at c.in-Row.ensures.takes))

pub Cross::next-rows-preserved : goal.Cross::next-rows-preserved
Cross::next-rows-preserved t c =
    rw (c.begin.ensures.hand _ _, c.begin.ensures.due _ _, c.begin.ensures.left, c.begin.ensures.right, c.next_right.ensures.right) (record {
      same = ap (λ s. cross s (core c.rows.self.right.value)) (rw (c.deref_mut.ensures.value, c.next_right.ensures.left) at c.next.ensures.same) ∙ c.rows.invariant.same;
      near = next_at_hand _ _ _ _ _ _ _ _ _ _ _ _ _ _ _ _ _ c.rows.invariant.near c.in-End.ensures.takes _ _ _ (rw (c.deref_mut.ensures.value, c.next_right.ensures.left) at c.in-Row.ensures.takes) refl refl;
    })

pub Cross::next-returns-in_default-next : goal.Cross::next-returns-in_default-next
Cross::next-returns-in_default-next t c = rw c.next_right.ensures.right (record {
  takes = answer_of_input _ _ _ _ _ _ _ _ _ _ _ _ _ _ _ _ _ c.rows.invariant.near c.in-End.ensures.takes _ _ _ _ _ c.in_default-next.not-Row (rw (c.deref_mut.ensures.value, c.next_right.ensures.left) at c.next.ensures.takes);
  same = ap (λ s. cross s (core c.rows.self.right.value)) (rw (c.deref_mut.ensures.value, c.next_right.ensures.left) at c.next.ensures.same) ∙ c.rows.invariant.same;
})
