use Rattle.std.proofs.Common.{◌≡◌, ◌-◌, ◌≤◌}
use Rattle.sj_base.specs.Count.{raised}
use Rattle.sj_doc.specs.Children.{children_left, IsChildren}
use Rattle.sj_doc.specs.Keyed.{from_key}
use Rattle.sj_doc.proofs.children.find.Given as goal

abbrev pub invariant-children : goal.invariant-children
invariant-children l = record {
  lie : IsChildren l.doc l.next l.rest;
  same : from_key l.key (children_left l.doc l.from l.left) ≡ from_key l.key (children_left l.doc l.next l.rest);
  fewer : l.rest ≤ l.left;
  counted : l.steps ≡ raised l.initial.steps (l.left - l.rest);
}

abbrev pub decreases-children : goal.decreases-children
decreases-children l = l.rest
