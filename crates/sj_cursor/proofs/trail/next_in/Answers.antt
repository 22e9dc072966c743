use Rattle.std.proofs.Common.{◌≡◌, length, ◌∙◌, refl, arith}
use Rattle.sj_step.specs.Trace.{join}
use Rattle.sj_cursor.specs.Trails.{frame_left, stack_left}
use Rattle.sj_cursor.proofs.Trails.{leads_on, leads_same, frame_over, child_led, child_fewer, stack_behind, roomy_taken, roomy_put, stacked_put, put_is, led_item, led_end, smaller_taken, smaller_put}
use Rattle.sj_cursor.proofs.trail.next_in.Goals as goal

pub frames-smaller-in-Some-pop : goal.frames-smaller-in-Some-pop
frames-smaller-in-Some-pop c =
    smaller_taken _ _ _ _ _ _ _ _ (frame_over _ _ _ c.frames.invariant.roomy.at c.index-moves-frame.is _ _ _ _ _ c.in-None.ensures.gives c.in-None.ensures.step)
    (stack_behind _ _ _ _ c.in-Some-pop.ensures.items) c.in-Some-pop.ensures.items

pub frames-preserved-in-Some-pop : goal.frames-preserved-in-Some-pop
frames-preserved-in-Some-pop c = record {
  leads = leads_on _ _ _ _ _ _
      (leads_on _ _ _ _ _ _ c.frames.invariant.leads (frame_over _ _ _ c.frames.invariant.roomy.at c.index-moves-frame.is _ _ _ _ _ c.in-None.ensures.gives c.in-None.ensures.step))
      (leads_same _ _ _ (stack_behind _ _ _ _ c.in-Some-pop.ensures.items));
  roomy = roomy_taken _ _ _ _ _ _ c.frames.invariant.roomy.room c.frames.invariant.roomy.stacked c.in-Some-pop.ensures.capacity c.in-Some-pop.ensures.items;
  room = c.in-Some-pop.ensures.capacity ∙ c.frames.invariant.room;
}

pub returns-in-None-pop-clause-draws : goal.returns-in-None-pop-clause-draws
returns-in-None-pop-clause-draws c =
    let before : length c.frames.frames.items ≡ 0 = grind (arith, c.in-None-pop.ensures.cases.0) in
    let behind : length c.pop.new.self.items ≡ 0 = grind (arith, c.in-None-pop.ensures.cases.1) in
    led_end c.args.moves.now c.frames.frames.items c.pop.new.self.items _ _ _
    (leads_on _ _ _ _ _ _ c.frames.invariant.leads (frame_over _ _ _ c.frames.invariant.roomy.at c.index-moves-frame.is _ _ _ _ _ c.in-None.ensures.gives c.in-None.ensures.step))
    before behind

pub returns-in-Item-clause-draws : goal.returns-in-Item-clause-draws
returns-in-Item-clause-draws c =
    led_item _ _ _ _ _ _ _ _
    (child_led _ _ _ c.frames.invariant.roomy.at c.index-moves-frame.is _ _ c.in-Some.child _ _ _ _ _ _ _ c.frames.invariant.leads c.in-Some.ensures.gives c.in-Some.ensures.step c.in-Item.ensures.leads)
    c.push_reserved.ensures.items

pub returns-in-Item-clause-stacked : goal.returns-in-Item-clause-stacked
returns-in-Item-clause-stacked c = stacked_put _ _ _ _ _ _ c.frames.invariant.roomy refl c.push_reserved.ensures.items

pub frames-smaller-in-Nothing : goal.frames-smaller-in-Nothing
frames-smaller-in-Nothing c =
    let fewer =
    child_fewer _ _ _ c.frames.invariant.roomy.at c.index-moves-frame.is c.in-Some.child _ _ (stack_left c.args.moves.now c.frames.frames.items) _ _ _ c.in-Some.ensures.gives c.in-Some.ensures.fewer c.in-Nothing.ensures.leads in
    omega (arith, fewer)

pub frames-preserved-in-Nothing : goal.frames-preserved-in-Nothing
frames-preserved-in-Nothing c = record {
  leads = child_led _ _ _ c.frames.invariant.roomy.at c.index-moves-frame.is _ _ c.in-Some.child _ _ _ _ _ _ _ c.frames.invariant.leads c.in-Some.ensures.gives c.in-Some.ensures.step c.in-Nothing.ensures.leads;
  roomy = record { room = c.frames.invariant.roomy.room; stacked = c.frames.invariant.roomy.stacked; within = c.frames.invariant.roomy.within; at = c.frames.invariant.roomy.at };
  room = c.frames.invariant.room;
}

pub frames-smaller : goal.frames-smaller
frames-smaller c =
    smaller_put (join (frame_left c.args.moves.now c.frames.frame) (stack_left c.args.moves.now c.frames.frames.items)) _ _ _ _ _
    (child_fewer _ _ _ c.frames.invariant.roomy.at c.index-moves-frame.is c.in-Some.child _ _ (stack_left c.args.moves.now c.frames.frames.items) _ _ _ c.in-Some.ensures.gives c.in-Some.ensures.fewer c.in-Children.ensures.leads)
    (put_is c.args.moves.now c.frames.frames.items _ _ (record { left = c.children.result; at = c.in-Children.at }) _ c.push_reserved-in-Children.ensures.items c.children.ensures)
    c.push_reserved-in-Children.ensures.items

pub frames-preserved : goal.frames-preserved
frames-preserved c = record {
  leads = leads_on _ _ _ _ _ _
      (child_led _ _ _ c.frames.invariant.roomy.at c.index-moves-frame.is _ _ c.in-Some.child _ _ _ _ _ _ _ c.frames.invariant.leads c.in-Some.ensures.gives c.in-Some.ensures.step c.in-Children.ensures.leads)
      (leads_same _ _ _ (put_is c.args.moves.now c.frames.frames.items _ _ (record { left = c.children.result; at = c.in-Children.at }) _ c.push_reserved-in-Children.ensures.items c.children.ensures));
  roomy = roomy_put _ _ _ _ _ _ _ (record { left = c.children.result; at = c.in-Children.at }) c.frames.invariant.roomy refl c.push_reserved-in-Children.ensures.items c.push_reserved-in-Children.ensures.capacity c.in-Children.ensures.within.0 c.in-Children.ensures.within.1;
  room = c.push_reserved-in-Children.ensures.capacity ∙ c.frames.invariant.room;
}
