use Rattle.std.proofs.Common.{ℕ, List, Bool, Some, Option, ap, ap₂, subst}
use Rattle.sj_item.specs.Items.{PullValue}
use Rattle.sj_doc.specs.Listed.{node_id, node_tree}
use Rattle.sj_path_tree.specs.declared.parts.Mode.{Mode}
use Rattle.sj_step.specs.Reach.{members_end}
use Rattle.sj_step.specs.Takes.{Takes}
use Rattle.sj_step.specs.Trace.{first}
use Rattle.sj_walk.specs.Walk.{members_left}
use Rattle.sj_step.proofs.Keyed.{takes_first, takes_none}
use Rattle.sj_walk.proofs.members.Members.next.Goals as goal

pub returns-in-Some : goal.returns-in-Some
returns-in-Some c =
    let m = c.args.self.now in
    let n = c.in-Some.member in
    takes_first m.mode m.key.now m.found (Some m.key.now, node_id n, node_tree n) c.next_under.new.self m.left c.args.steps.now c.next_under.new.steps c.in-Some.ensures.child c.in-Some.ensures.step

pub returns-in-Strict : goal.returns-in-Strict
returns-in-Strict c =
    let m = c.args.self.now in
    subst (λ (x : PullValue). Takes (members_left m) x (members_left record { mode = m.mode; key = m.key; found = m.found; left = c.next_under.new.self }) c.args.steps.now c.next_under.new.steps)
    (ap₂ (λ (o : Mode) (f : Bool). first (members_end o f)) c.in-Strict.is c.if-not-self.true)
    (takes_none m.mode m.key.now m.found c.next_under.new.self m.left c.args.steps.now c.next_under.new.steps c.in_default.ensures.child c.in_default.ensures.step)

pub returns-in_default-mode : goal.returns-in_default-mode
returns-in_default-mode c =
    let m = c.args.self.now in
    subst (λ (x : PullValue). Takes (members_left m) x (members_left record { mode = m.mode; key = m.key; found = m.found; left = c.next_under.new.self }) c.args.steps.now c.next_under.new.steps)
    (ap₂ (λ (o : Mode) (f : Bool). first (members_end o f)) c.in-Strict.is c.if-not-self.false)
    (takes_none m.mode m.key.now m.found c.next_under.new.self m.left c.args.steps.now c.next_under.new.steps c.in_default.ensures.child c.in_default.ensures.step)

pub returns-in_default-mode-2 : goal.returns-in_default-mode-2
returns-in_default-mode-2 c =
    let m = c.args.self.now in
    subst (λ (x : PullValue). Takes (members_left m) x (members_left record { mode = m.mode; key = m.key; found = m.found; left = c.next_under.new.self }) c.args.steps.now c.next_under.new.steps)
    (ap (λ (o : Mode). first (members_end o m.found)) c.in_default-mode.is)
    (takes_none m.mode m.key.now m.found c.next_under.new.self m.left c.args.steps.now c.next_under.new.steps c.in_default.ensures.child c.in_default.ensures.step)
