use Rattle.std.proofs.Common.{◌∙◌, sym, refl}
use Rattle.sj_cursor.proofs.Draws.{count_draws}
use Rattle.sj_cursor.proofs.Looks.{looking_from, looking_on, looking_enough, looking_end, looking_fault}
use Rattle.sj_cursor.proofs.cursor.Cursor.look_on.Goals as goal

pub looking-init : goal.looking-init
looking-init c = record {
  path = refl;
  vars = refl;
  root = refl;
  looking = looking_from _ _ _ _ refl;
}

pub returns-then-is_enough-clause-finds : goal.returns-then-is_enough-clause-finds
returns-then-is_enough-clause-finds c =
    looking_enough _ _ _ _ _ _ _ _ _ _ c.looking.invariant.looking c.in-Item.ensures.answers c.more-found.ensures (sym c.is_enough.ensures ∙ c.if-is_enough.true)

pub looking-smaller : goal.looking-smaller
looking-smaller c = count_draws _ _ _ _ _ c.in-Item.ensures.answers

pub looking-preserved : goal.looking-preserved
looking-preserved c = record {
  path = c.in-Item.ensures.path ∙ c.looking.invariant.path;
  vars = c.in-Item.ensures.vars ∙ c.looking.invariant.vars;
  root = c.in-Item.ensures.root ∙ c.looking.invariant.root;
  looking = looking_on _ _ _ _ _ _ _ _ _ _ c.looking.invariant.looking c.in-Item.ensures.answers c.more-found.ensures (sym c.is_enough.ensures ∙ c.if-is_enough.false);
}

pub returns-in-End-clause-finds : goal.returns-in-End-clause-finds
returns-in-End-clause-finds c = looking_end _ _ _ _ _ _ _ _ c.looking.invariant.looking c.in-End.ensures.answers

pub returns-in-Fault-clause-finds : goal.returns-in-Fault-clause-finds
returns-in-Fault-clause-finds c = looking_fault _ _ _ _ _ _ _ _ _ c.looking.invariant.looking c.in-Fault.ensures.answers
