use Rattle.std.proofs.Common.{◌≡◌, ◌++◌, ℕ, List, [], ◌∷◌, refl, sym, ap, subst}
use Rattle.sj_group.specs.Grouping.{grouped}
use Rattle.sj_page.specs.Sides.{joined}
use Rattle.sj_page.specs.Pages.{print_state, Printed, Stopped}
use Rattle.sj_page.specs.declared.page.Page.{Page}
use Rattle.sj_file.specs.declared.status.Status.{Status}
use Rattle.sj_file.specs.declared.status.Status.TheVariants.{Done}
use Rattle.sj_stream.specs.Out.{out_at}
use Rattle.sj_stream.specs.Stream.{status_of}
use Rattle.sj_stream.specs.Then.{Ends}
use Rattle.sj_stream.proofs.Then.{ends_done, ends_cut}
use Rattle.sj_group_run.specs.Gathering.{groups_print}
use Rattle.sj_group_run.proofs.write.write_groups.Goals as goal

texts_are : (texts : List (List ℕ)) → (groups_print texts).text ≡ joined texts
texts_are [] = refl
texts_are (text ∷ texts) = ap (λ (l : List ℕ). text ++ l) (texts_are texts)

pub returns-in-Ok : goal.returns-in-Ok
returns-in-Ok g c = λ rows stands.
    let texts = grouped c.args.groups.now.aggregate rows in
    let to = out_at g.O.Sink c.args.out.now in
    let after = print_state g.O.Sink.taken g.O.Sink.size g.O.Sink.faults c.print_groups.new.out c.print_groups.new.page in
    let printed = subst (λ (page : Page). Printed (groups_print texts) (record { out = to; page = page }) after) c.new-page.ensures (c.in-Ok.ensures.prints rows stands) in
    subst (λ (text : List ℕ). Ends text to after.out Done) (texts_are texts) (ends_done (groups_print texts) to after printed c.in-Ok.ensures.empty)

pub returns : goal.returns
returns g c = λ rows stands.
    let texts = grouped c.args.groups.now.aggregate rows in
    let to = out_at g.O.Sink c.args.out.now in
    let after = print_state g.O.Sink.taken g.O.Sink.size g.O.Sink.faults c.print_groups.new.out c.print_groups.new.page in
    let stopped = subst (λ (page : Page). Stopped (groups_print texts) (record { out = to; page = page }) after c.in-Err.stop) c.new-page.ensures (c.in-Err.ensures.prints rows stands) in
    subst (λ (s : Status). Ends (joined texts) to after.out s) (sym c.status_of.ensures) (subst (λ (text : List ℕ). Ends text to after.out (status_of c.in-Err.stop)) (texts_are texts) (ends_cut (groups_print texts) to after c.in-Err.stop stopped))
