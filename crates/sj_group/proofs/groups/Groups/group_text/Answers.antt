use Rattle.std.proofs.Common.{◌≡◌, List, ◌++◌, [], get_or, slice_get, Some, sym, ap, subst, ◌∙◌}
use Rattle.std.proofs.lemmas.Result.{on_ok_weaker, on_err_weaker}
use Rattle.std.specs.Map.Iter.{deref_pair}
use Rattle.std.specs.Option.{option_map}
use Rattle.sj_text.specs.Prefixes.{AppendsPrefix}
use Rattle.sj_group.specs.Grouping.{Row, entry_text, grouped}
use Rattle.sj_group.specs.Held.{StandsForRows}
use Rattle.sj_group.proofs.Texts.{written}
use Rattle.sj_group.proofs.groups.Groups.group_text.Goals as goal

-- what is written is the text of that group
its_text : (c : goal.After-entry_text) (rows : List Row) → StandsForRows rows c.args.self.now
    → entry_text c.as_slice.result.now c.unwrap.result.1.now.count c.text.result.now ≡ get_or (grouped c.args.self.now.aggregate rows) c.args.i []
its_text c rows stands =
    let s = c.self.inside in
    let at : slice_get s.groups.entries c.args.i ≡ Some (c.unwrap.result.0.now, c.unwrap.result.1.now) = sym c.get_index.ensures.entry ∙ ap (option_map deref_pair) c.unwrap.ensures in
    written s.aggregate rows s.groups.entries (subst (StandsForRows rows) (sym c.self.view_is) stands) c.args.i c.unwrap.result.0.now c.unwrap.result.1.now at c.self.invariant c.as_slice.result.now c.text.result.now
    c.as_slice.ensures.value c.text.ensures
    ∙ ap (λ h. get_or (grouped h.aggregate rows) c.args.i []) c.self.view_is

pub returns-clause-ok : goal.returns-clause-ok
returns-clause-ok c = λ rows stands. on_ok_weaker c.entry_text.result (λ came. came ∙ ap (λ l. c.args.out.now ++ l) (its_text c rows stands)) c.entry_text.ensures.ok

pub returns-clause-err : goal.returns-clause-err
returns-clause-err c = λ rows stands. on_err_weaker c.entry_text.result (subst (λ l. AppendsPrefix c.args.out.now l c.entry_text.new.out) (its_text c rows stands)) c.entry_text.ensures.err
