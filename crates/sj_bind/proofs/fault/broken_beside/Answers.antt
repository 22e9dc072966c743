use Rattle.std.proofs.Common.{ℕ, List, ap, subst, ◌∙◌}
use Rattle.std.specs.List.{list_any}
use Rattle.sj_sql_tree.specs.View.{items_of}
use Rattle.sj_bind.specs.declared.flat.FlatColumn.{FlatColumn}
use Rattle.sj_bind.specs.FlatView.{columns_at, flat_of}
use Rattle.sj_bind.specs.Variables.{HaveSame}
use Rattle.sj_bind.specs.Names.{names_of}
use Rattle.sj_bind.specs.Parts.{names_in_items, keys_in_items}
use Rattle.sj_bind.specs.Rules.{all_columns, columns_alone, text_names}
use Rattle.sj_bind.specs.RowRules.{is_unknown}
use Rattle.sj_bind.proofs.Groups.{keys_alike}
use Rattle.sj_bind.proofs.fault.broken_beside.Goals as goal

pub returns-clause-unknown : goal.returns-clause-unknown
returns-clause-unknown c = c.broken_by_items.ensures.unknown ∙ ap (λ (names : List (List ℕ)). list_any (is_unknown names) (names_in_items (items_of c.args.items.now))) c.in_ok-columns.ensures

pub returns-clause-wrong : goal.returns-clause-wrong
returns-clause-wrong c =
    c.broken_by_items.ensures.wrong
    ∙ keys_alike (names_of c.in_ok-texts.texts) (text_names (all_columns (flat_of c.args.table.now))) (subst (λ (cs : List FlatColumn). HaveSame (names_of c.in_ok-texts.texts) (text_names (columns_alone (columns_at cs)))) c.as_slice.ensures.value c.in_ok-texts.ensures) (keys_in_items (items_of c.args.items.now))
