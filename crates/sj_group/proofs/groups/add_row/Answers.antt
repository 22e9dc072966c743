use Rattle.std.proofs.Common.{◌≡◌, ◌∷◌, [], IfSome, Some, All, sym, ap, subst, ◌∙◌}
use Rattle.std.proofs.lemmas.List.Elements.{All-push}
use Rattle.std.proofs.lemmas.List.{map-append}
use Rattle.std.proofs.lemmas.Map.Steps.{set_value_same}
use Rattle.std.proofs.lemmas.Map.Views.{All-values-set_value, IfSome-lookup_from_All}
use Rattle.std.proofs.lemmas.Result.{on_ok_weaker, on_err_weaker}
use Rattle.std.specs.Map.{lookup, set_value, values_of}
use Rattle.std.specs.Str.{bytes_eq}
use Rattle.indexmap.specs.IndexMap.{insert_entry}
use Rattle.sj_group.specs.Grouping.{rows_of}
use Rattle.sj_group.specs.Held.{IsHeld, shown_entries}
use Rattle.sj_group.proofs.Entries.{has_key, each_held, its_group, came_again, came_first, held_on, put_last}
use Rattle.sj_group.proofs.groups.add_row.Goals as goal

pub returns-in-Some-clause-held : goal.returns-in-Some-clause-held
returns-in-Some-clause-held c =
    let es = c.args.groups.now.entries in
    let test = has_key c.args.key.now in
    let found : lookup test es ≡ Some c.in-Some.group.now = sym c.in-Some.ensures.value in
    let old : IsHeld c.args.aggregate c.in-Some.group.now = subst (λ o. IfSome o (IsHeld c.args.aggregate)) found (IfSome-lookup_from_All (IsHeld c.args.aggregate) test es c.requires.held) in
    let new = held_on c.args.aggregate c.args.row.now c.add.result c.in-Some.group.now c.add.new.self old c.add.ensures.aggregate c.add.ensures.group c.add.ensures.err in
    subst (λ l. All (IsHeld c.args.aggregate) (values_of l)) (sym (c.get_mut.follows.holds c.add.new.self).0) (All-values-set_value test (IsHeld c.args.aggregate) es c.add.new.self c.requires.held new)

pub returns-in-Some-clause-stands : goal.returns-in-Some-clause-stands
returns-in-Some-clause-stands c =
    let es = c.args.groups.now.entries in
    let key = c.args.key.now in
    let found : lookup (has_key key) es ≡ Some c.in-Some.group.now = sym c.in-Some.ensures.value in
    λ rows stands.
    on_ok_weaker c.add.result (λ new. came_again key rows c.args.row.now c.requires.key c.args.aggregate es _ c.in-Some.group.now c.add.new.self c.in-Some.ensures.unique found (c.get_mut.follows.holds c.add.new.self).0 new stands)
    (c.add.ensures.group (rows_of key rows) (its_group key rows es c.in-Some.group.now found (each_held rows es stands.each)))

pub returns-in-Some-clause-err : goal.returns-in-Some-clause-err
returns-in-Some-clause-err c =
    let es = c.args.groups.now.entries in
    let test = has_key c.args.key.now in
    let found : lookup test es ≡ Some c.in-Some.group.now = sym c.in-Some.ensures.value in
    on_err_weaker c.add.result (λ same. ap shown_entries ((c.get_mut.follows.holds c.add.new.self).0 ∙ ap (set_value test es) same ∙ set_value_same test es c.in-Some.group.now found)) c.add.ensures.err

pub returns-in_ok-insert-in-None-clause-held : goal.returns-in_ok-insert-in-None-clause-held
returns-in_ok-insert-in-None-clause-held c =
    let old = c.args.groups.now in
    let key = c.args.key.now in
    let k = c.in_ok-from_slice-in-None.field-0 in
    let group = c.in_ok-group-in-None.group in
    let bytes : k.items ≡ key = c.in_ok-from_slice-in-None.ensures.items in
    let put = c.in_ok-insert-in-None.ensures.entries ∙ ap (λ m. insert_entry (λ a b. bytes_eq a.items b.items) m.entries k group) c.get_mut.follows.holds-at-none ∙ put_last key old k group bytes (sym c.in-None.ensures.value) in
    let new : IsHeld c.args.aggregate group = record { kind = c.in_ok-group-in-None.ensures.aggregate; rows = c.args.row.now ∷ []; stands = c.in_ok-group-in-None.ensures.group } in
    subst (All (IsHeld c.args.aggregate)) (sym (ap values_of put ∙ map-append (λ e. e.1) old.entries ((k, group) ∷ []))) (All-push (IsHeld c.args.aggregate) (values_of old.entries) group c.requires.held new)

pub returns-in_ok-insert-in-None-clause-stands : goal.returns-in_ok-insert-in-None-clause-stands
returns-in_ok-insert-in-None-clause-stands c =
    let old = c.args.groups.now in
    let key = c.args.key.now in
    let k = c.in_ok-from_slice-in-None.field-0 in
    let group = c.in_ok-group-in-None.group in
    let bytes : k.items ≡ key = c.in_ok-from_slice-in-None.ensures.items in
    let put = c.in_ok-insert-in-None.ensures.entries ∙ ap (λ m. insert_entry (λ a b. bytes_eq a.items b.items) m.entries k group) c.get_mut.follows.holds-at-none ∙ put_last key old k group bytes (sym c.in-None.ensures.value) in
    λ rows stands. came_first key rows c.args.row.now c.requires.key c.args.aggregate old.entries _ k group bytes (sym c.in-None.ensures.value) put c.in_ok-group-in-None.ensures.group stands
