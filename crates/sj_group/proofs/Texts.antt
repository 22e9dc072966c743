-- The texts of groups, by their places.
use Rattle.std.proofs.Common.{◌≡◌, All, ℕ, ◌≤◌, ◌<◌, List, [], ◌∷◌, length, map, get_or, slice_get, Some, refl, sym, ap, subst, ◌∙◌, arith}
use Rattle.std.proofs.lemmas.List.{get_or-map, length-map}
use Rattle.std.proofs.lemmas.Option.{slice_get_within, get_or_from_slice_get}
use Rattle.std.specs.Global.{Vec}
use Rattle.std.specs.Map.{values_of}
use Rattle.sj_build.specs.SoFar.{so_far}
use Rattle.sj_group.specs.declared.aggregate.Aggregate.{Aggregate}
use Rattle.sj_group.specs.declared.group.Group.{Group}
use Rattle.sj_group.specs.Grouping.{Row, first_seen, rows_of, aggregate_text, entry_text, group_text, grouped}
use Rattle.sj_group.specs.Held.{aggregate_of, Gathers, IsHeld, IsGroupOf, shown_entries, held_groups, StandsForRows}

-- there is a text as soon as there is a row
some_text : (text : List Row → List ℕ) (rows : List Row) → 1 ≤ length rows → so_far text rows ≡ text rows
some_text text [] some = absurd (omega (arith, some))
some_text text (row ∷ rows) some = refl

-- the text of a group of these rows
group_written : (aggregate : Aggregate) (rows : List Row) (key : List ℕ) (group : Group) (text : List ℕ) → IsGroupOf rows group → aggregate_of group.gathered ≡ aggregate
    → text ≡ so_far (aggregate_text (aggregate_of group.gathered)) rows → entry_text key group.count text ≡ group_text aggregate key rows
group_written aggregate rows key group text g kind lent = λ j. entry_text key (g.count j) (made j)
  where
    made : text ≡ aggregate_text aggregate rows
    made = lent ∙ some_text (aggregate_text (aggregate_of group.gathered)) rows g.some ∙ ap (λ a. aggregate_text a rows) kind

module _ (aggregate : Aggregate) (rows : List Row) (entries : List (Vec ℕ × Group)) (stands : StandsForRows rows (held_groups aggregate (shown_entries entries))) (i : ℕ) (key : Vec ℕ) (group : Group)
    (at : slice_get entries i ≡ Some (key, group)) where
  within : i < length entries
  within = slice_get_within entries i (key, group) at

  within_shown : i < length (shown_entries entries)
  within_shown =
      let same : length (shown_entries entries) ≡ length entries = length-map entries (λ entry. (entry.0.items, entry.1)) in
      omega (arith, within, same)

  shown_at : get_or (shown_entries entries) i (key.items, group) ≡ (key.items, group)
  shown_at =
      get_or-map (λ (entry : Vec ℕ × Group). (entry.0.items, entry.1)) entries i (key, group) (key.items, group) within
      ∙ ap (λ (entry : Vec ℕ × Group). (entry.0.items, entry.1)) (get_or_from_slice_get entries i (key, group) (key, group) at)

  -- the group there is that of its rows
  group_at : IsGroupOf (rows_of key.items rows) group
  group_at = subst (λ (g : List ℕ × Group). IsGroupOf (rows_of g.0 rows) g.1) shown_at (stands.each i (key.items, group) within_shown)

  key_at : get_or (first_seen rows) i [] ≡ key.items
  key_at =
      ap (λ l. get_or l i []) (sym stands.keys)
      ∙ get_or-map (λ (g : List ℕ × Group). g.0) (shown_entries entries) i (key.items, group) [] within_shown
      ∙ ap (λ (g : List ℕ × Group). g.0) shown_at

  seen : i < length (first_seen rows)
  seen =
      let same : length (map (λ (g : List ℕ × Group). g.0) (shown_entries entries)) ≡ length (shown_entries entries) = length-map (shown_entries entries) (λ (g : List ℕ × Group). g.0) in
      omega (arith, within_shown, same, ap length stands.keys)

  -- and its text is the one there
  text_at : get_or (grouped aggregate rows) i [] ≡ group_text aggregate key.items (rows_of key.items rows)
  text_at = get_or-map (λ key. group_text aggregate key (rows_of key rows)) (first_seen rows) i [] [] seen ∙ ap (λ key. group_text aggregate key (rows_of key rows)) key_at

  -- what is made of it is what is made of all
  held_at : All (IsHeld aggregate) (values_of entries) → IsHeld aggregate group
  held_at all =
      let same : length (values_of entries) ≡ length entries = length-map entries (λ (entry : Vec ℕ × Group). entry.1) in
      subst (IsHeld aggregate) (get_or-map (λ (entry : Vec ℕ × Group). entry.1) entries i (key, group) group within ∙ ap (λ (entry : Vec ℕ × Group). entry.1) (get_or_from_slice_get entries i (key, group) (key, group) at))
      (all i group (omega (arith, within, same)))

  -- what is written of it is the text there
  pub written : All (IsHeld aggregate) (values_of entries) → (bytes text : List ℕ) → bytes ≡ key.items
      → ((rows : List Row) → Gathers rows group.gathered → text ≡ so_far (aggregate_text (aggregate_of group.gathered)) rows) → entry_text bytes group.count text ≡ get_or (grouped aggregate rows) i []
  written all bytes text is lent =
      ap (λ bytes. entry_text bytes group.count text) is
      ∙ group_written aggregate (rows_of key.items rows) key.items group text group_at (held_at all).kind (lent (rows_of key.items rows) group_at.gathers)
      ∙ sym text_at
