-- The entries of the groups, as one row more comes.
use Rattle.std.proofs.Common.{◌≡◌, ℕ, Bool, true, false, cond, ◌||◌, List, [], ◌∷◌, ◌++◌, map, Some, None, Result, Ok, Err, OnOk, OnErr, is_some, unwrap_or, refl, sym, ap, subst, ◌∙◌, All}
use Rattle.std.proofs.lemmas.List.{map-append}
use Rattle.std.proofs.lemmas.List.Elements.{All-from_recursion, recursion_from_All, All-map, All-push}
use Rattle.std.proofs.lemmas.Map.{NonePasses, none_passes_from_lookup}
use Rattle.std.proofs.lemmas.Map.Keys.{IsDistinct-head, IsDistinct-tail}
use Rattle.std.proofs.lemmas.Cmp.{nat_list_eq_equiv}
use Rattle.std.specs.Global.{Vec}
use Rattle.std.specs.List.{AllByRecursion, IsDistinct}
use Rattle.std.specs.Map.{keys_of, lookup, set_value}
use Rattle.std.specs.Str.{bytes_eq}
use Rattle.indexmap.specs.IndexMap.{IndexMap, insert_entry}
use Rattle.indexmap.proofs.CallerLemmas.{insert_entry-new}
use Rattle.sj_base.specs.Names.{is_among}
use Rattle.sj_group.specs.declared.aggregate.Aggregate.{Aggregate}
use Rattle.sj_group.specs.declared.group.Group.{Group}
use Rattle.sj_group.specs.Grouping.{Row, key_of, first_seen, rows_of}
use Rattle.sj_group.specs.Held.{aggregate_of, IsHeld, IsGroupOf, shown_entries, held_groups, StandsForRows}
use Rattle.sj_group.proofs.FirstSight.{same, swapped, first_seen_last, first_seen_again, rows_more, rows_stay, no_rows}

-- the keys of entries, by their bytes
abbrev pub texts_of : List (Vec ℕ × Group) → List (List ℕ)
texts_of entries = map (λ group. group.0) (shown_entries entries)

-- each entry is the group of its rows
abbrev pub Each : List Row → List (Vec ℕ × Group) → Type 0
Each rows entries = AllByRecursion (λ entry. IsGroupOf (rows_of entry.0.items rows) entry.1) entries

pub each_shown : (rows : List Row) (entries : List (Vec ℕ × Group)) → Each rows entries → All (λ group. IsGroupOf (rows_of group.0 rows) group.1) (shown_entries entries)
each_shown rows entries each =
    All-map (λ group. IsGroupOf (rows_of group.0 rows) group.1) (λ entry. (entry.0.items, entry.1)) entries (All-from_recursion (λ entry. IsGroupOf (rows_of entry.0.items rows) entry.1) entries each)

pub each_held : (rows : List Row) (entries : List (Vec ℕ × Group)) → All (λ group. IsGroupOf (rows_of group.0 rows) group.1) (shown_entries entries) → Each rows entries
each_held rows entries all = go entries (recursion_from_All (λ group. IsGroupOf (rows_of group.0 rows) group.1) (shown_entries entries) all)
  where
    go : (entries : List (Vec ℕ × Group)) → AllByRecursion (λ group. IsGroupOf (rows_of group.0 rows) group.1) (shown_entries entries) → Each rows entries
    go [] all = tt
    go (entry ∷ entries) all = (all.0, go entries all.1)

the_same : (a b : Group) → Some a ≡ Some b → a ≡ b
the_same a b e = ap (λ r. unwrap_or r a) e

module _ (key : List ℕ) where
  abbrev pub has_key : Vec ℕ → Bool
  has_key k = bytes_eq key k.items

  -- whether a key is among those of the entries
  pub among : (entries : List (Vec ℕ × Group)) → is_among (texts_of entries) key ≡ is_some (lookup has_key entries)
  among [] = refl
  among (entry ∷ entries) = by (among entries) (bytes_eq key entry.0.items)
    where
      by : is_among (texts_of entries) key ≡ is_some (lookup has_key entries) → (b : Bool) → (b || is_among (texts_of entries) key) ≡ is_some (cond b (Some entry.1) (lookup has_key entries))
      by rest true = refl
      by rest false = rest

  -- a new value leaves the keys
  pub texts_stay : (entries : List (Vec ℕ × Group)) (group : Group) → texts_of (set_value has_key entries group) ≡ texts_of entries
  texts_stay [] group = refl
  texts_stay (entry ∷ entries) group = by (texts_stay entries group) (bytes_eq key entry.0.items)
    where
      by : texts_of (set_value has_key entries group) ≡ texts_of entries → (b : Bool) → texts_of (cond b ((entry.0, group) ∷ entries) (entry ∷ set_value has_key entries group)) ≡ texts_of (entry ∷ entries)
      by rest true = refl
      by rest false = ap (λ l. entry.0.items ∷ l) rest

  -- the group that is found is that of its rows
  pub its_group : (rows : List Row) (entries : List (Vec ℕ × Group)) (group : Group) → lookup has_key entries ≡ Some group → Each rows entries → IsGroupOf (rows_of key rows) group
  its_group rows [] group found each = absurd cc
  its_group rows (entry ∷ entries) group found each = by (λ f. its_group rows entries group f each.1) (bytes_eq key entry.0.items) refl found
    where
      by : (lookup has_key entries ≡ Some group → IsGroupOf (rows_of key rows) group) → (b : Bool) → bytes_eq key entry.0.items ≡ b → cond b (Some entry.1) (lookup has_key entries) ≡ Some group → IsGroupOf (rows_of key rows) group
      by rest true e f = subst (λ l. IsGroupOf (rows_of l rows) group) (sym (same key entry.0.items e)) (subst (IsGroupOf (rows_of entry.0.items rows)) (the_same entry.1 group f) each.0)
      by rest false e f = rest f

  -- the row that comes has this key
  module _ (rows : List Row) (row : Row) (is : key ≡ key_of row) where
    -- the group of another key stays
    other_stays : (entry : Vec ℕ × Group) → bytes_eq key entry.0.items ≡ false → IsGroupOf (rows_of entry.0.items rows) entry.1 → IsGroupOf (rows_of entry.0.items (rows ++ row ∷ [])) entry.1
    other_stays entry apart g =
        subst (λ l. IsGroupOf l entry.1) (sym (rows_stay rows row entry.0.items (ap (bytes_eq entry.0.items) (sym is) ∙ swapped key entry.0.items false apart))) g

    others_stay : (entries : List (Vec ℕ × Group)) → NonePasses has_key entries → Each rows entries → Each (rows ++ row ∷ []) entries
    others_stay [] none each = tt
    others_stay (entry ∷ entries) none each = (other_stays entry none.0 each.0, others_stay entries none.1 each.1)

    -- keys that differ from this one
    apart : (k : Vec ℕ) (entries : List (Vec ℕ × Group)) → key ≡ k.items → AllByRecursion (λ y. bytes_eq k.items y.items ≡ false) (keys_of entries) → NonePasses has_key entries
    apart k [] e all = tt
    apart k (entry ∷ entries) e all = (ap (λ l. bytes_eq l entry.0.items) e ∙ all.0, apart k entries e all.1)

    -- one group grows by the row
    one_grows : (entries : List (Vec ℕ × Group)) (old new : Group) → IsDistinct (λ a b. bytes_eq a.items b.items) (keys_of entries) → lookup has_key entries ≡ Some old → Each rows entries
        → IsGroupOf (rows_of key rows ++ row ∷ []) new → Each (rows ++ row ∷ []) (set_value has_key entries new)
    one_grows [] old new distinct found each grows = absurd cc
    one_grows (entry ∷ entries) old new distinct found each grows = by (λ f. one_grows entries old new (IsDistinct-tail (λ a b. bytes_eq a.items b.items) entry.0 (keys_of entries) distinct) f each.1 grows) (bytes_eq key entry.0.items) refl found
      where
        by : (lookup has_key entries ≡ Some old → Each (rows ++ row ∷ []) (set_value has_key entries new)) → (b : Bool) → bytes_eq key entry.0.items ≡ b → cond b (Some entry.1) (lookup has_key entries) ≡ Some old → Each (rows ++ row ∷ []) (cond b ((entry.0, new) ∷ entries) (entry ∷ set_value has_key entries new))
        by rest true e f =
            let k : key ≡ entry.0.items = same key entry.0.items e in
            let own : rows_of key (rows ++ row ∷ []) ≡ rows_of key rows ++ row ∷ [] = rows_more rows row key (ap (bytes_eq key) (sym is) ∙ ap (bytes_eq key) k ∙ e) in (
              subst (λ l. IsGroupOf (rows_of l (rows ++ row ∷ [])) new) k (subst (λ l. IsGroupOf l new) (sym own) grows),
              others_stay entries (apart entry.0 entries k (IsDistinct-head (λ a b. bytes_eq a.items b.items) entry.0 (keys_of entries) distinct)) each.1,
            )
        by rest false e f = (other_stays entry e each.0, rest f)

    -- The row came to the group of its key.
    pub came_again : (aggregate : Aggregate) (entries after : List (Vec ℕ × Group)) (old new : Group) → IsDistinct (λ a b. bytes_eq a.items b.items) (keys_of entries) → lookup has_key entries ≡ Some old
        → after ≡ set_value has_key entries new → IsGroupOf (rows_of key rows ++ row ∷ []) new
        → StandsForRows rows (held_groups aggregate (shown_entries entries)) → StandsForRows (rows ++ row ∷ []) (held_groups aggregate (shown_entries after))
    came_again aggregate entries after old new distinct found put grows stands =
        subst (λ l. StandsForRows (rows ++ row ∷ []) (held_groups aggregate (shown_entries l))) (sym put) (record {
          keys = texts_stay entries new ∙ stands.keys ∙ sym (first_seen_again rows row known);
          each = each_shown (rows ++ row ∷ []) (set_value has_key entries new) (one_grows entries old new distinct found (each_held rows entries stands.each) grows);
        })
      where
        known : is_among (first_seen rows) (key_of row) ≡ true
        known = ap (λ l. is_among l (key_of row)) (sym stands.keys) ∙ ap (is_among (texts_of entries)) (sym is) ∙ among entries ∙ ap is_some found

    -- The row came with a new key.
    pub came_first : (aggregate : Aggregate) (entries after : List (Vec ℕ × Group)) (k : Vec ℕ) (new : Group) → k.items ≡ key → lookup has_key entries ≡ None
        → after ≡ entries ++ (k, new) ∷ [] → IsGroupOf (row ∷ []) new
        → StandsForRows rows (held_groups aggregate (shown_entries entries)) → StandsForRows (rows ++ row ∷ []) (held_groups aggregate (shown_entries after))
    came_first aggregate entries after k new bytes found put one stands =
        subst (λ l. StandsForRows (rows ++ row ∷ []) (held_groups aggregate (shown_entries l))) (sym put) (record { keys = keys; each = each })
      where
        unknown : is_among (first_seen rows) (key_of row) ≡ false
        unknown = ap (λ l. is_among l (key_of row)) (sym stands.keys) ∙ ap (is_among (texts_of entries)) (sym is) ∙ among entries ∙ ap is_some found

        moved : shown_entries (entries ++ (k, new) ∷ []) ≡ shown_entries entries ++ (k.items, new) ∷ []
        moved = map-append (λ entry. (entry.0.items, entry.1)) entries ((k, new) ∷ [])

        keys : texts_of (entries ++ (k, new) ∷ []) ≡ first_seen (rows ++ row ∷ [])
        keys =
            ap (map (λ group. group.0)) moved
            ∙ map-append (λ group. group.0) (shown_entries entries) ((k.items, new) ∷ [])
            ∙ ap (λ l. l ++ k.items ∷ []) stands.keys
            ∙ ap (λ l. first_seen rows ++ l ∷ []) (bytes ∙ is)
            ∙ sym (first_seen_last rows row unknown)

        own : rows_of k.items (rows ++ row ∷ []) ≡ row ∷ []
        own =
            rows_more rows row k.items (ap (λ l. bytes_eq l (key_of row)) (bytes ∙ is) ∙ nat_list_eq_equiv.refl (key_of row))
            ∙ ap (λ l. l ++ row ∷ []) (no_rows rows k.items (ap (is_among (first_seen rows)) (bytes ∙ is) ∙ unknown))

        each : All (λ group. IsGroupOf (rows_of group.0 (rows ++ row ∷ [])) group.1) (shown_entries (entries ++ (k, new) ∷ []))
        each =
            subst (All (λ group. IsGroupOf (rows_of group.0 (rows ++ row ∷ [])) group.1)) (sym moved)
            (All-push (λ group. IsGroupOf (rows_of group.0 (rows ++ row ∷ [])) group.1) (shown_entries entries) (k.items, new)
            (each_shown (rows ++ row ∷ []) entries (others_stay entries (none_passes_from_lookup has_key entries found) (each_held rows entries stands.each)))
            (subst (λ l. IsGroupOf l new) (sym own) one))

-- what a group is made of stays when a row comes, or is refused
pub held_on : {T E : Type 0} (aggregate : Aggregate) (row : Row) (answer : Result T E) (old new : Group) → IsHeld aggregate old → aggregate_of new.gathered ≡ aggregate_of old.gathered
    → ((rows : List Row) → IsGroupOf rows old → OnOk answer (IsGroupOf (rows ++ row ∷ []) new)) → OnErr answer (new ≡ old) → IsHeld aggregate new
held_on aggregate row (Ok done) old new h k grows err = record { kind = k ∙ h.kind; rows = h.rows ++ row ∷ []; stands = grows h.rows h.stands }
held_on aggregate row (Err refused) old new h k grows err = subst (IsHeld aggregate) (sym err) h

-- a group with a new key is put behind the others
pub put_last : {S : Type 0} (key : List ℕ) (groups : IndexMap (Vec ℕ) Group S) (k : Vec ℕ) (group : Group) → k.items ≡ key → lookup (has_key key) groups.entries ≡ None
    → insert_entry (λ a b. bytes_eq a.items b.items) groups.entries k group ≡ groups.entries ++ (k, group) ∷ []
put_last key groups k group bytes found = insert_entry-new (λ a b. bytes_eq a.items b.items) groups k group (ap (λ l. lookup (has_key l) groups.entries) bytes ∙ found)
