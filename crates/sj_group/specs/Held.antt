-- What is held of groups, and for which lists of rows it stands.
use Rattle.std.specs.Prelude.{◌≡◌, ◌≤◌, ℕ, List, map, length, All, false}
use Rattle.std.specs.Global.{Vec}
use Rattle.indexmap.specs.IndexMap.{IndexMap}
use Rattle.sj_value.specs.declared.clauses.Nulls.TheVariants as nulls
use Rattle.sj_build.specs.SoFar.{StandsForValues, StandsForFields}
use Rattle.sj_group.specs.declared.aggregate.Aggregate.{Aggregate}
use Rattle.sj_group.specs.declared.aggregate.Aggregate.TheVariants as aggregates
use Rattle.sj_group.specs.declared.gathered.Gathered.{Gathered}
use Rattle.sj_group.specs.declared.gathered.Gathered.TheVariants.{Array, Object}
use Rattle.sj_group.specs.declared.group.Group.{Group}
use Rattle.sj_group.specs.Grouping.{Row, value_at, member_of, first_seen, rows_of, number_of}

-- ---- a group

-- what is made of its rows
abbrev pub aggregate_of : Gathered → Aggregate
aggregate_of (Array array) = aggregates.Array
aggregate_of (Object object) = aggregates.Object

-- the second values or the members of these rows were added, in this order, and nothing else
abbrev pub Gathers : List Row → Gathered → Type 0
Gathers rows (Array array) = (array.nulls ≡ nulls.Null) × StandsForValues (map (value_at 1) rows) array
Gathers rows (Object object) = (object.nulls ≡ nulls.Null) × (object.unique ≡ false) × StandsForFields (map member_of rows) object

-- a group of these rows, of which there is at least one
pub record IsGroupOf (rows : List Row) (group : Group) : Type 0 where
  pub some : 1 ≤ length rows
  pub count : group.count ≡ number_of rows
  pub gathers : Gathers rows group.gathered

-- a group of some rows, of which this is made
pub record IsHeld (aggregate : Aggregate) (group : Group) : Type 0 where
  pub kind : aggregate_of group.gathered ≡ aggregate
  pub rows : List Row
  pub stands : IsGroupOf rows group

-- ---- all groups

-- what is made of each, and each with its key before it, in order
pub record HeldGroups : Type 0 where
  pub aggregate : Aggregate
  pub groups : List (List ℕ × Group)

abbrev pub held_groups : Aggregate → List (List ℕ × Group) → HeldGroups
held_groups aggregate groups = record { aggregate = aggregate; groups = groups }

-- entries, with the bytes of each key
abbrev pub shown_entries : List (Vec ℕ × Group) → List (List ℕ × Group)
shown_entries entries = map (λ entry. (entry.0.items, entry.1)) entries

-- what a map holds
abbrev pub shown : {S : Type 0} → IndexMap (Vec ℕ) Group S → List (List ℕ × Group)
shown groups = shown_entries groups.entries

-- These rows were added, in this order, and nothing else.
pub record StandsForRows (rows : List Row) (held : HeldGroups) : Type 0 where
  pub keys : map (λ group. group.0) held.groups ≡ first_seen rows
  pub each : All (λ group. IsGroupOf (rows_of group.0 rows) group.1) held.groups
