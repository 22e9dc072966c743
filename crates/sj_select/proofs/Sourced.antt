-- What is left of a statement, by what its rows are made of.
use Rattle.std.proofs.Common.{◌≡◌, List, [], ◌∷◌, length, map, nat_eq, false, true, refl, subst}
use Rattle.sj_table.specs.Rows.{PlanRows}
use Rattle.sj_bound.specs.Bound as b
use Rattle.sj_select_list.specs.Aggregates.{Aggregate}
use Rattle.sj_select_list.specs.Line.{Line}
use Rattle.sj_select_list.specs.Taking.{aggregate_of}
use Rattle.sj_select_list.specs.declared.aggregate.Aggregate.{Aggregate as AggregateHeld}
use Rattle.sj_select.specs.Rows.{aggregated, aggregated_cost, over_rows, over_cost}

module _ (line : Line) (table : b.Table) (list : List b.Value) (left : PlanRows) where
  -- where there is an aggregate, aggregates are all that is given
  pub over_aggregates : (held : List AggregateHeld) (all : List Aggregate) → map aggregate_of held ≡ all → nat_eq (length held) 0 ≡ false → over_rows line table list all left ≡ aggregated line table all [] left
  over_aggregates [] all same some =
      let never : true ≡ false = some in
      let no : ⊥ = cc in
      absurd no
  over_aggregates (x ∷ xs) all same some = subst (λ l. over_rows line table list l left ≡ aggregated line table l [] left) same refl

  pub over_aggregates_cost : (held : List AggregateHeld) (all : List Aggregate) → map aggregate_of held ≡ all → nat_eq (length held) 0 ≡ false → over_cost line table list all left ≡ aggregated_cost line table all [] left
  over_aggregates_cost [] all same some =
      let never : true ≡ false = some in
      let no : ⊥ = cc in
      absurd no
  over_aggregates_cost (x ∷ xs) all same some = subst (λ l. over_cost line table list l left ≡ aggregated_cost line table l [] left) same refl
