use Rattle.std.proofs.Common.{◌≡◌, map, ◌++◌, ◌∷◌, [], Some, ap, ◌∙◌, subst, arith}
use Rattle.sj_build.specs.declared.field.Field.{Field}
use Rattle.sj_build.specs.Constructors.{text_of, object_value}
use Rattle.sj_build.specs.Answers.{RefusesAs}
use Rattle.sj_group.specs.declared.aggregate.Aggregate.TheVariants as aggregates
use Rattle.sj_group.specs.Grouping.{IsRow, member_of}
use Rattle.sj_group.specs.Held.{aggregate_of, Gathers}
use Rattle.sj_group.proofs.Growth.{value_is, not_refused}
use Rattle.sj_group.proofs.gathered.Gathered.add.Goals as goal

pub unreachable-requires : goal.unreachable-requires
unreachable-requires c =
    let object = c.in-Object.object in
    let row = c.args.row.now in
    let own : IsRow aggregates.Object row = subst (λ g. IsRow (aggregate_of g) row) c.in-Object.is c.requires.row in
    let held = subst (Gathers c.requires.held.0) c.in-Object.is c.requires.held.1 in
    let member : Field = record { key = c.index-row-1-in-Object.result; value = c.index-row-2.result } in
    let name : text_of member.key ≡ Some own.named.text = ap text_of (value_is aggregates.Object row 1 member.key own.columns (omega arith) c.index-row-1-in-Object.is ∙ own.named.is) in
    not_refused (map member_of c.requires.held.0) object member own.named.text c.in-Err-State.field-0-0 held.0 held.1 held.2 name
    (subst (RefusesAs (object_value object.nulls object.unique (map member_of c.requires.held.0 ++ member ∷ []))) c.in-Err-State.field-0-is (c.in-Err-State.ensures.refusal (map member_of c.requires.held.0) held.2))
