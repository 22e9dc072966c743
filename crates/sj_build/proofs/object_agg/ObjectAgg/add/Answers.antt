use Rattle.std.proofs.Common.{◌≡◌, is_some, Some, None, Ok, ◌++◌, ◌∷◌, [], sym, ap, ◌∙◌, subst}
use Rattle.std.proofs.lemmas.Result.{err_from_is_err_and}
use Rattle.sj_value.specs.declared.value.SqlValue.TheVariants.{Json}
use Rattle.sj_build.specs.Answers.{RefusesAs}
use Rattle.sj_build.specs.declared.field.Field.{Field}
use Rattle.sj_build.specs.Constructors.{is_kept, kept_key, pair_text, member_text, object_text, object_value}
use Rattle.sj_text.specs.Rendering.{comma}
use Rattle.sj_build.specs.Growing.{opening}
use Rattle.sj_build.specs.SoFar.{ObjectSoFar, AreTaken, StandsForFields}
use Rattle.sj_build.specs.Keys.{owned_keys}
use Rattle.sj_text.specs.declared.place.Place.TheVariants.{Later}
use Rattle.sj_build.proofs.Growing.{text_kept, text_dropped}
use Rattle.sj_build.proofs.Taken.{is_dropped, has_key, shown, refuses_null, refuses_as, takes_dropped, takes_kept}
use Rattle.sj_build.proofs.object_agg.ObjectAgg.add.Goals as goal

pub returns-in_err-key-clause-refusal : goal.returns-in_err-key-clause-refusal
returns-in_err-key-clause-refusal c =
    let s = c.self.inside in
    let field : Field = record { key = c.args.key.now; value = c.args.value.now } in
    let p = err_from_is_err_and c.from_residual.result c.from_residual.ensures.1 in
    λ fields stand.
    let old = subst (StandsForFields fields) (sym c.self.view_is) stand in
    let cause = refuses_null s.nulls (is_some s.keys) fields s.place (owned_keys s.keys) old.taken field [] (Json (object_text s.nulls (fields ++ field ∷ []))) c.in_err-key.field-0.0 c.in_err-key.ensures.refusal in
    rw (p.1, p.2) (subst (λ (held : ObjectSoFar). RefusesAs (object_value held.nulls held.unique (fields ++ field ∷ [])) c.in_err-key.field-0.0) c.self.view_is cause)

pub returns-in_default-clause-stands : goal.returns-in_default-clause-stands
returns-in_default-clause-stands c =
    let s = c.self.inside in
    let field : Field = record { key = c.args.key.now; value = c.args.value.now } in
    let dropped : kept_key s.nulls field ≡ Ok None = c.in_ok-key.ensures.ok ∙ ap shown c.in_default.is in
    λ fields stand.
    let old = subst (StandsForFields fields) (sym c.self.view_is) stand in
    record {
      taken = takes_dropped s.nulls (is_some s.keys) fields s.place (owned_keys s.keys) old.taken field dropped;
      text = text_dropped member_text (λ f. is_kept s.nulls f.value) 123 125 fields field s.text c.open.new.text (is_dropped s.nulls field dropped) old.text c.in_ok-open.ensures.ok;
    }

pub returns-in-Err-clause-refusal : goal.returns-in-Err-clause-refusal
returns-in-Err-clause-refusal c =
    let s = c.self.inside in
    let field : Field = record { key = c.args.key.now; value = c.args.value.now } in
    let key = c.in-Some.key.now in
    let kept : kept_key s.nulls field ≡ Ok (Some key) = c.in_ok-key.ensures.ok ∙ ap shown c.in-Some.is in
    λ fields stand.
    let old = subst (StandsForFields fields) (sym c.self.view_is) stand in
    subst (λ (held : ObjectSoFar). RefusesAs (object_value held.nulls held.unique (fields ++ field ∷ [])) c.in-Err.refusal) c.self.view_is
    (refuses_as s.nulls (is_some s.keys) fields s.place (owned_keys s.keys) old.taken field key kept [] (Json (object_text s.nulls (fields ++ field ∷ []))) c.in-Err.refusal c.in-Err.ensures.refusal)

pub returns-clause-stands : goal.returns-clause-stands
returns-clause-stands c =
    let s = c.self.inside in
    let field : Field = record { key = c.args.key.now; value = c.args.value.now } in
    let key = c.in-Some.key.now in
    let kept : kept_key s.nulls field ≡ Ok (Some key) = c.in_ok-key.ensures.ok ∙ ap shown c.in-Some.is in
    let has = has_key s.nulls field key kept in
    let made = c.in_default-added.ensures in
    let appended = made.text ∙ ap (λ k. s.text ++ (opening (123 ∷ []) s.text ++ (comma s.place ++ (pair_text k field.value ++ 125 ∷ [])))) (sym has.1) in
    λ fields stand.
    let old = subst (StandsForFields fields) (sym c.self.view_is) stand in
    let taken = takes_kept s.nulls (is_some s.keys) fields s.place (owned_keys s.keys) old.taken field key (owned_keys c.append-added.new.keys) kept made.fresh made.keys in
    record {
      taken = subst (λ u. AreTaken s.nulls u (fields ++ field ∷ []) Later (owned_keys c.append-added.new.keys)) (sym made.unique) taken;
      text = text_kept member_text (λ f. is_kept s.nulls f.value) 123 125 fields field s.place c.len-end.result s.text c.append-added.new.text c.take_bracket.new.text has.0 old.text old.taken.stands
          c.len-end.ensures appended c.take_bracket.ensures;
    }
