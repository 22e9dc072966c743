use Rattle.std.proofs.Common.{◌≡◌, true, sym, ◌∙◌, subst}
use Rattle.sj_build.specs.Constructors.{is_kept, value_text}
use Rattle.sj_build.specs.SoFar.{StandsForValues}
use Rattle.sj_build.proofs.Growing.{place_kept, text_kept}
use Rattle.sj_build.proofs.array_agg.ArrayAgg.add.Goals as goal

pub returns-clause-stands : goal.returns-clause-stands
returns-clause-stands c =
    let s = c.self.inside in
    let value = c.args.value.now in
    let kept : is_kept s.nulls value ≡ true = sym c.is_kept.ensures ∙ c.if-not-is_kept.false in
    λ values stand.
    let old = subst (StandsForValues values) (sym c.self.view_is) stand in
    record {
      text = text_kept value_text (is_kept s.nulls) 91 93 values value s.place c.len-end.result s.text c.append.new.text c.take_bracket.new.text kept old.text old.place c.len-end.ensures
          c.in_default.ensures.ok c.take_bracket.ensures;
      place = sym (place_kept value_text (is_kept s.nulls) 91 93 values value kept);
    }
