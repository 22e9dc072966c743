use Rattle.std.proofs.Common.{◌≡◌, is_some, Some, None, Ok, suc, ◌+◌, drop, ◌++◌, ◌∷◌, [], take, sym, ap, ◌∙◌, subst}
use Rattle.std.proofs.lemmas.Result.{err_from_is_err_and}
use Rattle.sj_value.specs.declared.value.SqlValue.TheVariants.{Json}
use Rattle.sj_build.specs.Answers.{RefusesAs}
use Rattle.sj_build.specs.Constructors.{kept_key, object_text, object_value}
use Rattle.sj_build.specs.Keys.{lent_keys}
use Rattle.sj_build.proofs.Members.{IsOpen, parted, one_more, open_dropped, open_more}
use Rattle.sj_build.proofs.Taken.{shown, refuses_null, refuses_as}
use Rattle.sj_build.proofs.object.object_text.Goals as goal
use Rattle.sj_build.proofs.object.object_text.Goals.{in-Some+in_ok-note_lent+in_ok-lead+in_ok-member_text, in_default}

pub returns-in_err-key-clause-refusal : goal.returns-in_err-key-clause-refusal
returns-in_err-key-clause-refusal c =
    let l = c.loop-field in
    let fields = c.args.fields.now in
    let field = c.field-item.result in
    let before = take l.field-index fields in
    let behind = drop (suc l.field-index) fields in
    let cause = refuses_null c.args.nulls (is_some l.keys) before l.place (lent_keys l.keys) l.invariant.0.1 field behind (Json (object_text c.args.nulls (before ++ field ∷ behind))) c.in_err-key.field-0.0
    c.in_err-key.ensures.refusal in
    let p = err_from_is_err_and c.from_residual-in_err-key.result c.from_residual-in_err-key.ensures.1 in
    rw (p.1, p.2)
    (subst (λ u. RefusesAs (object_value c.args.nulls u fields) c.in_err-key.field-0.0) l.invariant.1
    (subst (λ fs. RefusesAs (object_value c.args.nulls (is_some l.keys) fs) c.in_err-key.field-0.0) (parted fields l.field-index field c.loop-field-test.true c.field-item.is) cause))

pub returns-in_err-note_lent-clause-refusal : goal.returns-in_err-note_lent-clause-refusal
returns-in_err-note_lent-clause-refusal c =
    let l = c.loop-field in
    let fields = c.args.fields.now in
    let field = c.field-item.result in
    let key = c.in-Some.key.now in
    let before = take l.field-index fields in
    let behind = drop (suc l.field-index) fields in
    let kept : kept_key c.args.nulls field ≡ Ok (Some key) = c.in_ok-key.ensures.ok ∙ ap shown c.in-Some.is in
    let cause = refuses_as c.args.nulls (is_some l.keys) before l.place (lent_keys l.keys) l.invariant.0.1 field key kept behind (Json (object_text c.args.nulls (before ++ field ∷ behind))) c.in_err-note_lent.field-0.0
    c.in_err-note_lent.ensures.refusal in
    let p = err_from_is_err_and c.from_residual-in_err-note_lent.result c.from_residual-in_err-note_lent.ensures.1 in
    rw (p.1, p.2)
    (subst (λ u. RefusesAs (object_value c.args.nulls u fields) c.in_err-note_lent.field-0.0) l.invariant.1
    (subst (λ fs. RefusesAs (object_value c.args.nulls (is_some l.keys) fs) c.in_err-note_lent.field-0.0) (parted fields l.field-index field c.loop-field-test.true c.field-item.is) cause))

pub loop-field-preserved : goal.loop-field-preserved
loop-field-preserved c =
    let l = c.loop-field in
    let m = c.match-branch-3 in
    let fields = c.args.fields.now in
    let field = c.field-item.result in
    let more = one_more fields l.field-index field c.loop-field-test.true c.field-item.is in
    elim m.branch [
      | in-Some+in_ok-note_lent+in_ok-lead+in_ok-member_text w ↦
          let key = w.in-Some.key.now in
          let kept : kept_key c.args.nulls field ≡ Ok (Some key) = c.in_ok-key.ensures.ok ∙ ap shown w.in-Some.is in
          let grown = open_more c.args.nulls (is_some l.keys) (take l.field-index fields) l.text l.place (lent_keys l.keys) l.invariant.0 field key w.lead.new.text m.text (lent_keys m.keys)
          kept w.in_ok-note_lent.ensures.fresh (ap lent_keys w.keys-is ∙ w.in_ok-note_lent.ensures.ok) w.in_ok-lead.ensures.ok (w.text-is ∙ w.in_ok-member_text.ensures.ok) in
          let same = ap is_some w.keys-is ∙ w.note_lent.ensures.unique in (
            subst (λ u. IsOpen c.args.nulls u (take (l.field-index + 1) fields) m.text m.place (lent_keys m.keys)) (sym same)
                (subst (λ fs. IsOpen c.args.nulls (is_some l.keys) fs m.text m.place (lent_keys m.keys)) more
                (subst (λ p. IsOpen c.args.nulls (is_some l.keys) (take l.field-index fields ++ field ∷ []) m.text p (lent_keys m.keys)) (sym w.place-is) grown)),
            same ∙ l.invariant.1,
          )
      | in_default w ↦
          let dropped : kept_key c.args.nulls field ≡ Ok None = c.in_ok-key.ensures.ok ∙ ap shown w.in_default.is in
          let grown = open_dropped c.args.nulls (is_some l.keys) (take l.field-index fields) l.text l.place (lent_keys l.keys) l.invariant.0 field dropped in
          let same = ap is_some w.keys-is in (
            subst (λ u. IsOpen c.args.nulls u (take (l.field-index + 1) fields) m.text m.place (lent_keys m.keys)) (sym same)
                (subst (λ ks. IsOpen c.args.nulls (is_some l.keys) (take (l.field-index + 1) fields) m.text m.place ks) (sym (ap lent_keys w.keys-is))
                (subst (λ p. IsOpen c.args.nulls (is_some l.keys) (take (l.field-index + 1) fields) m.text p (lent_keys l.keys)) (sym w.place-is)
                (subst (λ t. IsOpen c.args.nulls (is_some l.keys) (take (l.field-index + 1) fields) t l.place (lent_keys l.keys)) (sym w.text-is)
                (subst (λ fs. IsOpen c.args.nulls (is_some l.keys) fs l.text l.place (lent_keys l.keys)) more grown)))),
            same ∙ l.invariant.1,
          )
    ]
