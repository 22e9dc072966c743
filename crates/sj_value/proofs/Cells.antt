-- What is cast, by what stands in the table of casts.
use Rattle.std.proofs.Common.{◌≡◌, ℕ, List, Result, Ok, Err, refl}
use Rattle.sj_base.specs.declared.state.State.{State as SqlState}
use Rattle.sj_json.specs.Tree.{Tree, null, truth, string, number, array, object}
use Rattle.sj_doc.specs.Kinds.{kind_of}
use Rattle.sj_doc.specs.declared.node.Kind.TheVariants as kinds
use Rattle.sj_item.specs.Answers.{made_texts}
use Rattle.sj_item.specs.Items.{ItemValue, made_text}
use Rattle.sj_value.specs.declared.types.SqlType.{SqlType}
use Rattle.sj_value.specs.declared.value.SqlValue.TheVariants.{Null}
use Rattle.sj_value.specs.Casts.{scalar_cast, tree_cast}

pub cast_null : (t : Tree) (ty : SqlType) → kind_of t ≡ kinds.Null → tree_cast t ty ≡ Ok Null
unfolding tree_cast
cast_null null ty h = refl
cast_null (truth b) ty h = absurd cc
cast_null (string s) ty h = absurd cc
cast_null (number n) ty h = absurd cc
cast_null (array ts) ty h = absurd cc
cast_null (object ms) ty h = absurd cc

pub cast_other : (t : Tree) (ty : SqlType) → (kind_of t ≡ kinds.Null → ⊥) → tree_cast t ty ≡ scalar_cast t ty
unfolding tree_cast
cast_other null ty h = absurd (h refl)
cast_other (truth b) ty h = refl
cast_other (string s) ty h = refl
cast_other (number n) ty h = refl
cast_other (array ts) ty h = refl
cast_other (object ms) ty h = refl

-- the text of a made text
pub text_is : (cell : Result (List ℕ) SqlState) (x : ItemValue) (s : List ℕ) → Ok x ≡ made_texts cell → x ≡ made_text s → cell ≡ Ok s
text_is (Ok t) x s e f = cc
text_is (Err state) x s e f = absurd cc

pub state_is : (cell : Result (List ℕ) SqlState) (state : SqlState) → Err state ≡ made_texts cell → cell ≡ Err state
state_is (Ok t) state e = absurd cc
state_is (Err s) state e = cc
