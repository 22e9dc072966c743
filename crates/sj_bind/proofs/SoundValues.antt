-- The values of a list that breaks no rule.
use Rattle.std.proofs.Common.{◌≡◌, ℕ, ◌<◌, true, false, not, List, ◌++◌, length, slice_get}
use Rattle.std.specs.Prelude.{IsSomeAnd}
use Rattle.std.specs.List.{list_any}
use Rattle.sj_base.specs.Names.{is_among}
use Rattle.sj_path_tree.specs.declared.parts.Literal.{Literal}
use Rattle.sj_path_tree.specs.declared.parts.Literal.TheVariants as literal
use Rattle.sj_path_tree.specs.Tree.{Path}
use Rattle.sj_path_tree.specs.Vars.{covers}
use Rattle.sj_sql_grammar.specs.declared.clauses.TypeName.{TypeName}
use Rattle.sj_sql_grammar.specs.declared.clauses.TypeName.TheVariants.{Known, Approximate, Datetime}
use Rattle.sj_sql_grammar.specs.Tree.{Value, Lit, Column, Exists, ValueOf, Query, IsJson, Object, Array, Values, NoValues, MoreValues, Members, NoMembers, MoreMembers}
use Rattle.sj_bound.specs.Bound as b
use Rattle.sj_bound.specs.Sound.{is_text_type}
use Rattle.sj_bind.specs.Clauses.{passed, sql_type, names_text, default_fails}
use Rattle.sj_bind.specs.Meaning.{bound_value, bound_values, bound_members, column_number}
use Rattle.sj_bind.specs.Parts.{calls_in, calls_in_values, calls_in_members, keys_in, keys_in_values, keys_in_members, names_in, names_in_values, names_in_members}
use Rattle.sj_bind.specs.Rules.{is_key, is_key_literal}
use Rattle.sj_bound.specs.Sound.{IsTextColumn, IsKey, IsSoundValue, AreSoundValues, AreSoundMembers}
use Rattle.sj_bind.proofs.BindableValues.{IsKept, AreKept}
use Rattle.sj_bind.proofs.Lists.{holds, neither, apart, halves}
use Rattle.sj_bind.proofs.SoundClauses.{sound_clauses}

pub text_type : (ty : TypeName) → names_text ty ≡ true → is_text_type (sql_type ty) ≡ true
text_type (Known ty) h = h
text_type Approximate h = absurd cc
text_type Datetime h = absurd cc

-- Beside columns with these names, of which those with these are texts.
module _ (names texts : List (List ℕ)) (columns : List b.ColumnOf)
    (placed : (name : List ℕ) → is_among names name ≡ true → column_number names name < length columns)
    (are_texts : (name : List ℕ) → is_among texts name ≡ true → IsSomeAnd (slice_get columns (column_number names name)) IsTextColumn) where
  key_literal : (x : Literal) → is_key_literal x ≡ true → IsKey columns (b.Lit x)
  key_literal (literal.Text s) h = tt
  key_literal (literal.Num d) h = absurd cc
  key_literal (literal.Bool t) h = absurd cc
  key_literal literal.Null h = tt

  pub sound_key : (x : Value Path) → not (is_key texts x) ≡ false → IsKey columns (bound_value names x)
  sound_key (Lit x) h = key_literal x (holds (is_key_literal x) h)
  sound_key (Column name) h = are_texts name (holds (is_among texts name) h)
  sound_key (Exists c) h = absurd cc
  sound_key (ValueOf c) h = text_type c.ty (holds (names_text c.ty) h)
  sound_key (Query c) h = absurd cc
  sound_key (IsJson c) h = absurd cc
  sound_key (Object _ _ unique) h = absurd cc
  sound_key (Array _ _) h = absurd cc

  mutual
    pub sound_value : (x : Value Path) → AreKept (calls_in x) → list_any (λ name. not (is_among names name)) (names_in x) ≡ false → list_any (λ key. not (is_key texts key)) (keys_in x) ≡ false
        → IsSoundValue columns (bound_value names x)
    sound_value (Lit x) kept known keys = tt
    sound_value (Column name) kept known keys = placed name (holds (is_among names name) (neither (not (is_among names name)) false known).0)
    sound_value (Exists c) kept known keys = holds (covers (passed c.common.passing) c.common.path) kept.0.covered
    sound_value (ValueOf c) kept known keys =
        let d = neither (default_fails (sql_type c.ty) c.on_empty) (default_fails (sql_type c.ty) c.on_error) kept.0.casts in
        (holds (covers (passed c.common.passing) c.common.path) kept.0.covered, sound_clauses c.ty c.on_empty c.on_error kept.0.bindable.1 d.0 d.1)
    sound_value (Query c) kept known keys = holds (covers (passed c.common.passing) c.common.path) kept.0.covered
    sound_value (IsJson c) kept known keys = tt
    sound_value (Object members _ unique) kept known keys = sound_members members kept known keys
    sound_value (Array values _) kept known keys = sound_values values kept known keys

    sound_values : (xs : Values Path) → AreKept (calls_in_values xs) → list_any (λ name. not (is_among names name)) (names_in_values xs) ≡ false
        → list_any (λ key. not (is_key texts key)) (keys_in_values xs) ≡ false → AreSoundValues columns (bound_values names xs)
    sound_values NoValues kept known keys = tt
    sound_values (MoreValues x others) kept known keys =
        let c = halves IsKept (calls_in x) (calls_in_values others) kept in
        let n = apart (λ (name : List ℕ). not (is_among names name)) (names_in x) (names_in_values others) known in
        let k = apart (λ (key : Value Path). not (is_key texts key)) (keys_in x) (keys_in_values others) keys in
        (sound_value x c.0 n.0 k.0, sound_values others c.1 n.1 k.1)

    sound_members : (xs : Members Path) → AreKept (calls_in_members xs) → list_any (λ name. not (is_among names name)) (names_in_members xs) ≡ false
        → list_any (λ key. not (is_key texts key)) (keys_in_members xs) ≡ false → AreSoundMembers columns (bound_members names xs)
    sound_members NoMembers kept known keys = tt
    sound_members (MoreMembers key x others) kept known keys =
        let c = halves IsKept (calls_in key ++ calls_in x) (calls_in_members others) kept in
        let d = halves IsKept (calls_in key) (calls_in x) c.0 in
        let n = apart (λ (name : List ℕ). not (is_among names name)) (names_in key ++ names_in x) (names_in_members others) known in
        let m = apart (λ (name : List ℕ). not (is_among names name)) (names_in key) (names_in x) n.0 in
        let own = neither (not (is_key texts key)) (list_any (λ k. not (is_key texts k)) (keys_in key ++ keys_in x ++ keys_in_members others)) keys in
        let k = apart (λ (y : Value Path). not (is_key texts y)) (keys_in key ++ keys_in x) (keys_in_members others) own.1 in
        let l = apart (λ (y : Value Path). not (is_key texts y)) (keys_in key) (keys_in x) k.0 in
        (sound_key key own.0, sound_value key d.0 m.0 l.0, sound_value x d.1 m.1 l.1, sound_members others c.1 n.1 k.1)
