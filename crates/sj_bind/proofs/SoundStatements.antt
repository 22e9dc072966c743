-- A statement that breaks no rule is bound to one that meets what a bound statement always meets.
use Rattle.std.proofs.Common.{◌≡◌, ℕ, zero, suc, ◌<◌, ◌≤◌, Bool, true, false, not, ◌&&◌, ◌⊎◌, inl, inr, List, [], ◌∷◌, ◌++◌, length, slice_get, Result, Ok, Err, None, refl, sym, ap, ◌∙◌, subst, length-append, arith}
use Rattle.std.specs.Prelude.{IsSomeAnd, IfOk}
use Rattle.std.specs.List.{All, list_any}
use Rattle.std.proofs.lemmas.List.Elements.{All-nil, All-cons, All-head, All-tail, All-push}
use Rattle.sj_base.specs.Names.{is_among}
use Rattle.sj_path_tree.specs.Tree.{Path}
use Rattle.sj_sql_grammar.specs.Tree as t
use Rattle.sj_bind.specs.Answer.{Binds}
use Rattle.sj_bound.specs.Bound as b
use Rattle.sj_bound.specs.declared.bound.Bound.{Bound}
use Rattle.sj_bind.specs.declared.refusal.BindRefusal.{BindRefusal}
use Rattle.sj_bind.specs.Meaning.{bound, bound_list, bound_item, bound_items, bound_columns, columns_below, column_number}
use Rattle.sj_bind.specs.Parts.{calls_in, calls_in_list, keys_in, keys_in_list, keys_in_item, keys_in_items, names_in, names_in_item, names_in_items}
use Rattle.sj_bind.specs.Rules.{bind_fault, is_key, is_aggregate, all_columns, text_names}
use Rattle.sj_bound.specs.Sound as sound
use Rattle.sj_bind.specs.Bindable.{IsBindable, HasNoColumn, AsksNothing}
use Rattle.sj_bound.specs.Sound.{IsTextColumn, IsSoundItem, IsSound, AreAllAlike}
use Rattle.sj_bind.specs.Flat.{flat}
use Rattle.sj_bind.specs.Tables.{column_names}
use Rattle.sj_bound.specs.View.{bound_of}
use Rattle.sj_bind.proofs.UnbrokenRules.{clean_plain, clean_all, clean_list, few_columns}
use Rattle.sj_bind.proofs.BindableValues.{IsKept, AreKept, no_calls, no_name}
use Rattle.sj_bind.proofs.Lists.{holds, neither, apart, halves}
use Rattle.sj_bind.proofs.SoundTables.{placed, are_texts, sound_table, length-bound_columns}
use Rattle.sj_bind.proofs.SoundValues.{sound_key, sound_value}
use Rattle.sj_bind.proofs.Groups.{all_groups, listed_groups}

-- ---- a list without a table

sound_list : (xs : List (t.Value Path)) → AreKept (calls_in_list xs) → All HasNoColumn xs → list_any (λ key. not (is_key [] key)) (keys_in_list xs) ≡ false → All (IsSoundItem []) (bound_list xs)
sound_list [] kept none keys = All-nil (IsSoundItem [])
sound_list (x ∷ xs) kept none keys =
    let c = halves IsKept (calls_in x) (calls_in_list xs) kept in
    let k = apart (λ (key : t.Value Path). not (is_key [] key)) (keys_in x) (keys_in_list xs) keys in
    All-cons (IsSoundItem []) (b.Single _) (bound_list xs)
    (sound_value [] [] [] (λ name h. absurd cc) (λ name h. absurd cc) x c.0 (no_name x (All-head HasNoColumn x xs none)) k.0)
    (sound_list xs c.1 (All-tail HasNoColumn x xs none) k.1)

none_aggregate : (xs : List (t.Value Path)) → All (λ x. sound.is_aggregate x ≡ false) (bound_list xs)
none_aggregate [] = All-nil (λ (x : b.Item). sound.is_aggregate x ≡ false)
none_aggregate (x ∷ xs) = All-cons (λ (y : b.Item). sound.is_aggregate y ≡ false) (b.Single _) (bound_list xs) refl (none_aggregate xs)

length-bound_list : (xs : List (t.Value Path)) → length (bound_list xs) ≡ length xs
length-bound_list [] = refl
length-bound_list (x ∷ xs) = ap (λ n. suc n) (length-bound_list xs)

-- ---- all columns

sound_columns_below : (columns : List b.ColumnOf) (n : ℕ) → n ≤ length columns → All (IsSoundItem columns) (columns_below n)
sound_columns_below columns zero h = All-nil (IsSoundItem columns)
sound_columns_below columns (suc n) h = All-push (IsSoundItem columns) (columns_below n) (b.Single (b.Column n)) (sound_columns_below columns n (omega arith)) (omega arith)

plain_columns_below : (n : ℕ) → All (λ x. sound.is_aggregate x ≡ false) (columns_below n)
plain_columns_below zero = All-nil (λ (x : b.Item). sound.is_aggregate x ≡ false)
plain_columns_below (suc n) = All-push (λ (x : b.Item). sound.is_aggregate x ≡ false) (columns_below n) (b.Single (b.Column n)) (plain_columns_below n) refl

length-columns_below : (n : ℕ) → length (columns_below n) ≡ n
length-columns_below zero = refl
length-columns_below (suc n) = omega (arith, length-append (columns_below n) (b.Single (b.Column n) ∷ []), length-columns_below n)

-- ---- a list with a table

module _ (names texts : List (List ℕ)) (columns : List b.ColumnOf)
    (at : (name : List ℕ) → is_among names name ≡ true → column_number names name < length columns)
    (are : (name : List ℕ) → is_among texts name ≡ true → IsSomeAnd (slice_get columns (column_number names name)) IsTextColumn) where
  sound_item : (x : t.Item Path) → AsksNothing x → list_any (λ name. not (is_among names name)) (names_in_item x) ≡ false → list_any (λ key. not (is_key texts key)) (keys_in_item x) ≡ false
      → IsSoundItem columns (bound_item names x)
  sound_item (t.Single x) none known keys = sound_value names texts columns at are x (no_calls (calls_in x) none) known keys
  sound_item (t.ArrayAgg x _) none known keys = sound_value names texts columns at are x (no_calls (calls_in x) none) known keys
  sound_item (t.ObjectAgg x y _ unique) none known keys =
      let c = halves IsKept (calls_in x) (calls_in y) (no_calls (calls_in x ++ calls_in y) none) in
      let n = apart (λ (name : List ℕ). not (is_among names name)) (names_in x) (names_in y) known in
      let own = neither (not (is_key texts x)) (list_any (λ key. not (is_key texts key)) (keys_in x ++ keys_in y)) keys in
      let k = apart (λ (key : t.Value Path). not (is_key texts key)) (keys_in x) (keys_in y) own.1 in
      (sound_key names texts columns at are x own.0, sound_value names texts columns at are x c.0 n.0 k.0, sound_value names texts columns at are y c.1 n.1 k.1)

  sound_items : (xs : List (t.Item Path)) → All AsksNothing xs → list_any (λ name. not (is_among names name)) (names_in_items xs) ≡ false → list_any (λ key. not (is_key texts key)) (keys_in_items xs) ≡ false
      → All (IsSoundItem columns) (bound_items names xs)
  sound_items [] none known keys = All-nil (IsSoundItem columns)
  sound_items (x ∷ xs) none known keys =
      let n = apart (λ (name : List ℕ). not (is_among names name)) (names_in_item x) (names_in_items xs) known in
      let k = apart (λ (key : t.Value Path). not (is_key texts key)) (keys_in_item x) (keys_in_items xs) keys in
      All-cons (IsSoundItem columns) (bound_item names x) (bound_items names xs)
      (sound_item x (All-head AsksNothing x xs none) n.0 k.0) (sound_items xs (All-tail AsksNothing x xs none) n.1 k.1)

length-bound_items : (names : List (List ℕ)) (xs : List (t.Item Path)) → length (bound_items names xs) ≡ length xs
length-bound_items names [] = refl
length-bound_items names (x ∷ xs) = ap (λ n. suc n) (length-bound_items names xs)

same_kind : (names : List (List ℕ)) (x : t.Item Path) → sound.is_aggregate (bound_item names x) ≡ is_aggregate x
same_kind names (t.Single x) = refl
same_kind names (t.ArrayAgg x _) = refl
same_kind names (t.ObjectAgg x y _ unique) = refl

all_plain : (names : List (List ℕ)) (xs : List (t.Item Path)) → list_any is_aggregate xs ≡ false → All (λ x. sound.is_aggregate x ≡ false) (bound_items names xs)
all_plain names [] h = All-nil (λ (x : b.Item). sound.is_aggregate x ≡ false)
all_plain names (x ∷ xs) h =
    let o = neither (is_aggregate x) (list_any is_aggregate xs) h in
    All-cons (λ (y : b.Item). sound.is_aggregate y ≡ false) (bound_item names x) (bound_items names xs) (same_kind names x ∙ o.0) (all_plain names xs o.1)

all_aggregates : (names : List (List ℕ)) (xs : List (t.Item Path)) → list_any (λ x. not (is_aggregate x)) xs ≡ false → All (λ x. sound.is_aggregate x ≡ true) (bound_items names xs)
all_aggregates names [] h = All-nil (λ (x : b.Item). sound.is_aggregate x ≡ true)
all_aggregates names (x ∷ xs) h =
    let o = neither (not (is_aggregate x)) (list_any (λ y. not (is_aggregate y)) xs) h in
    All-cons (λ (y : b.Item). sound.is_aggregate y ≡ true) (bound_item names x) (bound_items names xs) (same_kind names x ∙ holds (is_aggregate x) o.0) (all_aggregates names xs o.1)

alike : (names : List (List ℕ)) (xs : List (t.Item Path)) → (list_any is_aggregate xs && list_any (λ x. not (is_aggregate x)) xs) ≡ false
    → All (λ x. sound.is_aggregate x ≡ false) (bound_items names xs) ⊎ All (λ x. sound.is_aggregate x ≡ true) (bound_items names xs)
alike names xs h = go (list_any is_aggregate xs) refl h
  where
    go : (c : Bool) → list_any is_aggregate xs ≡ c → (c && list_any (λ x. not (is_aggregate x)) xs) ≡ false
        → All (λ x. sound.is_aggregate x ≡ false) (bound_items names xs) ⊎ All (λ x. sound.is_aggregate x ≡ true) (bound_items names xs)
    go true e k = inr (all_aggregates names xs k)
    go false e k = inl (all_plain names xs e)

-- ---- statements

is_sound : (x : t.Statement Path) → IsBindable x → bind_fault x ≡ None → IsSound (bound x)
is_sound (t.Plain xs) bindable h =
    let c = clean_plain xs bindable h in
    record {
      items = sound_list xs c.kept bindable.1 c.keys;
      alike = none_aggregate xs;
      table = tt;
      few_items = omega (arith, length-bound_list xs, c.few);
    }
is_sound (t.All x) bindable h =
    let flat_x = flat x in
    let c = clean_all flat_x (sym (all_groups x) ∙ h) in
    record {
      items = sound_columns_below (bound_columns flat_x.columns) (length flat_x.columns) (omega (arith, length-bound_columns flat_x.columns));
      alike = inl (plain_columns_below (length flat_x.columns));
      table = sound_table x bindable c;
      few_items = omega (arith, length-columns_below (length flat_x.columns), few_columns flat_x c.few);
    }
is_sound (t.Listed xs x) bindable h =
    let flat_x = flat x in
    let c = clean_list xs flat_x bindable.1 (sym (listed_groups xs x) ∙ h) in
    record {
      items = sound_items (column_names flat_x) (text_names (all_columns flat_x)) (bound_columns flat_x.columns) (placed flat_x c.table) (are_texts flat_x c.table) xs bindable.1 c.known c.keys;
      alike = alike (column_names flat_x) xs c.alike;
      table = sound_table x bindable.0 c.table;
      few_items = omega (arith, length-bound_items (column_names flat_x) xs, c.few);
    }

-- so the answer of the binding is sound
pub sound_answer : (x : t.Statement Path) (r : Result Bound BindRefusal) → IsBindable x → Binds x r → IfOk r (λ made. IsSound (bound_of made))
sound_answer x (Ok made) bindable h = subst IsSound (sym h.1) (is_sound x bindable h.0)
sound_answer x (Err e) bindable h = tt
