-- The aggregates over rows of which one comes behind the others.
use Rattle.std.proofs.Common.{◌≡◌, ◌<◌, ℕ, zero, suc, Bool, length, get_or, arith, Option, List, [], ◌∷◌, ◌++◌, None, Result, Ok, Err, OnOk, IfErr, MatchResult, ◌+◌, map, drop, append_assoc, refl, sym, ap, subst, ◌∙◌}
use Rattle.sj_base.specs.declared.state.State.{State}
use Rattle.sj_value.specs.declared.clauses.Nulls.{Nulls}
use Rattle.sj_value.specs.declared.value.SqlValue.{SqlValue}
use Rattle.sj_value.specs.declared.value.SqlValue.TheVariants.{Null, Json}
use Rattle.sj_func.specs.declared.context.Outcome.{Outcome}
use Rattle.sj_func.specs.declared.context.Outcome.TheVariants.{Value, Raised}
use Rattle.sj_build.specs.Answers.{RefusesAs}
use Rattle.sj_build.specs.Constructors.{object_aggregate, object_value, object_text, first_refusal, unless_refused}
use Rattle.sj_build.specs.SoFar.{StandsForValues, StandsForFields}
use Rattle.sj_build.specs.declared.field.Field.{Field}
use Rattle.sj_build.specs.declared.refusal.BuildRefusal.{BuildRefusal}
use Rattle.sj_build.specs.declared.refusal.BuildRefusal.TheVariants as refusal
use Rattle.sj_bound.specs.Bound as b
use Rattle.std.specs.List.{All}
use Rattle.std.proofs.lemmas.List.{drop_more, map-append}
use Rattle.std.proofs.lemmas.List.Elements.{All-nil, All-append, All-cons}
use Rattle.sj_bound.specs.View.{value_of, item_of, items_of}
use Rattle.sj_bound.specs.declared.bound.BoundItem.{BoundItem}
use Rattle.sj_select_list.specs.Aggregates.{Aggregate, aggregates_in, array_over, object_over, values_over, members_over, aggregate, aggregates}
use Rattle.sj_select_list.specs.Line.{Line}
use Rattle.sj_select_list.specs.Taking.{CanTake, array_call, object_call, aggregate_of, IsObjectReady, IsReady, HasTakenValues, HasTakenMembers, HasTaken, Raises}
use Rattle.sj_select_list.specs.Values.{given, value_before, member_before, outcome_of, each_value}
use Rattle.sj_select_list.specs.declared.aggregate.Aggregate.{Aggregate as AggregateHeld}
use Rattle.sj_select_list.specs.declared.aggregate.Aggregate.TheVariants as held
use Rattle.sj_select_list.specs.declared.aggregate.ArrayCall.{ArrayCall}
use Rattle.sj_select_list.specs.declared.aggregate.ObjectCall.{ObjectCall}

-- ---- values

module _ {A : Type 0} (f : A → Outcome) where
  before_ok : (o : Outcome) (r : Result (List SqlValue) State) (vs : List SqlValue) → value_before o r ≡ Ok vs
      → (v : SqlValue) × (ws : List SqlValue) × (o ≡ Value v) × (r ≡ Ok ws) × (vs ≡ v ∷ ws)
  before_ok (Value v) (Ok ws) vs e = (v, ws, refl, refl, cc)
  before_ok (Value v) (Err s) vs e =
      let no : ⊥ = cc in
      absurd no
  before_ok (Raised s) r vs e =
      let no : ⊥ = cc in
      absurd no

  pub values-snoc : (xs : List A) (x : A) (vs : List SqlValue) (v : SqlValue) → each_value f xs ≡ Ok vs → f x ≡ Value v → each_value f (xs ++ x ∷ []) ≡ Ok (vs ++ v ∷ [])
  values-snoc [] x vs v e is =
      let none : [] ≡ vs = cc in
      ap (λ (o : Outcome). value_before o (Ok [])) is ∙ ap (λ (l : List SqlValue). let r : Result (List SqlValue) State = Ok (l ++ v ∷ []) in r) none
  values-snoc (y ∷ ys) x vs v e is =
      let p = before_ok (f y) (each_value f ys) vs e in
      ap (λ (o : Outcome). value_before o (each_value f (ys ++ x ∷ []))) p.2
      ∙ ap (value_before (Value p.0)) (values-snoc ys x p.1 v p.3 is)
      ∙ ap (λ (l : List SqlValue). let r : Result (List SqlValue) State = Ok (l ++ v ∷ []) in r) (sym p.4)

  pub values-raised : (xs : List A) (x : A) (vs : List SqlValue) (s : State) → each_value f xs ≡ Ok vs → f x ≡ Raised s → each_value f (xs ++ x ∷ []) ≡ Err s
  values-raised [] x vs s e is = ap (λ (o : Outcome). value_before o (Ok [])) is
  values-raised (y ∷ ys) x vs s e is =
      let p = before_ok (f y) (each_value f ys) vs e in
      ap (λ (o : Outcome). value_before o (each_value f (ys ++ x ∷ []))) p.2
      ∙ ap (value_before (Value p.0)) (values-raised ys x p.1 s p.3 is)

-- ---- members

module _ (line : Line) (key x : b.Value) where
  member_ok : (o p : Outcome) (r : Result (List Field) State) (fs : List Field) → member_before o p r ≡ Ok fs
      → (k : SqlValue) × (v : SqlValue) × (gs : List Field) × (o ≡ Value k) × (p ≡ Value v) × (r ≡ Ok gs) × (fs ≡ record { key = k; value = v } ∷ gs)
  member_ok (Value k) (Value v) (Ok gs) fs e = (k, v, gs, refl, refl, refl, cc)
  member_ok (Value k) (Value v) (Err s) fs e =
      let no : ⊥ = cc in
      absurd no
  member_ok (Value k) (Raised s) r fs e =
      let no : ⊥ = cc in
      absurd no
  member_ok (Raised s) p r fs e =
      let no : ⊥ = cc in
      absurd no

  -- what the members over rows are, behind rows that all have one
  more_members : (row : List SqlValue) (k v : SqlValue) (r : Result (List Field) State) → given line row key ≡ Value k → given line row x ≡ Value v
      → member_before (given line row key) (given line row x) r ≡ member_before (Value k) (Value v) r
  more_members row k v r e f = ap (λ (o : Outcome). member_before o (given line row x) r) e ∙ ap (λ (o : Outcome). member_before (Value k) o r) f

  pub members-snoc : (rows : List (List SqlValue)) (row : List SqlValue) (fs : List Field) (k v : SqlValue) → members_over line key x rows ≡ Ok fs → given line row key ≡ Value k → given line row x ≡ Value v
      → members_over line key x (rows ++ row ∷ []) ≡ Ok (fs ++ record { key = k; value = v } ∷ [])
  members-snoc [] row fs k v e is_key is =
      let none : [] ≡ fs = cc in
      more_members row k v (Ok []) is_key is ∙ ap (λ (l : List Field). let r : Result (List Field) State = Ok (l ++ record { key = k; value = v } ∷ []) in r) none
  members-snoc (y ∷ ys) row fs k v e is_key is =
      let p = member_ok (given line y key) (given line y x) (members_over line key x ys) fs e in
      more_members y p.0 p.1 (members_over line key x (ys ++ row ∷ [])) p.3 p.4
      ∙ ap (member_before (Value p.0) (Value p.1)) (members-snoc ys row p.2 k v p.5 is_key is)
      ∙ ap (λ (l : List Field). let r : Result (List Field) State = Ok (l ++ record { key = k; value = v } ∷ []) in r) (sym p.6)

  -- the state of the last row
  pub members-raised : (rows : List (List SqlValue)) (row : List SqlValue) (fs : List Field) (s : State) → members_over line key x rows ≡ Ok fs
      → ((r : Result (List Field) State) → member_before (given line row key) (given line row x) r ≡ Err s) → members_over line key x (rows ++ row ∷ []) ≡ Err s
  members-raised [] row fs s e is = is (Ok [])
  members-raised (y ∷ ys) row fs s e is =
      let p = member_ok (given line y key) (given line y x) (members_over line key x ys) fs e in
      more_members y p.0 p.1 (members_over line key x (ys ++ row ∷ [])) p.3 p.4
      ∙ ap (member_before (Value p.0) (Value p.1)) (members-raised ys row p.2 s p.5 is)

  pub key_raised : (row : List SqlValue) (s : State) → given line row key ≡ Raised s → (r : Result (List Field) State) → member_before (given line row key) (given line row x) r ≡ Err s
  key_raised row s e r = ap (λ (o : Outcome). member_before o (given line row x) r) e

  pub value_raised : (row : List SqlValue) (k : SqlValue) (s : State) → given line row key ≡ Value k → given line row x ≡ Raised s
      → (r : Result (List Field) State) → member_before (given line row key) (given line row x) r ≡ Err s
  value_raised row k s e f r = ap (λ (o : Outcome). member_before o (given line row x) r) e ∙ ap (λ (o : Outcome). member_before (Value k) o r) f

-- ---- objects over members

-- over at least one member it is the object of all
pub object_more : (choice : Nulls) (unique : Bool) (fs : List Field) (f : Field) → object_aggregate choice unique (fs ++ f ∷ []) ≡ object_value choice unique (fs ++ f ∷ [])
object_more choice unique [] f = refl
object_more choice unique (g ∷ fs) f = refl

-- members that are allowed have an object
object_allowed : (choice : Nulls) (unique : Bool) (fs : List Field) → first_refusal choice unique [] fs ≡ None → (v : SqlValue) × (object_aggregate choice unique fs ≡ Ok v)
object_allowed choice unique [] e = (Null, refl)
object_allowed choice unique (f ∷ fs) e = (Json (object_text choice (f ∷ fs)), ap (λ (r : Option State). unless_refused r (Json (object_text choice (f ∷ fs)))) e)

-- ---- an aggregate that has taken rows has a value over them

pub array_value_is : (line : Line) (rows : List (List SqlValue)) (c : ArrayCall) → HasTakenValues line rows c → (v : SqlValue) × (aggregate line rows (array_call c) ≡ Value v)
array_value_is line rows c h = (_, ap (array_over c.nulls) h.given)

pub object_value_is : (line : Line) (rows : List (List SqlValue)) (c : ObjectCall) → IsObjectReady c → HasTakenMembers line rows c → (v : SqlValue) × (aggregate line rows (object_call c) ≡ Value v)
object_value_is line rows c ready h =
    let allowed : first_refusal c.nulls c.unique [] h.fields ≡ None =
    subst (λ (n : Nulls). first_refusal n c.unique [] h.fields ≡ None) ready.nulls (subst (λ (u : Bool). first_refusal c.object.nulls u [] h.fields ≡ None) ready.unique h.stands.taken.allowed) in
    let v = object_allowed c.nulls c.unique h.fields allowed in
    (v.0, ap (object_over c.nulls c.unique) h.given ∙ ap outcome_of v.1)

pub taken_value : (line : Line) (rows : List (List SqlValue)) (a : AggregateHeld) → IsReady a → HasTaken line rows a → (v : SqlValue) × (aggregate line rows (aggregate_of a) ≡ Value v)
taken_value line rows (held.Array c) ready h = array_value_is line rows c h
taken_value line rows (held.Object c) ready h = object_value_is line rows c ready h

-- all of them, over the same rows
pub all_taken : (line : Line) (rows : List (List SqlValue)) (held : List AggregateHeld) → All IsReady held → All (HasTaken line rows) held → (vs : List SqlValue) × (aggregates line (map aggregate_of held) rows ≡ Ok vs)
all_taken line rows [] ready h = ([], refl)
all_taken line rows (x ∷ xs) ready h =
    let v = taken_value line rows x (ready 0 x (omega arith)) (h 0 x (omega arith)) in
    let others = all_taken line rows xs (λ k d less. ready (suc k) d (omega (arith, less))) (λ k d less. h (suc k) d (omega (arith, less))) in
    (v.0 ∷ others.0, ap (λ (o : Outcome). value_before o (aggregates line (map aggregate_of xs) rows)) v.1 ∙ ap (value_before (Value v.0)) others.1)

-- ---- taking one row more

-- a value that is taken behind others
pub array_taken : (line : Line) (rows : List (List SqlValue)) (columns : List SqlValue) (v : SqlValue) (old new : ArrayCall) → new.value.value ≡ old.value.value → given line columns (value_of old.value.value.now) ≡ Value v
    → ((values : List SqlValue) → StandsForValues values old.array → StandsForValues (values ++ v ∷ []) new.array) → HasTakenValues line rows old → HasTakenValues line (rows ++ columns ∷ []) new
array_taken line rows columns v old new same is stands h =
    record {
      values = h.values ++ v ∷ [];
      given = ap (λ x. values_over line (value_of x.now) (rows ++ columns ∷ [])) same ∙ values-snoc (λ row. given line row (value_of old.value.value.now)) rows columns h.values v h.given is;
      stands = stands h.values h.stands;
    }

-- a value that raises a state behind others
pub array_raises : (line : Line) (rows : List (List SqlValue)) (columns : List SqlValue) (c : ArrayCall) (r : BuildRefusal) → Raises (given line columns (value_of c.value.value.now)) r
    → HasTakenValues line rows c → Raises (aggregate line (rows ++ columns ∷ []) (array_call c)) r
array_raises line rows columns c (refusal.State s) is h = ap (array_over c.nulls) (values-raised (λ row. given line row (value_of c.value.value.now)) rows columns h.values s h.given is)
array_raises line rows columns c refusal.Memory is h = tt

-- a member that is taken behind others
object_taken : (line : Line) (rows : List (List SqlValue)) (columns : List SqlValue) (k v : SqlValue) (old new : ObjectCall) → new.key.value ≡ old.key.value → new.value.value ≡ old.value.value
    → given line columns (value_of old.key.value.now) ≡ Value k → given line columns (value_of old.value.value.now) ≡ Value v
    → ((fields : List Field) → StandsForFields fields old.object → StandsForFields (fields ++ record { key = k; value = v } ∷ []) new.object) → HasTakenMembers line rows old → HasTakenMembers line (rows ++ columns ∷ []) new
object_taken line rows columns k v old new same_key same is_key is stands h =
    record {
      fields = h.fields ++ record { key = k; value = v } ∷ [];
      given = ap (λ x. members_over line (value_of x.now) (value_of new.value.value.now) (rows ++ columns ∷ [])) same_key ∙ ap (λ x. members_over line (value_of old.key.value.now) (value_of x.now) (rows ++ columns ∷ [])) same
          ∙ members-snoc line (value_of old.key.value.now) (value_of old.value.value.now) rows columns h.fields k v h.given is_key is;
      stands = stands h.fields h.stands;
    }

-- a member that is refused behind others
object_refused : (line : Line) (rows : List (List SqlValue)) (columns : List SqlValue) (k v : SqlValue) (s : State) (c : ObjectCall) → IsObjectReady c
    → given line columns (value_of c.key.value.now) ≡ Value k → given line columns (value_of c.value.value.now) ≡ Value v
    → ((fields : List Field) → StandsForFields fields c.object → object_value c.object.nulls c.object.unique (fields ++ record { key = k; value = v } ∷ []) ≡ Err s)
    → HasTakenMembers line rows c → aggregate line (rows ++ columns ∷ []) (object_call c) ≡ Raised s
object_refused line rows columns k v s c ready is_key is refused h =
    ap (object_over c.nulls c.unique) (members-snoc line (value_of c.key.value.now) (value_of c.value.value.now) rows columns h.fields k v h.given is_key is)
    ∙ ap outcome_of (object_more c.nulls c.unique h.fields (record { key = k; value = v })
    ∙ ap (λ (n : Nulls). object_value n c.unique (h.fields ++ record { key = k; value = v } ∷ [])) (sym ready.nulls)
    ∙ ap (λ (u : Bool). object_value c.object.nulls u (h.fields ++ record { key = k; value = v } ∷ [])) (sym ready.unique) ∙ refused h.fields h.stands)

-- a key that raises a state behind others
pub key_raises : (line : Line) (rows : List (List SqlValue)) (columns : List SqlValue) (c : ObjectCall) (r : BuildRefusal) → Raises (given line columns (value_of c.key.value.now)) r
    → HasTakenMembers line rows c → Raises (aggregate line (rows ++ columns ∷ []) (object_call c)) r
key_raises line rows columns c (refusal.State s) is h =
    ap (object_over c.nulls c.unique) (members-raised line (value_of c.key.value.now) (value_of c.value.value.now) rows columns h.fields s h.given
    (key_raised line (value_of c.key.value.now) (value_of c.value.value.now) columns s is))
key_raises line rows columns c refusal.Memory is h = tt

-- a value behind its key
pub value_raises : (line : Line) (rows : List (List SqlValue)) (columns : List SqlValue) (c : ObjectCall) (k : SqlValue) (r : BuildRefusal) → given line columns (value_of c.key.value.now) ≡ Value k
    → Raises (given line columns (value_of c.value.value.now)) r → HasTakenMembers line rows c → Raises (aggregate line (rows ++ columns ∷ []) (object_call c)) r
value_raises line rows columns c k (refusal.State s) is_key is h =
    ap (object_over c.nulls c.unique) (members-raised line (value_of c.key.value.now) (value_of c.value.value.now) rows columns h.fields s h.given
    (value_raised line (value_of c.key.value.now) (value_of c.value.value.now) columns k s is_key is))
value_raises line rows columns c k refusal.Memory is_key is h = tt

-- a member that is there, behind others
pub member_taken : (line : Line) (rows : List (List SqlValue)) (columns : List SqlValue) (k v : SqlValue) (old new : ObjectCall) (r : Result Unit BuildRefusal) → IsObjectReady old
    → new.key.value ≡ old.key.value → new.value.value ≡ old.value.value
    → given line columns (value_of old.key.value.now) ≡ Value k → given line columns (value_of old.value.value.now) ≡ Value v
    → ((fields : List Field) → StandsForFields fields old.object → OnOk r (StandsForFields (fields ++ record { key = k; value = v } ∷ []) new.object))
    → ((fields : List Field) → StandsForFields fields old.object → IfErr r (RefusesAs (object_value old.object.nulls old.object.unique (fields ++ record { key = k; value = v } ∷ []))))
    → HasTakenMembers line rows old → MatchResult r (λ _. HasTakenMembers line (rows ++ columns ∷ []) new) (Raises (aggregate line (rows ++ columns ∷ []) (object_call old)))
member_taken line rows columns k v old new (Ok u) ready same_key same is_key is stands refuses h = object_taken line rows columns k v old new same_key same is_key is stands h
member_taken line rows columns k v old new (Err (refusal.State s)) ready same_key same is_key is stands refuses h = object_refused line rows columns k v s old ready is_key is refuses h
member_taken line rows columns k v old new (Err refusal.Memory) ready same_key same is_key is stands refuses h = tt

-- ---- the items of a list

-- what can be taken of all items can be of the one at a place
pub can_take_at : (xs : List BoundItem) (k : ℕ) (d : BoundItem) → All CanTake (items_of xs) → k < length xs → CanTake (item_of (get_or xs k d))
can_take_at [] k d h within = absurd (omega (arith, within))
can_take_at (x ∷ xs) zero d h within = h 0 (item_of x) (omega arith)
can_take_at (x ∷ xs) (suc k) d h within = can_take_at xs k d (λ i e less. h (suc i) e (omega (arith, less))) (omega (arith, within))

item_split : (x : b.Item) (items : List b.Item) → aggregates_in (x ∷ items) ≡ aggregates_in (x ∷ []) ++ aggregates_in items
item_split (b.Single x) items = refl
item_split (b.ArrayAgg x _) items = refl
item_split (b.ObjectAgg key x _ unique) items = refl

-- the aggregates so far and those of the items that are left, one item further
pub collect_step : (xs : List BoundItem) (i : ℕ) (d x : BoundItem) (old new : List AggregateHeld) (one whole : List Aggregate) → i < length xs → get_or xs i d ≡ x
    → map aggregate_of new ≡ map aggregate_of old ++ one → one ≡ aggregates_in (item_of x ∷ [])
    → map aggregate_of old ++ aggregates_in (items_of (drop i xs)) ≡ whole → map aggregate_of new ++ aggregates_in (items_of (drop (i + 1) xs)) ≡ whole
collect_step xs i d x old new one whole within is more one_is all =
    let others = aggregates_in (items_of (drop (i + 1) xs)) in
    let first : aggregates_in (items_of (drop i xs)) ≡ aggregates_in (item_of x ∷ items_of (drop (i + 1) xs)) =
    ap (λ l. aggregates_in (items_of l)) (drop_more xs i d within) ∙ ap (λ (y : BoundItem). aggregates_in (item_of y ∷ items_of (drop (i + 1) xs))) is in
    ap (λ l. l ++ others) more ∙ append_assoc (map aggregate_of old) one others
    ∙ ap (λ l. map aggregate_of old ++ (l ++ others)) one_is ∙ ap (λ l. map aggregate_of old ++ l) (sym (item_split (item_of x) (items_of (drop (i + 1) xs))) ∙ sym first) ∙ all

-- an aggregate more
ready_more : (old new : List AggregateHeld) (a : AggregateHeld) → new ≡ old ++ a ∷ [] → All IsReady old → IsReady a → All IsReady new
ready_more old new a more all one = subst (All IsReady) (sym more) (All-append IsReady old (a ∷ []) all (All-cons IsReady a [] one (All-nil IsReady)))

-- an aggregate more, where it was appended
pub appended_is : {T E : Type 0} (r : Result T E) (old new : List AggregateHeld) (a : AggregateHeld) (call : Aggregate) → OnOk r (new ≡ old ++ a ∷ []) → aggregate_of a ≡ call
    → OnOk r (map aggregate_of new ≡ map aggregate_of old ++ call ∷ [])
appended_is (Ok x) old new a call more is = ap (map aggregate_of) more ∙ map-append aggregate_of old (a ∷ []) ∙ ap (λ c. map aggregate_of old ++ c ∷ []) is
appended_is (Err e) old new a call more is = tt

pub appended_ready : {T E : Type 0} (r : Result T E) (old new : List AggregateHeld) (a : AggregateHeld) → OnOk r (new ≡ old ++ a ∷ []) → IsReady a → All IsReady old → OnOk r (All IsReady new)
appended_ready (Ok x) old new a more one all = ready_more old new a more all one
appended_ready (Err e) old new a more one all = tt
