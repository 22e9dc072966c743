-- What commas part: the turns of a loop that gathers it, beside the recursion that reads it.
use Rattle.std.proofs.Common.{map, ◌≡◌, ℕ, zero, suc, ◌+◌, ◌-◌, ◌<◌, ◌≤◌, List, [], ◌∷◌, ◌++◌, Option, Some, None, refl, sym, ap, ◌∙◌, arith}
use Rattle.sj_base.specs.declared.refusal.ParseRefusal.{ParseRefusal}
use Rattle.sj_base.specs.declared.refusal.ParseRefusal.TheVariants as refusal
use Rattle.sj_base.specs.Gives.{Fails}
use Rattle.sj_base.specs.Options.{◌>>=◌}
use Rattle.sj_path_tree.specs.Tree.{Path}
use Rattle.sj_sql_grammar.specs.declared.clauses.Passed.{Passed}
use Rattle.sj_sql_grammar.specs.Tree.{Value, MoreValues, NoValues, MoreMembers, NoMembers, Columns, More, Last}
use Rattle.sj_sql_grammar.specs.Faults.{Faults, parsing}
use Rattle.sj_sql_grammar.specs.Phrases.{Tokens, if_some, comma_at, passed_at}
use Rattle.sj_sql_grammar.specs.Reading.{list_from, values_from, member_at, members_from, column_at, columns_from, items_from}
use Rattle.sj_sql_grammar.proofs.ReadTokens.{bind_is, bind_none, some_on, none_on}
use Rattle.sj_sql_tree.specs.declared.tree.Value.{Value as ParsedValue}
use Rattle.sj_sql_tree.specs.declared.tree.Member.{Member}
use Rattle.sj_sql_tree.specs.declared.tree.Column.{Column}
use Rattle.sj_sql_tree.specs.declared.tree.Item.{Item}
use Rattle.sj_sql_tree.specs.View.{value_of, values_of, member_of, members_of, plain_of, item_of, items_of, column_of, columns_onto}
use Rattle.sj_sql_phrase.specs.Cells.{onto, fronted, listed, more_members}

-- ---- one more at the end of a list

pub onto_end : {A L : Type 0} (more : A → L → L) (xs : List A) (x : A) (l : L) → onto more (xs ++ x ∷ []) l ≡ onto more xs (more x l)
onto_end more [] x l = refl
onto_end more (y ∷ ys) x l = ap (more y) (onto_end more ys x l)

-- a list before another
pub onto_list : {A : Type 0} (xs ys : List A) → onto ◌∷◌ xs ys ≡ xs ++ ys
onto_list [] ys = refl
onto_list (x ∷ xs) ys = ap (λ zs. x ∷ zs) (onto_list xs ys)

pub mapped_end : {A B : Type 0} (view : A → B) (xs : List A) (x : A) → map view (xs ++ x ∷ []) ≡ map view xs ++ view x ∷ []
mapped_end view [] x = refl
mapped_end view (y ∷ ys) x = ap (λ zs. view y ∷ zs) (mapped_end view ys x)

pub plain_end : (xs : List ParsedValue) (x : ParsedValue) → plain_of (xs ++ x ∷ []) ≡ plain_of xs ++ value_of x ∷ []
plain_end [] x = refl
plain_end (y ∷ ys) x = ap (λ zs. value_of y ∷ zs) (plain_end ys x)

pub values_end : (xs : List ParsedValue) (x : ParsedValue) → onto MoreValues (map value_of xs) (MoreValues (value_of x) NoValues) ≡ values_of (xs ++ x ∷ [])
values_end [] x = refl
values_end (y ∷ ys) x = ap (MoreValues (value_of y)) (values_end ys x)

pub members_end : (xs : List Member) (x : Member) → onto more_members (map member_of xs) (more_members (member_of x) NoMembers) ≡ members_of (xs ++ x ∷ [])
members_end [] x = refl
members_end (y ∷ ys) x = ap (more_members (member_of y)) (members_end ys x)

pub columns_before : (xs : List Column) (others : Columns Path) → onto More (map column_of xs) others ≡ columns_onto xs others
columns_before [] others = refl
columns_before (y ∷ ys) others = ap (More (column_of y)) (columns_before ys others)

pub items_end : (xs : List Item) (x : Item) → items_of (xs ++ x ∷ []) ≡ items_of xs ++ item_of x ∷ []
items_end [] x = refl
items_end (y ∷ ys) x = ap (λ zs. item_of y ∷ zs) (items_end ys x)

-- ---- lists of what is noted

-- how one is read, and the list of them
pub record Reads {A L : Type 0} (more : A → L → L) (last : A → L) (one : Faults → Tokens → Option (A × Faults × Tokens)) (from : ℕ → Faults → Tokens → Option (L × Faults × Tokens))
    : Type 0 where
  pub none : (f : Faults) (ts : Tokens) → from zero f ts ≡ None
  pub step : (m : ℕ) (f : Faults) (ts : Tokens)
      → from (suc m) f ts ≡ (one f ts >>= λ x. if_some (comma_at x.2) (λ a. from m x.1 a >>= λ xs. Some (more x.0 xs.0, xs.1, xs.2)) (Some (last x.0, x.1, x.2)))

abbrev pub read : {L : Type 0} → Faults → Tokens → L → Option (L × Faults × Tokens)
read f ts l = Some (l, f, ts)

read_on : {A L : Type 0} (more : A → L → L) (xs : List A) (x : A) (o : Option (L × Faults × Tokens))
    → fronted more xs (o >>= λ ys. Some (more x ys.0, ys.1, ys.2)) ≡ fronted more (xs ++ x ∷ []) o
read_on more xs x None = refl
read_on more xs x (Some y) = ap (read y.1 y.2) (sym (onto_end more xs x y.0))

module _ {A L : Type 0} (more : A → L → L) (last : A → L) (one : Faults → Tokens → Option (A × Faults × Tokens)) (from : ℕ → Faults → Tokens → Option (L × Faults × Tokens))
    (r : Reads more last one from) where
  -- a comma follows
  pub goes_on : {start : Option (L × Faults × Tokens)} (n at : ℕ) (before after : List A) (x : A) (f g : Faults) (rest mid next : Tokens) → at < n
      → start ≡ fronted more before (from (n - at) f rest) → one f rest ≡ Some (x, g, mid) → Some next ≡ comma_at mid → after ≡ before ++ x ∷ []
      → start ≡ fronted more after (from (n - (at + 1)) g next)
  goes_on n at before after x f g rest mid next below e o c made =
      let count : n - at ≡ suc (n - (at + 1)) = omega arith in
      e ∙ ap (λ m. fronted more before (from m f rest)) count
      ∙ ap (fronted more before) (r.step (n - (at + 1)) f rest ∙ bind_is _ _ o (some_on _ _ _ (sym c) refl))
      ∙ read_on more before x (from (n - (at + 1)) g next)
      ∙ ap (λ xs. fronted more xs (from (n - (at + 1)) g next)) (sym made)

  -- no comma follows
  pub ends : {start : Option (L × Faults × Tokens)} (n at : ℕ) (before : List A) (x : A) (f g : Faults) (rest mid : Tokens) → at < n
      → start ≡ fronted more before (from (n - at) f rest) → one f rest ≡ Some (x, g, mid) → None ≡ comma_at mid
      → start ≡ Some (onto more before (last x), g, mid)
  ends n at before x f g rest mid below e o c =
      let count : n - at ≡ suc (n - (at + 1)) = omega arith in
      e ∙ ap (λ m. fronted more before (from m f rest)) count
      ∙ ap (fronted more before) (r.step (n - (at + 1)) f rest ∙ bind_is _ _ o (none_on _ _ _ (sym c) refl))

  stops : {start : Option (L × Faults × Tokens)} (n at : ℕ) (before : List A) (f : Faults) (rest : Tokens) → at < n
      → start ≡ fronted more before (from (n - at) f rest) → one f rest ≡ None → start ≡ None
  stops n at before f rest below e o =
      let count : n - at ≡ suc (n - (at + 1)) = omega arith in
      e ∙ ap (λ m. fronted more before (from m f rest)) count ∙ ap (fronted more before) (r.step (n - (at + 1)) f rest ∙ bind_none _ _ o)

  -- none stands there
  pub fails : {start : Option (L × Faults × Tokens)} (why : ParseRefusal) (n at : ℕ) (before : List A) (f : Faults) (rest : Tokens) → at < n
      → start ≡ fronted more before (from (n - at) f rest) → Fails why (one f rest) → Fails why start
  fails refusal.Memory n at before f rest below e o = tt
  fails refusal.Syntax n at before f rest below e o = stops n at before f rest below e o

  -- there are no tokens left
  pub runs_out : {start : Option (L × Faults × Tokens)} (n at : ℕ) (before : List A) (f : Faults) (rest : Tokens) → n ≤ at
      → start ≡ fronted more before (from (n - at) f rest) → start ≡ None
  runs_out n at before f rest over e =
      let count : n - at ≡ zero = omega arith in
      e ∙ ap (λ m. fronted more before (from m f rest)) count ∙ ap (fronted more before) (r.none f rest)

pub values_read : (one : Faults → Tokens → Option (Value Path × Faults × Tokens)) → Reads MoreValues (λ x. MoreValues x NoValues) one (values_from parsing one)
unfolding values_from
values_read one = record { none = λ f ts. refl; step = λ m f ts. refl }

pub members_read : (one : Faults → Tokens → Option (Value Path × Faults × Tokens))
    → Reads more_members (λ x. MoreMembers x.0 x.1 NoMembers) (member_at parsing one) (members_from parsing one)
unfolding members_from
members_read one = record { none = λ f ts. refl; step = λ m f ts. refl }

pub columns_read : (inner : Faults → Tokens → Option (Columns Path × Faults × Tokens)) → Reads More Last (column_at parsing inner) (columns_from parsing inner)
unfolding columns_from
columns_read inner = record { none = λ f ts. refl; step = λ m f ts. refl }

pub items_read : {A : Type 0} (one : Faults → Tokens → Option (A × Faults × Tokens)) → Reads ◌∷◌ (λ x. x ∷ []) one (items_from parsing one)
unfolding items_from
items_read one = record { none = λ f ts. refl; step = λ m f ts. refl }

-- ---- the variables of a PASSING clause

abbrev plainly : Tokens → List Passed → Option (List Passed × Tokens)
plainly ts xs = Some (xs, ts)

passed_on : (xs : List Passed) (x : Passed) (o : Option (List Passed × Tokens)) → listed xs (o >>= λ ys. Some (x ∷ ys.0, ys.1)) ≡ listed (xs ++ x ∷ []) o
passed_on xs x None = refl
passed_on xs x (Some y) = ap (plainly y.1) (sym (onto_end ◌∷◌ xs x y.0))

pub passed_goes_on : {start : Option (List Passed × Tokens)} (n at : ℕ) (before after : List Passed) (x : Passed) (rest mid next : Tokens) → at < n
    → start ≡ listed before (list_from passed_at (n - at) rest) → passed_at rest ≡ Some (x, mid) → Some next ≡ comma_at mid → after ≡ before ++ x ∷ []
    → start ≡ listed after (list_from passed_at (n - (at + 1)) next)
unfolding list_from
passed_goes_on n at before after x rest mid next below e o c made =
    let count : n - at ≡ suc (n - (at + 1)) = omega arith in
    e ∙ ap (λ m. listed before (list_from passed_at m rest)) count
    ∙ ap (listed before) (bind_is _ _ o (some_on _ _ _ (sym c) refl))
    ∙ passed_on before x (list_from passed_at (n - (at + 1)) next)
    ∙ ap (λ xs. listed xs (list_from passed_at (n - (at + 1)) next)) (sym made)

pub passed_ends : {start : Option (List Passed × Tokens)} (n at : ℕ) (before after : List Passed) (x : Passed) (rest mid : Tokens) → at < n
    → start ≡ listed before (list_from passed_at (n - at) rest) → passed_at rest ≡ Some (x, mid) → None ≡ comma_at mid → after ≡ before ++ x ∷ []
    → start ≡ Some (after, mid)
unfolding list_from
passed_ends n at before after x rest mid below e o c made =
    let count : n - at ≡ suc (n - (at + 1)) = omega arith in
    e ∙ ap (λ m. listed before (list_from passed_at m rest)) count
    ∙ ap (listed before) (bind_is _ _ o (none_on _ _ _ (sym c) refl))
    ∙ ap (plainly mid) (onto_list before (x ∷ []) ∙ sym made)

passed_stops : {start : Option (List Passed × Tokens)} (n at : ℕ) (before : List Passed) (rest : Tokens) → at < n
    → start ≡ listed before (list_from passed_at (n - at) rest) → passed_at rest ≡ None → start ≡ None
unfolding list_from
passed_stops n at before rest below e o =
    let count : n - at ≡ suc (n - (at + 1)) = omega arith in
    e ∙ ap (λ m. listed before (list_from passed_at m rest)) count ∙ ap (listed before) (bind_none _ _ o)

pub passed_fails : {start : Option (List Passed × Tokens)} (why : ParseRefusal) (n at : ℕ) (before : List Passed) (rest : Tokens) → at < n
    → start ≡ listed before (list_from passed_at (n - at) rest) → Fails why (passed_at rest) → Fails why start
passed_fails refusal.Memory n at before rest below e o = tt
passed_fails refusal.Syntax n at before rest below e o = passed_stops n at before rest below e o

pub passed_runs_out : {start : Option (List Passed × Tokens)} (n at : ℕ) (before : List Passed) (rest : Tokens) → n ≤ at
    → start ≡ listed before (list_from passed_at (n - at) rest) → start ≡ None
unfolding list_from
passed_runs_out n at before rest over e =
    let count : n - at ≡ zero = omega arith in
    e ∙ ap (λ m. listed before (list_from passed_at m rest)) count
