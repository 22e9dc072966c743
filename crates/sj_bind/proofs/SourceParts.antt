-- By the rules no column stands in a value without a table, and no function that has a path in one beside a table.
use Rattle.std.proofs.Common.{◌≡◌, Bool, List, [], ◌++◌, refl, ap, ◌∙◌}
use Rattle.std.specs.List.{All as Each}
use Rattle.std.proofs.lemmas.List.Elements.{All-nil, All-cons}
use Rattle.sj_path_tree.specs.declared.parts.Literal.{Literal}
use Rattle.sj_path_tree.specs.Tree.{Path}
use Rattle.sj_value.specs.declared.clauses.Nulls.{Nulls}
use Rattle.sj_sql_grammar.specs.Tree.{PathText, Value, Lit, Object, Array, Values, NoValues, MoreValues, Members, NoMembers, MoreMembers, Item}
use Rattle.sj_sql_grammar.specs.Phrases.{Tokens}
use Rattle.sj_sql_grammar.specs.Grammar as g
use Rattle.sj_sql_grammar.specs.Grammar.{Source, document, row, IsValue, IsValues, IsMember, IsMembers, IsList, IsPlainItem, IsRowItem, IsListedItem}
use Rattle.sj_sql_grammar.specs.Notes.{value_with, values_with, members_with, item_with, plain_with, items_with}
use Rattle.sj_sql_grammar.specs.Answers.{finishing}
use Rattle.sj_bind.specs.Parts.{calls_in, calls_in_values, calls_in_members, names_in, names_in_values, names_in_members}
use Rattle.sj_bind.specs.Bindable.{HasNoColumn, AsksNothing}

-- what the other source has does not stand in the value
abbrev Lacks : Source → Value Path → Type 0
Lacks document x = names_in x ≡ []
Lacks row x = calls_in x ≡ []

abbrev AllLack : Source → Values Path → Type 0
AllLack document xs = names_in_values xs ≡ []
AllLack row xs = calls_in_values xs ≡ []

abbrev MembersLack : Source → Members Path → Type 0
MembersLack document xs = names_in_members xs ≡ []
MembersLack row xs = calls_in_members xs ≡ []

none_in : {A : Type 0} (xs ys : List A) → xs ≡ [] → ys ≡ [] → xs ++ ys ≡ []
none_in xs ys h k = ap (λ r. r ++ ys) h ∙ k

literal_lacks : (s : Source) (x : Literal) → Lacks s (Lit x)
literal_lacks document x = refl
literal_lacks row x = refl

object_lacks : (s : Source) (xs : Members Path) (n : Nulls) (u : Bool) → MembersLack s xs → Lacks s (Object xs n u)
object_lacks document xs n u h = h
object_lacks row xs n u h = h

array_lacks : (s : Source) (xs : Values Path) (n : Nulls) → AllLack s xs → Lacks s (Array xs n)
array_lacks document xs n h = h
array_lacks row xs n h = h

no_values : (s : Source) → AllLack s NoValues
no_values document = refl
no_values row = refl

more_values : (s : Source) (x : Value Path) (xs : Values Path) → Lacks s x → AllLack s xs → AllLack s (MoreValues x xs)
more_values document x xs h k = none_in (names_in x) (names_in_values xs) h k
more_values row x xs h k = none_in (calls_in x) (calls_in_values xs) h k

no_members : (s : Source) → MembersLack s NoMembers
no_members document = refl
no_members row = refl

more_members : (s : Source) (x y : Value Path) (xs : Members Path) → Lacks s x × Lacks s y → MembersLack s xs → MembersLack s (MoreMembers x y xs)
more_members document x y xs h k = none_in (names_in x ++ names_in y) (names_in_members xs) (none_in (names_in x) (names_in y) h.0 h.1) k
more_members row x y xs h k = none_in (calls_in x ++ calls_in y) (calls_in_members xs) (none_in (calls_in x) (calls_in y) h.0 h.1) k

mutual
  value_lacks : {s : Source} {ts rest : Tokens} {x : Value PathText} → IsValue s ts x rest → Lacks s (value_with finishing x)
  value_lacks (g.literal {s = s} {x = x} h) = literal_lacks s x
  value_lacks (g.column h) = refl
  value_lacks (g.exists i) = refl
  value_lacks (g.value i) = refl
  value_lacks (g.query i) = refl
  value_lacks (g.is_json i) = refl
  value_lacks (g.no_object {s = s} name opens closes) = object_lacks s NoMembers _ _ (no_members s)
  value_lacks (g.object {s = s} {xs = xs} name opens members nulls unique closes) = object_lacks s (members_with finishing xs) _ _ (members_lack members)
  value_lacks (g.no_array {s = s} name opens closes) = array_lacks s NoValues _ (no_values s)
  value_lacks (g.array {s = s} {xs = xs} name opens values nulls closes) = array_lacks s (values_with finishing xs) _ (values_lack values)

  values_lack : {s : Source} {ts rest : Tokens} {xs : Values PathText} → IsValues s ts xs rest → AllLack s (values_with finishing xs)
  values_lack (g.last_value {s = s} {x = x} i) = more_values s (value_with finishing x) NoValues (value_lacks i) (no_values s)
  values_lack (g.more_values {s = s} {x = x} {xs = xs} i comma j) = more_values s (value_with finishing x) (values_with finishing xs) (value_lacks i) (values_lack j)

  member_lacks : {s : Source} {ts rest : Tokens} {x y : Value PathText} → IsMember s ts x y rest → Lacks s (value_with finishing x) × Lacks s (value_with finishing y)
  member_lacks (g.keyed key i value j) = (value_lacks i, value_lacks j)
  member_lacks (g.valued i value j) = (value_lacks i, value_lacks j)
  member_lacks (g.coloned i colon j) = (value_lacks i, value_lacks j)

  members_lack : {s : Source} {ts rest : Tokens} {xs : Members PathText} → IsMembers s ts xs rest → MembersLack s (members_with finishing xs)
  members_lack (g.last_member {s = s} {x = x} {y = y} i) = more_members s (value_with finishing x) (value_with finishing y) NoMembers (member_lacks i) (no_members s)
  members_lack (g.more_members {s = s} {x = x} {y = y} {xs = xs} i comma j) =
      more_members s (value_with finishing x) (value_with finishing y) (members_with finishing xs) (member_lacks i) (members_lack j)

pub plain_lacks : {ts rest : Tokens} {xs : List (Value PathText)} → IsList IsPlainItem ts xs rest → Each HasNoColumn (plain_with finishing xs)
plain_lacks (g.last {x = x} (g.plain_item i alias)) = All-cons HasNoColumn (value_with finishing x) [] (value_lacks i) (All-nil HasNoColumn)
plain_lacks (g.more {x = x} {xs = xs} (g.plain_item i alias) comma j) = All-cons HasNoColumn (value_with finishing x) (plain_with finishing xs) (value_lacks i) (plain_lacks j)

item_asks_nothing : {ts rest : Tokens} {x : Item PathText} → IsRowItem ts x rest → AsksNothing (item_with finishing x)
item_asks_nothing (g.single i) = value_lacks i
item_asks_nothing (g.array_agg name opens i nulls closes) = value_lacks i
item_asks_nothing (g.object_agg {x = x} {y = y} name opens i nulls unique closes) =
    let r = member_lacks i in
    none_in (calls_in (value_with finishing x)) (calls_in (value_with finishing y)) r.0 r.1

pub items_ask_nothing : {ts rest : Tokens} {xs : List (Item PathText)} → IsList IsListedItem ts xs rest → Each AsksNothing (items_with finishing xs)
items_ask_nothing (g.last {x = x} (g.listed_item i alias)) = All-cons AsksNothing (item_with finishing x) [] (item_asks_nothing i) (All-nil AsksNothing)
items_ask_nothing (g.more {x = x} {xs = xs} (g.listed_item i alias) comma j) = All-cons AsksNothing (item_with finishing x) (items_with finishing xs) (item_asks_nothing i) (items_ask_nothing j)
