-- The tokens of a statement that some tokens spell are that statement, with each path in its canonical text.
use Rattle.std.proofs.Common.{◌≡◌, List, [], ◌∷◌, codes, Some, refl}
use Rattle.sj_sql_token.specs.declared.keyword.Keyword.TheVariants as w
use Rattle.sj_sql_grammar.specs.Tree.{PathText, Value, Item, Statement}
use Rattle.sj_sql_grammar.specs.Phrases.{Tokens, comma_at}
use Rattle.sj_sql_grammar.specs.Grammar as g
use Rattle.sj_sql_grammar.specs.Grammar.{IsList, IsPlainItem, IsRowItem, IsListedItem, IsSelect}
use Rattle.sj_sql_grammar.specs.Notes.{item_with, plain_with, items_with, table_with, statement_with}
use Rattle.sj_sql_grammar.specs.Answers.{finishing}
use Rattle.sj_sql_text.specs.Pieces.{Pieces, Star, Close}
use Rattle.sj_sql_text.specs.Phrases as on
use Rattle.sj_sql_text.specs.Statements.{value_on, item_on, table_on, body_on}
use Rattle.sj_sql_text.specs.Tokens.{tokens_of}
use Rattle.sj_sql_text.specs.Law.{canonical}
use Rattle.sj_sql_text.proofs.WordTokens.{stands, select_is, from_is, json_objectagg_is, json_arrayagg_is}
use Rattle.sj_sql_text.proofs.PhraseTokens as phrase
use Rattle.sj_sql_text.proofs.ValueTokens.{value_spelled, member_spelled}
use Rattle.sj_sql_text.proofs.TableTokens.{table_spelled}

-- ---- values

plain_behind : {ts rest : Tokens} {xs : List (Value PathText)} → IsList IsPlainItem ts xs rest → (ps : Pieces)
    → comma_at (tokens_of (on.each_behind value_on (plain_with finishing xs) ps)) ≡ Some (tokens_of (on.listed value_on (plain_with finishing xs) ps))
plain_behind (g.last d) ps = refl
plain_behind (g.more d c q) ps = refl

plain_spelled : {ts rest : Tokens} {xs : List (Value PathText)} → IsList IsPlainItem ts xs rest → (ps : Pieces)
    → IsList IsPlainItem (tokens_of (on.listed value_on (plain_with finishing xs) ps)) (plain_with canonical xs) (tokens_of ps)
plain_spelled (g.last (g.plain_item d o)) ps = g.last (g.plain_item (value_spelled d ps) g.missing)
plain_spelled (g.more {xs = xs} (g.plain_item d o) c q) ps =
    g.more (g.plain_item (value_spelled d (on.each_behind value_on (plain_with finishing xs) ps)) g.missing) (plain_behind q ps) (plain_spelled q ps)

-- ---- items

row_item_spelled : {ts rest : Tokens} {x : Item PathText} → IsRowItem ts x rest → (ps : Pieces) → IsRowItem (tokens_of (item_on (item_with finishing x) ps)) (item_with canonical x) (tokens_of ps)
row_item_spelled (g.single d) ps = g.single (value_spelled d ps)
row_item_spelled (g.array_agg {n = n} h o d nulls z) ps =
    g.array_agg (stands w.JsonArrayAgg (codes "JSON_ARRAYAGG") _ json_arrayagg_is) refl (value_spelled d (on.nulls_on n (Close ∷ ps))) (g.there (phrase.nulls_are n (Close ∷ ps))) refl
row_item_spelled (g.object_agg {n = n} {u = u} h o d nulls unique z) ps =
    let unique = on.unique_on u (Close ∷ ps) in
    let nulls = on.nulls_on n unique in
    g.object_agg (stands w.JsonObjectAgg (codes "JSON_OBJECTAGG") _ json_objectagg_is) refl (member_spelled d nulls) (g.there (phrase.nulls_are n unique)) (g.there (phrase.unique_is u (Close ∷ ps))) refl

items_behind : {ts rest : Tokens} {xs : List (Item PathText)} → IsList IsListedItem ts xs rest → (ps : Pieces)
    → comma_at (tokens_of (on.each_behind item_on (items_with finishing xs) ps)) ≡ Some (tokens_of (on.listed item_on (items_with finishing xs) ps))
items_behind (g.last d) ps = refl
items_behind (g.more d c q) ps = refl

items_spelled : {ts rest : Tokens} {xs : List (Item PathText)} → IsList IsListedItem ts xs rest → (ps : Pieces)
    → IsList IsListedItem (tokens_of (on.listed item_on (items_with finishing xs) ps)) (items_with canonical xs) (tokens_of ps)
items_spelled (g.last (g.listed_item d o)) ps = g.last (g.listed_item (row_item_spelled d ps) g.missing)
items_spelled (g.more {xs = xs} (g.listed_item d o) c q) ps =
    g.more (g.listed_item (row_item_spelled d (on.each_behind item_on (items_with finishing xs) ps)) g.missing) (items_behind q ps) (items_spelled q ps)

-- ---- statements

pub select_spelled : {ts : Tokens} {x : Statement PathText} → IsSelect ts x → IsSelect (tokens_of (body_on (statement_with finishing x) [])) (statement_with canonical x)
select_spelled (g.plain h d) = g.plain (stands w.Select (codes "SELECT") _ select_is) (plain_spelled d [])
select_spelled (g.all {x = x} h s f t) =
    let table = table_on (table_with finishing x) [] in
    g.all (stands w.Select (codes "SELECT") (tokens_of (Star ∷ on.word (codes "FROM") table)) select_is) refl (stands w.From (codes "FROM") (tokens_of table) from_is) (table_spelled t [])
select_spelled (g.listed {x = x} h d f t) =
    let table = table_on (table_with finishing x) [] in
    g.listed (stands w.Select (codes "SELECT") _ select_is) (items_spelled d (on.word (codes "FROM") table)) (stands w.From (codes "FROM") (tokens_of table) from_is) (table_spelled t [])
