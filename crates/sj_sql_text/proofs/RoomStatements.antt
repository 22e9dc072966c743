-- The canonical tokens of a statement nest no deeper than others that spell it.
use Rattle.std.proofs.Common.{◌≡◌, ℕ, List, [], ◌∷◌, codes, refl, subst, arith}
use Rattle.sj_base.specs.Nesting.{max_open}
use Rattle.sj_sql_token.specs.declared.keyword.Keyword.TheVariants as w
use Rattle.sj_sql_grammar.specs.Tree.{PathText, Value, Item, Statement}
use Rattle.sj_sql_grammar.specs.Phrases.{Tokens}
use Rattle.sj_sql_grammar.specs.Grammar as g
use Rattle.sj_sql_grammar.specs.Grammar.{IsList, IsPlainItem, IsRowItem, IsListedItem, IsSelect, IsTooDeep}
use Rattle.sj_sql_grammar.specs.Notes.{value_with, item_with, plain_with, items_with, statement_with}
use Rattle.sj_sql_grammar.specs.Answers.{finishing}
use Rattle.sj_sql_text.specs.Pieces.{Pieces, Star, Comma}
use Rattle.sj_sql_text.specs.Phrases as on
use Rattle.sj_sql_text.specs.Statements.{value_on, item_on, body_on}
use Rattle.sj_sql_text.specs.Tokens.{tokens_of}
use Rattle.sj_sql_text.proofs.Room.{has_room, shallow, opens, closes, Needs, needs_none, Holds, plain, before, joined, called}
use Rattle.sj_sql_text.proofs.RoomPhrases as room
use Rattle.sj_sql_text.proofs.RoomPhrases.{word_keeps, star_keeps}
use Rattle.sj_sql_text.proofs.RoomValues.{optional_keeps, over_keeps, behind_comma, value_holds, member_holds}
use Rattle.sj_sql_text.proofs.RoomTables.{table_holds}

word_needs : (text : List ℕ) → Needs 0 (on.word text)
word_needs text = needs_none (λ d ps h. h)

-- ---- values and items

pub plain_item_holds : {ts rest : Tokens} {x : Value PathText} → IsPlainItem ts x rest → Holds ts (value_on (value_with finishing x)) rest
plain_item_holds (g.plain_item d o) = before (value_holds d) (over_keeps room.alias_keeps o)

other_plain : {ts rest : Tokens} {xs : List (Value PathText)} → IsList IsPlainItem ts xs rest → (λ ps. Comma ∷ on.listed value_on (plain_with finishing xs) ps) ≡ on.each_behind value_on (plain_with finishing xs)
other_plain (g.last d) = refl
other_plain (g.more d c q) = refl

plain_hold : {ts rest : Tokens} {xs : List (Value PathText)} → IsList IsPlainItem ts xs rest → Holds ts (on.listed value_on (plain_with finishing xs)) rest
plain_hold (g.last d) = plain_item_holds d
plain_hold (g.more {a = a} {rest = rest} d c q) = joined (plain_item_holds d) (subst (λ (f : Pieces → Pieces). Holds a f rest) (other_plain q) (behind_comma c (plain_hold q)))

row_item_holds : {ts rest : Tokens} {x : Item PathText} → IsRowItem ts x rest → Holds ts (item_on (item_with finishing x)) rest
row_item_holds (g.single d) = value_holds d
row_item_holds (g.array_agg {ts = ts} {a = a} {b = b} {d = e} {rest = rest} {n = n} h o d nulls z) =
    called (codes "JSON_ARRAYAGG") ((word_keeps w.JsonArrayAgg ts).holds a h) ((opens a).holds b o) (joined (value_holds d) (plain (room.nulls_need n) (optional_keeps room.nulls_keeps nulls))) ((closes e).holds rest z)
row_item_holds (g.object_agg {ts = ts} {a = a} {b = b} {e = e} {rest = rest} {n = n} {u = u} h o d nulls unique z) =
    called (codes "JSON_OBJECTAGG") ((word_keeps w.JsonObjectAgg ts).holds a h) ((opens a).holds b o)
    (joined (member_holds d) (joined (plain (room.nulls_need n) (optional_keeps room.nulls_keeps nulls)) (plain (room.unique_needs u) (optional_keeps room.unique_keeps unique)))) ((closes e).holds rest z)

pub listed_item_holds : {ts rest : Tokens} {x : Item PathText} → IsListedItem ts x rest → Holds ts (item_on (item_with finishing x)) rest
listed_item_holds (g.listed_item d o) = before (row_item_holds d) (over_keeps room.alias_keeps o)

other_items : {ts rest : Tokens} {xs : List (Item PathText)} → IsList IsListedItem ts xs rest → (λ ps. Comma ∷ on.listed item_on (items_with finishing xs) ps) ≡ on.each_behind item_on (items_with finishing xs)
other_items (g.last d) = refl
other_items (g.more d c q) = refl

pub items_hold : {ts rest : Tokens} {xs : List (Item PathText)} → IsList IsListedItem ts xs rest → Holds ts (on.listed item_on (items_with finishing xs)) rest
items_hold (g.last d) = listed_item_holds d
items_hold (g.more {a = a} {rest = rest} d c q) = joined (listed_item_holds d) (subst (λ (f : Pieces → Pieces). Holds a f rest) (other_items q) (behind_comma c (items_hold q)))

-- ---- statements

select_holds : {ts : Tokens} {x : Statement PathText} → IsSelect ts x → Holds ts (body_on (statement_with finishing x)) []
select_holds (g.plain {ts = ts} {a = a} h d) = joined (plain (word_needs (codes "SELECT")) ((word_keeps w.Select ts).holds a h)) (plain_hold d)
select_holds (g.all {ts = ts} {a = a} {b = b} {c = c} h s f t) =
    let star : Needs 0 (λ ps. Star ∷ ps) = needs_none (λ d ps h. h) in
    joined (plain (word_needs (codes "SELECT")) ((word_keeps w.Select ts).holds a h))
    (joined (plain star ((star_keeps a).holds b s)) (joined (plain (word_needs (codes "FROM")) ((word_keeps w.From b).holds c f)) (table_holds t)))
select_holds (g.listed {ts = ts} {a = a} {b = b} {c = c} h d f t) =
    joined (plain (word_needs (codes "SELECT")) ((word_keeps w.Select ts).holds a h))
    (joined (items_hold d) (joined (plain (word_needs (codes "FROM")) ((word_keeps w.From b).holds c f)) (table_holds t)))

pub stays_shallow : {ts : Tokens} {x : Statement PathText} → IsSelect ts x → (IsTooDeep ts → ⊥) → IsTooDeep (tokens_of (body_on (statement_with finishing x) [])) → ⊥
stays_shallow {ts} {x} d h =
    shallow (tokens_of (body_on (statement_with finishing x) [])) (((select_holds d).needs max_open (has_room ts h)).fits max_open [] (omega arith) tt)
