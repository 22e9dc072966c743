-- The canonical pieces of a statement that tokens of a file spell are inner.
use Rattle.std.proofs.Common.{List, [], codes, refl}
use Rattle.sj_sql_token.specs.declared.keyword.Keyword.TheVariants as w
use Rattle.sj_sql_grammar.specs.Tree.{PathText, Value, Item, Statement}
use Rattle.sj_sql_grammar.specs.Phrases.{Tokens}
use Rattle.sj_sql_grammar.specs.Grammar as g
use Rattle.sj_sql_grammar.specs.Grammar.{IsList, IsPlainItem, IsRowItem, IsListedItem, IsSelect}
use Rattle.sj_sql_grammar.specs.Notes.{value_with, item_with, plain_with, items_with, statement_with}
use Rattle.sj_sql_grammar.specs.Answers.{finishing}
use Rattle.sj_sql_text.specs.Pieces.{Star}
use Rattle.sj_sql_text.specs.Statements.{value_on, item_on, body_on}
use Rattle.sj_sql_text.proofs.Inner.{AreLexical, AreInner, Prints, and_prints, called_prints}
use Rattle.sj_sql_text.proofs.RoomPhrases.{star_keeps}
use Rattle.sj_sql_text.proofs.RoomStatements.{plain_item_holds, listed_item_holds, items_hold}
use Rattle.sj_sql_text.proofs.PrintedPhrases.{piece_prints, word_prints, EachPrints, listed_prints, nulls_print, unique_prints}
use Rattle.sj_sql_text.proofs.PrintedValues.{behind_word, behind_comma, in_call, value_prints, member_prints}
use Rattle.sj_sql_text.proofs.PrintedTables.{table_prints}

-- ---- values and items

plain_item_prints : {ts rest : Tokens} {x : Value PathText} → IsPlainItem ts x rest → AreLexical ts → Prints (value_on (value_with finishing x))
plain_item_prints (g.plain_item d o) l = value_prints d l

plain_print : {ts rest : Tokens} {xs : List (Value PathText)} → IsList IsPlainItem ts xs rest → AreLexical ts → EachPrints value_on (plain_with finishing xs)
plain_print (g.last d) l = (plain_item_prints d l, tt)
plain_print (g.more {a = a} d c q) l = (plain_item_prints d l, plain_print q (behind_comma a c ((plain_item_holds d).lexical l)))

row_item_prints : {ts rest : Tokens} {x : Item PathText} → IsRowItem ts x rest → AreLexical ts → Prints (item_on (item_with finishing x))
row_item_prints (g.single d) l = value_prints d l
row_item_prints (g.array_agg {ts = ts} {n = n} h o d nulls z) l = called_prints (codes "JSON_ARRAYAGG") refl (and_prints (value_prints d (in_call w.JsonArrayAgg ts h o l)) (nulls_print n))
row_item_prints (g.object_agg {ts = ts} {n = n} {u = u} h o d nulls unique z) l =
    called_prints (codes "JSON_OBJECTAGG") refl (and_prints (member_prints d (in_call w.JsonObjectAgg ts h o l)) (and_prints (nulls_print n) (unique_prints u)))

listed_item_prints : {ts rest : Tokens} {x : Item PathText} → IsListedItem ts x rest → AreLexical ts → Prints (item_on (item_with finishing x))
listed_item_prints (g.listed_item d o) l = row_item_prints d l

items_print : {ts rest : Tokens} {xs : List (Item PathText)} → IsList IsListedItem ts xs rest → AreLexical ts → EachPrints item_on (items_with finishing xs)
items_print (g.last d) l = (listed_item_prints d l, tt)
items_print (g.more {a = a} d c q) l = (listed_item_prints d l, items_print q (behind_comma a c ((listed_item_holds d).lexical l)))

-- ---- statements

select_prints : {ts : Tokens} {x : Statement PathText} → IsSelect ts x → AreLexical ts → Prints (body_on (statement_with finishing x))
select_prints (g.plain {ts = ts} {xs = xs} h d) l = and_prints (word_prints (codes "SELECT") refl) (listed_prints value_on (plain_with finishing xs) (plain_print d (behind_word w.Select ts h l)))
select_prints (g.all {ts = ts} {a = a} {b = b} h s f t) l =
    let at = ((star_keeps a).holds b s).lexical (behind_word w.Select ts h l) in
    and_prints (word_prints (codes "SELECT") refl) (and_prints (piece_prints Star tt) (and_prints (word_prints (codes "FROM") refl) (table_prints t (behind_word w.From b f at))))
select_prints (g.listed {ts = ts} {b = b} {xs = xs} h d f t) l =
    let at = behind_word w.Select ts h l in
    and_prints (word_prints (codes "SELECT") refl) (and_prints (listed_prints item_on (items_with finishing xs) (items_print d at))
    (and_prints (word_prints (codes "FROM") refl) (table_prints t (behind_word w.From b f ((items_hold d).lexical at)))))

pub statement_prints : {ts : Tokens} {x : Statement PathText} → IsSelect ts x → AreLexical ts → AreInner (body_on (statement_with finishing x) [])
statement_prints d l = (select_prints d l).inner [] tt
