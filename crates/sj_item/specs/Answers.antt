-- Answers that are an item or a state, without the pointers by which the code holds them.
use Rattle.std.specs.Prelude.{ℕ, List, ⊤, Result, Ok, Err}
use Rattle.sj_base.specs.declared.state.State.{State}
use Rattle.sj_item.specs.declared.item.Item.{Item}
use Rattle.sj_item.specs.declared.item.Item.TheVariants as items
use Rattle.sj_item.specs.Items.{ItemValue, made_text, item_value}

abbrev pub values : Result Item State → Result ItemValue State
values (Ok x) = Ok (item_value x)
values (Err state) = Err state

-- each text as a made one
abbrev pub made_texts : Result (List ℕ) State → Result ItemValue State
made_texts (Ok s) = Ok (made_text s)
made_texts (Err state) = Err state

-- an item that is held as a text
abbrev pub IsText : Item → Type 0
IsText (items.Node n) = ⊥
IsText (items.Num n) = ⊥
IsText (items.Text s) = ⊤
IsText (items.NumberText n) = ⊤
IsText (items.Bool b) = ⊥
IsText items.Null = ⊥
IsText (items.Pair p) = ⊥
