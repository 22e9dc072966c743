-- The answer of a cast to a text, as a trace.
use Rattle.std.proofs.Common.{◌≡◌, ℕ, List, Result, Ok, Err}
use Rattle.sj_base.specs.declared.state.State.{State}
use Rattle.sj_item.specs.declared.item.Item.{Item}
use Rattle.sj_item.specs.Items.{made_text}
use Rattle.sj_item.specs.Answers.{values, made_texts}
use Rattle.sj_method.specs.Methods.{outcome, made_of}

pub text_outcome : (answer : Result Item State) (text : Result (List ℕ) State) → values answer ≡ made_texts text → outcome answer ≡ made_of made_text text
text_outcome (Ok x) (Ok s) e = cc
text_outcome (Ok x) (Err t) e = cc
text_outcome (Err s) (Ok t) e = cc
text_outcome (Err s) (Err t) e = cc
