-- Reading finds the tree of the tokens of a statement, and none where there is none.
use Rattle.std.proofs.Common.{◌≡◌, Some, None, sym, ◌∙◌}
use Rattle.sj_sql_grammar.specs.Tree.{PathText, Statement}
use Rattle.sj_sql_grammar.specs.Phrases.{Tokens}
use Rattle.sj_sql_grammar.specs.Grammar.{IsSelect}
use Rattle.sj_sql_grammar.specs.Notes.{Notes, statement_with, note_statement}
use Rattle.sj_sql_grammar.specs.Reading.{select_at}
use Rattle.sj_sql_grammar.proofs.ReadTokens.{some_is}
use Rattle.sj_sql_grammar.proofs.TableCompleteness.{select_full}
use Rattle.sj_sql_grammar.proofs.Soundness.{select_reads}

module _ {P F : Type 0} (n : Notes P F) where
  -- what was read is the tree of the tokens, with its paths and what is noted of it
  pub record IsRead (ts : Tokens) (f : F) (y : Statement P × F) : Type 0 where
    pub tree : Statement PathText
    pub select : IsSelect ts tree
    pub is : y ≡ (statement_with n tree, note_statement n tree f)

  pub read : (f : F) (ts : Tokens) (y : Statement P × F) → select_at n f ts ≡ Some y → IsRead ts f y
  read f ts y h = let d = (select_reads n f ts).holds y h in record { tree = d.0; select = d.1; is = some_is (sym h ∙ select_full n d.1 f) }

  pub unread : (f : F) (ts : Tokens) → select_at n f ts ≡ None → (x : Statement PathText) → IsSelect ts x → ⊥
  unread f ts h x d = none_some (sym h ∙ select_full n d f)
    where
      none_some : {y : Statement P × F} → None ≡ Some y → ⊥
      none_some q = cc
