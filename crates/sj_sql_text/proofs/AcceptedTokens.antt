-- The canonical tokens of an accepted statement are accepted as this statement.
use Rattle.std.proofs.Common.{[], sym, subst, ◌∙◌}
use Rattle.sj_path_tree.specs.Tree.{Path}
use Rattle.sj_sql_grammar.specs.Tree.{Statement}
use Rattle.sj_sql_grammar.specs.Phrases.{Tokens}
use Rattle.sj_sql_grammar.specs.Grammar.{IsTooDeep, IsSelect}
use Rattle.sj_sql_grammar.specs.Notes.{statement_with}
use Rattle.sj_sql_grammar.specs.Answers.{Accepted}
use Rattle.sj_sql_text.specs.Statements.{body_on}
use Rattle.sj_sql_text.specs.Tokens.{tokens_of}
use Rattle.sj_sql_text.specs.Law.{canonical}
use Rattle.sj_sql_text.proofs.SelectTokens.{select_spelled}
use Rattle.sj_sql_text.proofs.CanonicalTrees.{same_paths, no_fault, no_unsupported}
use Rattle.sj_sql_text.proofs.RoomStatements.{stays_shallow}

pub tokens_accepted : (ts : Tokens) (s : Statement Path) → Accepted ts s → Accepted (tokens_of (body_on s [])) s
tokens_accepted ts s a =
    let x = a.0 in
    let tree = a.1.tree in
    let select : IsSelect (tokens_of (body_on s [])) (statement_with canonical x) = subst (λ (u : Statement Path). IsSelect (tokens_of (body_on u [])) (statement_with canonical x)) (sym a.2) (select_spelled tree.select) in
    let shallow : IsTooDeep (tokens_of (body_on s [])) → ⊥ = subst (λ (u : Statement Path). IsTooDeep (tokens_of (body_on u [])) → ⊥) (sym a.2) (stays_shallow tree.select tree.shallow) in
    (statement_with canonical x, record { tree = record { shallow = shallow; select = select }; faultless = no_fault x; supported = no_unsupported x a.1.supported }, a.2 ∙ sym (same_paths x))
