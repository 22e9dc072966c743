-- The answer of a path text: its path, or why it is refused. The law `path_answers` ties it to what sj_path_grammar says of the text, so
-- nobody needs to read how it is found.
use Rattle.std.specs.Prelude.{ℕ, cond, List, Option, None, Some, Result, Ok, Err}
use Rattle.sj_path_token.specs.Reading.{lex}
use Rattle.sj_path_grammar.specs.declared.refusal.Name.{Name}
use Rattle.sj_path_grammar.specs.declared.refusal.PathRefusal.{PathRefusal}
use Rattle.sj_path_grammar.specs.declared.refusal.PathRefusal.TheVariants as r
use Rattle.sj_path_tree.specs.Tree.{Path}
use Rattle.sj_path_grammar.specs.Grammar.{Tokens}
use Rattle.sj_path_grammar.specs.Accepted.{is_too_deep}
use Rattle.sj_path_grammar.specs.Misplaced.{is_misplaced}
use Rattle.sj_path_grammar.specs.Unsupported.{unsupported}
use Rattle.sj_path_grammar.specs.Reading.{path_at}

abbrev pub if_supported : Option Name → Path → Result Path PathRefusal
if_supported None p = Ok p
if_supported (Some name) p = Err (r.Unsupported name)

abbrev pub if_spelled : Option Name → Option Path → Result Path PathRefusal
if_spelled lacks None = Err r.Syntax
if_spelled lacks (Some p) = cond (is_misplaced p) (Err r.Misplaced) (if_supported lacks p)

abbrev pub of_tokens : Option Tokens → Result Path PathRefusal
of_tokens None = Err r.Lex
of_tokens (Some ts) = cond (is_too_deep ts) (Err r.TooDeep) (if_spelled (unsupported ts) (path_at ts))

-- the path of a text, or the first refusal in the order of sj_path_grammar
unfoldable pub path_answer : List ℕ → Result Path PathRefusal
path_answer text = of_tokens (lex text)
