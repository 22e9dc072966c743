-- The path of a text.
use Rattle.std.specs.Prelude.{ℕ, zero, suc, ◌+◌, nat_lt, Bool, ◌||◌, cond, List, length, take, Option, Some, None, count_by}
use Rattle.sj_base.specs.Options.{◌>>=◌}
use Rattle.sj_base.specs.Nesting.{max_open}
use Rattle.sj_path_token.specs.Reading.{lex}
use Rattle.sj_path_grammar.specs.declared.refusal.Name.{Name}
use Rattle.sj_path_tree.specs.Tree.{Path}
use Rattle.sj_path_grammar.specs.Grammar.{Tokens}
use Rattle.sj_path_grammar.specs.Depth.{is_opening, is_closing, is_counted, max_counted}
use Rattle.sj_path_grammar.specs.Misplaced.{is_misplaced}
use Rattle.sj_path_grammar.specs.Unsupported.{unsupported}
use Rattle.sj_path_grammar.specs.Reading.{path_at}

-- the first n tokens leave more open than may be
abbrev pub is_deep_at : Tokens → ℕ → Bool
is_deep_at ts n = nat_lt (count_by is_closing (take n ts) + max_open) (count_by is_opening (take n ts))

-- the first tokens do, n at most
unfoldable pub is_deep_within : Tokens → ℕ → Bool
is_deep_within ts zero = is_deep_at ts 0
is_deep_within ts (suc n) = is_deep_at ts (suc n) || is_deep_within ts n

abbrev pub is_too_deep : Tokens → Bool
is_too_deep ts = is_deep_within ts (length ts) || nat_lt max_counted (count_by is_counted ts)

abbrev pub if_supported : Option Name → Path → Option Path
if_supported None p = Some p
if_supported (Some name) p = None

-- The path that the text is accepted as, and none where it is refused. By the law `one_path` this is all that there is
-- to say of it, and nobody needs to read how it is found.
unfoldable pub accepted_path : List ℕ → Option Path
accepted_path text = lex text >>= λ ts. cond (is_too_deep ts) None (path_at ts >>= λ p. cond (is_misplaced p) None (if_supported (unsupported ts) p))
