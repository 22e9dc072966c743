-- The first part in the text that is not supported: a method behind a point, or `like_regex` where it is no key.
use Rattle.std.specs.Prelude.{[], ◌∷◌, Option, Some, None}
use Rattle.sj_path_token.specs.declared.token.Token.TheVariants as k
use Rattle.sj_path_token.specs.declared.keyword.Keyword.TheVariants as w
use Rattle.sj_path_grammar.specs.declared.refusal.Name.{Name}
use Rattle.sj_path_grammar.specs.declared.refusal.Name.TheVariants as name
use Rattle.sj_path_grammar.specs.Grammar.{Tokens}

abbrev mutual
  pub unsupported : Tokens → Option Name
  unsupported [] = None
  unsupported (k.Dot ∷ ts) = unsupported_behind ts
  unsupported (k.Word w.LikeRegex text ∷ ts) = Some name.LikeRegex
  unsupported (_ ∷ ts) = unsupported ts

  -- behind a point
  pub unsupported_behind : Tokens → Option Name
  unsupported_behind [] = None
  unsupported_behind (k.Word w.Double text ∷ k.Open ∷ ts) = Some name.Double
  unsupported_behind (k.Word w.Datetime text ∷ k.Open ∷ ts) = Some name.Datetime
  unsupported_behind (_ ∷ ts) = unsupported ts
