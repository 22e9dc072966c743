-- What a text is read as, and why it is refused.
use Rattle.std.specs.Prelude.{◌≡◌, ℕ, true, false, List, Some, None}
use Rattle.sj_path_token.specs.Tokens.{HasTokens}
use Rattle.sj_path_grammar.specs.declared.refusal.PathRefusal.{PathRefusal}
use Rattle.sj_path_grammar.specs.declared.refusal.PathRefusal.TheVariants as r
use Rattle.sj_path_tree.specs.Tree.{Path}
use Rattle.sj_path_grammar.specs.Grammar.{Tokens, IsPath}
use Rattle.sj_path_grammar.specs.Depth.{IsTooDeep}
use Rattle.sj_path_grammar.specs.Misplaced.{is_misplaced}
use Rattle.sj_path_grammar.specs.Unsupported.{unsupported}

-- the text breaks into tokens that spell this tree
pub record HasTree (text : List ℕ) (p : Path) : Type 0 where
  pub tokens : Tokens
  pub breaks : HasTokens text tokens
  pub tree : IsPath tokens p

-- the tokens spell this tree, and are not too deep
pub record Spells (ts : Tokens) (p : Path) : Type 0 where
  pub shallow : IsTooDeep ts → ⊥
  pub tree : IsPath ts p

-- the tokens spell this path, and nothing forbids it
pub record Allows (ts : Tokens) (p : Path) : Type 0 where
  pub spells : Spells ts p
  pub placed : is_misplaced p ≡ false
  pub supported : unsupported ts ≡ None

-- why tokens are refused: each reason stands only where no earlier one does
abbrev pub Forbids : Tokens → PathRefusal → Type 0
Forbids ts r.Lex = ⊥
Forbids ts r.TooDeep = IsTooDeep ts
Forbids ts r.Syntax = (IsTooDeep ts → ⊥) × ((p : Path) → IsPath ts p → ⊥)
Forbids ts r.Misplaced = (p : Path) × Spells ts p × (is_misplaced p ≡ true)
Forbids ts (r.Unsupported name) = (p : Path) × Spells ts p × (is_misplaced p ≡ false) × (unsupported ts ≡ Some name)
Forbids ts r.Memory = Unit {0}

-- the text is accepted as this path
pub record Accepts (text : List ℕ) (p : Path) : Type 0 where
  pub tokens : Tokens
  pub breaks : HasTokens text tokens
  pub allowed : Allows tokens p

-- the text is refused for this reason. Being out of memory may come at any place.
abbrev pub Refuses : List ℕ → PathRefusal → Type 0
Refuses text r.Lex = (ts : Tokens) → HasTokens text ts → ⊥
Refuses text r.TooDeep = (ts : Tokens) × HasTokens text ts × Forbids ts r.TooDeep
Refuses text r.Syntax = (ts : Tokens) × HasTokens text ts × Forbids ts r.Syntax
Refuses text r.Misplaced = (ts : Tokens) × HasTokens text ts × Forbids ts r.Misplaced
Refuses text (r.Unsupported name) = (ts : Tokens) × HasTokens text ts × Forbids ts (r.Unsupported name)
Refuses text r.Memory = Unit {0}
