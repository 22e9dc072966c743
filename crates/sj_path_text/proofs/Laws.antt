-- The canonical text of the tree of a text is read back to this tree, and keeps the limits of a text that is accepted.
use Rattle.std.proofs.Common.{◌≡◌, ℕ, ◌<◌, inl, inr, List, subst, sym}
use Rattle.sj_path_tree.specs.Tree.{Path}
use Rattle.sj_path_token.specs.Tokens.{HasTokens}
use Rattle.sj_path_grammar.specs.Grammar.{Tokens, IsPath}
use Rattle.sj_path_grammar.specs.Depth.{IsTooDeep, max_counted}
use Rattle.sj_path_grammar.specs.Answers.{HasTree, Allows, Accepts}
use Rattle.sj_path_grammar.proofs.Laws as grammar
use Rattle.sj_path_text.specs.Text.{path_text}
use Rattle.sj_path_text.specs.Tokens.{path_tokens}
use Rattle.sj_path_text.proofs.Makings.{tree_made}
use Rattle.sj_path_text.proofs.Spellings.{path_is}
use Rattle.sj_path_text.proofs.Texts.{path_lexes}
use Rattle.sj_path_text.proofs.Counts.{same_count}
use Rattle.sj_path_text.proofs.Depths.{shallow}
use Rattle.sj_path_text.proofs.Support.{supported}

pub breaks : (text : List ℕ) (p : Path) → HasTree text p → HasTokens (path_text p) (path_tokens p)
breaks text p h = path_lexes p (tree_made text p h)

pub spells : (text : List ℕ) (p : Path) → HasTree text p → IsPath (path_tokens p) p
spells text p h = path_is p (tree_made text p h)

read_back : (text : List ℕ) (p : Path) → HasTree text p → HasTree (path_text p) p
read_back text p h = record { tokens = path_tokens p; breaks = breaks text p h; tree = spells text p h }

pub same_tree : (a b : List ℕ) (p q : Path) → HasTree a p → HasTree b q → path_text p ≡ path_text q → p ≡ q
same_tree a b p q x y e = grammar.one_tree (path_text p) p q (read_back a p x) (subst (λ (text : List ℕ). HasTree text q) (sym e) (read_back b q y))

within : (ts : Tokens) (p : Path) → IsPath (path_tokens p) p → Allows ts p → IsTooDeep (path_tokens p) → ⊥
within ts p is a (inl deep) = shallow a.spells.tree a.supported (λ x. a.spells.shallow (inl x)) deep
within ts p is a (inr many) = a.spells.shallow (inr (subst (λ (n : ℕ). max_counted < n) (same_count is a.spells.tree) many))

tree_of : (text : List ℕ) (p : Path) → Accepts text p → HasTree text p
tree_of text p a = record { tokens = a.tokens; breaks = a.breaks; tree = a.allowed.spells.tree }

pub accepted : (text : List ℕ) (p : Path) → Accepts text p → Accepts (path_text p) p
accepted text p a =
    let h = tree_of text p a in
    let is = spells text p h in
    record {
      tokens = path_tokens p;
      breaks = breaks text p h;
      allowed = record { spells = record { shallow = within a.tokens p is a.allowed; tree = is }; placed = a.allowed.placed; supported = supported p };
    }
