-- A text has at most one tree and at most one answer.
use Rattle.std.proofs.Common.{◌≡◌, ℕ, true, false, List, Some, None, refl, sym, ap, subst, ◌∙◌}
use Rattle.sj_path_token.specs.Tokens.{HasTokens}
use Rattle.sj_path_token.proofs.Texts.{same_tokens}
use Rattle.sj_path_grammar.specs.declared.refusal.PathRefusal.{PathRefusal}
use Rattle.sj_path_grammar.specs.declared.refusal.PathRefusal.TheVariants as r
use Rattle.sj_path_tree.specs.Tree.{Path}
use Rattle.sj_path_grammar.specs.Grammar.{Tokens, IsPath}
use Rattle.sj_path_grammar.specs.Misplaced.{is_misplaced}
use Rattle.sj_path_grammar.specs.Answers.{HasTree, Allows, Forbids, Accepts, Refuses}
use Rattle.sj_path_grammar.proofs.ReadTokens.{some_is}
use Rattle.sj_path_grammar.proofs.Paths as paths

pub one_tree : (text : List ℕ) (p q : Path) → HasTree text p → HasTree text q → p ≡ q
one_tree text p q a b = paths.one_tree a.tokens p q a.tree (subst (λ ts. IsPath ts q) (same_tokens text b.tokens a.tokens b.breaks a.breaks) b.tree)

-- ---- answers of tokens

apart : true ≡ false → ⊥
apart q = cc

none_some : {A : Type 0} {a : A} → None ≡ Some a → ⊥
none_some q = cc

-- what is allowed is forbidden for no reason
allowed : (ts : Tokens) (p : Path) (e : PathRefusal) → Allows ts p → Forbids ts e → e ≡ r.Memory
allowed ts p r.Lex a f = absurd f
allowed ts p r.TooDeep a f = absurd (a.spells.shallow f)
allowed ts p r.Syntax a f = absurd (f.1 p a.spells.tree)
allowed ts p r.Misplaced a f = let same = paths.one_tree ts p f.0 a.spells.tree f.1.tree in absurd (apart (sym f.2 ∙ sym (ap is_misplaced same) ∙ a.placed))
allowed ts p (r.Unsupported name) a f = absurd (none_some (sym a.supported ∙ f.3))
allowed ts p r.Memory a f = refl

-- the reasons exclude one another
same_reason : (ts : Tokens) (d e : PathRefusal) → Forbids ts d → Forbids ts e → (d ≡ r.Memory → ⊥) → (e ≡ r.Memory → ⊥) → d ≡ e
same_reason ts r.Memory e f g m n = absurd (m refl)
same_reason ts r.Lex e f g m n = absurd f
same_reason ts r.TooDeep r.Memory f g m n = absurd (n refl)
same_reason ts r.TooDeep r.Lex f g m n = absurd g
same_reason ts r.TooDeep r.TooDeep f g m n = refl
same_reason ts r.TooDeep r.Syntax f g m n = absurd (g.0 f)
same_reason ts r.TooDeep r.Misplaced f g m n = absurd (g.1.shallow f)
same_reason ts r.TooDeep (r.Unsupported name) f g m n = absurd (g.1.shallow f)
same_reason ts r.Syntax r.Memory f g m n = absurd (n refl)
same_reason ts r.Syntax r.Lex f g m n = absurd g
same_reason ts r.Syntax r.TooDeep f g m n = absurd (f.0 g)
same_reason ts r.Syntax r.Syntax f g m n = refl
same_reason ts r.Syntax r.Misplaced f g m n = absurd (f.1 g.0 g.1.tree)
same_reason ts r.Syntax (r.Unsupported name) f g m n = absurd (f.1 g.0 g.1.tree)
same_reason ts r.Misplaced r.Memory f g m n = absurd (n refl)
same_reason ts r.Misplaced r.Lex f g m n = absurd g
same_reason ts r.Misplaced r.TooDeep f g m n = absurd (f.1.shallow g)
same_reason ts r.Misplaced r.Syntax f g m n = absurd (g.1 f.0 f.1.tree)
same_reason ts r.Misplaced r.Misplaced f g m n = refl
same_reason ts r.Misplaced (r.Unsupported name) f g m n = let same = paths.one_tree ts f.0 g.0 f.1.tree g.1.tree in absurd (apart (sym f.2 ∙ ap is_misplaced same ∙ g.2))
same_reason ts (r.Unsupported name) r.Memory f g m n = absurd (n refl)
same_reason ts (r.Unsupported name) r.Lex f g m n = absurd g
same_reason ts (r.Unsupported name) r.TooDeep f g m n = absurd (f.1.shallow g)
same_reason ts (r.Unsupported name) r.Syntax f g m n = absurd (g.1 f.0 f.1.tree)
same_reason ts (r.Unsupported name) r.Misplaced f g m n = let same = paths.one_tree ts f.0 g.0 f.1.tree g.1.tree in absurd (apart (sym g.2 ∙ sym (ap is_misplaced same) ∙ f.2))
same_reason ts (r.Unsupported name) (r.Unsupported other) f g m n = ap r.Unsupported (some_is (sym f.3 ∙ g.3))

-- ---- answers of texts

-- a reason other than one of the text itself speaks of its tokens
abbrev OfTokens : List ℕ → PathRefusal → Type 0
OfTokens text e = (ts : Tokens) × HasTokens text ts × Forbids ts e

moved : (text : List ℕ) (ts : Tokens) (e : PathRefusal) → HasTokens text ts → OfTokens text e → Forbids ts e
moved text ts e d f = subst (λ us. Forbids us e) (same_tokens text f.0 ts f.1 d) f.2

pub accepted : (text : List ℕ) (p : Path) (e : PathRefusal) → Accepts text p → Refuses text e → e ≡ r.Memory
accepted text p r.Lex a f = absurd (f a.tokens a.breaks)
accepted text p r.TooDeep a f = allowed a.tokens p r.TooDeep a.allowed (moved text a.tokens r.TooDeep a.breaks f)
accepted text p r.Syntax a f = allowed a.tokens p r.Syntax a.allowed (moved text a.tokens r.Syntax a.breaks f)
accepted text p r.Misplaced a f = allowed a.tokens p r.Misplaced a.allowed (moved text a.tokens r.Misplaced a.breaks f)
accepted text p (r.Unsupported name) a f = allowed a.tokens p (r.Unsupported name) a.allowed (moved text a.tokens (r.Unsupported name) a.breaks f)
accepted text p r.Memory a f = refl

-- a text that is refused has no tokens, or they are forbidden
of_tokens : (text : List ℕ) (e : PathRefusal) → (e ≡ r.Memory → ⊥) → (e ≡ r.Lex → ⊥) → Refuses text e → OfTokens text e
of_tokens text r.Lex m l f = absurd (l refl)
of_tokens text r.TooDeep m l f = f
of_tokens text r.Syntax m l f = f
of_tokens text r.Misplaced m l f = f
of_tokens text (r.Unsupported name) m l f = f
of_tokens text r.Memory m l f = absurd (m refl)

data IsLex (e : PathRefusal) : Type 0 where
  lex : e ≡ r.Lex → IsLex e
  other : (e ≡ r.Lex → ⊥) → IsLex e

is_lex : (e : PathRefusal) → IsLex e
is_lex r.Lex = lex refl
is_lex _ = other (λ q. cc)

pub refused : (text : List ℕ) (d e : PathRefusal) → Refuses text d → Refuses text e → (d ≡ r.Memory → ⊥) → (e ≡ r.Memory → ⊥) → d ≡ e
refused text d e f g m n = go (is_lex d) (is_lex e)
  where
    go : IsLex d → IsLex e → d ≡ e
    go (lex p) (lex q) = p ∙ sym q
    go (lex p) (other q) = let o = of_tokens text e n q g in absurd (subst (Refuses text) p f o.0 o.1)
    go (other p) (lex q) = let o = of_tokens text d m p f in absurd (subst (Refuses text) q g o.0 o.1)
    go (other p) (other q) =
        let o = of_tokens text d m p f in
        same_reason o.0 d e o.2 (moved text o.0 e o.1 (of_tokens text e n q g)) m n
