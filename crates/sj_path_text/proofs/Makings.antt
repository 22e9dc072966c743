-- The tree that some text has is made of what tokens are made of.
use Rattle.std.proofs.Common.{◌≡◌, ◌≢◌, ℕ, Bool, true, false, List, [], ◌∷◌, ◌++◌, Option, Some, None, ℤ, pos, negsuc, unsigned_abs, refl, ap, subst, ◌∙◌, ◌-ℤ◌, length}
use Rattle.std.specs.Str.Parse.{digits_value}
use Rattle.std.specs.Bool.{⊤}
use Rattle.std.specs.Fmt.{sign_text}
use Rattle.sj_decimal.specs.Signed.{signed, is_negative}
use Rattle.sj_decimal.specs.Normal.{normal, reduced, IsDecimal}
use Rattle.sj_decimal.specs.Number.{NumberParts, IsNumberOf, shifted, exponent_of, value_of, SpellsExact}
use Rattle.sj_decimal.proofs.Laws.{IsDecimal-spelled}
use Rattle.sj_path_token.specs.declared.keyword.Keyword.{Keyword}
use Rattle.sj_path_token.specs.declared.keyword.Keyword.TheVariants as w
use Rattle.sj_path_token.specs.declared.token.Token.{Token}
use Rattle.sj_path_token.specs.declared.token.Token.TheVariants as k
use Rattle.sj_path_token.specs.Words.{IsWord}
use Rattle.sj_path_token.specs.Strings.{IsInside}
use Rattle.sj_path_token.specs.Numbers as n
use Rattle.sj_path_token.specs.Numbers.{NoMinus, IsNumeral}
use Rattle.sj_path_token.specs.Tokens as t
use Rattle.sj_path_token.specs.Tokens.{IsSign, IsForm, HasTokens}
use Rattle.sj_path_tree.specs.Tree.{Path, Expr, Step, Sub, Subs, NoSubs, More, Pred}
use Rattle.sj_path_grammar.specs.Signs.{word_expr, token_expr}
use Rattle.sj_path_grammar.specs.Grammar as g
use Rattle.sj_path_grammar.specs.Grammar.{Tokens, IsExpr, IsSum, IsTerm, IsProduct, IsUnary, IsAccess, IsPrimary, IsStep, IsSub, IsSubs, IsPred, IsOr, IsConj, IsAnd, IsNeg, IsDelim, IsPrim, IsPath}
use Rattle.sj_path_grammar.specs.Answers.{HasTree}
use Rattle.sj_path_text.proofs.Methods.{of_methods}
use Rattle.sj_path_text.proofs.Made.{ExprOf, StepOf, SubOf, SubsOf, OthersOf, PredOf, Any, IsMade}

-- ---- a number without a sign is not negative

no_minus : (p : NumberParts) (digits : List ℕ) → NoMinus digits → IsNumberOf p digits → p.negative ≡ false
no_minus p digits m h = go p.negative refl (p.whole ++ (h.fraction_text ++ h.exponent_text)) h.text
  where
    minus : (c : ℕ) → c ≢ c → ⊥
    minus c q = q refl

    go : (b : Bool) → p.negative ≡ b → (rest : List ℕ) → digits ≡ sign_text b ++ rest → p.negative ≡ false
    go true e rest text = absurd (minus 45 (subst NoMinus text m))
    go false e rest text = e

shifted_plus : (m : ℕ) (e : ℤ) → is_negative (shifted false m e).0 ≡ false
shifted_plus m (pos e) = refl
shifted_plus m (negsuc e) = refl

value_plus : (p : NumberParts) → p.negative ≡ false → is_negative (value_of p).0 ≡ false
value_plus p plus =
    let m : ℕ = digits_value 10 (p.whole ++ p.fraction) in
    let e : ℤ = exponent_of p -ℤ pos (length p.fraction) in
    ap (λ (b : Bool). is_negative (shifted b m e).0) plus ∙ shifted_plus m e

normal_plus : (v : ℤ × ℕ) → is_negative v.0 ≡ false → is_negative (normal v).0 ≡ false
unfolding normal
normal_plus v plus = ap (λ (b : Bool). is_negative (signed b (reduced (unsigned_abs v.0) v.1).0)) plus

number_plus : (digits : List ℕ) (d : ℤ × ℕ) → NoMinus digits → SpellsExact digits d → is_negative d.0 ≡ false
number_plus digits d m s =
    ap (λ (x : ℤ × ℕ). is_negative x.0) s.normal_form
    ∙ normal_plus s.value (ap (λ (x : ℤ × ℕ). is_negative x.0) s.spells.value ∙ value_plus s.spells.parts (no_minus s.spells.parts digits m s.spells.number))

-- ---- trees

module _ (P : List ℕ → Type 0) where
  abbrev pub MadeToken : Token → Type 0
  MadeToken (k.Variable name) = IsWord name
  MadeToken (k.Word keyword text) = P text
  MadeToken (k.Quoted text) = P text
  MadeToken (k.Number d) = IsDecimal d × (is_negative d.0 ≡ false)
  MadeToken _ = ⊤

  abbrev pub MadeForm : Option Token → Type 0
  MadeForm None = ⊤
  MadeForm (Some u) = MadeToken u

  abbrev pub MadeTokens : Tokens → Type 0
  MadeTokens [] = ⊤
  MadeTokens (u ∷ ts) = MadeToken u × MadeTokens ts

  sign_made : {bs : List ℕ} (u : Token) → IsSign bs u → MadeToken u
  sign_made (k.Variable name) s = elim s [ ]
  sign_made (k.Word keyword text) s = elim s [ ]
  sign_made (k.Quoted text) s = elim s [ ]
  sign_made (k.Number d) s = elim s [ ]
  sign_made _ s = tt

  -- what is known of the words and the strings that tokens may be is known of the tokens
  pub form_made : {front : List ℕ} {o : Option Token} → ((text : List ℕ) → IsWord text → P text) → ((inside text : List ℕ) → front ≡ 34 ∷ inside → IsInside inside text → P text) → IsForm front o → MadeForm o
  form_made words strings (t.sign {t = u} s) = sign_made u s
  form_made words strings t.root = tt
  form_made words strings (t.variable d) = d
  form_made words strings (t.word {text = text} d) = words text d
  form_made words strings (t.string {inside = inside} {text = text} d) = strings inside text refl d
  form_made words strings (t.number (n.exact {digits = digits} {d = d} m s)) = (IsDecimal-spelled digits d s, number_plus digits d m s)
  form_made words strings (t.number (n.inexact m s)) = tt

  abbrev MadeIn : Option Expr → Type 0
  MadeIn None = ⊤
  MadeIn (Some e) = ExprOf P e

  word_made : (keyword : Keyword) → MadeIn (word_expr keyword)
  word_made w.Last = tt
  word_made w.True = tt
  word_made w.False = tt
  word_made w.Null = tt
  word_made _ = tt

  token_made : (u : Token) → MadeToken u → MadeIn (token_expr u)
  token_made (k.Word keyword text) h = word_made keyword
  token_made (k.Quoted text) h = h
  token_made (k.Variable name) h = h
  token_made (k.Number d) h = h
  token_made _ h = tt

  -- a list of subscripts that has some
  others_made : (subs : Subs) → SubsOf P subs → OthersOf P subs
  others_made NoSubs h = absurd h
  others_made (More s others) h = h

  mutual
    expr_made : {ts rest : Tokens} {e : Expr} → IsExpr ts e rest → MadeTokens ts → ExprOf P e × MadeTokens rest
    expr_made (g.sum d s) h = let x = term_made d h in sum_made s x.0 x.1

    sum_made : {x e : Expr} {ts rest : Tokens} → IsSum x ts e rest → ExprOf P x → MadeTokens ts → ExprOf P e × MadeTokens rest
    sum_made g.sum_end m h = (m, h)
    sum_made (g.sum_more is d s) m h = let y = term_made d h.1 in sum_made s (m, y.0) y.1

    term_made : {ts rest : Tokens} {e : Expr} → IsTerm ts e rest → MadeTokens ts → ExprOf P e × MadeTokens rest
    term_made (g.product d s) h = let x = unary_made d h in product_made s x.0 x.1

    product_made : {x e : Expr} {ts rest : Tokens} → IsProduct x ts e rest → ExprOf P x → MadeTokens ts → ExprOf P e × MadeTokens rest
    product_made g.product_end m h = (m, h)
    product_made (g.product_more is d s) m h = let y = unary_made d h.1 in product_made s (m, y.0) y.1

    unary_made : {ts rest : Tokens} {e : Expr} → IsUnary ts e rest → MadeTokens ts → ExprOf P e × MadeTokens rest
    unary_made (g.plus d) h = unary_made d h.1
    unary_made (g.minus d) h = unary_made d h.1
    unary_made (g.access d a) h = let x = primary_made d h in access_made a x.0 x.1

    access_made : {x e : Expr} {ts rest : Tokens} → IsAccess x ts e rest → ExprOf P x → MadeTokens ts → ExprOf P e × MadeTokens rest
    access_made g.access_end m h = (m, h)
    access_made (g.access_more d a) m h = let y = step_made d h in access_made a (m, y.0) y.1

    primary_made : {ts rest : Tokens} {e : Expr} → IsPrimary ts e rest → MadeTokens ts → ExprOf P e × MadeTokens rest
    primary_made (g.single {t = u} is) h = (subst MadeIn is (token_made u h.0), h.1)
    primary_made (g.parens d) h = let x = expr_made d h.1 in (x.0, x.1.1)

    step_made : {ts rest : Tokens} {s : Step} → IsStep ts s rest → MadeTokens ts → StepOf P s × MadeTokens rest
    step_made (g.key shut) h = (h.1.0, h.1.1)
    step_made g.quoted h = (h.1.0, h.1.1)
    step_made g.all_members h = (tt, h.1.1)
    step_made (g.method {keyword = keyword} {s = s} is) h = (of_methods (λ s. StepOf P s) (λ _. tt) keyword s is, h.1.1.1.1)
    step_made g.datetime h = (tt, h.1.1.1.1)
    step_made g.datetime_by h = (tt, h.1.1.1.1.1)
    step_made g.all_elements h = (tt, h.1.1.1)
    step_made (g.elements d) h = let x = subs_made d h.1 in (x.0, x.1.1)
    step_made (g.filter d) h = let x = pred_made d h.1.1 in (x.0, x.1.1)

    sub_made : {ts rest : Tokens} {s : Sub} → IsSub ts s rest → MadeTokens ts → SubOf P s × MadeTokens rest
    sub_made (g.one d) h = expr_made d h
    sub_made (g.range d q) h = let x = expr_made d h in let y = expr_made q x.1.1 in ((x.0, y.0), y.1)

    subs_made : {ts rest : Tokens} {s : Subs} → IsSubs ts s rest → MadeTokens ts → SubsOf P s × MadeTokens rest
    subs_made (g.only d) h = let x = sub_made d h in ((x.0, tt), x.1)
    subs_made (g.more {others = others} d q) h = let x = sub_made d h in let y = subs_made q x.1.1 in ((x.0, others_made others y.0), y.1)

    pred_made : {ts rest : Tokens} {p : Pred} → IsPred ts p rest → MadeTokens ts → PredOf P p × MadeTokens rest
    pred_made (g.either d o) h = let x = conj_made d h in or_made o x.0 x.1

    or_made : {x p : Pred} {ts rest : Tokens} → IsOr x ts p rest → PredOf P x → MadeTokens ts → PredOf P p × MadeTokens rest
    or_made g.or_end m h = (m, h)
    or_made (g.or_more d o) m h = let y = conj_made d h.1 in or_made o (m, y.0) y.1

    conj_made : {ts rest : Tokens} {p : Pred} → IsConj ts p rest → MadeTokens ts → PredOf P p × MadeTokens rest
    conj_made (g.both d a) h = let x = neg_made d h in and_made a x.0 x.1

    and_made : {x p : Pred} {ts rest : Tokens} → IsAnd x ts p rest → PredOf P x → MadeTokens ts → PredOf P p × MadeTokens rest
    and_made g.and_end m h = (m, h)
    and_made (g.and_more d a) m h = let y = neg_made d h.1 in and_made a (m, y.0) y.1

    neg_made : {ts rest : Tokens} {p : Pred} → IsNeg ts p rest → MadeTokens ts → PredOf P p × MadeTokens rest
    neg_made (g.not d) h = delim_made d h.1
    neg_made (g.prim d) h = prim_made d h

    delim_made : {ts rest : Tokens} {p : Pred} → IsDelim ts p rest → MadeTokens ts → PredOf P p × MadeTokens rest
    delim_made (g.group d) h = let x = pred_made d h.1 in (x.0, x.1.1)
    delim_made (g.exists d) h = let x = expr_made d h.1.1 in (x.0, x.1.1)

    prim_made : {ts rest : Tokens} {p : Pred} → IsPrim ts p rest → MadeTokens ts → PredOf P p × MadeTokens rest
    prim_made (g.delim d) h = delim_made d h
    prim_made (g.unknown d) h = let x = pred_made d h.1 in (x.0, x.1.1.1.1)
    prim_made (g.compare d q) h = let x = expr_made d h in let y = expr_made q x.1.1 in ((x.0, y.0), y.1)
    prim_made (g.starts_text d) h = let x = expr_made d h in ((x.0, x.1.1.1.0), x.1.1.1.1)
    prim_made (g.starts_variable d) h = let x = expr_made d h in ((x.0, x.1.1.1.0), x.1.1.1.1)
    prim_made (g.like d) h = let x = expr_made d h in (x.0, x.1.1.1)
    prim_made (g.like_by d) h = let x = expr_made d h in (x.0, x.1.1.1.1.1)

  pub path_made : {ts : Tokens} {p : Path} → IsPath ts p → MadeTokens ts → ExprOf P p.expr
  path_made (g.plain d) h = (expr_made d h).0
  path_made (g.lax d) h = (expr_made d h.1).0
  path_made (g.strict d) h = (expr_made d h.1).0

-- ---- where nothing is known of the strings

tokens_made : {text : List ℕ} {ts : Tokens} → HasTokens text ts → MadeTokens Any ts
tokens_made t.end = tt
tokens_made (t.blank h d) = tokens_made d
tokens_made (t.token b d) = (form_made Any (λ _ _. tt) (λ _ _ _ _. tt) b.fits, tokens_made d)

pub tree_made : (text : List ℕ) (p : Path) → HasTree text p → IsMade p
tree_made text p h = path_made Any h.tree (tokens_made h.breaks)
