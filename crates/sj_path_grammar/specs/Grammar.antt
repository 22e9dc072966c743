-- The grammar of paths, one constructor for each alternative of a rule. `IsExpr ts e rest` says that the
-- tokens ts begin with a spelling of the expression e, and that rest follows it; the others say the same of theirs.
-- A part that is not supported has no tree of its own. Another part stands in for it, with the same expressions inside:
-- what is misplaced in them is a reason to refuse that comes before (`Answers`). No accepted path has a part that
-- stands in for another: `Unsupported` tells it by its tokens, and the path is refused.
use Rattle.std.specs.Prelude.{◌≡◌, ℕ, List, [], ◌∷◌, Some}
use Rattle.sj_path_token.specs.declared.token.Token.{Token}
use Rattle.sj_path_token.specs.declared.token.Token.TheVariants as k
use Rattle.sj_path_token.specs.declared.keyword.Keyword.{Keyword}
use Rattle.sj_path_token.specs.declared.keyword.Keyword.TheVariants as w
use Rattle.sj_decimal.specs.declared.comparing.Compare.{Compare}
use Rattle.sj_path_tree.specs.declared.parts.Arith.{Arith}
use Rattle.sj_path_tree.specs.declared.parts.Initial.TheVariants as initial
use Rattle.sj_path_tree.specs.declared.parts.Mode.TheVariants as mode
use Rattle.sj_path_tree.specs.Tree.{Path, Expr, Plus, Minus, Binary, Access, Step, Member, AllMembers, AllElements, Elements, Filter, Sub, One, Range, Subs, NoSubs, More, Pred, Compares, And, Or, Not, IsUnknown, Exists, StartsWith}
use Rattle.sj_path_grammar.specs.Signs.{add_sign, mul_sign, token_expr, method_of, stand_in}

abbrev pub Tokens : Type 0
Tokens = List Token

-- a parenthesis does not open here
abbrev pub NotOpen : Tokens → Type 0
NotOpen [] = Unit {0}
NotOpen (k.Open ∷ ts) = ⊥
NotOpen (_ ∷ ts) = Unit {0}

mutual
  -- expr = term { ("+" | "-") term }
  pub data IsExpr : Tokens → Expr → Tokens → Type 0 where
    sum : {ts mid rest : Tokens} {x e : Expr} → IsTerm ts x mid → IsSum x mid e rest → IsExpr ts e rest

  -- after the terms that make x: operators group to the left
  pub data IsSum : Expr → Tokens → Expr → Tokens → Type 0 where
    sum_end : {ts : Tokens} {x : Expr} → IsSum x ts x ts
    sum_more : {t : Token} {op : Arith} {ts mid rest : Tokens} {x y e : Expr} → add_sign t ≡ Some op
        → IsTerm ts y mid → IsSum (Binary op x y) mid e rest → IsSum x (t ∷ ts) e rest

  -- term = unary { ("*" | "/" | "%") unary }
  pub data IsTerm : Tokens → Expr → Tokens → Type 0 where
    product : {ts mid rest : Tokens} {x e : Expr} → IsUnary ts x mid → IsProduct x mid e rest → IsTerm ts e rest

  pub data IsProduct : Expr → Tokens → Expr → Tokens → Type 0 where
    product_end : {ts : Tokens} {x : Expr} → IsProduct x ts x ts
    product_more : {t : Token} {op : Arith} {ts mid rest : Tokens} {x y e : Expr} → mul_sign t ≡ Some op
        → IsUnary ts y mid → IsProduct (Binary op x y) mid e rest → IsProduct x (t ∷ ts) e rest

  -- unary = ("+" | "-") unary | access, and access = primary { accessor }
  pub data IsUnary : Tokens → Expr → Tokens → Type 0 where
    plus : {ts rest : Tokens} {e : Expr} → IsUnary ts e rest → IsUnary (k.Plus ∷ ts) (Plus e) rest
    minus : {ts rest : Tokens} {e : Expr} → IsUnary ts e rest → IsUnary (k.Minus ∷ ts) (Minus e) rest
    access : {ts mid rest : Tokens} {x e : Expr} → IsPrimary ts x mid → IsAccess x mid e rest → IsUnary ts e rest

  pub data IsAccess : Expr → Tokens → Expr → Tokens → Type 0 where
    access_end : {ts : Tokens} {x : Expr} → IsAccess x ts x ts
    access_more : {ts mid rest : Tokens} {x e : Expr} {s : Step} → IsStep ts s mid → IsAccess (Access x s) mid e rest → IsAccess x ts e rest

  -- primary = "$" | variable | "@" | "last" | literal | "(" expr ")"
  pub data IsPrimary : Tokens → Expr → Tokens → Type 0 where
    single : {t : Token} {rest : Tokens} {e : Expr} → token_expr t ≡ Some e → IsPrimary (t ∷ rest) e rest
    parens : {ts rest : Tokens} {e : Expr} → IsExpr ts e (k.Close ∷ rest) → IsPrimary (k.Open ∷ ts) e rest

  -- accessor; a word directly after a point is a key, whatever it is, unless a parenthesis follows it
  pub data IsStep : Tokens → Step → Tokens → Type 0 where
    key : {keyword : Keyword} {text : List ℕ} {rest : Tokens} → NotOpen rest → IsStep (k.Dot ∷ k.Word keyword text ∷ rest) (Member text) rest
    quoted : {text : List ℕ} {rest : Tokens} → IsStep (k.Dot ∷ k.Quoted text ∷ rest) (Member text) rest
    all_members : {rest : Tokens} → IsStep (k.Dot ∷ k.Star ∷ rest) AllMembers rest
    method : {keyword : Keyword} {text : List ℕ} {s : Step} {rest : Tokens} → method_of keyword ≡ Some s
        → IsStep (k.Dot ∷ k.Word keyword text ∷ k.Open ∷ k.Close ∷ rest) s rest
    datetime : {text : List ℕ} {rest : Tokens} → IsStep (k.Dot ∷ k.Word w.Datetime text ∷ k.Open ∷ k.Close ∷ rest) stand_in rest
    datetime_by : {text template : List ℕ} {rest : Tokens}
        → IsStep (k.Dot ∷ k.Word w.Datetime text ∷ k.Open ∷ k.Quoted template ∷ k.Close ∷ rest) stand_in rest
    all_elements : {rest : Tokens} → IsStep (k.OpenBracket ∷ k.Star ∷ k.CloseBracket ∷ rest) AllElements rest
    elements : {ts rest : Tokens} {subs : Subs} → IsSubs ts subs (k.CloseBracket ∷ rest) → IsStep (k.OpenBracket ∷ ts) (Elements subs) rest
    filter : {ts rest : Tokens} {p : Pred} → IsPred ts p (k.Close ∷ rest) → IsStep (k.Question ∷ k.Open ∷ ts) (Filter p) rest

  -- sub = expr [ "to" expr ]
  pub data IsSub : Tokens → Sub → Tokens → Type 0 where
    one : {ts rest : Tokens} {e : Expr} → IsExpr ts e rest → IsSub ts (One e) rest
    range : {text : List ℕ} {ts mid rest : Tokens} {a b : Expr} → IsExpr ts a (k.Word w.To text ∷ mid) → IsExpr mid b rest → IsSub ts (Range a b) rest

  -- sub { "," sub }
  pub data IsSubs : Tokens → Subs → Tokens → Type 0 where
    only : {ts rest : Tokens} {s : Sub} → IsSub ts s rest → IsSubs ts (More s NoSubs) rest
    more : {ts mid rest : Tokens} {s : Sub} {others : Subs} → IsSub ts s (k.Comma ∷ mid) → IsSubs mid others rest → IsSubs ts (More s others) rest

  -- pred = conj { "||" conj }
  pub data IsPred : Tokens → Pred → Tokens → Type 0 where
    either : {ts mid rest : Tokens} {x p : Pred} → IsConj ts x mid → IsOr x mid p rest → IsPred ts p rest

  pub data IsOr : Pred → Tokens → Pred → Tokens → Type 0 where
    or_end : {ts : Tokens} {x : Pred} → IsOr x ts x ts
    or_more : {ts mid rest : Tokens} {x y p : Pred} → IsConj ts y mid → IsOr (Or x y) mid p rest → IsOr x (k.Or ∷ ts) p rest

  -- conj = neg { "&&" neg }
  pub data IsConj : Tokens → Pred → Tokens → Type 0 where
    both : {ts mid rest : Tokens} {x p : Pred} → IsNeg ts x mid → IsAnd x mid p rest → IsConj ts p rest

  pub data IsAnd : Pred → Tokens → Pred → Tokens → Type 0 where
    and_end : {ts : Tokens} {x : Pred} → IsAnd x ts x ts
    and_more : {ts mid rest : Tokens} {x y p : Pred} → IsNeg ts y mid → IsAnd (And x y) mid p rest → IsAnd x (k.And ∷ ts) p rest

  -- neg = "!" delim | prim
  pub data IsNeg : Tokens → Pred → Tokens → Type 0 where
    not : {ts rest : Tokens} {p : Pred} → IsDelim ts p rest → IsNeg (k.Not ∷ ts) (Not p) rest
    prim : {ts rest : Tokens} {p : Pred} → IsPrim ts p rest → IsNeg ts p rest

  -- delim = "(" pred ")" | "exists" "(" expr ")"
  pub data IsDelim : Tokens → Pred → Tokens → Type 0 where
    group : {ts rest : Tokens} {p : Pred} → IsPred ts p (k.Close ∷ rest) → IsDelim (k.Open ∷ ts) p rest
    exists : {text : List ℕ} {ts rest : Tokens} {e : Expr} → IsExpr ts e (k.Close ∷ rest) → IsDelim (k.Word w.Exists text ∷ k.Open ∷ ts) (Exists e) rest

  -- prim = delim | "(" pred ")" "is" "unknown" | expr compare expr
  --      | expr "starts" "with" ( string | variable ) | expr "like_regex" string [ "flag" string ]
  pub data IsPrim : Tokens → Pred → Tokens → Type 0 where
    delim : {ts rest : Tokens} {p : Pred} → IsDelim ts p rest → IsPrim ts p rest
    unknown : {is unknown : List ℕ} {ts rest : Tokens} {p : Pred} → IsPred ts p (k.Close ∷ k.Word w.Is is ∷ k.Word w.Unknown unknown ∷ rest) → IsPrim (k.Open ∷ ts) (IsUnknown p) rest
    compare : {op : Compare} {ts mid rest : Tokens} {a b : Expr} → IsExpr ts a (k.Compare op ∷ mid) → IsExpr mid b rest → IsPrim ts (Compares op a b) rest
    starts_text : {starts with text : List ℕ} {ts rest : Tokens} {e : Expr}
        → IsExpr ts e (k.Word w.Starts starts ∷ k.Word w.With with ∷ k.Quoted text ∷ rest) → IsPrim ts (StartsWith e (initial.Lit text)) rest
    starts_variable : {starts with name : List ℕ} {ts rest : Tokens} {e : Expr}
        → IsExpr ts e (k.Word w.Starts starts ∷ k.Word w.With with ∷ k.Variable name ∷ rest) → IsPrim ts (StartsWith e (initial.Var name)) rest
    -- a predicate that is not supported: `Exists` stands in
    like : {like pattern : List ℕ} {ts rest : Tokens} {e : Expr} → IsExpr ts e (k.Word w.LikeRegex like ∷ k.Quoted pattern ∷ rest) → IsPrim ts (Exists e) rest
    like_by : {like flag pattern flags : List ℕ} {ts rest : Tokens} {e : Expr}
        → IsExpr ts e (k.Word w.LikeRegex like ∷ k.Quoted pattern ∷ k.Word w.Flag flag ∷ k.Quoted flags ∷ rest) → IsPrim ts (Exists e) rest

-- path = [ "lax" | "strict" ] expr, where the tokens are the whole text; a path without a mode word is lax
pub data IsPath : Tokens → Path → Type 0 where
  plain : {ts : Tokens} {e : Expr} → IsExpr ts e [] → IsPath ts (record { mode = mode.Lax; expr = e })
  lax : {text : List ℕ} {ts : Tokens} {e : Expr} → IsExpr ts e [] → IsPath (k.Word w.Lax text ∷ ts) (record { mode = mode.Lax; expr = e })
  strict : {text : List ℕ} {ts : Tokens} {e : Expr} → IsExpr ts e [] → IsPath (k.Word w.Strict text ∷ ts) (record { mode = mode.Strict; expr = e })
