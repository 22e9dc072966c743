-- The tokens of the canonical text of a path. `expr_on e ts` are those of the expression e, before the tokens ts; the others say
-- the same of theirs.
use Rattle.std.specs.Prelude.{ℕ, List, [], ◌∷◌, Bool, true, false, not, codes}
use Rattle.sj_json.specs.Printing.{truth_text}
use Rattle.sj_path_token.specs.Words.{keyword_of}
use Rattle.sj_path_token.specs.declared.token.Token.{Token}
use Rattle.sj_path_token.specs.declared.token.Token.TheVariants as k
use Rattle.sj_path_tree.specs.declared.parts.Arith.{Arith}
use Rattle.sj_path_tree.specs.declared.parts.Arith.TheVariants as arith
use Rattle.sj_path_tree.specs.declared.parts.Literal.{Literal}
use Rattle.sj_path_tree.specs.declared.parts.Literal.TheVariants as literal
use Rattle.sj_path_tree.specs.declared.parts.Initial.{Initial}
use Rattle.sj_path_tree.specs.declared.parts.Initial.TheVariants as initial
use Rattle.sj_path_tree.specs.Tree.{Path, Expr, Root, Var, Context, Last, Lit, Plus, Minus, Binary, Access, Step, Member, AllMembers, AllElements, Elements, Filter, Call, Sub, One, Range, Subs, NoSubs, More, Pred, Compares, And, Or, Not, IsUnknown, Exists, StartsWith}
use Rattle.sj_path_grammar.specs.Grammar.{Tokens}
use Rattle.sj_path_text.specs.Parentheses.{is_binary, is_operation, is_below, is_not_above, is_or, is_and_or_or, is_exists}
use Rattle.sj_path_text.specs.Text.{mode_text, method_name}

-- in parentheses where the flag says so
abbrev pub enclosed_on : Bool → (Tokens → Tokens) → Tokens → Tokens
enclosed_on true inner ts = k.Open ∷ inner (k.Close ∷ ts)
enclosed_on false inner ts = inner ts

abbrev pub word : List ℕ → Token
word text = k.Word (keyword_of text) text

abbrev pub arith_token : Arith → Token
arith_token arith.Add = k.Plus
arith_token arith.Sub = k.Minus
arith_token arith.Mul = k.Star
arith_token arith.Div = k.Slash
arith_token arith.Rem = k.Percent

abbrev pub literal_token : Literal → Token
literal_token (literal.Text s) = k.Quoted s
literal_token (literal.Num d) = k.Number d
literal_token (literal.Bool b) = word (truth_text b)
literal_token literal.Null = word (codes "null")

abbrev pub initial_token : Initial → Token
initial_token (initial.Lit s) = k.Quoted s
initial_token (initial.Var name) = k.Variable name

abbrev mutual
  pub expr_on : Expr → Tokens → Tokens
  expr_on Root ts = k.Root ∷ ts
  expr_on (Var name) ts = k.Variable name ∷ ts
  expr_on Context ts = k.At ∷ ts
  expr_on Last ts = word (codes "last") ∷ ts
  expr_on (Lit literal) ts = literal_token literal ∷ ts
  expr_on (Access e s) ts = enclosed_on (is_operation e) (expr_on e) (step_on s ts)
  expr_on (Plus e) ts = k.Plus ∷ enclosed_on (is_binary e) (expr_on e) ts
  expr_on (Minus e) ts = k.Minus ∷ enclosed_on (is_binary e) (expr_on e) ts
  expr_on (Binary op a b) ts = enclosed_on (is_below op a) (expr_on a) (arith_token op ∷ enclosed_on (is_not_above op b) (expr_on b) ts)

  pub step_on : Step → Tokens → Tokens
  step_on (Member key) ts = k.Dot ∷ k.Quoted key ∷ ts
  step_on AllMembers ts = k.Dot ∷ k.Star ∷ ts
  step_on AllElements ts = k.OpenBracket ∷ k.Star ∷ k.CloseBracket ∷ ts
  step_on (Elements subs) ts = k.OpenBracket ∷ subs_on subs (k.CloseBracket ∷ ts)
  step_on (Filter p) ts = k.Question ∷ k.Open ∷ pred_on p (k.Close ∷ ts)
  step_on (Call method) ts = k.Dot ∷ word (method_name method) ∷ k.Open ∷ k.Close ∷ ts

  pub sub_on : Sub → Tokens → Tokens
  sub_on (One e) ts = expr_on e ts
  sub_on (Range from to) ts = expr_on from (word (codes "to") ∷ expr_on to ts)

  pub subs_on : Subs → Tokens → Tokens
  subs_on NoSubs ts = ts
  subs_on (More s others) ts = sub_on s (others_on others ts)

  -- each behind a comma
  pub others_on : Subs → Tokens → Tokens
  others_on NoSubs ts = ts
  others_on (More s others) ts = k.Comma ∷ sub_on s (others_on others ts)

  pub pred_on : Pred → Tokens → Tokens
  pred_on (Compares op a b) ts = expr_on a (k.Compare op ∷ expr_on b ts)
  pred_on (And p q) ts = enclosed_on (is_or p) (pred_on p) (k.And ∷ enclosed_on (is_and_or_or q) (pred_on q) ts)
  pred_on (Or p q) ts = pred_on p (k.Or ∷ enclosed_on (is_or q) (pred_on q) ts)
  pred_on (Not p) ts = k.Not ∷ enclosed_on (not (is_exists p)) (pred_on p) ts
  pred_on (IsUnknown p) ts = k.Open ∷ pred_on p (k.Close ∷ word (codes "is") ∷ word (codes "unknown") ∷ ts)
  pred_on (Exists e) ts = word (codes "exists") ∷ k.Open ∷ expr_on e (k.Close ∷ ts)
  pred_on (StartsWith e initial) ts = expr_on e (word (codes "starts") ∷ word (codes "with") ∷ initial_token initial ∷ ts)

abbrev pub path_tokens : Path → Tokens
path_tokens p = word (mode_text p.mode) ∷ expr_on p.expr []
