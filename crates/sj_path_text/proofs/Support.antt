-- The canonical tokens have no part that is not supported.
use Rattle.std.proofs.Common.{◌≡◌, Bool, true, false, not, [], ◌∷◌, refl, ◌∙◌, None}
use Rattle.sj_path_token.specs.declared.token.Token.TheVariants as k
use Rattle.sj_path_tree.specs.declared.parts.Arith.{Arith}
use Rattle.sj_path_tree.specs.declared.parts.Arith.TheVariants as arith
use Rattle.sj_path_tree.specs.declared.parts.Literal.{Literal}
use Rattle.sj_path_tree.specs.declared.parts.Literal.TheVariants as literal
use Rattle.sj_path_tree.specs.declared.parts.Initial.{Initial}
use Rattle.sj_path_tree.specs.declared.parts.Initial.TheVariants as initial
use Rattle.sj_path_tree.specs.declared.parts.Mode.{Mode}
use Rattle.sj_path_tree.specs.declared.parts.Mode.TheVariants as mode
use Rattle.sj_path_tree.specs.Tree.{Path, Expr, Root, Var, Context, Last, Lit, Plus, Minus, Binary, Access, Step, Member, AllMembers, AllElements, Elements, Filter, Call, Sub, One, Range, Subs, NoSubs, More, Pred, Compares, And, Or, Not, IsUnknown, Exists, StartsWith}
use Rattle.sj_path_grammar.specs.Grammar.{Tokens}
use Rattle.sj_path_grammar.specs.Unsupported.{unsupported}
use Rattle.sj_path_text.specs.Parentheses.{is_binary, is_operation, is_below, is_not_above, is_or, is_and_or_or, is_exists}
use Rattle.sj_path_text.specs.Tokens.{enclosed_on, arith_token, literal_token, initial_token, expr_on, step_on, sub_on, subs_on, others_on, pred_on, path_tokens}
use Rattle.sj_path_text.proofs.Methods.{name_supported}

-- what is not supported comes behind these tokens
abbrev Passes : (Tokens → Tokens) → Type 0
Passes f = (ts : Tokens) → unsupported (f ts) ≡ unsupported ts

enclosed_passes : (b : Bool) (f : Tokens → Tokens) → Passes f → Passes (enclosed_on b f)
enclosed_passes true f h ts = h (k.Close ∷ ts)
enclosed_passes false f h ts = h ts

arith_passes : (op : Arith) → Passes (λ ts. arith_token op ∷ ts)
arith_passes arith.Add ts = refl
arith_passes arith.Sub ts = refl
arith_passes arith.Mul ts = refl
arith_passes arith.Div ts = refl
arith_passes arith.Rem ts = refl

literal_passes : (l : Literal) → Passes (λ ts. literal_token l ∷ ts)
literal_passes (literal.Text s) ts = refl
literal_passes (literal.Num d) ts = refl
literal_passes (literal.Bool true) ts = refl
literal_passes (literal.Bool false) ts = refl
literal_passes literal.Null ts = refl

initial_passes : (i : Initial) → Passes (λ ts. initial_token i ∷ ts)
initial_passes (initial.Lit s) ts = refl
initial_passes (initial.Var name) ts = refl

mutual
  expr_passes : (e : Expr) → Passes (expr_on e)
  expr_passes Root ts = refl
  expr_passes (Var name) ts = refl
  expr_passes Context ts = refl
  expr_passes Last ts = refl
  expr_passes (Lit l) ts = literal_passes l ts
  expr_passes (Access e s) ts = enclosed_passes (is_operation e) (expr_on e) (expr_passes e) (step_on s ts) ∙ step_passes s ts
  expr_passes (Plus e) ts = enclosed_passes (is_binary e) (expr_on e) (expr_passes e) ts
  expr_passes (Minus e) ts = enclosed_passes (is_binary e) (expr_on e) (expr_passes e) ts
  expr_passes (Binary op a b) ts =
      enclosed_passes (is_below op a) (expr_on a) (expr_passes a) (arith_token op ∷ enclosed_on (is_not_above op b) (expr_on b) ts)
      ∙ arith_passes op (enclosed_on (is_not_above op b) (expr_on b) ts)
      ∙ enclosed_passes (is_not_above op b) (expr_on b) (expr_passes b) ts

  step_passes : (s : Step) → Passes (step_on s)
  step_passes (Member key) ts = refl
  step_passes AllMembers ts = refl
  step_passes AllElements ts = refl
  step_passes (Elements subs) ts = subs_pass subs (k.CloseBracket ∷ ts)
  step_passes (Filter p) ts = pred_passes p (k.Close ∷ ts)
  step_passes (Call method) ts = name_supported method (k.Close ∷ ts)

  sub_passes : (s : Sub) → Passes (sub_on s)
  sub_passes (One e) ts = expr_passes e ts
  sub_passes (Range a b) ts = expr_passes a _ ∙ expr_passes b ts

  subs_pass : (subs : Subs) → Passes (subs_on subs)
  subs_pass NoSubs ts = refl
  subs_pass (More s others) ts = sub_passes s (others_on others ts) ∙ others_pass others ts

  others_pass : (subs : Subs) → Passes (others_on subs)
  others_pass NoSubs ts = refl
  others_pass (More s others) ts = sub_passes s (others_on others ts) ∙ others_pass others ts

  pred_passes : (p : Pred) → Passes (pred_on p)
  pred_passes (Compares op a b) ts = expr_passes a (k.Compare op ∷ expr_on b ts) ∙ expr_passes b ts
  pred_passes (And p q) ts =
      enclosed_passes (is_or p) (pred_on p) (pred_passes p) (k.And ∷ enclosed_on (is_and_or_or q) (pred_on q) ts) ∙ enclosed_passes (is_and_or_or q) (pred_on q) (pred_passes q) ts
  pred_passes (Or p q) ts = pred_passes p (k.Or ∷ enclosed_on (is_or q) (pred_on q) ts) ∙ enclosed_passes (is_or q) (pred_on q) (pred_passes q) ts
  pred_passes (Not p) ts = enclosed_passes (not (is_exists p)) (pred_on p) (pred_passes p) ts
  pred_passes (IsUnknown p) ts = pred_passes p _
  pred_passes (Exists e) ts = expr_passes e (k.Close ∷ ts)
  pred_passes (StartsWith e i) ts = expr_passes e _ ∙ initial_passes i ts

pub supported : (p : Path) → unsupported (path_tokens p) ≡ None
supported p = go p.mode ∙ expr_passes p.expr []
  where
    go : (mode : Mode) → unsupported (path_tokens (record { mode = mode; expr = p.expr })) ≡ unsupported (expr_on p.expr [])
    go mode.Lax = refl
    go mode.Strict = refl
