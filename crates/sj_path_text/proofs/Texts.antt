-- The canonical text of a path breaks into the canonical tokens.
use Rattle.std.proofs.Common.{◌≡◌, ℕ, Bool, true, false, not, List, [], ◌∷◌, ◌++◌, codes, Some, refl, subst, append-nil}
use Rattle.sj_decimal.specs.declared.comparing.Compare.{Compare}
use Rattle.sj_decimal.specs.declared.comparing.Compare.TheVariants as c
use Rattle.sj_path_token.specs.declared.token.Token.{Token}
use Rattle.sj_path_token.specs.declared.token.Token.TheVariants as k
use Rattle.sj_path_token.specs.Tokens as t
use Rattle.sj_path_token.specs.Tokens.{HasTokens}
use Rattle.sj_path_token.specs.Reading.{form_from, form_at}
use Rattle.sj_path_tree.specs.declared.parts.Arith.{Arith}
use Rattle.sj_path_tree.specs.declared.parts.Arith.TheVariants as arith
use Rattle.sj_path_tree.specs.declared.parts.Literal.{Literal}
use Rattle.sj_path_tree.specs.declared.parts.Literal.TheVariants as literal
use Rattle.sj_path_tree.specs.declared.parts.Initial.{Initial}
use Rattle.sj_path_tree.specs.declared.parts.Initial.TheVariants as initial
use Rattle.sj_path_tree.specs.declared.parts.Method.{Method}
use Rattle.sj_path_tree.specs.declared.parts.Mode.{Mode}
use Rattle.sj_path_tree.specs.declared.parts.Mode.TheVariants as mode
use Rattle.sj_path_tree.specs.Tree.{Path, Expr, Root, Var, Context, Last, Lit, Plus, Minus, Binary, Access, Step, Member, AllMembers, AllElements, Elements, Filter, Call, Sub, One, Range, Subs, NoSubs, More, Pred, Compares, And, Or, Not, IsUnknown, Exists, StartsWith}
use Rattle.sj_path_grammar.specs.Grammar.{Tokens}
use Rattle.sj_path_text.specs.Parentheses.{is_binary, is_operation, is_below, is_not_above, is_or, is_and_or_or, is_exists}
use Rattle.sj_path_text.proofs.Made.{LiteralOf, InitialOf, ExprOf, StepOf, SubOf, SubsOf, OthersOf, PredOf, Any, IsMade}
use Rattle.sj_path_text.specs.Text.{enclosed, mode_text, arith_text, compare_text, method_name, literal_text, initial_text, expr_text, step_text, sub_text, subs_text, pred_text, path_text}
use Rattle.sj_path_text.specs.Tokens.{enclosed_on, word, arith_token, literal_token, initial_token, expr_on, step_on, sub_on, subs_on, others_on, pred_on, path_tokens}
use Rattle.sj_path_text.proofs.Lexing.{stops, Lexes, nothing, then, blank_before, sign_before, signs_before, keyword_lexes, root_lexes, variable_lexes}
use Rattle.sj_path_text.proofs.Methods.{name_word, name_stops}
use Rattle.sj_path_text.proofs.Strings.{string_lexes}
use Rattle.sj_path_text.proofs.Numbers.{number_lexes}

-- ---- signs

-- a sign that is read the same whatever follows it
data IsPlainSign : ℕ → Token → Type 0 where
  dot : IsPlainSign 46 k.Dot
  star : IsPlainSign 42 k.Star
  open_bracket : IsPlainSign 91 k.OpenBracket
  close_bracket : IsPlainSign 93 k.CloseBracket
  open_parenthesis : IsPlainSign 40 k.Open
  close_parenthesis : IsPlainSign 41 k.Close
  comma : IsPlainSign 44 k.Comma
  question : IsPlainSign 63 k.Question
  plus : IsPlainSign 43 k.Plus
  minus : IsPlainSign 45 k.Minus
  slash : IsPlainSign 47 k.Slash
  percent : IsPlainSign 37 k.Percent
  at : IsPlainSign 64 k.At

sign_read : {b : ℕ} {u : Token} → IsPlainSign b u → (rest : List ℕ) → form_at (b ∷ rest) ≡ Some (Some u, 1)
unfolding form_from
sign_read dot rest = refl
sign_read star rest = refl
sign_read open_bracket rest = refl
sign_read close_bracket rest = refl
sign_read open_parenthesis rest = refl
sign_read close_parenthesis rest = refl
sign_read comma rest = refl
sign_read question rest = refl
sign_read plus rest = refl
sign_read minus rest = refl
sign_read slash rest = refl
sign_read percent rest = refl
sign_read at rest = refl

put : {b : ℕ} {u : Token} {text : List ℕ} {f : Tokens → Tokens} → IsPlainSign b u → Lexes text f → Lexes (b ∷ text) (λ ts. u ∷ f ts)
put {b} {u} {text} s x = sign_before b u (λ rest. sign_read s (text ++ rest)) x

closed : Lexes (codes ")") (λ ts. k.Close ∷ ts)
closed = put close_parenthesis nothing

enclosed_lexes : (b : Bool) {text : List ℕ} {f : Tokens → Tokens} → Lexes text f → Lexes (enclosed b text) (enclosed_on b f)
enclosed_lexes true x = put open_parenthesis (then x closed (λ _ _. refl))
enclosed_lexes false x = x

arith_lexes : (op : Arith) {text : List ℕ} {f : Tokens → Tokens} → Lexes text f → Lexes (arith_text op ++ text) (λ ts. arith_token op ∷ f ts)
arith_lexes arith.Add x = blank_before (put plus (blank_before x))
arith_lexes arith.Sub x = blank_before (put minus (blank_before x))
arith_lexes arith.Mul x = blank_before (put star (blank_before x))
arith_lexes arith.Div x = blank_before (put slash (blank_before x))
arith_lexes arith.Rem x = blank_before (put percent (blank_before x))

arith_stops : (op : Arith) (text rest : List ℕ) → stops ((arith_text op ++ text) ++ rest) ≡ true
arith_stops arith.Add text rest = refl
arith_stops arith.Sub text rest = refl
arith_stops arith.Mul text rest = refl
arith_stops arith.Div text rest = refl
arith_stops arith.Rem text rest = refl

compare_lexes : (op : Compare) {text : List ℕ} {f : Tokens → Tokens} → Lexes text f → Lexes (compare_text op ++ text) (λ ts. k.Compare op ∷ f ts)
unfolding form_from
compare_lexes c.Eq x = blank_before (signs_before 61 61 (k.Compare c.Eq) (λ _. refl) (blank_before x))
compare_lexes c.Ne x = blank_before (signs_before 33 61 (k.Compare c.Ne) (λ _. refl) (blank_before x))
compare_lexes c.Lt x = blank_before (sign_before 60 (k.Compare c.Lt) (λ _. refl) (blank_before x))
compare_lexes c.Le x = blank_before (signs_before 60 61 (k.Compare c.Le) (λ _. refl) (blank_before x))
compare_lexes c.Gt x = blank_before (sign_before 62 (k.Compare c.Gt) (λ _. refl) (blank_before x))
compare_lexes c.Ge x = blank_before (signs_before 62 61 (k.Compare c.Ge) (λ _. refl) (blank_before x))

compare_stops : (op : Compare) (text rest : List ℕ) → stops ((compare_text op ++ text) ++ rest) ≡ true
compare_stops c.Eq text rest = refl
compare_stops c.Ne text rest = refl
compare_stops c.Lt text rest = refl
compare_stops c.Le text rest = refl
compare_stops c.Gt text rest = refl
compare_stops c.Ge text rest = refl

and_lexes : {text : List ℕ} {f : Tokens → Tokens} → Lexes text f → Lexes (codes " && " ++ text) (λ ts. k.And ∷ f ts)
unfolding form_from
and_lexes x = blank_before (signs_before 38 38 k.And (λ _. refl) (blank_before x))

or_lexes : {text : List ℕ} {f : Tokens → Tokens} → Lexes text f → Lexes (codes " || " ++ text) (λ ts. k.Or ∷ f ts)
unfolding form_from
or_lexes x = blank_before (signs_before 124 124 k.Or (λ _. refl) (blank_before x))

-- no = follows the ! before a predicate
not_read : (p : Pred) (rest : List ℕ) → form_at (33 ∷ (enclosed (not (is_exists p)) (pred_text p) ++ rest)) ≡ Some (Some k.Not, 1)
unfolding form_from
not_read (Compares op a b) rest = refl
not_read (And p q) rest = refl
not_read (Or p q) rest = refl
not_read (Not p) rest = refl
not_read (IsUnknown p) rest = refl
not_read (Exists e) rest = refl
not_read (StartsWith e initial) rest = refl

-- ---- what holds no other part

literal_lexes : (l : Literal) → LiteralOf Any l → Lexes (literal_text l) (λ ts. literal_token l ∷ ts)
literal_lexes (literal.Text s) h = string_lexes s
literal_lexes (literal.Num d) h = number_lexes d h.0 h.1
literal_lexes (literal.Bool true) h = keyword_lexes (codes "true") refl
literal_lexes (literal.Bool false) h = keyword_lexes (codes "false") refl
literal_lexes literal.Null h = keyword_lexes (codes "null") refl

initial_lexes : (i : Initial) → InitialOf Any i → Lexes (initial_text i) (λ ts. initial_token i ∷ ts)
initial_lexes (initial.Lit s) h = string_lexes s
initial_lexes (initial.Var name) h = variable_lexes name h

name_lexes : (method : Method) → Lexes (method_name method) (λ ts. word (method_name method) ∷ ts)
name_lexes method = keyword_lexes (method_name method) (name_word method)

-- ---- what may follow an expression follows it

step_stops : (s : Step) (rest : List ℕ) → stops (step_text s ++ rest) ≡ true
step_stops (Member key) rest = refl
step_stops AllMembers rest = refl
step_stops AllElements rest = refl
step_stops (Elements subs) rest = refl
step_stops (Filter p) rest = refl
step_stops (Call method) rest = name_stops method rest

others_stop : (subs : Subs) (rest : List ℕ) → stops rest ≡ true → stops (subs_text (codes ", ") subs ++ rest) ≡ true
others_stop NoSubs rest s = s
others_stop (More x others) rest s = refl

-- ---- all

mutual
  expr_lexes : (e : Expr) → ExprOf Any e → Lexes (expr_text e) (expr_on e)
  expr_lexes Root h = root_lexes
  expr_lexes (Var name) h = variable_lexes name h
  expr_lexes Context h = put at nothing
  expr_lexes Last h = keyword_lexes (codes "last") refl
  expr_lexes (Lit l) h = literal_lexes l h
  expr_lexes (Access e s) h = then (enclosed_lexes (is_operation e) (expr_lexes e h.0)) (step_lexes s h.1) (λ rest _. step_stops s rest)
  expr_lexes (Plus e) h = put plus (enclosed_lexes (is_binary e) (expr_lexes e h))
  expr_lexes (Minus e) h = put minus (enclosed_lexes (is_binary e) (expr_lexes e h))
  expr_lexes (Binary op a b) h =
      then (enclosed_lexes (is_below op a) (expr_lexes a h.0)) (arith_lexes op (enclosed_lexes (is_not_above op b) (expr_lexes b h.1))) (λ rest _. arith_stops op _ rest)

  step_lexes : (s : Step) → StepOf Any s → Lexes (step_text s) (step_on s)
  step_lexes (Member key) h = put dot (string_lexes key)
  step_lexes AllMembers h = put dot (put star nothing)
  step_lexes AllElements h = put open_bracket (put star (put close_bracket nothing))
  step_lexes (Elements subs) h = put open_bracket (then (subs_lexes subs h) (put close_bracket nothing) (λ _ _. refl))
  step_lexes (Filter p) h = put question (put open_parenthesis (then (pred_lexes p h) closed (λ _ _. refl)))
  step_lexes (Call method) h = put dot (then (name_lexes method) (put open_parenthesis closed) (λ _ _. refl))

  sub_lexes : (s : Sub) → SubOf Any s → Lexes (sub_text s) (sub_on s)
  sub_lexes (One e) h = expr_lexes e h
  sub_lexes (Range a b) h = then (expr_lexes a h.0) (blank_before (then (keyword_lexes (codes "to") refl) (blank_before (expr_lexes b h.1)) (λ _ _. refl))) (λ _ _. refl)

  subs_lexes : (subs : Subs) → SubsOf Any subs → Lexes (subs_text [] subs) (subs_on subs)
  subs_lexes NoSubs h = absurd h
  subs_lexes (More s others) h = then (sub_lexes s h.0) (others_lex others h.1) (others_stop others)

  others_lex : (subs : Subs) → OthersOf Any subs → Lexes (subs_text (codes ", ") subs) (others_on subs)
  others_lex NoSubs h = nothing
  others_lex (More s others) h = put comma (blank_before (then (sub_lexes s h.0) (others_lex others h.1) (others_stop others)))

  pred_lexes : (p : Pred) → PredOf Any p → Lexes (pred_text p) (pred_on p)
  pred_lexes (Compares op a b) h = then (expr_lexes a h.0) (compare_lexes op (expr_lexes b h.1)) (λ rest _. compare_stops op _ rest)
  pred_lexes (And p q) h = then (enclosed_lexes (is_or p) (pred_lexes p h.0)) (and_lexes (enclosed_lexes (is_and_or_or q) (pred_lexes q h.1))) (λ _ _. refl)
  pred_lexes (Or p q) h = then (pred_lexes p h.0) (or_lexes (enclosed_lexes (is_or q) (pred_lexes q h.1))) (λ _ _. refl)
  pred_lexes (Not p) h = sign_before 33 k.Not (not_read p) (enclosed_lexes (not (is_exists p)) (pred_lexes p h))
  pred_lexes (IsUnknown p) h =
      then (enclosed_lexes true (pred_lexes p h)) (blank_before (then (keyword_lexes (codes "is") refl) (blank_before (keyword_lexes (codes "unknown") refl)) (λ _ _. refl))) (λ _ _. refl)
  pred_lexes (Exists e) h = then (keyword_lexes (codes "exists") refl) (put open_parenthesis (then (expr_lexes e h) closed (λ _ _. refl))) (λ _ _. refl)
  pred_lexes (StartsWith e i) h =
      then (expr_lexes e h.0)
      (blank_before (then (keyword_lexes (codes "starts") refl) (blank_before (then (keyword_lexes (codes "with") refl) (blank_before (initial_lexes i h.1)) (λ _ _. refl))) (λ _ _. refl)))
      (λ _ _. refl)

mode_lexes : (mode : Mode) → Lexes (mode_text mode) (λ ts. word (mode_text mode) ∷ ts)
mode_lexes mode.Lax = keyword_lexes (codes "lax") refl
mode_lexes mode.Strict = keyword_lexes (codes "strict") refl

pub path_lexes : (p : Path) → IsMade p → HasTokens (path_text p) (path_tokens p)
path_lexes p h =
    let x : Lexes (path_text p) (λ ts. word (mode_text p.mode) ∷ expr_on p.expr ts) = then (mode_lexes p.mode) (blank_before (expr_lexes p.expr h)) (λ _ _. refl) in
    subst (λ (text : List ℕ). HasTokens text (path_tokens p)) (append-nil (path_text p)) (x.lexes [] [] refl t.end)
