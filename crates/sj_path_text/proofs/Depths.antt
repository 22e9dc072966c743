-- The canonical tokens nest no deeper than those of any text of the tree that has no part which is not supported: each
-- parenthesis of the canonical text stands in each such text.
use Rattle.std.proofs.Common.{◌≡◌, ℕ, zero, suc, ◌+◌, ◌<◌, ◌≤◌, max, Bool, true, false, not, [], ◌∷◌, take, Option, Some, None, refl, subst, arith}
use Rattle.std.specs.Bool.{⊤}
use Rattle.sj_path_token.specs.declared.keyword.Keyword.{Keyword}
use Rattle.sj_path_token.specs.declared.keyword.Keyword.TheVariants as w
use Rattle.sj_path_token.specs.declared.token.Token.{Token}
use Rattle.sj_path_token.specs.declared.token.Token.TheVariants as k
use Rattle.sj_path_tree.specs.declared.parts.Arith.{Arith}
use Rattle.sj_path_tree.specs.declared.parts.Arith.TheVariants as arith
use Rattle.sj_path_tree.specs.declared.parts.Literal.{Literal}
use Rattle.sj_path_tree.specs.declared.parts.Literal.TheVariants as literal
use Rattle.sj_path_tree.specs.declared.parts.Initial.{Initial}
use Rattle.sj_path_tree.specs.declared.parts.Initial.TheVariants as initial
use Rattle.sj_path_tree.specs.Tree.{Path, Expr, Root, Var, Context, Last, Lit, Plus, Minus, Binary, Access, Step, Member, AllMembers, AllElements, Elements, Filter, Call, Sub, One, Range, Subs, NoSubs, More, Pred, Compares, And, Or, Not, IsUnknown, Exists, StartsWith}
use Rattle.sj_base.specs.Nesting.{max_open}
use Rattle.sj_path_grammar.specs.Signs.{add_sign, mul_sign, word_expr, token_expr}
use Rattle.sj_path_grammar.specs.Grammar as g
use Rattle.sj_path_grammar.specs.Grammar.{Tokens, IsExpr, IsSum, IsTerm, IsProduct, IsUnary, IsAccess, IsPrimary, IsStep, IsSub, IsSubs, IsPred, IsOr, IsConj, IsAnd, IsNeg, IsDelim, IsPrim, IsPath}
use Rattle.sj_path_grammar.specs.Depth.{is_opening, is_closing, OpensTooMany}
use Rattle.sj_path_grammar.specs.Unsupported.{unsupported, unsupported_behind}
use Rattle.sj_path_text.specs.Parentheses.{is_low, is_sum, is_binary, is_operation, is_below, is_not_above, is_or, is_and_or_or, is_exists}
use Rattle.sj_path_text.specs.Tokens.{enclosed_on, arith_token, literal_token, initial_token, expr_on, step_on, sub_on, subs_on, others_on, pred_on, path_tokens}
use Rattle.sj_path_text.proofs.Methods.{of_methods}
use Rattle.sj_path_text.proofs.Counts.{tally, tally_is}

-- ---- room for what opens

abbrev Opened : (ℕ → Type 0) → ℕ → Type 0
Opened P zero = ⊥
Opened P (suc d) = P d

-- P is asked of the room that the token leaves
abbrev Through : Token → (ℕ → Type 0) → ℕ → Type 0
Through k.Open P d = Opened P d
Through k.OpenBracket P d = Opened P d
Through k.Close P d = P (suc d)
Through k.CloseBracket P d = P (suc d)
Through _ P d = P d

-- there is room for d more that are open at once
abbrev Fits : Tokens → ℕ → Type 0
Fits [] d = ⊤
Fits (u ∷ ts) d = Through u (Fits ts) d

-- the same, and no `like_regex` stands but behind a point
abbrev mutual
  Allowed : Tokens → ℕ → Type 0
  Allowed [] d = ⊤
  Allowed (k.Dot ∷ ts) d = AllowedBehind ts d
  Allowed (k.Word w.LikeRegex text ∷ ts) d = ⊥
  Allowed (u ∷ ts) d = Through u (Allowed ts) d

  AllowedBehind : Tokens → ℕ → Type 0
  AllowedBehind [] d = ⊤
  AllowedBehind (u ∷ ts) d = Through u (Allowed ts) d

-- ---- what nests too deep has no room

abbrev Deep : Tokens → ℕ → Type 0
Deep ts d = (n : ℕ) × (tally is_closing (take n ts) + d < tally is_opening (take n ts))

fits_from : (ts : Tokens) (d : ℕ) → (Deep ts d → ⊥) → Fits ts d
fits_from [] d h = tt
fits_from (k.Open ∷ ts) zero h = h (1, omega arith)
fits_from (k.Open ∷ ts) (suc d) h = fits_from ts d (λ x. h (suc x.0, omega (arith, x.1)))
fits_from (k.OpenBracket ∷ ts) zero h = h (1, omega arith)
fits_from (k.OpenBracket ∷ ts) (suc d) h = fits_from ts d (λ x. h (suc x.0, omega (arith, x.1)))
fits_from (k.Close ∷ ts) d h = fits_from ts (suc d) (λ x. h (suc x.0, omega (arith, x.1)))
fits_from (k.CloseBracket ∷ ts) d h = fits_from ts (suc d) (λ x. h (suc x.0, omega (arith, x.1)))
fits_from (_ ∷ ts) d h = fits_from ts d (λ x. h (suc x.0, x.1))

fits_shallow : (ts : Tokens) (d n : ℕ) → Fits ts d → tally is_closing (take n ts) + d < tally is_opening (take n ts) → ⊥
fits_shallow [] d zero f h = omega arith
fits_shallow [] d (suc n) f h = omega arith
fits_shallow (u ∷ ts) d zero f h = omega arith
fits_shallow (k.Open ∷ ts) zero (suc n) f h = f
fits_shallow (k.Open ∷ ts) (suc d) (suc n) f h = fits_shallow ts d n f (omega arith)
fits_shallow (k.OpenBracket ∷ ts) zero (suc n) f h = f
fits_shallow (k.OpenBracket ∷ ts) (suc d) (suc n) f h = fits_shallow ts d n f (omega arith)
fits_shallow (k.Close ∷ ts) d (suc n) f h = fits_shallow ts (suc d) n f (omega arith)
fits_shallow (k.CloseBracket ∷ ts) d (suc n) f h = fits_shallow ts (suc d) n f (omega arith)
fits_shallow (_ ∷ ts) d (suc n) f h = fits_shallow ts d n f h

-- ---- and what has room and is supported is allowed

through : {P Q : ℕ → Type 0} (u : Token) → ((d : ℕ) → P d → Q d) → (d : ℕ) → Through u P d → Through u Q d
through k.Open h zero p = p
through k.Open h (suc d) p = h d p
through k.OpenBracket h zero p = p
through k.OpenBracket h (suc d) p = h d p
through k.Close h d p = h (suc d) p
through k.CloseBracket h d p = h (suc d) p
through _ h d p = h d p

-- a name behind a point, and then no parenthesis
behind_supported : (u : Token) (ts : Tokens) → unsupported_behind (u ∷ ts) ≡ None → unsupported ts ≡ None
behind_supported (k.Word w.Double text) [] h = refl
behind_supported (k.Word w.Double text) (k.Open ∷ ts) h = absurd cc
behind_supported (k.Word w.Double text) (_ ∷ ts) h = h
behind_supported (k.Word w.Datetime text) [] h = refl
behind_supported (k.Word w.Datetime text) (k.Open ∷ ts) h = absurd cc
behind_supported (k.Word w.Datetime text) (_ ∷ ts) h = h
behind_supported (k.Word _ text) ts h = h
behind_supported _ ts h = h

mutual
  allowed : (ts : Tokens) → unsupported ts ≡ None → (d : ℕ) → Fits ts d → Allowed ts d
  allowed [] h d f = tt
  allowed (k.Dot ∷ ts) h d f = allowed_behind ts h d f
  allowed (k.Word w.LikeRegex text ∷ ts) h d f = absurd cc
  allowed (k.Word _ text ∷ ts) h d f = allowed ts h d f
  allowed (k.Open ∷ ts) h d f = through k.Open (allowed ts h) d f
  allowed (k.OpenBracket ∷ ts) h d f = through k.OpenBracket (allowed ts h) d f
  allowed (k.Close ∷ ts) h d f = allowed ts h (suc d) f
  allowed (k.CloseBracket ∷ ts) h d f = allowed ts h (suc d) f
  allowed (_ ∷ ts) h d f = allowed ts h d f

  allowed_behind : (ts : Tokens) → unsupported_behind ts ≡ None → (d : ℕ) → Fits ts d → AllowedBehind ts d
  allowed_behind [] h d f = tt
  allowed_behind (u ∷ ts) h d f = through u (allowed ts (behind_supported u ts h)) d f

-- ---- the room that the canonical tokens of a tree ask for

abbrev needed : Bool → ℕ → ℕ
needed true n = suc n
needed false n = n

abbrev mutual
  expr_need : Expr → ℕ
  expr_need (Access e s) = max (needed (is_operation e) (expr_need e)) (step_need s)
  expr_need (Plus e) = needed (is_binary e) (expr_need e)
  expr_need (Minus e) = needed (is_binary e) (expr_need e)
  expr_need (Binary op a b) = max (needed (is_below op a) (expr_need a)) (needed (is_not_above op b) (expr_need b))
  expr_need _ = 0

  step_need : Step → ℕ
  step_need (Member key) = 0
  step_need AllMembers = 0
  step_need AllElements = 1
  step_need (Elements subs) = suc (subs_need subs)
  step_need (Filter p) = suc (pred_need p)
  step_need (Call method) = 1

  sub_need : Sub → ℕ
  sub_need (One e) = expr_need e
  sub_need (Range a b) = max (expr_need a) (expr_need b)

  subs_need : Subs → ℕ
  subs_need NoSubs = 0
  subs_need (More s others) = max (sub_need s) (subs_need others)

  pred_need : Pred → ℕ
  pred_need (Compares op a b) = max (expr_need a) (expr_need b)
  pred_need (And p q) = max (needed (is_or p) (pred_need p)) (needed (is_and_or_or q) (pred_need q))
  pred_need (Or p q) = max (pred_need p) (needed (is_or q) (pred_need q))
  pred_need (Not p) = needed (not (is_exists p)) (pred_need p)
  pred_need (IsUnknown p) = suc (pred_need p)
  pred_need (Exists e) = suc (expr_need e)
  pred_need (StartsWith e initial) = expr_need e

both : (m n d : ℕ) → m ≤ d → n ≤ d → max m n ≤ d
both m n d h i = omega arith

first_of_both : (m n d : ℕ) → max m n ≤ d → m ≤ d
first_of_both m n d h = omega arith

second_of_both : (m n d : ℕ) → max m n ≤ d → n ≤ d
second_of_both m n d h = omega arith

-- ---- where there is that room, they fit

abbrev Rooms : ℕ → (Tokens → Tokens) → Type 0
Rooms n f = (d : ℕ) (ts : Tokens) → n ≤ d → Fits ts d → Fits (f ts) d

enclosed_fits : (b : Bool) (n : ℕ) (f : Tokens → Tokens) → Rooms n f → Rooms (needed b n) (enclosed_on b f)
enclosed_fits true n f h zero ts le fit = absurd (omega arith)
enclosed_fits true n f h (suc d) ts le fit = h d (k.Close ∷ ts) (omega arith) fit
enclosed_fits false n f h d ts le fit = h d ts le fit

arith_fits : (op : Arith) (ts : Tokens) (d : ℕ) → Fits ts d → Fits (arith_token op ∷ ts) d
arith_fits arith.Add ts d fit = fit
arith_fits arith.Sub ts d fit = fit
arith_fits arith.Mul ts d fit = fit
arith_fits arith.Div ts d fit = fit
arith_fits arith.Rem ts d fit = fit

literal_fits : (l : Literal) (ts : Tokens) (d : ℕ) → Fits ts d → Fits (literal_token l ∷ ts) d
literal_fits (literal.Text s) ts d fit = fit
literal_fits (literal.Num n) ts d fit = fit
literal_fits (literal.Bool b) ts d fit = fit
literal_fits literal.Null ts d fit = fit

initial_fits : (i : Initial) (ts : Tokens) (d : ℕ) → Fits ts d → Fits (initial_token i ∷ ts) d
initial_fits (initial.Lit s) ts d fit = fit
initial_fits (initial.Var name) ts d fit = fit

mutual
  expr_fits : (e : Expr) → Rooms (expr_need e) (expr_on e)
  expr_fits Root d ts le fit = fit
  expr_fits (Var name) d ts le fit = fit
  expr_fits Context d ts le fit = fit
  expr_fits Last d ts le fit = fit
  expr_fits (Lit l) d ts le fit = literal_fits l ts d fit
  expr_fits (Access e s) d ts le fit =
      enclosed_fits (is_operation e) (expr_need e) (expr_on e) (expr_fits e) d (step_on s ts) (first_of_both (needed (is_operation e) (expr_need e)) (step_need s) d le)
      (step_fits s d ts (second_of_both (needed (is_operation e) (expr_need e)) (step_need s) d le) fit)
  expr_fits (Plus e) d ts le fit = enclosed_fits (is_binary e) (expr_need e) (expr_on e) (expr_fits e) d ts le fit
  expr_fits (Minus e) d ts le fit = enclosed_fits (is_binary e) (expr_need e) (expr_on e) (expr_fits e) d ts le fit
  expr_fits (Binary op a b) d ts le fit =
      let m : ℕ = needed (is_below op a) (expr_need a) in
      let n : ℕ = needed (is_not_above op b) (expr_need b) in
      let right : Tokens = enclosed_on (is_not_above op b) (expr_on b) ts in
      enclosed_fits (is_below op a) (expr_need a) (expr_on a) (expr_fits a) d (arith_token op ∷ right) (first_of_both m n d le)
      (arith_fits op right d (enclosed_fits (is_not_above op b) (expr_need b) (expr_on b) (expr_fits b) d ts (second_of_both m n d le) fit))

  step_fits : (s : Step) → Rooms (step_need s) (step_on s)
  step_fits (Member key) d ts le fit = fit
  step_fits AllMembers d ts le fit = fit
  step_fits AllElements zero ts le fit = absurd (omega arith)
  step_fits AllElements (suc d) ts le fit = fit
  step_fits (Elements subs) zero ts le fit = absurd (omega arith)
  step_fits (Elements subs) (suc d) ts le fit = subs_fit subs d (k.CloseBracket ∷ ts) (omega arith) fit
  step_fits (Filter p) zero ts le fit = absurd (omega arith)
  step_fits (Filter p) (suc d) ts le fit = pred_fits p d (k.Close ∷ ts) (omega arith) fit
  step_fits (Call method) zero ts le fit = absurd (omega arith)
  step_fits (Call method) (suc d) ts le fit = fit

  sub_fits : (s : Sub) → Rooms (sub_need s) (sub_on s)
  sub_fits (One e) d ts le fit = expr_fits e d ts le fit
  sub_fits (Range a b) d ts le fit = expr_fits a d _ (first_of_both (expr_need a) (expr_need b) d le) (expr_fits b d ts (second_of_both (expr_need a) (expr_need b) d le) fit)

  subs_fit : (subs : Subs) → Rooms (subs_need subs) (subs_on subs)
  subs_fit NoSubs d ts le fit = fit
  subs_fit (More s others) d ts le fit =
      sub_fits s d (others_on others ts) (first_of_both (sub_need s) (subs_need others) d le) (others_fit others d ts (second_of_both (sub_need s) (subs_need others) d le) fit)

  others_fit : (subs : Subs) → Rooms (subs_need subs) (others_on subs)
  others_fit NoSubs d ts le fit = fit
  others_fit (More s others) d ts le fit =
      sub_fits s d (others_on others ts) (first_of_both (sub_need s) (subs_need others) d le) (others_fit others d ts (second_of_both (sub_need s) (subs_need others) d le) fit)

  pred_fits : (p : Pred) → Rooms (pred_need p) (pred_on p)
  pred_fits (Compares op a b) d ts le fit = expr_fits a d _ (first_of_both (expr_need a) (expr_need b) d le) (expr_fits b d ts (second_of_both (expr_need a) (expr_need b) d le) fit)
  pred_fits (And p q) d ts le fit =
      let m : ℕ = needed (is_or p) (pred_need p) in
      let n : ℕ = needed (is_and_or_or q) (pred_need q) in
      enclosed_fits (is_or p) (pred_need p) (pred_on p) (pred_fits p) d _ (first_of_both m n d le)
      (enclosed_fits (is_and_or_or q) (pred_need q) (pred_on q) (pred_fits q) d ts (second_of_both m n d le) fit)
  pred_fits (Or p q) d ts le fit =
      let n : ℕ = needed (is_or q) (pred_need q) in
      pred_fits p d _ (first_of_both (pred_need p) n d le) (enclosed_fits (is_or q) (pred_need q) (pred_on q) (pred_fits q) d ts (second_of_both (pred_need p) n d le) fit)
  pred_fits (Not p) d ts le fit = enclosed_fits (not (is_exists p)) (pred_need p) (pred_on p) (pred_fits p) d ts le fit
  pred_fits (IsUnknown p) zero ts le fit = absurd (omega arith)
  pred_fits (IsUnknown p) (suc d) ts le fit = pred_fits p d _ (omega arith) fit
  pred_fits (Exists e) zero ts le fit = absurd (omega arith)
  pred_fits (Exists e) (suc d) ts le fit = expr_fits e d (k.Close ∷ ts) (omega arith) fit
  pred_fits (StartsWith e i) d ts le fit = expr_fits e d _ le (initial_fits i ts d fit)

-- ---- each text of the tree has that room

needed_more : (b : Bool) (n : ℕ) → needed b n ≤ suc n
needed_more true n = omega arith
needed_more false n = omega arith

needed_less : (b : Bool) (n : ℕ) → n ≤ needed b n
needed_less true n = omega arith
needed_less false n = omega arith

sum_below : (e : Expr) (n : ℕ) → needed (is_sum e) n ≤ needed (is_binary e) n
sum_below (Binary op a b) n = needed_more (is_low op) n
sum_below _ n = omega arith

binary_below : (e : Expr) (n : ℕ) → needed (is_binary e) n ≤ needed (is_operation e) n
binary_below (Binary op a b) n = omega arith
binary_below (Plus e) n = omega arith
binary_below (Minus e) n = omega arith
binary_below _ n = omega arith

abbrev Low : Option Arith → Type 0
Low None = ⊤
Low (Some op) = is_low op ≡ true

add_low : (u : Token) → Low (add_sign u)
add_low k.Plus = refl
add_low k.Minus = refl
add_low _ = tt

abbrev High : Option Arith → Type 0
High None = ⊤
High (Some op) = is_low op ≡ false

mul_high : (u : Token) → High (mul_sign u)
mul_high k.Star = refl
mul_high k.Slash = refl
mul_high k.Percent = refl
mul_high _ = tt

sum_need : (op : Arith) (a b : Expr) (d : ℕ) → is_low op ≡ true → expr_need a ≤ d → needed (is_sum b) (expr_need b) ≤ d → expr_need (Binary op a b) ≤ d
sum_need arith.Add a b d low h i = both _ _ d h i
sum_need arith.Sub a b d low h i = both _ _ d h i
sum_need arith.Mul a b d low h i = absurd cc
sum_need arith.Div a b d low h i = absurd cc
sum_need arith.Rem a b d low h i = absurd cc

product_need : (op : Arith) (a b : Expr) (d : ℕ) → is_low op ≡ false → needed (is_sum a) (expr_need a) ≤ d → needed (is_binary b) (expr_need b) ≤ d → needed (is_low op) (expr_need (Binary op a b)) ≤ d
product_need arith.Add a b d high h i = absurd cc
product_need arith.Sub a b d high h i = absurd cc
product_need arith.Mul a b d high h i = both _ _ d h i
product_need arith.Div a b d high h i = both _ _ d h i
product_need arith.Rem a b d high h i = both _ _ d h i

or_below : (p : Pred) (n : ℕ) → needed (is_or p) n ≤ needed (is_and_or_or p) n
or_below (And p q) n = omega arith
or_below (Or p q) n = omega arith
or_below _ n = omega arith

group_below : (p : Pred) (n : ℕ) → needed (is_and_or_or p) n ≤ needed (not (is_exists p)) n
group_below (And p q) n = omega arith
group_below (Or p q) n = omega arith
group_below (Exists e) n = omega arith
group_below _ n = omega arith

-- tokens that are chosen from a table
add_behind : (u : Token) (op : Arith) (ts : Tokens) (d : ℕ) → add_sign u ≡ Some op → Allowed (u ∷ ts) d → Allowed ts d
add_behind k.Plus op ts d is h = h
add_behind k.Minus op ts d is h = h
add_behind _ op ts d is h = absurd cc

mul_behind : (u : Token) (op : Arith) (ts : Tokens) (d : ℕ) → mul_sign u ≡ Some op → Allowed (u ∷ ts) d → Allowed ts d
mul_behind k.Star op ts d is h = h
mul_behind k.Slash op ts d is h = h
mul_behind k.Percent op ts d is h = h
mul_behind _ op ts d is h = absurd cc

single_behind : (u : Token) (e : Expr) (ts : Tokens) (d : ℕ) → token_expr u ≡ Some e → Allowed (u ∷ ts) d → Allowed ts d
single_behind k.Root e ts d is h = h
single_behind (k.Variable name) e ts d is h = h
single_behind k.At e ts d is h = h
single_behind (k.Quoted s) e ts d is h = h
single_behind (k.Number n) e ts d is h = h
single_behind (k.Word w.LikeRegex text) e ts d is h = absurd h
single_behind (k.Word _ text) e ts d is h = h
single_behind _ e ts d is h = absurd cc

abbrev SmallIn : Option Expr → Type 0
SmallIn None = ⊤
SmallIn (Some e) = needed (is_operation e) (expr_need e) ≡ 0

word_small : (keyword : Keyword) → SmallIn (word_expr keyword)
word_small w.Last = refl
word_small w.True = refl
word_small w.False = refl
word_small w.Null = refl
word_small _ = tt

single_small : (u : Token) → SmallIn (token_expr u)
single_small (k.Word keyword text) = word_small keyword
single_small k.Root = refl
single_small (k.Variable name) = refl
single_small k.At = refl
single_small (k.Quoted s) = refl
single_small (k.Number n) = refl
single_small _ = tt

mutual
  expr_roomy : {ts rest : Tokens} {e : Expr} → IsExpr ts e rest → (d : ℕ) → Allowed ts d → (expr_need e ≤ d) × Allowed rest d
  expr_roomy (g.sum {x = x} q s) d h = let y = term_roomy q d h in sum_roomy s d (omega (arith, y.0, needed_less (is_sum x) (expr_need x))) y.1

  sum_roomy : {x e : Expr} {ts rest : Tokens} → IsSum x ts e rest → (d : ℕ) → expr_need x ≤ d → Allowed ts d → (expr_need e ≤ d) × Allowed rest d
  sum_roomy g.sum_end d le h = (le, h)
  sum_roomy (g.sum_more {t = u} {op = op} {ts = ts} {x = x} {y = y} is q s) d le h =
      let b = term_roomy q d (add_behind u op ts d is h) in sum_roomy s d (sum_need op x y d (subst Low is (add_low u)) le b.0) b.1

  term_roomy : {ts rest : Tokens} {e : Expr} → IsTerm ts e rest → (d : ℕ) → Allowed ts d → (needed (is_sum e) (expr_need e) ≤ d) × Allowed rest d
  term_roomy (g.product {x = x} q s) d h = let y = unary_roomy q d h in product_roomy s d (omega (arith, y.0, sum_below x (expr_need x))) y.1

  product_roomy : {x e : Expr} {ts rest : Tokens} → IsProduct x ts e rest → (d : ℕ) → needed (is_sum x) (expr_need x) ≤ d → Allowed ts d → (needed (is_sum e) (expr_need e) ≤ d) × Allowed rest d
  product_roomy g.product_end d le h = (le, h)
  product_roomy (g.product_more {t = u} {op = op} {ts = ts} {x = x} {y = y} is q s) d le h =
      let b = unary_roomy q d (mul_behind u op ts d is h) in product_roomy s d (product_need op x y d (subst High is (mul_high u)) le b.0) b.1

  unary_roomy : {ts rest : Tokens} {e : Expr} → IsUnary ts e rest → (d : ℕ) → Allowed ts d → (needed (is_binary e) (expr_need e) ≤ d) × Allowed rest d
  unary_roomy (g.plus q) d h = unary_roomy q d h
  unary_roomy (g.minus q) d h = unary_roomy q d h
  unary_roomy (g.access {e = e} q a) d h = let x = primary_roomy q d h in let y = access_roomy a d x.0 x.1 in (omega (arith, y.0, binary_below e (expr_need e)), y.1)

  access_roomy : {x e : Expr} {ts rest : Tokens} → IsAccess x ts e rest → (d : ℕ) → needed (is_operation x) (expr_need x) ≤ d → Allowed ts d → (needed (is_operation e) (expr_need e) ≤ d) × Allowed rest d
  access_roomy g.access_end d le h = (le, h)
  access_roomy (g.access_more q a) d le h = let y = step_roomy q d h in access_roomy a d (both _ _ d le y.0) y.1

  primary_roomy : {ts rest : Tokens} {e : Expr} → IsPrimary ts e rest → (d : ℕ) → Allowed ts d → (needed (is_operation e) (expr_need e) ≤ d) × Allowed rest d
  primary_roomy (g.single {t = u} {rest = rest} {e = e} is) d h = let n : needed (is_operation e) (expr_need e) ≡ 0 = subst SmallIn is (single_small u) in (omega (arith, n), single_behind u e rest d is h)
  primary_roomy (g.parens q) zero h = absurd h
  primary_roomy (g.parens {e = e} q) (suc d) h = let x = expr_roomy q d h in (omega (arith, x.0, needed_more (is_operation e) (expr_need e)), x.1)

  step_roomy : {ts rest : Tokens} {s : Step} → IsStep ts s rest → (d : ℕ) → Allowed ts d → (step_need s ≤ d) × Allowed rest d
  step_roomy (g.key shut) d h = (omega arith, h)
  step_roomy g.quoted d h = (omega arith, h)
  step_roomy g.all_members d h = (omega arith, h)
  step_roomy (g.method is) zero h = absurd h
  step_roomy (g.method {keyword = keyword} {s = s} is) (suc d) h = let n : step_need s ≡ 1 = of_methods (λ x. step_need x ≡ 1) (λ _. refl) keyword s is in (omega (arith, n), h)
  step_roomy g.datetime zero h = absurd h
  step_roomy g.datetime (suc d) h = (omega arith, h)
  step_roomy g.datetime_by zero h = absurd h
  step_roomy g.datetime_by (suc d) h = (omega arith, h)
  step_roomy g.all_elements zero h = absurd h
  step_roomy g.all_elements (suc d) h = (omega arith, h)
  step_roomy (g.elements q) zero h = absurd h
  step_roomy (g.elements q) (suc d) h = let x = subs_roomy q d h in (omega (arith, x.0), x.1)
  step_roomy (g.filter q) zero h = absurd h
  step_roomy (g.filter q) (suc d) h = let x = pred_roomy q d h in (omega (arith, x.0), x.1)

  sub_roomy : {ts rest : Tokens} {s : Sub} → IsSub ts s rest → (d : ℕ) → Allowed ts d → (sub_need s ≤ d) × Allowed rest d
  sub_roomy (g.one q) d h = expr_roomy q d h
  sub_roomy (g.range q r) d h = let x = expr_roomy q d h in let y = expr_roomy r d x.1 in (both _ _ d x.0 y.0, y.1)

  subs_roomy : {ts rest : Tokens} {s : Subs} → IsSubs ts s rest → (d : ℕ) → Allowed ts d → (subs_need s ≤ d) × Allowed rest d
  subs_roomy (g.only {s = s} q) d h = let x = sub_roomy q d h in (both (sub_need s) 0 d x.0 (omega arith), x.1)
  subs_roomy (g.more q r) d h = let x = sub_roomy q d h in let y = subs_roomy r d x.1 in (both _ _ d x.0 y.0, y.1)

  pred_roomy : {ts rest : Tokens} {p : Pred} → IsPred ts p rest → (d : ℕ) → Allowed ts d → (pred_need p ≤ d) × Allowed rest d
  pred_roomy (g.either {x = x} q o) d h = let y = conj_roomy q d h in or_roomy o d (omega (arith, y.0, needed_less (is_or x) (pred_need x))) y.1

  or_roomy : {x p : Pred} {ts rest : Tokens} → IsOr x ts p rest → (d : ℕ) → pred_need x ≤ d → Allowed ts d → (pred_need p ≤ d) × Allowed rest d
  or_roomy g.or_end d le h = (le, h)
  or_roomy (g.or_more q o) d le h = let y = conj_roomy q d h in or_roomy o d (both _ _ d le y.0) y.1

  conj_roomy : {ts rest : Tokens} {p : Pred} → IsConj ts p rest → (d : ℕ) → Allowed ts d → (needed (is_or p) (pred_need p) ≤ d) × Allowed rest d
  conj_roomy (g.both {x = x} q a) d h = let y = neg_roomy q d h in and_roomy a d (omega (arith, y.0, or_below x (pred_need x))) y.1

  and_roomy : {x p : Pred} {ts rest : Tokens} → IsAnd x ts p rest → (d : ℕ) → needed (is_or x) (pred_need x) ≤ d → Allowed ts d → (needed (is_or p) (pred_need p) ≤ d) × Allowed rest d
  and_roomy g.and_end d le h = (le, h)
  and_roomy (g.and_more q a) d le h = let y = neg_roomy q d h in and_roomy a d (both _ _ d le y.0) y.1

  neg_roomy : {ts rest : Tokens} {p : Pred} → IsNeg ts p rest → (d : ℕ) → Allowed ts d → (needed (is_and_or_or p) (pred_need p) ≤ d) × Allowed rest d
  neg_roomy (g.not q) d h = delim_roomy q d h
  neg_roomy (g.prim q) d h = prim_roomy q d h

  delim_roomy : {ts rest : Tokens} {p : Pred} → IsDelim ts p rest → (d : ℕ) → Allowed ts d → (needed (not (is_exists p)) (pred_need p) ≤ d) × Allowed rest d
  delim_roomy (g.group q) zero h = absurd h
  delim_roomy (g.group {p = p} q) (suc d) h = let x = pred_roomy q d h in (omega (arith, x.0, needed_more (not (is_exists p)) (pred_need p)), x.1)
  delim_roomy (g.exists q) zero h = absurd h
  delim_roomy (g.exists q) (suc d) h = let x = expr_roomy q d h in (omega (arith, x.0), x.1)

  prim_roomy : {ts rest : Tokens} {p : Pred} → IsPrim ts p rest → (d : ℕ) → Allowed ts d → (needed (is_and_or_or p) (pred_need p) ≤ d) × Allowed rest d
  prim_roomy (g.delim {p = p} q) d h = let x = delim_roomy q d h in (omega (arith, x.0, group_below p (pred_need p)), x.1)
  prim_roomy (g.unknown q) zero h = absurd h
  prim_roomy (g.unknown q) (suc d) h = let x = pred_roomy q d h in (omega (arith, x.0), x.1)
  prim_roomy (g.compare q r) d h = let x = expr_roomy q d h in let y = expr_roomy r d x.1 in (both _ _ d x.0 y.0, y.1)
  prim_roomy (g.starts_text q) d h = let x = expr_roomy q d h in (x.0, x.1)
  prim_roomy (g.starts_variable q) d h = let x = expr_roomy q d h in (x.0, x.1)
  prim_roomy (g.like q) d h = absurd (expr_roomy q d h).1
  prim_roomy (g.like_by q) d h = absurd (expr_roomy q d h).1

path_roomy : {ts : Tokens} {p : Path} → IsPath ts p → (d : ℕ) → Allowed ts d → expr_need p.expr ≤ d
path_roomy (g.plain q) d h = (expr_roomy q d h).0
path_roomy (g.lax q) d h = (expr_roomy q d h).0
path_roomy (g.strict q) d h = (expr_roomy q d h).0

-- ---- both

deep_counts : (ts : Tokens) → Deep ts max_open → OpensTooMany ts
deep_counts ts x =
    let c = tally_is is_closing (take x.0 ts) in
    let o = tally_is is_opening (take x.0 ts) in
    (x.0, omega (arith, x.1, c, o))

counts_deep : (ts : Tokens) → Fits ts max_open → OpensTooMany ts → ⊥
counts_deep ts fit x =
    let c = tally_is is_closing (take x.0 ts) in
    let o = tally_is is_opening (take x.0 ts) in
    fits_shallow ts max_open x.0 fit (omega (arith, x.1, c, o))

pub shallow : {ts : Tokens} {p : Path} → IsPath ts p → unsupported ts ≡ None → (OpensTooMany ts → ⊥) → OpensTooMany (path_tokens p) → ⊥
shallow {ts} {p} q supported h =
    counts_deep (path_tokens p)
    (expr_fits p.expr max_open [] (path_roomy q max_open (allowed ts supported max_open (fits_from ts max_open (λ x. h (deep_counts ts x))))) tt)
