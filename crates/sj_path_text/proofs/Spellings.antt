-- The canonical tokens of a path spell it.
use Rattle.std.proofs.Common.{◌≡◌, Bool, true, false, not, [], ◌∷◌, codes, Some, refl, sym, subst, ◌∙◌}
use Rattle.sj_path_token.specs.declared.token.Token.{Token}
use Rattle.sj_path_token.specs.declared.token.Token.TheVariants as k
use Rattle.sj_path_tree.specs.declared.parts.Arith.{Arith}
use Rattle.sj_path_tree.specs.declared.parts.Arith.TheVariants as arith
use Rattle.sj_path_tree.specs.declared.parts.Literal.{Literal}
use Rattle.sj_path_tree.specs.declared.parts.Literal.TheVariants as literal
use Rattle.sj_path_tree.specs.declared.parts.Initial.TheVariants as initial
use Rattle.sj_path_tree.specs.declared.parts.Mode.{Mode}
use Rattle.sj_path_tree.specs.declared.parts.Mode.TheVariants as mode
use Rattle.sj_path_tree.specs.Tree.{Path, Expr, Root, Var, Context, Last, Lit, Plus, Minus, Binary, Access, Step, Member, AllMembers, AllElements, Elements, Filter, Call, Sub, One, Range, Subs, NoSubs, More, Pred, Compares, And, Or, Not, IsUnknown, Exists, StartsWith}
use Rattle.sj_path_grammar.specs.Signs.{add_sign, mul_sign, token_expr}
use Rattle.sj_path_grammar.specs.Grammar as g
use Rattle.sj_path_grammar.specs.Grammar.{Tokens, IsExpr, IsSum, IsTerm, IsProduct, IsUnary, IsAccess, IsPrimary, IsStep, IsSub, IsSubs, IsPred, IsOr, IsConj, IsAnd, IsNeg, IsDelim, IsPrim, IsPath}
use Rattle.sj_path_text.specs.Parentheses.{is_low, is_sum, is_binary, is_operation, is_or, is_and_or_or, is_exists}
use Rattle.sj_path_text.proofs.Methods.{name_is}
use Rattle.sj_path_text.proofs.Made.{ExprOf, StepOf, SubOf, SubsOf, PredOf, Any, IsMade}
use Rattle.sj_path_text.specs.Tokens.{enclosed_on, word, literal_token, expr_on, step_on, sub_on, subs_on, pred_on, path_tokens}

apart : true ≡ false → ⊥
apart q = cc

-- ---- one more operand at the end

sum_snoc : {x e y : Expr} {ts mid rest : Tokens} {t : Token} {op : Arith} → IsSum x ts e (t ∷ mid) → add_sign t ≡ Some op → IsTerm mid y rest → IsSum x ts (Binary op e y) rest
sum_snoc g.sum_end is d = g.sum_more is d g.sum_end
sum_snoc (g.sum_more h c more) is d = g.sum_more h c (sum_snoc more is d)

expr_snoc : {e y : Expr} {ts mid rest : Tokens} {t : Token} {op : Arith} → IsExpr ts e (t ∷ mid) → add_sign t ≡ Some op → IsTerm mid y rest → IsExpr ts (Binary op e y) rest
expr_snoc (g.sum c s) is d = g.sum c (sum_snoc s is d)

product_snoc : {x e y : Expr} {ts mid rest : Tokens} {t : Token} {op : Arith} → IsProduct x ts e (t ∷ mid) → mul_sign t ≡ Some op → IsUnary mid y rest → IsProduct x ts (Binary op e y) rest
product_snoc g.product_end is d = g.product_more is d g.product_end
product_snoc (g.product_more h c more) is d = g.product_more h c (product_snoc more is d)

term_snoc : {e y : Expr} {ts mid rest : Tokens} {t : Token} {op : Arith} → IsTerm ts e (t ∷ mid) → mul_sign t ≡ Some op → IsUnary mid y rest → IsTerm ts (Binary op e y) rest
term_snoc (g.product c s) is d = g.product c (product_snoc s is d)

access_snoc : {x e : Expr} {s : Step} {ts mid rest : Tokens} → IsAccess x ts e mid → IsStep mid s rest → IsAccess x ts (Access e s) rest
access_snoc g.access_end d = g.access_more d g.access_end
access_snoc (g.access_more c more) d = g.access_more c (access_snoc more d)

or_snoc : {x p q : Pred} {ts mid rest : Tokens} → IsOr x ts p (k.Or ∷ mid) → IsConj mid q rest → IsOr x ts (Or p q) rest
or_snoc g.or_end d = g.or_more d g.or_end
or_snoc (g.or_more c more) d = g.or_more c (or_snoc more d)

and_snoc : {x p q : Pred} {ts mid rest : Tokens} → IsAnd x ts p (k.And ∷ mid) → IsNeg mid q rest → IsAnd x ts (And p q) rest
and_snoc g.and_end d = g.and_more d g.and_end
and_snoc (g.and_more c more) d = g.and_more c (and_snoc more d)

or_of : {p q : Pred} {ts mid rest : Tokens} → IsPred ts p (k.Or ∷ mid) → IsConj mid q rest → IsPred ts (Or p q) rest
or_of (g.either c o) d = g.either c (or_snoc o d)

and_of : {p q : Pred} {ts mid rest : Tokens} → IsConj ts p (k.And ∷ mid) → IsNeg mid q rest → IsConj ts (And p q) rest
and_of (g.both c a) d = g.both c (and_snoc a d)

-- ---- how an expression is spelled

-- a primary and accessors
record IsAccessed (ts : Tokens) (e : Expr) (rest : Tokens) : Type 0 where
  first : Expr
  behind : Tokens
  primary : IsPrimary ts first behind
  accessors : IsAccess first behind e rest

unary_of : {ts rest : Tokens} {e : Expr} → IsAccessed ts e rest → IsUnary ts e rest
unary_of a = g.access a.primary a.accessors

term_of : {ts rest : Tokens} {e : Expr} → IsUnary ts e rest → IsTerm ts e rest
term_of d = g.product d g.product_end

expr_of : {ts rest : Tokens} {e : Expr} → IsTerm ts e rest → IsExpr ts e rest
expr_of d = g.sum d g.sum_end

alone : {ts rest : Tokens} {e : Expr} → IsPrimary ts e rest → IsAccessed ts e rest
alone d = record { first = _; behind = _; primary = d; accessors = g.access_end }

-- the tokens of an expression spell it in each place of the grammar where it needs no parentheses
record Spelled (e : Expr) : Type 0 where
  expr : (rest : Tokens) → IsExpr (expr_on e rest) e rest
  term : is_sum e ≡ false → (rest : Tokens) → IsTerm (expr_on e rest) e rest
  unary : is_binary e ≡ false → (rest : Tokens) → IsUnary (expr_on e rest) e rest
  accessed : is_operation e ≡ false → (rest : Tokens) → IsAccessed (expr_on e rest) e rest

by_access : (e : Expr) → ((rest : Tokens) → IsAccessed (expr_on e rest) e rest) → Spelled e
by_access e d = record { expr = λ r. expr_of (term_of (unary_of (d r))); term = λ _ r. term_of (unary_of (d r)); unary = λ _ r. unary_of (d r); accessed = λ _ r. d r }

by_sign : (e : Expr) → ((rest : Tokens) → IsUnary (expr_on e rest) e rest) → is_operation e ≡ true → Spelled e
by_sign e d is = record { expr = λ r. expr_of (term_of (d r)); term = λ _ r. term_of (d r); unary = λ _ r. d r; accessed = λ no r. absurd (apart (sym is ∙ no)) }

by_sum : (op : Arith) (a b : Expr) → is_low op ≡ true → ((rest : Tokens) → IsExpr (expr_on (Binary op a b) rest) (Binary op a b) rest) → Spelled (Binary op a b)
by_sum op a b low d = record { expr = d; term = λ no r. absurd (apart (sym low ∙ no)); unary = λ no r. absurd (apart no); accessed = λ no r. absurd (apart no) }

by_product : (op : Arith) (a b : Expr) → ((rest : Tokens) → IsTerm (expr_on (Binary op a b) rest) (Binary op a b) rest) → Spelled (Binary op a b)
by_product op a b d = record { expr = λ r. expr_of (d r); term = λ _ r. d r; unary = λ no r. absurd (apart no); accessed = λ no r. absurd (apart no) }

in_parentheses : {e : Expr} {rest : Tokens} → Spelled e → IsAccessed (k.Open ∷ expr_on e (k.Close ∷ rest)) e rest
in_parentheses s = alone (g.parens (s.expr _))

as_term : (e : Expr) → Spelled e → (b : Bool) → is_sum e ≡ b → (rest : Tokens) → IsTerm (enclosed_on b (expr_on e) rest) e rest
as_term e s true is rest = term_of (unary_of (in_parentheses s))
as_term e s false is rest = s.term is rest

as_unary : (e : Expr) → Spelled e → (b : Bool) → is_binary e ≡ b → (rest : Tokens) → IsUnary (enclosed_on b (expr_on e) rest) e rest
as_unary e s true is rest = unary_of (in_parentheses s)
as_unary e s false is rest = s.unary is rest

as_accessed : (e : Expr) → Spelled e → (b : Bool) → is_operation e ≡ b → (rest : Tokens) → IsAccessed (enclosed_on b (expr_on e) rest) e rest
as_accessed e s true is rest = in_parentheses s
as_accessed e s false is rest = s.accessed is rest

single : (e : Expr) (t : Token) → token_expr t ≡ Some e → ((rest : Tokens) → expr_on e rest ≡ t ∷ rest) → Spelled e
single e t is on = by_access e (λ rest. subst (λ ts. IsAccessed ts e rest) (sym (on rest)) (alone (g.single is)))

literal_is : (l : Literal) → token_expr (literal_token l) ≡ Some (Lit l)
literal_is (literal.Text s) = refl
literal_is (literal.Num d) = refl
literal_is (literal.Bool true) = refl
literal_is (literal.Bool false) = refl
literal_is literal.Null = refl

binary_is : (op : Arith) (a b : Expr) → Spelled a → Spelled b → Spelled (Binary op a b)
binary_is arith.Add a b x y = by_sum arith.Add a b refl (λ rest. expr_snoc (x.expr _) refl (as_term b y (is_sum b) refl rest))
binary_is arith.Sub a b x y = by_sum arith.Sub a b refl (λ rest. expr_snoc (x.expr _) refl (as_term b y (is_sum b) refl rest))
binary_is arith.Mul a b x y = by_product arith.Mul a b (λ rest. term_snoc (as_term a x (is_sum a) refl _) refl (as_unary b y (is_binary b) refl rest))
binary_is arith.Div a b x y = by_product arith.Div a b (λ rest. term_snoc (as_term a x (is_sum a) refl _) refl (as_unary b y (is_binary b) refl rest))
binary_is arith.Rem a b x y = by_product arith.Rem a b (λ rest. term_snoc (as_term a x (is_sum a) refl _) refl (as_unary b y (is_binary b) refl rest))

-- ---- predicates

conj_of : {ts rest : Tokens} {q : Pred} → IsNeg ts q rest → IsConj ts q rest
conj_of d = g.both d g.and_end

pred_of : {ts rest : Tokens} {q : Pred} → IsConj ts q rest → IsPred ts q rest
pred_of d = g.either d g.or_end

record SpelledTest (q : Pred) : Type 0 where
  pred : (rest : Tokens) → IsPred (pred_on q rest) q rest
  conj : is_or q ≡ false → (rest : Tokens) → IsConj (pred_on q rest) q rest
  neg : is_and_or_or q ≡ false → (rest : Tokens) → IsNeg (pred_on q rest) q rest
  delim : (rest : Tokens) → IsDelim (enclosed_on (not (is_exists q)) (pred_on q) rest) q rest

in_group : (q : Pred) → is_exists q ≡ false → ((rest : Tokens) → IsPred (pred_on q rest) q rest) → (rest : Tokens) → IsDelim (enclosed_on (not (is_exists q)) (pred_on q) rest) q rest
in_group q other d rest = subst (λ b. IsDelim (enclosed_on (not b) (pred_on q) rest) q rest) (sym other) (g.group (d _))

by_neg : (q : Pred) → is_exists q ≡ false → ((rest : Tokens) → IsNeg (pred_on q rest) q rest) → SpelledTest q
by_neg q other d = record { pred = λ r. pred_of (conj_of (d r)); conj = λ _ r. conj_of (d r); neg = λ _ r. d r; delim = in_group q other (λ r. pred_of (conj_of (d r))) }

grouped : {q : Pred} {rest : Tokens} → SpelledTest q → IsNeg (k.Open ∷ pred_on q (k.Close ∷ rest)) q rest
grouped s = g.prim (g.delim (g.group (s.pred _)))

as_conj : (q : Pred) → SpelledTest q → (b : Bool) → is_or q ≡ b → (rest : Tokens) → IsConj (enclosed_on b (pred_on q) rest) q rest
as_conj q s true is rest = conj_of (grouped s)
as_conj q s false is rest = s.conj is rest

as_neg : (q : Pred) → SpelledTest q → (b : Bool) → is_and_or_or q ≡ b → (rest : Tokens) → IsNeg (enclosed_on b (pred_on q) rest) q rest
as_neg q s true is rest = grouped s
as_neg q s false is rest = s.neg is rest

both_is : (x y : Pred) → SpelledTest x → SpelledTest y → SpelledTest (And x y)
both_is x y a b =
    let d : (rest : Tokens) → IsConj (pred_on (And x y) rest) (And x y) rest = λ rest. and_of (as_conj x a (is_or x) refl _) (as_neg y b (is_and_or_or y) refl rest) in
    record { pred = λ r. pred_of (d r); conj = λ _ r. d r; neg = λ no r. absurd (apart no); delim = in_group (And x y) refl (λ r. pred_of (d r)) }

either_is : (x y : Pred) → SpelledTest x → SpelledTest y → SpelledTest (Or x y)
either_is x y a b =
    let d : (rest : Tokens) → IsPred (pred_on (Or x y) rest) (Or x y) rest = λ rest. or_of (a.pred _) (as_conj y b (is_or y) refl rest) in
    record { pred = d; conj = λ no r. absurd (apart no); neg = λ no r. absurd (apart no); delim = in_group (Or x y) refl d }

exists_is : (e : Expr) → ((rest : Tokens) → IsDelim (pred_on (Exists e) rest) (Exists e) rest) → SpelledTest (Exists e)
exists_is e d = record { pred = λ r. pred_of (conj_of (g.prim (g.delim (d r)))); conj = λ _ r. conj_of (g.prim (g.delim (d r))); neg = λ _ r. g.prim (g.delim (d r)); delim = d }

-- ---- all

mutual
  spelled : (e : Expr) → ExprOf Any e → Spelled e
  spelled Root h = single Root k.Root refl (λ _. refl)
  spelled (Var name) h = single (Var name) (k.Variable name) refl (λ _. refl)
  spelled Context h = single Context k.At refl (λ _. refl)
  spelled Last h = single Last (word (codes "last")) refl (λ _. refl)
  spelled (Lit l) h = single (Lit l) (literal_token l) (literal_is l) (λ _. refl)
  spelled (Access e s) h = by_access (Access e s) (λ rest.
      let a = as_accessed e (spelled e h.0) (is_operation e) refl (step_on s rest) in
      record { first = a.first; behind = a.behind; primary = a.primary; accessors = access_snoc a.accessors (step_is s h.1 rest) })
  spelled (Plus e) h = by_sign (Plus e) (λ rest. g.plus (as_unary e (spelled e h) (is_binary e) refl rest)) refl
  spelled (Minus e) h = by_sign (Minus e) (λ rest. g.minus (as_unary e (spelled e h) (is_binary e) refl rest)) refl
  spelled (Binary op a b) h = binary_is op a b (spelled a h.0) (spelled b h.1)

  step_is : (s : Step) → StepOf Any s → (rest : Tokens) → IsStep (step_on s rest) s rest
  step_is (Member key) h rest = g.quoted
  step_is AllMembers h rest = g.all_members
  step_is AllElements h rest = g.all_elements
  step_is (Elements subs) h rest = g.elements (subs_are subs h (k.CloseBracket ∷ rest))
  step_is (Filter q) h rest = g.filter ((spelled_test q h).pred (k.Close ∷ rest))
  step_is (Call method) h rest = g.method (name_is method)

  sub_is : (s : Sub) → SubOf Any s → (rest : Tokens) → IsSub (sub_on s rest) s rest
  sub_is (One e) h rest = g.one ((spelled e h).expr rest)
  sub_is (Range a b) h rest = g.range ((spelled a h.0).expr _) ((spelled b h.1).expr rest)

  subs_are : (subs : Subs) → SubsOf Any subs → (rest : Tokens) → IsSubs (subs_on subs rest) subs rest
  subs_are NoSubs h rest = absurd h
  subs_are (More s NoSubs) h rest = g.only (sub_is s h.0 rest)
  subs_are (More s (More t others)) h rest = g.more (sub_is s h.0 _) (subs_are (More t others) h.1 rest)

  spelled_test : (q : Pred) → PredOf Any q → SpelledTest q
  spelled_test (Compares op a b) h = by_neg (Compares op a b) refl (λ rest. g.prim (g.compare ((spelled a h.0).expr _) ((spelled b h.1).expr rest)))
  spelled_test (And x y) h = both_is x y (spelled_test x h.0) (spelled_test y h.1)
  spelled_test (Or x y) h = either_is x y (spelled_test x h.0) (spelled_test y h.1)
  spelled_test (Not x) h = by_neg (Not x) refl (λ rest. g.not ((spelled_test x h).delim rest))
  spelled_test (IsUnknown x) h = by_neg (IsUnknown x) refl (λ rest. g.prim (g.unknown ((spelled_test x h).pred _)))
  spelled_test (Exists e) h = exists_is e (λ rest. g.exists ((spelled e h).expr _))
  spelled_test (StartsWith e (initial.Lit s)) h = by_neg (StartsWith e (initial.Lit s)) refl (λ rest. g.prim (g.starts_text ((spelled e h.0).expr _)))
  spelled_test (StartsWith e (initial.Var s)) h = by_neg (StartsWith e (initial.Var s)) refl (λ rest. g.prim (g.starts_variable ((spelled e h.0).expr _)))

pub path_is : (p : Path) → IsMade p → IsPath (path_tokens p) p
path_is p h = go p.mode p.expr h
  where
    go : (m : Mode) (e : Expr) → ExprOf Any e → IsPath (path_tokens (record { mode = m; expr = e })) (record { mode = m; expr = e })
    go mode.Lax e h = g.lax ((spelled e h).expr [])
    go mode.Strict e h = g.strict ((spelled e h).expr [])
