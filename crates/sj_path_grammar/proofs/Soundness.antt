-- What is read is in the grammar.
use Rattle.std.proofs.Common.{ℕ, zero, suc, List, [], ◌∷◌, length, Some, sym, subst, ap, ◌∙◌}
use Rattle.sj_base.specs.Options.{◌>>=◌}
use Rattle.sj_path_token.specs.declared.token.Token.TheVariants as k
use Rattle.sj_path_token.specs.declared.keyword.Keyword.{Keyword}
use Rattle.sj_path_token.specs.declared.keyword.Keyword.TheVariants as w
use Rattle.sj_path_tree.specs.Tree as t
use Rattle.sj_path_tree.specs.Tree.{Expr, Pred, Binary, Access}
use Rattle.sj_path_grammar.specs.Signs.{add_sign, mul_sign, method_of, stand_in}
use Rattle.sj_path_grammar.specs.Grammar as g
use Rattle.sj_path_grammar.specs.Grammar.{Tokens, IsExpr, IsSum, IsTerm, IsProduct, IsUnary, IsAccess, IsPrimary, IsStep, IsSub, IsSubs, IsPred, IsOr, IsConj, IsAnd, IsNeg, IsDelim, IsPrim}
use Rattle.sj_path_grammar.specs.Reading.{begins_step, Parser, ExprOrPred, Value, Test, close_at, with_at, quoted_at, inner_expr, inner_pred, as_value, as_test, datetime_at, called, named, after_dot, sub_at, subs_at, after_bracket, after_question, step_at, primary_at, access_from, access_at, unary_at, product_from, term_at, sum_from, expr_at, expr_from, initial_at, flags_at, test_from, tested, unknown_from, after_group, exists_at, group_at, delim_at, neg_at, test_at, and_from, conj_at, or_from, pred_from, expr_or_pred_over, expr_or_pred_at}
use Rattle.sj_path_grammar.proofs.ReadTokens.{IfRead, nothing, here, then, given, either, chosen, weaken, closes, opens, not_open, brackets, commas, stars, ands, ors, quotes, quoted_reads, to_word, is_word, unknown_word, with_word, flag_word, signs}

abbrev pub Spells : Tokens → ExprOrPred → Tokens → Type 0
Spells ts (Value e) rest = IsExpr ts e rest
Spells ts (Test p) rest = IsPred ts p rest

-- the same before && and ||
abbrev pub SpellsNeg : Tokens → ExprOrPred → Tokens → Type 0
SpellsNeg ts (Value e) rest = IsExpr ts e rest
SpellsNeg ts (Test p) rest = IsNeg ts p rest

-- ---- accessors with no tree inside

datetime_reads : (text : List ℕ) (ts : Tokens) → IfRead (IsStep (k.Dot ∷ k.Word w.Datetime text ∷ k.Open ∷ ts)) (datetime_at ts)
unfolding datetime_at
datetime_reads text ts = either _ _ _
    (λ _. given _ _ (λ rest c. here (subst (λ x. IsStep (k.Dot ∷ k.Word w.Datetime text ∷ k.Open ∷ x) stand_in rest) (sym (closes ts rest c)) g.datetime)))
    (λ v q. given _ _ (λ rest c. here (subst (λ x. IsStep (k.Dot ∷ k.Word w.Datetime text ∷ k.Open ∷ x) stand_in rest)
    (sym (quotes ts v.0 v.1 q ∙ ap (λ x. k.Quoted v.0 ∷ x) (closes v.1 rest c))) g.datetime_by)))

method_reads : (keyword : Keyword) (text : List ℕ) (ts : Tokens)
    → IfRead (IsStep (k.Dot ∷ k.Word keyword text ∷ k.Open ∷ ts)) (method_of keyword >>= λ s. close_at ts >>= λ rest. Some (s, rest))
method_reads keyword text ts =
    given _ _ (λ s h. given _ _ (λ rest c. here (subst (λ x. IsStep (k.Dot ∷ k.Word keyword text ∷ k.Open ∷ x) s rest) (sym (closes ts rest c)) (g.method h))))

called_reads : (keyword : Keyword) (text : List ℕ) (ts : Tokens) → IfRead (IsStep (k.Dot ∷ k.Word keyword text ∷ k.Open ∷ ts)) (called keyword ts)
unfolding called
called_reads w.Datetime text ts = datetime_reads text ts
called_reads keyword text ts = method_reads keyword text ts

named_reads : (keyword : Keyword) (text : List ℕ) (ts : Tokens) → IfRead (IsStep (k.Dot ∷ k.Word keyword text ∷ ts)) (named keyword text ts)
unfolding named
named_reads keyword text ts = either _ _ _ (λ h. here (g.key (not_open ts h)))
    (λ mid h. subst (λ x. IfRead (IsStep (k.Dot ∷ k.Word keyword text ∷ x)) (called keyword mid)) (sym (opens ts mid h)) (called_reads keyword text mid))

after_dot_reads : (ts : Tokens) → IfRead (IsStep (k.Dot ∷ ts)) (after_dot ts)
unfolding after_dot
after_dot_reads [] = nothing
after_dot_reads (k.Star ∷ ts) = here g.all_members
after_dot_reads (k.Quoted w ∷ ts) = here g.quoted
after_dot_reads (k.Word keyword text ∷ ts) = named_reads keyword text ts
after_dot_reads (_ ∷ ts) = nothing

module _ (inner : Parser ExprOrPred) (reads : (ts : Tokens) → IfRead (Spells ts) (inner ts)) where
  value_is : (ts : Tokens) (x : ExprOrPred) (rest : Tokens) → Spells ts x rest → IfRead (IsExpr ts) (as_value x rest)
  value_is ts (Value e) rest d = here d
  value_is ts (Test p) rest d = nothing

  test_is : (ts : Tokens) (x : ExprOrPred) (rest : Tokens) → Spells ts x rest → IfRead (IsPred ts) (as_test x rest)
  test_is ts (Value e) rest d = nothing
  test_is ts (Test p) rest d = here d

  inner_expr_reads : (ts : Tokens) → IfRead (IsExpr ts) (inner_expr inner ts)
  unfolding inner_expr
  inner_expr_reads ts = then _ _ (reads ts) (λ x mid d. value_is ts x mid d)

  inner_pred_reads : (ts : Tokens) → IfRead (IsPred ts) (inner_pred inner ts)
  unfolding inner_pred
  inner_pred_reads ts = then _ _ (reads ts) (λ x mid d. test_is ts x mid d)

  -- ---- accessors

  sub_reads : (ts : Tokens) → IfRead (IsSub ts) (sub_at inner ts)
  unfolding sub_at
  sub_reads ts = then _ _ (inner_expr_reads ts) (λ a mid d. either _ _ _ (λ _. here (g.one d))
      (λ m h. then _ _ (inner_expr_reads m) (λ b rest q. here (g.range (subst (λ x. IsExpr ts a x) (to_word mid m h).1 d) q))))

  subs_reads : (n : ℕ) (ts : Tokens) → IfRead (IsSubs ts) (subs_at inner n ts)
  unfolding subs_at
  subs_reads zero ts = nothing
  subs_reads (suc n) ts = then _ _ (sub_reads ts) (λ s mid d. either _ _ _ (λ _. here (g.only d))
      (λ m c. then _ _ (subs_reads n m) (λ others rest q. here (g.more (subst (λ x. IsSub ts s x) (commas mid m c) d) q))))

  after_bracket_reads : (ts : Tokens) → IfRead (IsStep (k.OpenBracket ∷ ts)) (after_bracket inner ts)
  unfolding after_bracket
  after_bracket_reads ts = either _ _ _
      (λ _. then _ _ (subs_reads (length ts) ts) (λ subs mid d. given _ _ (λ rest c. here (g.elements (subst (λ x. IsSubs ts subs x) (brackets mid rest c) d)))))
      (λ mid s. given _ _ (λ rest c. here (subst (λ x. IsStep (k.OpenBracket ∷ x) t.AllElements rest)
      (sym (stars ts mid s ∙ ap (λ x. k.Star ∷ x) (brackets mid rest c))) g.all_elements)))

  after_question_reads : (ts : Tokens) → IfRead (IsStep (k.Question ∷ ts)) (after_question inner ts)
  unfolding after_question
  after_question_reads ts = given _ _ (λ m o. then _ _ (inner_pred_reads m) (λ p mid d. given _ _ (λ rest c. here
      (subst (λ x. IsStep (k.Question ∷ x) (t.Filter p) rest) (sym (opens ts m o)) (g.filter (subst (λ x. IsPred m p x) (closes mid rest c) d))))))

  step_reads : (ts : Tokens) → IfRead (IsStep ts) (step_at inner ts)
  unfolding step_at
  step_reads [] = nothing
  step_reads (k.Dot ∷ ts) = after_dot_reads ts
  step_reads (k.OpenBracket ∷ ts) = after_bracket_reads ts
  step_reads (k.Question ∷ ts) = after_question_reads ts
  step_reads (_ ∷ ts) = nothing

  access_from_reads : (n : ℕ) (x : Expr) (ts : Tokens) → IfRead (IsAccess x ts) (access_from inner n x ts)
  unfolding access_from
  access_from_reads zero x ts = here g.access_end
  access_from_reads (suc n) x ts = chosen (begins_step ts) (step_at inner ts >>= λ s. access_from inner n (Access x s.0) s.1) (Some (x, ts))
      (λ _. then _ _ (step_reads ts) (λ s mid d. weaken (λ e rest q. g.access_more d q) (access_from_reads n (Access x s) mid)))
      (λ _. here g.access_end)

  -- ---- expressions

  primary_reads : (ts : Tokens) → IfRead (IsPrimary ts) (primary_at inner ts)
  unfolding primary_at
  primary_reads [] = nothing
  primary_reads (k.Open ∷ ts) = then _ _ (inner_expr_reads ts) (λ e mid d. given _ _ (λ rest c. here (g.parens (subst (λ x. IsExpr ts e x) (closes mid rest c) d))))
  primary_reads (t ∷ ts) = given _ _ (λ e h. here (g.single h))

  access_reads : (ts : Tokens) → IfRead (IsUnary ts) (access_at inner ts)
  unfolding access_at
  access_reads ts = then _ _ (primary_reads ts) (λ x mid d. weaken (λ e rest q. g.access d q) (access_from_reads (length mid) x mid))

  unary_reads : (ts : Tokens) → IfRead (IsUnary ts) (unary_at inner ts)
  unfolding unary_at
  unary_reads [] = nothing
  unary_reads (k.Plus ∷ ts) = then _ _ (unary_reads ts) (λ e rest d. here (g.plus d))
  unary_reads (k.Minus ∷ ts) = then _ _ (unary_reads ts) (λ e rest d. here (g.minus d))
  unary_reads (t ∷ ts) = access_reads (t ∷ ts)

  product_from_reads : (n : ℕ) (x : Expr) (ts : Tokens) → IfRead (IsProduct x ts) (product_from inner n x ts)
  unfolding product_from
  product_from_reads zero x ts = here g.product_end
  product_from_reads (suc n) x ts = either _ _ _ (λ _. here g.product_end) (λ s h. let q = signs mul_sign ts s h in
      then _ _ (unary_reads s.1) (λ y mid d. weaken (λ e rest r. subst (λ z. IsProduct x z e rest) (sym q.2) (g.product_more q.1 d r)) (product_from_reads n (Binary s.0 x y) mid)))

  term_reads : (ts : Tokens) → IfRead (IsTerm ts) (term_at inner ts)
  unfolding term_at
  term_reads ts = then _ _ (unary_reads ts) (λ x mid d. weaken (λ e rest q. g.product d q) (product_from_reads (length mid) x mid))

  sum_from_reads : (n : ℕ) (x : Expr) (ts : Tokens) → IfRead (IsSum x ts) (sum_from inner n x ts)
  unfolding sum_from
  sum_from_reads zero x ts = here g.sum_end
  sum_from_reads (suc n) x ts = either _ _ _ (λ _. here g.sum_end) (λ s h. let q = signs add_sign ts s h in
      then _ _ (term_reads s.1) (λ y mid d. weaken (λ e rest r. subst (λ z. IsSum x z e rest) (sym q.2) (g.sum_more q.1 d r)) (sum_from_reads n (Binary s.0 x y) mid)))

  expr_reads : (ts : Tokens) → IfRead (IsExpr ts) (expr_at inner ts)
  unfolding expr_at
  expr_reads ts = then _ _ (term_reads ts) (λ x mid d. weaken (λ e rest q. g.sum d q) (sum_from_reads (length mid) x mid))

  expr_from_reads : (ts : Tokens) (x : Expr) (mid : Tokens) → IsPrimary ts x mid → IfRead (IsExpr ts) (expr_from inner x mid)
  unfolding expr_from
  expr_from_reads ts x mid d = then _ _ (access_from_reads (length mid) x mid) (λ a m q. then _ _ (product_from_reads (length m) a m)
      (λ b n r. weaken (λ e rest s. g.sum (g.product (g.access d q) r) s) (sum_from_reads (length n) b n)))

  -- ---- predicates

  initial_reads : (starts with : List ℕ) (ts : Tokens) (e : Expr) (mid : Tokens) → IsExpr ts e (k.Word w.Starts starts ∷ k.Word w.With with ∷ mid) → IfRead (SpellsNeg ts) (initial_at e mid)
  unfolding initial_at
  initial_reads starts with ts e [] d = nothing
  initial_reads starts with ts e (k.Quoted v ∷ mid) d = here (g.prim (g.starts_text d))
  initial_reads starts with ts e (k.Variable v ∷ mid) d = here (g.prim (g.starts_variable d))
  initial_reads starts with ts e (_ ∷ mid) d = nothing

  flags_reads : (like : List ℕ) (ts : Tokens) (e : Expr) (v : List ℕ) (mid : Tokens) → IsExpr ts e (k.Word w.LikeRegex like ∷ k.Quoted v ∷ mid) → IfRead (SpellsNeg ts) (flags_at e mid)
  unfolding flags_at
  flags_reads like ts e v mid d = either _ _ _ (λ _. here (g.prim (g.like d)))
      (λ m f. let p = flag_word mid m f in then _ _ (quoted_reads m) (λ u rest q. here (g.prim (g.like_by
      (subst (λ x. IsExpr ts e (k.Word w.LikeRegex like ∷ k.Quoted v ∷ x)) (p.1 ∙ ap (λ x. k.Word w.Flag p.0 ∷ x) q) d)))))

  starts_reads : (starts : List ℕ) (ts : Tokens) (e : Expr) (mid : Tokens) → IsExpr ts e (k.Word w.Starts starts ∷ mid) → IfRead (SpellsNeg ts) (with_at mid >>= initial_at e)
  starts_reads starts ts e mid d = given _ _ (λ m h. let p = with_word mid m h in
      initial_reads starts p.0 ts e m (subst (λ x. IsExpr ts e (k.Word w.Starts starts ∷ x)) p.1 d))

  like_reads : (like : List ℕ) (ts : Tokens) (e : Expr) (mid : Tokens) → IsExpr ts e (k.Word w.LikeRegex like ∷ mid) → IfRead (SpellsNeg ts) (quoted_at mid >>= λ p. flags_at e p.1)
  like_reads like ts e mid d = then _ _ (quoted_reads mid) (λ v m q. flags_reads like ts e v m (subst (λ x. IsExpr ts e (k.Word w.LikeRegex like ∷ x)) q d))

  test_from_reads : (ts : Tokens) (e : Expr) (mid : Tokens) → IsExpr ts e mid → IfRead (SpellsNeg ts) (test_from inner e mid)
  unfolding test_from
  test_from_reads ts e [] d = here d
  test_from_reads ts e (k.Compare op ∷ mid) d = then _ _ (expr_reads mid) (λ b rest q. here (g.prim (g.compare d q)))
  test_from_reads ts e (k.Word w.Starts text ∷ mid) d = starts_reads text ts e mid d
  test_from_reads ts e (k.Word w.LikeRegex text ∷ mid) d = like_reads text ts e mid d
  test_from_reads ts e (_ ∷ mid) d = here d

  tested_reads : (ts : Tokens) → IfRead (SpellsNeg ts) (tested inner ts)
  unfolding tested
  tested_reads ts = then _ _ (expr_reads ts) (λ e mid d. test_from_reads ts e mid d)

  after_group_reads : (ts : Tokens) (x : ExprOrPred) (mid : Tokens) → Spells ts x (k.Close ∷ mid) → IfRead (SpellsNeg (k.Open ∷ ts)) (after_group inner x mid)
  unfolding after_group unknown_from
  after_group_reads ts (Value e) mid d = then _ _ (expr_from_reads (k.Open ∷ ts) e mid (g.parens d)) (λ x m q. test_from_reads (k.Open ∷ ts) x m q)
  after_group_reads ts (Test p) mid d = either _ _ _ (λ _. here (g.prim (g.delim (g.group d))))
      (λ m i. let a = is_word mid m i in given _ _ (λ rest u. let b = unknown_word m rest u in
      here (g.prim (g.unknown (subst (λ x. IsPred ts p (k.Close ∷ x)) (a.1 ∙ ap (λ x. k.Word w.Is a.0 ∷ x) b.1) d)))))

  exists_reads : (text : List ℕ) (ts : Tokens) → IfRead (IsDelim (k.Word w.Exists text ∷ ts)) (exists_at inner ts)
  unfolding exists_at
  exists_reads text ts = given _ _ (λ m o. then _ _ (inner_expr_reads m) (λ e mid d. given _ _ (λ rest c. here
      (subst (λ x. IsDelim (k.Word w.Exists text ∷ x) (t.Exists e) rest) (sym (opens ts m o)) (g.exists (subst (λ x. IsExpr m e x) (closes mid rest c) d))))))

  group_reads : (ts : Tokens) → IfRead (IsDelim (k.Open ∷ ts)) (group_at inner ts)
  unfolding group_at
  group_reads ts = then _ _ (inner_pred_reads ts) (λ p mid d. given _ _ (λ rest c. here (g.group (subst (λ x. IsPred ts p x) (closes mid rest c) d))))

  delim_reads : (ts : Tokens) → IfRead (IsDelim ts) (delim_at inner ts)
  unfolding delim_at
  delim_reads [] = nothing
  delim_reads (k.Open ∷ ts) = group_reads ts
  delim_reads (k.Word w.Exists text ∷ ts) = exists_reads text ts
  delim_reads (_ ∷ ts) = nothing

  neg_reads : (ts : Tokens) → IfRead (SpellsNeg ts) (neg_at inner ts)
  unfolding neg_at
  neg_reads [] = nothing
  neg_reads (k.Not ∷ ts) = then _ _ (delim_reads ts) (λ p rest d. here (g.not d))
  neg_reads (k.Open ∷ ts) = then _ _ (reads ts) (λ x mid d. given _ _ (λ rest c. after_group_reads ts x rest (subst (λ y. Spells ts x y) (closes mid rest c) d)))
  neg_reads (k.Word w.Exists text ∷ ts) = then _ _ (exists_reads text ts) (λ p rest d. here (g.prim (g.delim d)))
  neg_reads (t ∷ ts) = tested_reads (t ∷ ts)

  neg_is : (ts : Tokens) (x : ExprOrPred) (rest : Tokens) → SpellsNeg ts x rest → IfRead (IsNeg ts) (as_test x rest)
  neg_is ts (Value e) rest d = nothing
  neg_is ts (Test p) rest d = here d

  test_reads : (ts : Tokens) → IfRead (IsNeg ts) (test_at inner ts)
  unfolding test_at
  test_reads ts = then _ _ (neg_reads ts) (λ x mid d. neg_is ts x mid d)

  and_from_reads : (n : ℕ) (p : Pred) (ts : Tokens) → IfRead (IsAnd p ts) (and_from inner n p ts)
  unfolding and_from
  and_from_reads zero p ts = here g.and_end
  and_from_reads (suc n) p ts = either _ _ _ (λ _. here g.and_end) (λ m h. then _ _ (test_reads m)
      (λ q mid d. weaken (λ r rest s. subst (λ z. IsAnd p z r rest) (sym (ands ts m h)) (g.and_more d s)) (and_from_reads n (t.And p q) mid)))

  conj_reads : (ts : Tokens) → IfRead (IsConj ts) (conj_at inner ts)
  unfolding conj_at
  conj_reads ts = then _ _ (test_reads ts) (λ p mid d. weaken (λ r rest s. g.both d s) (and_from_reads (length mid) p mid))

  or_from_reads : (n : ℕ) (p : Pred) (ts : Tokens) → IfRead (IsOr p ts) (or_from inner n p ts)
  unfolding or_from
  or_from_reads zero p ts = here g.or_end
  or_from_reads (suc n) p ts = either _ _ _ (λ _. here g.or_end) (λ m h. then _ _ (conj_reads m)
      (λ q mid d. weaken (λ r rest s. subst (λ z. IsOr p z r rest) (sym (ors ts m h)) (g.or_more d s)) (or_from_reads n (t.Or p q) mid)))

  pred_from_reads : (ts : Tokens) (x : ExprOrPred) (mid : Tokens) → SpellsNeg ts x mid → IfRead (Spells ts) (pred_from inner x mid)
  unfolding pred_from
  pred_from_reads ts (Value e) mid d = here d
  pred_from_reads ts (Test p) mid d = then _ _ (and_from_reads (length mid) p mid) (λ c m q. then _ _ (or_from_reads (length m) c m) (λ r rest s. here (g.either (g.both d q) s)))

  pub expr_or_pred_over_reads : (ts : Tokens) → IfRead (Spells ts) (expr_or_pred_over inner ts)
  unfolding expr_or_pred_over
  expr_or_pred_over_reads ts = then _ _ (neg_reads ts) (λ x mid d. pred_from_reads ts x mid d)

-- what is read is in the grammar
pub expr_or_pred_reads : (n : ℕ) (ts : Tokens) → IfRead (Spells ts) (expr_or_pred_at n ts)
unfolding expr_or_pred_at
expr_or_pred_reads zero ts = nothing
expr_or_pred_reads (suc n) ts = expr_or_pred_over_reads (expr_or_pred_at n) (expr_or_pred_reads n) ts
