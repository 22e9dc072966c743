-- One more turn of a loop of `Level`, beside a recursion on the turns that are left.
use Rattle.std.proofs.Common.{◌≡◌, ℕ, suc, ◌+◌, ◌-◌, ◌<◌, Bool, true, Some, sym, ap, ◌∙◌, arith}
use Rattle.sj_path_tree.specs.declared.parts.Arith.{Arith}
use Rattle.sj_path_tree.specs.Tree.{Expr, Step, Pred, Access, Binary, And, Or}
use Rattle.sj_path_grammar.specs.Signs.{add_sign, mul_sign}
use Rattle.sj_path_grammar.specs.Grammar.{Tokens}
use Rattle.sj_path_grammar.specs.Reading.{Parser, Read, ExprOrPred, begins_step, step_at, access_from, sign_at, unary_at, product_from, term_at, sum_from, and_at, test_at, and_from, or_at, conj_at, or_from}
use Rattle.sj_path_grammar.proofs.Completeness.{bind_is, some_on, cond_on}

-- the turn that was made
turn : {A : Type 0} {start : Read A} (f : ℕ → Read A) (n at : ℕ) (next : Read A) → at < n → start ≡ f (n - at) → f (suc (n - (at + 1))) ≡ next → start ≡ next
turn f n at next below e h = let one : n - at ≡ suc (n - (at + 1)) = omega arith in e ∙ ap f one ∙ h

pub access_turn : (T : Parser ExprOrPred) {start : Read Expr} (n at : ℕ) (x y : Expr) (s : Step) (rest after : Tokens) (b : Bool) → at < n
    → start ≡ access_from T (n - at) x rest → b ≡ begins_step rest → b ≡ true → step_at T rest ≡ Some (s, after) → y ≡ Access x s
    → start ≡ access_from T (n - (at + 1)) y after
unfolding access_from
access_turn T n at x y s rest after b below e h true_is step made = turn (λ m. access_from T m x rest) n at (access_from T (n - (at + 1)) y after) below e
    (cond_on _ _ _ (sym h ∙ true_is) (bind_is _ _ step (ap (λ z. access_from T (n - (at + 1)) z after) (sym made))))

pub product_turn : (T : Parser ExprOrPred) {start : Read Expr} (n at : ℕ) (x y z : Expr) (op : Arith) (rest mid after : Tokens) → at < n
    → start ≡ product_from T (n - at) x rest → Some (op, mid) ≡ sign_at mul_sign rest → unary_at T mid ≡ Some (y, after) → z ≡ Binary op x y
    → start ≡ product_from T (n - (at + 1)) z after
unfolding product_from
product_turn T n at x y z op rest mid after below e sign read made = turn (λ m. product_from T m x rest) n at (product_from T (n - (at + 1)) z after) below e
    (some_on _ _ _ (sym sign) (bind_is _ _ read (ap (λ w. product_from T (n - (at + 1)) w after) (sym made))))

pub sum_turn : (T : Parser ExprOrPred) {start : Read Expr} (n at : ℕ) (x y z : Expr) (op : Arith) (rest mid after : Tokens) → at < n
    → start ≡ sum_from T (n - at) x rest → Some (op, mid) ≡ sign_at add_sign rest → term_at T mid ≡ Some (y, after) → z ≡ Binary op x y
    → start ≡ sum_from T (n - (at + 1)) z after
unfolding sum_from
sum_turn T n at x y z op rest mid after below e sign read made = turn (λ m. sum_from T m x rest) n at (sum_from T (n - (at + 1)) z after) below e
    (some_on _ _ _ (sym sign) (bind_is _ _ read (ap (λ w. sum_from T (n - (at + 1)) w after) (sym made))))

pub and_turn : (T : Parser ExprOrPred) {start : Read Pred} (n at : ℕ) (x y z : Pred) (rest mid after : Tokens) → at < n
    → start ≡ and_from T (n - at) x rest → Some mid ≡ and_at rest → test_at T mid ≡ Some (y, after) → z ≡ And x y
    → start ≡ and_from T (n - (at + 1)) z after
unfolding and_from
and_turn T n at x y z rest mid after below e sign read made = turn (λ m. and_from T m x rest) n at (and_from T (n - (at + 1)) z after) below e
    (some_on _ _ _ (sym sign) (bind_is _ _ read (ap (λ w. and_from T (n - (at + 1)) w after) (sym made))))

pub or_turn : (T : Parser ExprOrPred) {start : Read Pred} (n at : ℕ) (x y z : Pred) (rest mid after : Tokens) → at < n
    → start ≡ or_from T (n - at) x rest → Some mid ≡ or_at rest → conj_at T mid ≡ Some (y, after) → z ≡ Or x y
    → start ≡ or_from T (n - (at + 1)) z after
unfolding or_from
or_turn T n at x y z rest mid after below e sign read made = turn (λ m. or_from T m x rest) n at (or_from T (n - (at + 1)) z after) below e
    (some_on _ _ _ (sym sign) (bind_is _ _ read (ap (λ w. or_from T (n - (at + 1)) w after) (sym made))))
