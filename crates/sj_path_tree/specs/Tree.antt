-- The trees of paths, without where their parts lie in memory.
use Rattle.std.specs.Prelude.{ℕ, List}
use Rattle.sj_decimal.specs.declared.comparing.Compare.{Compare}
use Rattle.sj_path_tree.specs.declared.parts.Mode.{Mode}
use Rattle.sj_path_tree.specs.declared.parts.Arith.{Arith}
use Rattle.sj_path_tree.specs.declared.parts.Method.{Method}
use Rattle.sj_path_tree.specs.declared.parts.Literal.{Literal}
use Rattle.sj_path_tree.specs.declared.parts.Initial.{Initial}

mutual
  pub data Expr : Type 0 where
    Root : Expr
    Var : (name : List ℕ) → Expr
    Context : Expr
    Last : Expr
    Lit : (literal : Literal) → Expr
    Access : (e : Expr) (s : Step) → Expr
    Plus : (e : Expr) → Expr
    Minus : (e : Expr) → Expr
    Binary : (op : Arith) (a b : Expr) → Expr

  pub data Step : Type 0 where
    Member : (key : List ℕ) → Step
    AllMembers : Step
    AllElements : Step
    Elements : (subs : Subs) → Step
    Filter : (p : Pred) → Step
    Call : (method : Method) → Step

  pub data Sub : Type 0 where
    One : (e : Expr) → Sub
    Range : (from to : Expr) → Sub

  pub data Subs : Type 0 where
    NoSubs : Subs
    More : (s : Sub) (others : Subs) → Subs

  pub data Pred : Type 0 where
    Compares : (op : Compare) (a b : Expr) → Pred
    And : (p q : Pred) → Pred
    Or : (p q : Pred) → Pred
    Not : (p : Pred) → Pred
    IsUnknown : (p : Pred) → Pred
    Exists : (e : Expr) → Pred
    StartsWith : (e : Expr) (initial : Initial) → Pred

pub record Path : Type 0 where
  pub mode : Mode
  pub expr : Expr
