-- A tree that some text has: its names are words, its numbers have no sign, and no list of subscripts is empty. P is what is known
-- of its strings.
use Rattle.std.proofs.Common.{◌≡◌, ℕ, List, false}
use Rattle.std.specs.Bool.{⊤}
use Rattle.sj_decimal.specs.Normal.{IsDecimal}
use Rattle.sj_decimal.specs.Signed.{is_negative}
use Rattle.sj_path_token.specs.Words.{IsWord}
use Rattle.sj_path_tree.specs.declared.parts.Literal.{Literal}
use Rattle.sj_path_tree.specs.declared.parts.Literal.TheVariants as literal
use Rattle.sj_path_tree.specs.declared.parts.Initial.{Initial}
use Rattle.sj_path_tree.specs.declared.parts.Initial.TheVariants as initial
use Rattle.sj_path_tree.specs.Tree.{Path, Expr, Root, Var, Context, Last, Lit, Plus, Minus, Binary, Access, Step, Member, AllMembers, AllElements, Elements, Filter, Call, Sub, One, Range, Subs, NoSubs, More, Pred, Compares, And, Or, Not, IsUnknown, Exists, StartsWith}

module _ (P : List ℕ → Type 0) where
  abbrev pub LiteralOf : Literal → Type 0
  LiteralOf (literal.Text s) = P s
  LiteralOf (literal.Num d) = IsDecimal d × (is_negative d.0 ≡ false)
  LiteralOf (literal.Bool b) = ⊤
  LiteralOf literal.Null = ⊤

  abbrev pub InitialOf : Initial → Type 0
  InitialOf (initial.Lit s) = P s
  InitialOf (initial.Var name) = IsWord name

  abbrev mutual
    pub ExprOf : Expr → Type 0
    ExprOf Root = ⊤
    ExprOf (Var name) = IsWord name
    ExprOf Context = ⊤
    ExprOf Last = ⊤
    ExprOf (Lit literal) = LiteralOf literal
    ExprOf (Access e s) = ExprOf e × StepOf s
    ExprOf (Plus e) = ExprOf e
    ExprOf (Minus e) = ExprOf e
    ExprOf (Binary op a b) = ExprOf a × ExprOf b

    pub StepOf : Step → Type 0
    StepOf (Member key) = P key
    StepOf AllMembers = ⊤
    StepOf AllElements = ⊤
    StepOf (Elements subs) = SubsOf subs
    StepOf (Filter p) = PredOf p
    StepOf (Call method) = ⊤

    pub SubOf : Sub → Type 0
    SubOf (One e) = ExprOf e
    SubOf (Range from to) = ExprOf from × ExprOf to

    pub SubsOf : Subs → Type 0
    SubsOf NoSubs = ⊥
    SubsOf (More s others) = SubOf s × OthersOf others

    pub OthersOf : Subs → Type 0
    OthersOf NoSubs = ⊤
    OthersOf (More s others) = SubOf s × OthersOf others

    pub PredOf : Pred → Type 0
    PredOf (Compares op a b) = ExprOf a × ExprOf b
    PredOf (And p q) = PredOf p × PredOf q
    PredOf (Or p q) = PredOf p × PredOf q
    PredOf (Not p) = PredOf p
    PredOf (IsUnknown p) = PredOf p
    PredOf (Exists e) = ExprOf e
    PredOf (StartsWith e initial) = ExprOf e × InitialOf initial

-- where nothing is asked of the strings
abbrev pub Any : List ℕ → Type 0
Any s = ⊤

abbrev pub IsMade : Path → Type 0
IsMade p = ExprOf Any p.expr
