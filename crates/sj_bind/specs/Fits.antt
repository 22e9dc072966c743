-- What the functions and the names in a value meet once the rules on them hold.
use Rattle.std.specs.Prelude.{◌≡◌, ℕ, true, false, List, [], ◌∷◌}
use Rattle.sj_base.specs.Names.{is_among}
use Rattle.sj_path_tree.specs.Tree.{Path}
use Rattle.sj_sql_grammar.specs.Tree.{Common, ValueCall, Value, Lit, Column, Exists, ValueOf, Query, IsJson, Object, Array, Values, NoValues, MoreValues, Members, NoMembers, MoreMembers, Item, Single, ArrayAgg, ObjectAgg}
use Rattle.sj_sql_grammar.specs.declared.clauses.TypeName.{TypeName}
use Rattle.sj_sql_grammar.specs.declared.clauses.ValueDo.{ValueDo}
use Rattle.sj_bind.specs.Clauses.{IsBindableType, sql_type, default_fails}
use Rattle.sj_bind.specs.Rules.{passes_twice}

-- items can be cast to the type, and so can the literals of DEFAULT
pub record AreCastable (ty : TypeName) (on_empty on_error : ValueDo) : Type 0 where
  pub bindable : IsBindableType ty
  pub empty_casts : default_fails (sql_type ty) on_empty ≡ false
  pub error_casts : default_fails (sql_type ty) on_error ≡ false

-- no variable is passed twice
abbrev pub PassesOnce : Common Path → Type 0
PassesOnce c = passes_twice c ≡ false

pub record IsFitCall (c : ValueCall Path) : Type 0 where
  pub once : PassesOnce c.common
  pub castable : AreCastable c.ty c.on_empty c.on_error

-- The functions in a value pass no variable twice and have defaults that can be cast, and each name is one of these.
module _ (names : List (List ℕ)) where
  abbrev mutual
    pub IsFit : Value Path → Type 0
    IsFit (Lit x) = Unit {0}
    IsFit (Column name) = is_among names name ≡ true
    IsFit (Exists c) = PassesOnce c.common
    IsFit (ValueOf c) = IsFitCall c
    IsFit (Query c) = PassesOnce c.common
    IsFit (IsJson c) = Unit {0}
    IsFit (Object members _ unique) = AreFitMembers members
    IsFit (Array values _) = AreFit values

    pub AreFit : Values Path → Type 0
    AreFit NoValues = Unit {0}
    AreFit (MoreValues x others) = IsFit x × AreFit others

    pub AreFitMembers : Members Path → Type 0
    AreFitMembers NoMembers = Unit {0}
    AreFitMembers (MoreMembers key x others) = IsFit key × IsFit x × AreFitMembers others

  abbrev pub IsItemFit : Item Path → Type 0
  IsItemFit (Single x) = IsFit x
  IsItemFit (ArrayAgg x _) = IsFit x
  IsItemFit (ObjectAgg key x _ unique) = IsFit key × IsFit x

  abbrev pub AreItemsFit : List (Item Path) → Type 0
  AreItemsFit [] = Unit {0}
  AreItemsFit (x ∷ xs) = IsItemFit x × AreItemsFit xs

-- without a table there are no names
abbrev pub AreListFit : List (Value Path) → Type 0
AreListFit [] = Unit {0}
AreListFit (x ∷ xs) = IsFit [] x × AreListFit xs
