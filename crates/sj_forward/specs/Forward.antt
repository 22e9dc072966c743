-- FORWARD PATHS: in lax mode, `$` and accessors on it, each of which is a member, `.*`, `[*]`, or one subscript or one range whose
-- ends are literals of whole numbers. Their items can be found in one pass over the text, without a look back.
use Rattle.std.specs.Prelude.{ℕ, zero, pos, List, [], ◌∷◌, ◌++◌, Bool, Option, Some, None, is_some}
use Rattle.sj_path_tree.specs.declared.parts.Mode.{Mode}
use Rattle.sj_path_tree.specs.declared.parts.Mode.TheVariants.{Lax, Strict}
use Rattle.sj_path_tree.specs.declared.parts.Literal.{Literal}
use Rattle.sj_path_tree.specs.declared.parts.Literal.TheVariants as literals
use Rattle.sj_path_tree.specs.Tree.{Path, Expr, Root, Lit, Access, Step, Member, AllMembers, AllElements, Elements, Sub, One, Range, NoSubs, More}

pub data Accessor : Type 0 where
  Key : (key : List ℕ) → Accessor
  EachMember : Accessor
  EachElement : Accessor
  -- the elements from one index to another, both among them
  Span : (from to : ℕ) → Accessor

-- a whole number; a literal has no sign, so none is below 0
abbrev pub whole : Literal → Option ℕ
whole (literals.Num (pos n, zero)) = Some n
whole _ = None

abbrev pub index : Expr → Option ℕ
index (Lit literal) = whole literal
index _ = None

abbrev pub span : Option ℕ → Option ℕ → Option Accessor
span (Some from) (Some to) = Some (Span from to)
span _ _ = None

abbrev pub span_of : Sub → Option Accessor
span_of (One e) = span (index e) (index e)
span_of (Range from to) = span (index from) (index to)

abbrev pub accessor_of : Step → Option Accessor
accessor_of (Member key) = Some (Key key)
accessor_of AllMembers = Some EachMember
accessor_of AllElements = Some EachElement
accessor_of (Elements (More s NoSubs)) = span_of s
accessor_of _ = None

-- one accessor more, at the end
abbrev pub then : Option (List Accessor) → Option Accessor → Option (List Accessor)
then (Some accessors) (Some a) = Some (accessors ++ a ∷ [])
then _ _ = None

-- the accessors on `$`, in their order
abbrev pub on_root : Expr → Option (List Accessor)
on_root Root = Some []
on_root (Access e s) = then (on_root e) (accessor_of s)
on_root _ = None

abbrev pub in_mode : Mode → Expr → Option (List Accessor)
in_mode Lax e = on_root e
in_mode Strict e = None

-- the accessors of a forward path, in their order; of another path there is none
abbrev pub accessors_of : Path → Option (List Accessor)
accessors_of path = in_mode path.mode path.expr

abbrev pub is_forward : Path → Bool
is_forward path = is_some (accessors_of path)
