-- The printed text of a tree as the visits of its tour bring it, one after another. Private clauses alone cite it.
use Rattle.std.specs.Prelude.{ℕ, ◌+◌, List, [], ◌∷◌, ◌++◌, Option, Some, None, true, false, if◌then◌else◌, ⊤}
use Rattle.sj_json.specs.Tree.{Tree, null, truth, string, number, array, object}
use Rattle.sj_json.specs.Printing.{printed, printed_string}
use Rattle.sj_doc.specs.declared.node.Kind.{Kind}
use Rattle.sj_doc.specs.declared.node.Kind.TheVariants as kinds
use Rattle.sj_doc.specs.Kinds.{kind_of}
use Rattle.sj_doc.specs.Tours.{Visited, enter, leave, leaf, hands_out, Touring}
use Rattle.sj_text.specs.declared.place.Place.{Place}
use Rattle.sj_text.specs.declared.place.Place.TheVariants.{First, Later}

abbrev pub comma : Place → List ℕ
comma First = []
comma Later = 44 ∷ []

abbrev pub key_printed : Option (List ℕ) → List ℕ
key_printed None = []
key_printed (Some k) = printed_string k ++ 58 ∷ []

-- what comes before a value
abbrev pub lead : Place → Option (List ℕ) → List ℕ
lead place key = comma place ++ key_printed key

-- the bracket that begins an array, or an object
abbrev pub opening : Kind → List ℕ
opening kinds.Null = 123 ∷ []
opening kinds.Truth = 123 ∷ []
opening kinds.String = 123 ∷ []
opening kinds.Number = 123 ∷ []
opening kinds.Array = 91 ∷ []
opening kinds.Object = 123 ∷ []

-- the bracket that ends it
abbrev pub closing : Kind → List ℕ
closing kinds.Null = 125 ∷ []
closing kinds.Truth = 125 ∷ []
closing kinds.String = 125 ∷ []
closing kinds.Number = 125 ∷ []
closing kinds.Array = 93 ∷ []
closing kinds.Object = 125 ∷ []

abbrev pub visit_printed : Place → Visited → List ℕ
visit_printed place (enter n) = lead place n.0 ++ opening (kind_of n.2)
visit_printed place (leave kind) = closing kind
visit_printed place (leaf n) = lead place n.0 ++ printed n.2

abbrev pub place_after : Visited → Place
place_after (enter n) = First
place_after (leave kind) = Later
place_after (leaf n) = Later

abbrev pub render : Place → List Visited → List ℕ
render place [] = []
render place (v ∷ vs) = visit_printed place v ++ render (place_after v) vs

abbrev pub IsScalar : Tree → Type 0
IsScalar null = ⊤
IsScalar (truth b) = ⊤
IsScalar (string s) = ⊤
IsScalar (number v) = ⊤
IsScalar (array ts) = ⊥
IsScalar (object ms) = ⊥

abbrev pub IsVisit : Visited → Type 0
IsVisit (enter n) = ⊤
IsVisit (leave kind) = ⊤
IsVisit (leaf n) = IsScalar n.2

-- each leaf is a scalar
abbrev pub AreVisits : List Visited → Type 0
AreVisits [] = ⊤
AreVisits (v ∷ vs) = IsVisit v × AreVisits vs

-- the nodes that are handed out
abbrev pub nodes : List Visited → ℕ
nodes [] = 0
nodes (v ∷ vs) = (if hands_out v then 1 else 0) + nodes vs

-- and those of them that are counted: the first node of a tour is not
abbrev pub counted : Touring → ℕ
counted (false, []) = 0
counted (false, v ∷ vs) = nodes vs
counted (true, vs) = nodes vs
