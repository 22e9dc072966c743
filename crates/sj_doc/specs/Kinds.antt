-- Kinds of trees.
use Rattle.std.specs.Prelude.{ℕ, Bool, true, false, Some, None, ⊤}
use Rattle.sj_json.specs.Tree.{Tree, null, truth, string, number, array, object}
use Rattle.sj_doc.specs.declared.node.Body.{Body}
use Rattle.sj_doc.specs.declared.node.Body.TheVariants as bodies
use Rattle.sj_json.specs.Building.{Part, top, elements, pairs}
use Rattle.sj_doc.specs.declared.node.Want.{Want}
use Rattle.sj_doc.specs.declared.node.Want.TheVariants as wants
use Rattle.sj_doc.specs.declared.node.Kind.{Kind}
use Rattle.sj_doc.specs.declared.node.Kind.TheVariants as kinds

abbrev pub kind_of : Tree → Kind
kind_of null = kinds.Null
kind_of (truth b) = kinds.Truth
kind_of (string s) = kinds.String
kind_of (number v) = kinds.Number
kind_of (array ts) = kinds.Array
kind_of (object ms) = kinds.Object

-- an array or an object
abbrev pub IsContainer : Tree → Type 0
IsContainer null = ⊥
IsContainer (truth b) = ⊥
IsContainer (string s) = ⊥
IsContainer (number v) = ⊥
IsContainer (array ts) = ⊤
IsContainer (object ms) = ⊤

-- of a body; no document has an open container
abbrev pub body_kind : Body → Kind
body_kind bodies.Null = kinds.Null
body_kind (bodies.Truth b) = kinds.Truth
body_kind (bodies.Text s) = kinds.String
body_kind (bodies.Numeral s) = kinds.Number
body_kind (bodies.Closed false n up) = kinds.Array
body_kind (bodies.Closed true n up) = kinds.Object
body_kind (bodies.Opened kind parent n) = kinds.Null

abbrev pub body_count : Body → ℕ
body_count bodies.Null = 0
body_count (bodies.Truth b) = 0
body_count (bodies.Text s) = 0
body_count (bodies.Numeral s) = 0
body_count (bodies.Closed kind n up) = n
body_count (bodies.Opened kind parent n) = 0

abbrev pub opens_object : Body → Bool
opens_object bodies.Null = false
opens_object (bodies.Truth b) = false
opens_object (bodies.Text s) = false
opens_object (bodies.Numeral s) = false
opens_object (bodies.Closed kind n up) = false
opens_object (bodies.Opened kind parent n) = kind

-- what may come next
abbrev pub want_of : Part → Want
want_of (top None) = wants.Value
want_of (top (Some t)) = wants.Nothing
want_of (elements ts) = wants.ValueOrClose
want_of (pairs ms None) = wants.KeyOrClose
want_of (pairs ms (Some k)) = wants.Value
